-- Lists by a function of the place.
use Rattle.std.proofs.Common.{◌≡◌, ℕ, zero, suc, ◌+◌, ◌<◌, List, [], ◌∷◌, ◌++◌, length, get_or, refl, ap, ◌∙◌, arith, sym, append_assoc}
use Rattle.std.proofs.Common.{append-nil}
use Rattle.std.proofs.Math.Numerals.{suc-eq-add-one}
use Rattle.std.proofs.lemmas.List.FromFn.{map-range_with_len_more, length-map-range_with_len, get_or-map-range_with_len}
use Rattle.std.proofs.lemmas.List.{ext_get_or}
use Rattle.sdh_basics.specs.Cells.{cells}
use Rattle.sdh_basics.specs.Indexed.{map_from}

pub cells-zero : {X : Type 0} (f : ℕ → X) → cells f 0 ≡ []
unfolding cells
cells-zero f = refl

pub cells-more : {X : Type 0} (f : ℕ → X) (n : ℕ) → cells f (n + 1) ≡ cells f n ++ f n ∷ []
unfolding cells
cells-more f n = map-range_with_len_more f 0 n n (omega arith)

-- the first n places, then m more
pub cells-append : {X : Type 0} (f : ℕ → X) (n m : ℕ) → cells f (n + m) ≡ cells f n ++ cells (λ k. f (n + k)) m
cells-append f n zero =
    ap (cells f) (omega arith) ∙ sym (append-nil (cells f n)) ∙ ap (λ l. cells f n ++ l) (sym (cells-zero (λ k. f (n + k))))
cells-append f n (suc m) =
    ap (cells f) (omega arith) ∙ cells-more f (n + m) ∙ ap (λ l. l ++ f (n + m) ∷ []) (cells-append f n m)
    ∙ append_assoc (cells f n) (cells (λ k. f (n + k)) m) (f (n + m) ∷ [])
    ∙ ap (λ l. cells f n ++ l) (sym (ap (cells (λ k. f (n + k))) (suc-eq-add-one m) ∙ cells-more (λ k. f (n + k)) m))

pub length-cells : {X : Type 0} (f : ℕ → X) (n : ℕ) → length (cells f n) ≡ n
unfolding cells
length-cells f n = length-map-range_with_len f 0 n

pub get_or-cells : {X : Type 0} (f : ℕ → X) (n i : ℕ) (d : X) → i < n → get_or (cells f n) i d ≡ f i
unfolding cells
get_or-cells f n i d h = get_or-map-range_with_len f 0 n i i d h (omega arith)

-- a list is its cells
pub cells-from : {X : Type 0} (f : ℕ → X) (n : ℕ) (d : X) (xs : List X) → length xs ≡ n → ((k : ℕ) → k < n → f k ≡ get_or xs k d)
    → cells f n ≡ xs
cells-from f n d xs len h =
    ext_get_or d (cells f n) xs (length-cells f n ∙ sym len)
    (λ i lt. (let below : i < n = omega (arith, length-cells f n) in get_or-cells f n i d below ∙ h i below))

pub cells-same : {X : Type 0} (f g : ℕ → X) (n : ℕ) (d : X) → ((k : ℕ) → k < n → f k ≡ g k) → cells f n ≡ cells g n
cells-same f g n d h = cells-from f n d (cells g n) (length-cells g n) (λ k lt. h k lt ∙ sym (get_or-cells g n k d lt))

pub length-map_from : {X Y : Type 0} (f : ℕ → X → Y) (i : ℕ) (xs : List X) → length (map_from f i xs) ≡ length xs
length-map_from f i [] = refl
length-map_from f i (x ∷ xs) = ap suc (length-map_from f (i + 1) xs)

pub get_or-map_from : {X Y : Type 0} (f : ℕ → X → Y) (i : ℕ) (xs : List X) (k : ℕ) (d : X) (e : Y) → k < length xs
    → get_or (map_from f i xs) k e ≡ f (i + k) (get_or xs k d)
get_or-map_from f i [] k d e h = absurd (omega arith)
get_or-map_from f i (x ∷ xs) zero d e h = ap (λ n. f n x) (omega arith)
get_or-map_from f i (x ∷ xs) (suc k) d e h = get_or-map_from f (i + 1) xs k d e (omega arith) ∙ ap (λ n. f n (get_or xs k d)) (omega arith)

-- an element of a list that is mapped by places, from place 0
pub get_or-placed : {X Y : Type 0} (f : ℕ → X → Y) (xs : List X) (k : ℕ) (d : X) (e : Y) → k < length xs
    → get_or (map_from f 0 xs) k e ≡ f k (get_or xs k d)
get_or-placed f xs k d e h = get_or-map_from f 0 xs k d e h ∙ ap (λ n. f n (get_or xs k d)) (omega arith)
