-- Loops that make a list place by place.
use Rattle.std.proofs.Common.{◌≡◌, ℕ, ◌+◌, ◌<◌, ◌≤◌, List, [], ◌∷◌, ◌++◌, length, take, drop, set, get_or, ap, sym, ◌∙◌, arith}
use Rattle.std.proofs.lemmas.List.{take_more, take_more_set, length-take-le, take_all, drop-set-lt, drop-drop, get_or-drop}
use Rattle.sdh_basics.specs.Indexed.{map_from}

pub map_from-append : {X Y : Type 0} (f : ℕ → X → Y) (i : ℕ) (xs ys : List X)
    → map_from f i (xs ++ ys) ≡ map_from f i xs ++ map_from f (i + length xs) ys
map_from-append f i [] ys = ap (λ k. map_from f k ys) (omega arith)
map_from-append f i (x ∷ xs) ys =
    ap (λ r. f i x ∷ r) (map_from-append f (i + 1) xs ys ∙ ap (λ k. map_from f (i + 1) xs ++ map_from f k ys) (omega arith))

-- the element at i is made from the element at i of another list
pub place_more : {X Y : Type 0} (f : ℕ → X → Y) (xs : List X) (ys : List Y) (i : ℕ) (d : X) (y : Y) → i < length xs → i < length ys
    → y ≡ f i (get_or xs i d) → take i ys ≡ map_from f 0 (take i xs) → take (i + 1) (set ys i y) ≡ map_from f 0 (take (i + 1) xs)
place_more f xs ys i d y hx hy is done =
    let x = get_or xs i d in
    let len : 0 + length (take i xs) ≡ i = omega (arith, length-take-le i xs) in
    let all : map_from f 0 (take (i + 1) xs) ≡ map_from f 0 (take i xs) ++ f i x ∷ [] =
    ap (map_from f 0) (take_more xs i d hx) ∙ map_from-append f 0 (take i xs) (x ∷ [])
    ∙ ap (λ k. map_from f 0 (take i xs) ++ f k x ∷ []) len in
    take_more_set ys i y hy ∙ ap (λ z. take i ys ++ z ∷ []) is ∙ ap (λ zs. zs ++ f i x ∷ []) done ∙ sym all

pub place_all : {X Y : Type 0} (f : ℕ → X → Y) (xs : List X) (ys : List Y) (n : ℕ) → length xs ≤ n → length ys ≤ n
    → take n ys ≡ map_from f 0 (take n xs) → ys ≡ map_from f 0 xs
place_all f xs ys n hx hy e = sym (take_all n ys hy) ∙ e ∙ ap (map_from f 0) (take_all n xs hx)

-- writing place i leaves the elements after it as they were
pub rest_more : {X : Type 0} (xs ns : List X) (i : ℕ) (y : X) → drop i xs ≡ drop i ns → drop (i + 1) (set xs i y) ≡ drop (i + 1) ns
rest_more xs ns i y e = drop-set-lt (i + 1) xs i y (omega arith) ∙ sym (drop-drop 1 i xs) ∙ ap (drop 1) e ∙ drop-drop 1 i ns

-- the element at i is still the old one
pub still_at : {X : Type 0} (now old : List X) (i : ℕ) (d : X) → drop i now ≡ drop i old → get_or now i d ≡ get_or old i d
still_at now old i d e =
    ap (λ n. get_or now n d) (omega arith) ∙ sym (get_or-drop i now 0 d) ∙ ap (λ zs. get_or zs 0 d) e ∙ get_or-drop i old 0 d
    ∙ ap (λ n. get_or old n d) (omega arith)

-- the element x that was read at i is still the old one
pub read_here : {X : Type 0} (now old : List X) (i : ℕ) (x : X) → drop i now ≡ drop i old → x ≡ get_or now i x → x ≡ get_or old i x
read_here now old i x e read = read ∙ still_at now old i x e

-- the element x at i becomes y in its own list
pub step_more : {X : Type 0} (f : ℕ → X → X) (old now : List X) (i : ℕ) (x y : X) → i < length old → i < length now
    → drop i now ≡ drop i old → x ≡ get_or now i x → y ≡ f i x
    → take i now ≡ map_from f 0 (take i old) → take (i + 1) (set now i y) ≡ map_from f 0 (take (i + 1) old)
step_more f old now i x y ho hn rest read is done = place_more f old now i x y ho hn (is ∙ ap (f i) (read_here now old i x rest read)) done

-- the element y at i of one list is made from the element x at i of another
pub made_more : {X Y : Type 0} (f : ℕ → X → Y) (old now : List X) (ys : List Y) (i : ℕ) (x : X) (y : Y) → i < length old → i < length ys
    → drop i now ≡ drop i old → x ≡ get_or now i x → y ≡ f i x
    → take i ys ≡ map_from f 0 (take i old) → take (i + 1) (set ys i y) ≡ map_from f 0 (take (i + 1) old)
made_more f old now ys i x y ho hy rest read is done =
    place_more f old ys i x y ho hy (is ∙ ap (f i) (read_here now old i x rest read)) done
