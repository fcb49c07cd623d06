-- Lists: two functions that agree place by place make equal lists.
use Rattle.std.proofs.Common.{◌≡◌, ℕ, ◌<◌, List, length, get_or, refl, ap, ◌∙◌, arith}
use Rattle.std.proofs.Common.{suc, zero, [], ◌∷◌, ◌+◌}
use Rattle.sdh_basics.specs.Indexed.{map_from}

same_from : {X Y : Type 0} (f g : ℕ → X → Y) (i : ℕ) (xs : List X) (d : X)
    → ((k : ℕ) → k < length xs → f (i + k) (get_or xs k d) ≡ g (i + k) (get_or xs k d)) → map_from f i xs ≡ map_from g i xs
same_from f g i [] d h = refl
same_from f g i (x ∷ xs) d h =
    let e : f i x ≡ g i x = ap (λ j. f j x) (omega arith) ∙ h zero (omega arith) ∙ ap (λ j. g j x) (omega arith) in
    let t =
    same_from f g (i + 1) xs d (λ k b. ap (λ j. f j (get_or xs k d)) (omega arith) ∙ h (suc k) (omega arith)
    ∙ ap (λ j. g j (get_or xs k d)) (omega arith)) in
    ap (λ y. y ∷ map_from f (i + 1) xs) e ∙ ap (λ ys. g i x ∷ ys) t

-- two functions that agree at each place and element make equal lists
pub map_from-same : {X Y : Type 0} (f g : ℕ → X → Y) (xs : List X) (d : X)
    → ((k : ℕ) → k < length xs → f k (get_or xs k d) ≡ g k (get_or xs k d)) → map_from f 0 xs ≡ map_from g 0 xs
map_from-same f g xs d h =
    same_from f g 0 xs d (λ k b. ap (λ j. f j (get_or xs k d)) (omega arith) ∙ h k b ∙ ap (λ j. g j (get_or xs k d)) (omega arith))
