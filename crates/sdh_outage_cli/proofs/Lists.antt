-- Lists to which one element after the other is added.
use Rattle.std.proofs.Common.{◌≡◌, ℕ, zero, suc, List, [], ◌∷◌, ◌++◌, length, set, Some, ap, sym, subst, ◌∙◌, arith}
use Rattle.std.specs.Prelude.{slice_get}
use Rattle.std.proofs.lemmas.Option.{same_Some}

-- what holds of all i elements of a list, and of a new one after them, holds of all
pub all_pushed : {X : Type 0} (P : ℕ → X → Type 0) (xs : List X) (i : ℕ) (y : X) → length xs ≡ i → P i y
    → ((j : ℕ) (x : X) → slice_get xs j ≡ Some x → P j x)
    → (j : ℕ) (x : X) → slice_get (xs ++ y ∷ []) j ≡ Some x → P j x
all_pushed P [] zero y long here before zero x get = subst (P zero) (same_Some y x get) here
all_pushed P [] zero y long here before (suc j) x get = absurd (cc)
all_pushed P [] (suc i) y long here before j x get = absurd (omega arith)
all_pushed P (z ∷ xs) zero y long here before j x get = absurd (omega arith)
all_pushed P (z ∷ xs) (suc i) y long here before zero x get = before zero x get
all_pushed P (z ∷ xs) (suc i) y long here before (suc j) x get =
    all_pushed (λ k. P (suc k)) xs i y (omega arith) here (λ k v there. before (suc k) v there) j x get

-- writing an element in a place where it already is changes nothing
pub set_there : {X : Type 0} (xs : List X) (i : ℕ) (x y : X) → slice_get xs i ≡ Some x → y ≡ x → set xs i y ≡ xs
set_there [] i x y there is = absurd (cc)
set_there (z ∷ xs) zero x y there is = ap (λ v. v ∷ xs) (is ∙ sym (same_Some z x there))
set_there (z ∷ xs) (suc i) x y there is = ap (λ l. z ∷ l) (set_there xs i x y there is)
