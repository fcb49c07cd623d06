-- Lists in which one element after the other is changed.
use Rattle.std.proofs.Common.{◌≡◌, ℕ, zero, suc, ◌+◌, ◌<◌, List, [], ◌∷◌, length, Some, refl, subst, arith}
use Rattle.std.specs.Prelude.{slice_get}
use Rattle.std.proofs.Math.ListN.{set}
use Rattle.std.proofs.lemmas.Option.{same_Some}

-- what holds of the first i elements and of a new one holds of the first i + 1
pub set_upto : {X : Type 0} (P : ℕ → X → Type 0) (xs : List X) (i : ℕ) (y : X) → i < length xs → P i y
    → ((j : ℕ) (x : X) → j < i → slice_get xs j ≡ Some x → P j x)
    → (j : ℕ) (x : X) → j < i + 1 → slice_get (set xs i y) j ≡ Some x → P j x
set_upto P [] i y lt here before j x lj get = absurd (omega arith)
set_upto P (z ∷ xs) zero y lt here before zero x lj get = subst (P zero) (same_Some y x get) here
set_upto P (z ∷ xs) zero y lt here before (suc j) x lj get = absurd (omega arith)
set_upto P (z ∷ xs) (suc i) y lt here before zero x lj get = before zero x (omega arith) get
set_upto P (z ∷ xs) (suc i) y lt here before (suc j) x lj get =
    set_upto (λ k. P (suc k)) xs i y (omega arith) here (λ k v lk there. before (suc k) v (omega arith) there) j x (omega arith) get

-- the elements after the one that is set stay
pub set_behind : {X : Type 0} (xs : List X) (i : ℕ) (y : X) (j : ℕ) → i < j → slice_get (set xs i y) j ≡ slice_get xs j
set_behind [] i y j lt = refl
set_behind (z ∷ xs) zero y zero lt = absurd (omega arith)
set_behind (z ∷ xs) zero y (suc j) lt = refl
set_behind (z ∷ xs) (suc i) y zero lt = absurd (omega arith)
set_behind (z ∷ xs) (suc i) y (suc j) lt = set_behind xs i y j (omega arith)

-- an element that is inside is read
pub some_at : {X : Type 0} (xs : List X) (i : ℕ) → i < length xs → (x : X) × (slice_get xs i ≡ Some x)
some_at [] i lt = absurd (omega arith)
some_at (z ∷ xs) zero lt = (z, refl)
some_at (z ∷ xs) (suc i) lt = some_at xs i (omega arith)
