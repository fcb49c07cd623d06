-- Which positions are passed on a way of a number of steps.
use Rattle.std.proofs.Common.{◌≡◌, ℕ, ◌+◌, ◌-◌, ◌<◌, ◌≤◌, ap, sym, ◌∙◌, arith, inl, inr, ◌⊎◌, ap₂}
use Rattle.std.specs.Prelude.{nat_le}
use Rattle.std.proofs.lemmas.Bool.{cases_lt, le-leb, lt-leb}
use Rattle.sdh_ringmap.specs.Places.{eastwards}
use Rattle.sdh_ringmap.specs.Steps.{going}
use Rattle.sdh_ringmap.specs.declared.Side.{Side}
use Rattle.sdh_ringmap.specs.declared.Side.TheVariants.{East, West}
use Rattle.sdh_ringmap.proofs.Going.{far_east, far_west, going-round}
use Rattle.sdh_signal.proofs.Views.{passes}

module _ (n : ℕ) (some : 0 < n) where
  below_test : (a b j k : ℕ) → a + j ≡ k → b ≡ k → nat_le a b ≡ nat_le j k
  below_test a b j k e f = le-leb a b (omega arith) ∙ sym (le-leb j k (omega arith))

  above_test : (a b j k : ℕ) → a + j ≡ n + k → b ≡ k → k < j → j < n → nat_le a b ≡ nat_le j k
  above_test a b j k e f h g = lt-leb a b (omega arith) ∙ sym (lt-leb j k (omega arith))

  west_passes : (p i k j : ℕ) → k < n → j < n → (k < j) ⊎ (j ≤ k)
      → passes n West (going n West p i) (going n West p (i + k)) (going n West p (i + j)) ≡ nat_le j k
  west_passes p i k j hk hj (inr below) =
      let e : i + k ≡ i + j + (k - j) = omega arith in
      below_test _ _ j k (ap (λ a. a + j) (ap (λ s. eastwards n (going n West p s) (going n West p (i + j))) e
      ∙ far_west n some p (i + j) (k - j) (omega arith)) ∙ omega arith) (far_west n some p i k hk)
  west_passes p i k j hk hj (inl above) =
      let e : going n West p (i + k) ≡ going n West p (i + j + (n + k - j)) =
      sym (going-round n some West p (i + k)) ∙ ap (going n West p) (omega arith) in
      above_test _ _ j k (ap (λ a. a + j) (ap (λ s. eastwards n s (going n West p (i + j))) e
      ∙ far_west n some p (i + j) (n + k - j) (omega arith)) ∙ omega arith) (far_west n some p i k hk) above hj

  -- less than one round on, a position is passed on a way of k steps if no more than k steps lead to it
  pub passes-at : (d : Side) (p i k j : ℕ) → k < n → j < n → passes n d (going n d p i) (going n d p (i + k)) (going n d p (i + j))
      ≡ nat_le j k
  passes-at East p i k j hk hj = ap₂ nat_le (far_east n some p i j hj) (far_east n some p i k hk)
  passes-at West p i k j hk hj = west_passes p i k j hk hj (cases_lt k j)
