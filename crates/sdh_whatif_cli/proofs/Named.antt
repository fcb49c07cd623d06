-- The failures of digits, and names one after the other.
use Rattle.std.proofs.Common.{◌≡◌, ℕ, ◌+◌, ◌-◌, ◌*◌, ◌≤◌, Bool, false, List, [], ◌∷◌, ◌++◌, codes, decimal, length, get_or, All, inl, inr, sym, ap, ◌∙◌, subst}
use Rattle.std.proofs.Common.{arith, eq-eqb, ne_eqb, le-leb}
use Rattle.std.specs.Prelude.{nat_le, if◌then◌else◌}
use Rattle.std.proofs.lemmas.Bool.{cases_lt, false_from_ne_true, leb-true}
use Rattle.std.proofs.lemmas.List.{get_or_past}
use Rattle.std.proofs.lemmas.List.Elements.{All-nil, All-get_or}
use Rattle.sdh_verdicts.specs.declared.failure.Failure.{Failure}
use Rattle.sdh_verdicts.specs.Failures.{IsFailureIn, failure_at}
use Rattle.sdh_whatif_cli.specs.Cases.{AreOwn, failures_at}
use Rattle.sdh_whatif_cli.specs.Lines.{failure_text, digit_text}

module _ (n : ℕ) (own : List (List Failure)) (d : ℕ) where
  abbrev by : Bool → Bool → List Failure
  by none ring = if none then [] else if ring then failure_at n (d - 1) ∷ [] else get_or own (d - (10 * n + 1)) []

  pub nothing_at : d ≡ 0 → failures_at n own d ≡ []
  nothing_at e = ap (λ b. by b (nat_le d (10 * n))) (eq-eqb d 0 e)

  pub ring_at : (d ≡ 0 → ⊥) → d ≤ 10 * n → failures_at n own d ≡ failure_at n (d - 1) ∷ []
  ring_at some low = ap (λ b. by b (nat_le d (10 * n))) (ne_eqb d 0 some) ∙ ap (by false) (le-leb d (10 * n) low)

  pub own_at : (d ≡ 0 → ⊥) → (d ≤ 10 * n → ⊥) → failures_at n own d ≡ get_or own (d - (10 * n + 1)) []
  own_at some high =
      ap (λ b. by b (nat_le d (10 * n))) (ne_eqb d 0 some)
      ∙ ap (by false) (false_from_ne_true (nat_le d (10 * n)) (λ e. high (leb-true d (10 * n) e)))

module _ (n : ℕ) (own : List (List Failure)) (i : ℕ) (are : AreOwn n own) where
  pub own_short : length (get_or own i []) ≤ 16
  own_short = elim (cases_lt i (length own)) [
    | inl low ↦ All-get_or (λ (fs : List Failure). length fs ≤ 16) own i [] low are.short
    | inr past ↦ (let none = ap (λ (fs : List Failure). length fs) (get_or_past own i [] past) in omega (arith, none))
  ]

  pub own_within : All (IsFailureIn n) (get_or own i [])
  own_within = elim (cases_lt i (length own)) [
    | inl low ↦ All-get_or (All (IsFailureIn n)) own i [] low are.within
    | inr past ↦ subst (All (IsFailureIn n)) (sym (get_or_past own i [] past)) (All-nil (IsFailureIn n))
  ]

-- ---- names

module _ (nodes : List ℕ) (d : ℕ) where
  abbrev named_by : Bool → List ℕ
  named_by ring = if ring then failure_text nodes (failure_at (length nodes) (d - 1)) else codes "own " ++ decimal (d - 10 * length nodes)

  pub ring_text : d ≤ 10 * length nodes → digit_text nodes d ≡ failure_text nodes (failure_at (length nodes) (d - 1))
  ring_text low = ap named_by (le-leb d (10 * length nodes) low)

  pub own_text : (d ≤ 10 * length nodes → ⊥) → digit_text nodes d ≡ codes "own " ++ decimal (d - 10 * length nodes)
  own_text high =
      ap named_by (false_from_ne_true (nat_le d (10 * length nodes)) (λ e. high (leb-true d (10 * length nodes) e)))
