-- A line is true.
use Rattle.std.proofs.Common.{◌≡◌, ℕ, ◌+◌, ◌-◌, ◌*◌, ◌<◌, ◌≤◌, Bool, true, false, ◌==◌, nat_lt, List, [], ◌∷◌, ◌++◌, length, get_or, All, refl, sym}
use Rattle.std.proofs.Common.{ap, subst, inl, inr, arith, ltb-true, eq-eqb}
use Rattle.std.specs.Prelude.{nat_le, if◌then◌else◌, not}
use Rattle.std.proofs.lemmas.Bool.{cases_lt, leb-true}
use Rattle.std.proofs.lemmas.List.{get_or_past}
use Rattle.std.proofs.lemmas.List.Elements.{All-nil, All-cons, All-append, All-get_or}
use Rattle.sdh_ringmap.specs.Arcs.{is_clear, is_joined}
use Rattle.sdh_circuits.specs.Provisioned.{Provisioned, arc_of}
use Rattle.sdh_restoration.specs.Applied.{is_applied}
use Rattle.sdh_plan.specs.Planned.{Planned, IsPlanned}
use Rattle.sdh_verdicts.specs.Verdicts.{requests_with, is_troubled}
use Rattle.sdh_verdicts.specs.declared.judging.Verdict.TheVariants as verdict
use Rattle.sdh_verdicts.specs.declared.failure.Failure.{Failure}
use Rattle.sdh_verdicts.specs.declared.failure.Failure.TheVariants.{Degraded, Cut, Span, Node, Manual, Forced}
use Rattle.sdh_verdicts.specs.Failures.{IsFailureIn, failure_at, half, side_of}
use Rattle.sdh_verdicts.specs.Laws.{LongerPlansArePlans, CasesAreShown}
use Rattle.sdh_whatif_cli.specs.declared.ask.Ask.{Ask}
use Rattle.sdh_whatif_cli.specs.declared.forms.Digits.{Digits}
use Rattle.sdh_whatif_cli.specs.Cases.{failures_at, failures_of, digits_at, case_at, is_told}
use Rattle.sdh_whatif_cli.specs.Counting.{fate_by, fate_of, IsFateIn}
use Rattle.sdh_whatif_cli.specs.Laws.{IsTrueLine, LinesAreTrue}
use Rattle.sdh_whatif_cli.proofs.Reading.{steps_back, texts_pass}
use Rattle.sdh_whatif_cli.proofs.Severe.{all_kept}

-- ---- the failures of a number are of the ring

module _ (n i : ℕ) (low : i < 10 * n) where
  by_kind : (a b c d e : Bool) → nat_lt i (2 * n) ≡ a → nat_lt i (4 * n) ≡ b → nat_lt i (5 * n) ≡ c → nat_lt i (6 * n) ≡ d
      → nat_lt i (8 * n) ≡ e
      → IsFailureIn n (if a then Degraded (half i) (side_of i) else if b then Cut (half (i - 2 * n)) (side_of (i - 2 * n))
      else if c then Span (record { 0 = i - 4 * n }) else if d then Node (record { 0 = i - 5 * n })
      else if e then Manual (half (i - 6 * n)) (side_of (i - 6 * n)) else Forced (half (i - 8 * n)) (side_of (i - 8 * n)))
  by_kind true b c d e x y u v w = omega (arith, ltb-true i (2 * n) x)
  by_kind false true c d e x y u v w = omega (arith, ltb-true i (4 * n) y, low)
  by_kind false false true d e x y u v w = omega (arith, ltb-true i (5 * n) u, low)
  by_kind false false false true e x y u v w = omega (arith, ltb-true i (6 * n) v, low)
  by_kind false false false false true x y u v w = omega (arith, ltb-true i (8 * n) w, low)
  by_kind false false false false false x y u v w = omega (arith, low)

  failure_in : IsFailureIn n (failure_at n i)
  unfolding failure_at
  failure_in = by_kind (nat_lt i (2 * n)) (nat_lt i (4 * n)) (nat_lt i (5 * n)) (nat_lt i (6 * n)) (nat_lt i (8 * n)) refl refl refl refl refl

module _ (n : ℕ) (own : List (List Failure)) (within : All (All (IsFailureIn n)) own) where
  abbrev Is : Failure → Type 0
  Is = IsFailureIn n

  own_in : (i : ℕ) → All Is (get_or own i [])
  own_in i = elim (cases_lt i (length own)) [
    | inl low ↦ All-get_or (All Is) own i [] low within
    | inr past ↦ subst (All Is) (sym (get_or_past own i [] past)) (All-nil Is)
  ]

  one_in : (d : ℕ) → (d ≡ 0 → ⊥) → d ≤ 10 * n → All Is (failure_at n (d - 1) ∷ [])
  one_in d some low = All-cons Is (failure_at n (d - 1)) [] (failure_in n (d - 1) (omega (arith, some, low))) (All-nil Is)

  by_digit : (d : ℕ) (none ring : Bool) → (d == 0) ≡ none → nat_le d (10 * n) ≡ ring
      → All Is (if none then [] else if ring then failure_at n (d - 1) ∷ [] else get_or own (d - (10 * n + 1)) [])
  by_digit d true ring is low = All-nil Is
  by_digit d false true is low =
      one_in d (λ e. (let zero : (d == 0) ≡ true = eq-eqb d 0 e in absurd (grind (arith, zero, is)))) (leb-true d (10 * n) low)
  by_digit d false false is low = own_in (d - (10 * n + 1))

  digit_in : (d : ℕ) → All Is (failures_at n own d)
  digit_in d = by_digit d (d == 0) (nat_le d (10 * n)) refl refl

  pub failures_in : (ds : Digits) → All Is (failures_of n own ds)
  failures_in ds =
      all_kept Is (failures_at n own ds.first ++ (failures_at n own ds.second ++ failures_at n own ds.third))
      (All-append Is (failures_at n own ds.first) (failures_at n own ds.second ++ failures_at n own ds.third) (digit_in ds.first)
      (All-append Is (failures_at n own ds.second) (failures_at n own ds.third) (digit_in ds.second) (digit_in ds.third)))

-- ---- fates

module _ (plan : Planned) (case : List Failure) (c : Provisioned) where
  abbrev own_clear : Bool
  own_clear = is_clear (length plan.nodes) (is_applied (requests_with plan case)) (arc_of (length plan.nodes) c)

  abbrev untroubled : Bool
  untroubled = is_clear (length plan.nodes) (is_troubled (requests_with plan case)) (arc_of (length plan.nodes) c)

  abbrev ends_joined : Bool
  ends_joined = is_joined (length plan.nodes) (is_applied (requests_with plan case)) (arc_of (length plan.nodes) c)

  fate_by_tests : (own trouble joined : Bool) → own_clear ≡ own → untroubled ≡ trouble → ends_joined ≡ joined
      → IsFateIn plan case c (fate_by (if own then verdict.Kept else if joined then verdict.Over else verdict.Lost) (not trouble))
  fate_by_tests true true joined o t j = record { kept = λ e. (o, t); impaired = λ e. cc; over = λ e. cc; lost = λ e. cc }
  fate_by_tests true false joined o t j = record { kept = λ e. cc; impaired = λ e. (o, t); over = λ e. cc; lost = λ e. cc }
  fate_by_tests false trouble true o t j = record { kept = λ e. cc; impaired = λ e. cc; over = λ e. (o, j); lost = λ e. cc }
  fate_by_tests false trouble false o t j = record { kept = λ e. cc; impaired = λ e. cc; over = λ e. cc; lost = λ e. j }

  fate_in : IsFateIn plan case c (fate_of plan case c)
  fate_in = fate_by_tests own_clear untroubled ends_joined refl refl refl

-- ---- lines

true_line : LongerPlansArePlans → CasesAreShown → (plan : Planned) (own : List (List Failure)) (ask : Ask) (c : ℕ) → IsPlanned plan
    → All (All (IsFailureIn (length plan.nodes))) own → is_told plan own ask c ≡ true → IsTrueLine plan own ask c
true_line longer shown plan own ask c fits within told =
    let case = case_at plan own c in
    let all = failures_in (length plan.nodes) own within (digits_at plan own c) in
    record {
      steps = λ limit. ap (λ l. plan.steps ++ l) (sym (steps_back plan fits ask.form case all));
      checks = texts_pass plan fits ask.form case all;
      planned = λ limit. longer plan case limit fits all;
      shown = shown plan case fits;
      fates = fate_in plan case;
    }

pub lines_are_true : LongerPlansArePlans → CasesAreShown → LinesAreTrue
lines_are_true longer shown plan fits =
    (λ own ask c within told. true_line longer shown plan own ask c fits within told, λ case. shown plan case fits)
