-- What becomes of the circuits of a plan in a case, and counts of them.
use Rattle.std.specs.Prelude.{ℕ, ◌≡◌, Bool, true, false, if◌then◌else◌, List, count_by, length, map}
use Rattle.sdh_ringmap.specs.Arcs.{is_clear, is_joined}
use Rattle.sdh_circuits.specs.Provisioned.{Provisioned, arc_of}
use Rattle.sdh_restoration.specs.Applied.{highest, is_applied}
use Rattle.sdh_plan.specs.Planned.{Planned}
use Rattle.sdh_verdicts.specs.declared.failure.Failure.{Failure}
use Rattle.sdh_verdicts.specs.declared.judging.CaseSpans.{CaseSpans}
use Rattle.sdh_verdicts.specs.declared.judging.Verdict.{Verdict}
use Rattle.sdh_verdicts.specs.declared.judging.Verdict.TheVariants as verdict
use Rattle.sdh_verdicts.specs.Verdicts.{AreSpans, requests_with, is_troubled, verdict_of, is_impaired, hops_of}
use Rattle.sdh_whatif_cli.specs.declared.counting.Counts.{Counts}
use Rattle.sdh_whatif_cli.specs.declared.counting.Fate.{Fate}
use Rattle.sdh_whatif_cli.specs.declared.counting.Fate.TheVariants.{Kept, Impaired, Over, Lost}

abbrev pub fate_by : Verdict → Bool → Fate
fate_by verdict.Kept impaired = if impaired then Impaired else Kept
fate_by verdict.Over impaired = Over
fate_by verdict.Lost impaired = Lost

-- what becomes of a circuit in a case; it is impaired only where it is kept
abbrev pub fate_of : Planned → List Failure → Provisioned → Fate
fate_of plan case c = fate_by (verdict_of plan case c) (is_impaired plan case c)

-- What the fate of a circuit means in a case. Its own arc has no applied span where it is kept or impaired; then some span
-- of the arc is in trouble where it is impaired, and none where it is kept. Else its ends are joined round applied spans,
-- or not at all where it is lost.
pub record IsFateIn (plan : Planned) (case : List Failure) (c : Provisioned) (fate : Fate) : Type 0 where
  pub kept : fate ≡ Kept → (is_clear (length plan.nodes) (is_applied (requests_with plan case)) (arc_of (length plan.nodes) c) ≡ true)
      × (is_clear (length plan.nodes) (is_troubled (requests_with plan case)) (arc_of (length plan.nodes) c) ≡ true)
  pub impaired : fate ≡ Impaired → (is_clear (length plan.nodes) (is_applied (requests_with plan case)) (arc_of (length plan.nodes) c) ≡ true)
      × (is_clear (length plan.nodes) (is_troubled (requests_with plan case)) (arc_of (length plan.nodes) c) ≡ false)
  pub over : fate ≡ Over → (is_clear (length plan.nodes) (is_applied (requests_with plan case)) (arc_of (length plan.nodes) c) ≡ false)
      × (is_joined (length plan.nodes) (is_applied (requests_with plan case)) (arc_of (length plan.nodes) c) ≡ true)
  pub lost : fate ≡ Lost → is_joined (length plan.nodes) (is_applied (requests_with plan case)) (arc_of (length plan.nodes) c) ≡ false

abbrev pub same_fate : Fate → Fate → Bool
same_fate Kept Kept = true
same_fate Impaired Impaired = true
same_fate Over Over = true
same_fate Lost Lost = true
same_fate f g = false

-- the number of the plan's circuits with this fate
abbrev pub fate_count : Planned → List Failure → Fate → ℕ
fate_count plan case fate = count_by (λ c. same_fate fate (fate_of plan case c)) plan.circuits

-- the number of spans of the longest way, of the circuits whose ends are joined; 0 where none are
abbrev pub longest_of : Planned → List Failure → ℕ
longest_of plan case = highest (map (hops_of plan case) plan.circuits)

abbrev pub fate_counts : Planned → List Failure → Counts
fate_counts plan case = record {
  kept = fate_count plan case Kept;
  impaired = fate_count plan case Impaired;
  over = fate_count plan case Over;
  lost = fate_count plan case Lost;
  hops = longest_of plan case;
}

-- ---- what the program keeps

-- these are the spans of a case: those that are applied, and those in trouble
pub record AreSpansOf (plan : Planned) (case : List Failure) (s : CaseSpans) : Type 0 where
  pub applied : AreSpans (length plan.nodes) (is_applied (requests_with plan case)) s.applied
  pub troubled : AreSpans (length plan.nodes) (is_troubled (requests_with plan case)) s.troubled
