-- A line of the table is true.
use Rattle.std.specs.Prelude.{ℕ, ◌≡◌, ◌↔◌, true, List, ◌++◌, length, All}
use Rattle.sdh_circuits.specs.Provisioned.{Provisioned}
use Rattle.sdh_plan.specs.Planned.{Planned, IsPlanned}
use Rattle.sdh_verdicts.specs.declared.failure.Failure.{Failure}
use Rattle.sdh_verdicts.specs.Failures.{IsFailureIn}
use Rattle.sdh_verdicts.specs.Laws.{longer_plan, HasRoom, CaseIsShown}
use Rattle.sdh_whatif_cli.specs.declared.ask.Ask.{Ask}
use Rattle.sdh_whatif_cli.specs.Cases.{case_at, is_told}
use Rattle.sdh_whatif_cli.specs.Counting.{fate_of, IsFateIn}
use Rattle.sdh_whatif_cli.specs.Lines.{script_text}
use Rattle.sdh_whatif_cli.specs.Reading.{texts_in, field_read, steps_read, PassChecks}

-- The line of number c is true of the case of c. Take the texts of its steps out of their field, and read them as those
-- of a plan's script. They pass the checks of a step's words, and give the steps that the longer plan (`longer_plan`) has
-- after those of the plan. The longer plan is a plan exactly where there is room for the case. The last report that it
-- comes to shows each port as the line says of its circuit: AIS where the circuit is lost, and else what was sent as many
-- rounds before as the line counts spans. The circuit's fate, as the line writes it, means what its word says.
pub record IsTrueLine (plan : Planned) (own : List (List Failure)) (ask : Ask) (c : ℕ) : Type 0 where
  pub steps : (limit : ℕ) → (longer_plan plan (case_at plan own c) limit).steps
      ≡ plan.steps ++ steps_read plan (texts_in (field_read ask.form (script_text ask.form plan (case_at plan own c))))
  pub checks : PassChecks plan (texts_in (field_read ask.form (script_text ask.form plan (case_at plan own c))))
  pub planned : (limit : ℕ) → (IsPlanned (longer_plan plan (case_at plan own c) limit) ↔ HasRoom plan (case_at plan own c) limit)
  pub shown : CaseIsShown plan (case_at plan own c)
  pub fates : (circuit : Provisioned) → IsFateIn plan (case_at plan own c) circuit (fate_of plan (case_at plan own c) circuit)

-- Every line of every plan is true, whatever is asked for, and whatever failures of the ring come together in the
-- user's own. And every case is shown, also one that has no line.
abbrev pub LinesAreTrue : Type 0
LinesAreTrue = (plan : Planned) → IsPlanned plan
    → ((own : List (List Failure)) (ask : Ask) (c : ℕ) → All (All (IsFailureIn (length plan.nodes))) own → is_told plan own ask c ≡ true
    → IsTrueLine plan own ask c) × ((case : List Failure) → CaseIsShown plan case)
