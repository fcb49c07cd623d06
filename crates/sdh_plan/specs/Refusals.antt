-- How a document is refused: by the reason and the place of its first check that fails.
use Rattle.std.specs.Prelude.{◌≡◌, ℕ, Option, Some, None, option_map}
use Rattle.sdh_circuits.specs.declared.AddError.{AddError}
use Rattle.sdh_circuits.specs.declared.AddError.TheVariants as refused
use Rattle.sdh_plan.specs.Check.{Refusal}
use Rattle.sdh_plan.specs.declared.check_error.CheckError.{CheckError}
use Rattle.sdh_plan.specs.declared.check_error.CheckError.TheVariants as error
use Rattle.sdh_plan.specs.declared.reason.Reason.{Reason}
use Rattle.sdh_plan.specs.declared.reason.Reason.TheVariants as reason

-- the reason and the place are these; memory can run out at any time
abbrev pub IsRefused : Option Refusal → CheckError → Type 0
IsRefused refusal error.Memory = Unit {0}
IsRefused refusal (error.BadPlan reason place) = refusal ≡ Some (record { reason = reason; place = place })

-- a reason, where there is one, at this place
abbrev pub refusal_at : ℕ → Option Reason → Option Refusal
refusal_at place reason = option_map (λ r. record { reason = r; place = place }) reason

-- the reason for which a circuit is not added; None where memory ran out
abbrev pub reason_of : AddError → Option Reason
reason_of refused.Memory = None
reason_of refused.Slot = Some reason.Slot
reason_of refused.End = Some reason.End
reason_of refused.SameEnds = Some reason.SameEnds
reason_of refused.Offset = Some reason.Offset
reason_of refused.Text = Some reason.Text
reason_of refused.Trace = Some reason.Trace
reason_of refused.Name = Some reason.Name
reason_of refused.Overlap = Some reason.Overlap
