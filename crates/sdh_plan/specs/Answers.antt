-- What reading a plan answers.
use Rattle.std.specs.Prelude.{◌≡◌, ℕ, List, Some, None}
use Rattle.toml.specs.Data.{Members}
use Rattle.sdh_plan.specs.declared.error.PlanError.{PlanError}
use Rattle.sdh_plan.specs.declared.error.PlanError.TheVariants as error
use Rattle.sdh_plan.specs.declared.check_error.CheckError.{CheckError}
use Rattle.sdh_plan.specs.declared.check_error.CheckError.TheVariants as check
use Rattle.sdh_plan.specs.declared.reason.Reason.{Reason}
use Rattle.sdh_plan.specs.Check.{answer}
use Rattle.sdh_plan.specs.Document.{IsDocument, IsNoDocument}
use Rattle.sdh_plan.specs.Planned.{Planned}
use Rattle.sdh_plan.specs.Plans.{checks, plan_of}
use Rattle.sdh_plan.specs.Reasons.{reason_number}

-- the bytes are a document, no check of it fails, and this is its plan
abbrev pub IsPlanOf : List ℕ → Planned → Type 0
IsPlanOf bytes plan = (ms : Members) × IsDocument bytes ms × (answer (checks ms) ≡ None) × (plan ≡ plan_of ms)

-- why there is no plan: memory ran out, which is possible at any time; the bytes are no document; or they are one, and
-- the first of its checks that fails has a reason of this number and this place
abbrev pub IsWhy : List ℕ → PlanError → Type 0
IsWhy bytes error.Memory = Unit {0}
IsWhy bytes error.NotToml = IsNoDocument bytes
IsWhy bytes (error.BadPlan number place) =
    (reason : Reason) × ((ms : Members) × IsDocument bytes ms × (answer (checks ms) ≡ Some (record { reason = reason; place = place })))
    × (number ≡ reason_number reason)

-- why there is no plan where a part of a document gives none
abbrev pub plan_error : CheckError → PlanError
plan_error check.Memory = error.Memory
plan_error (check.BadPlan reason place) = error.BadPlan (reason_number reason) place
