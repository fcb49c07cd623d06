-- What the bytes of a source are: a plan, or the reason why they are none.
use Rattle.std.specs.Prelude.{ℕ, Bool, true, false, ◌<◌, ◌≤◌, List, [], length, Option, Some, None}
use Rattle.std.specs.Io.KnownBytes.{IsAtEnd}
use Rattle.sdh_plan.specs.declared.error.PlanError.TheVariants as error
use Rattle.sdh_plan.specs.Planned.{Planned}
use Rattle.sdh_plan.specs.Document.{IsNoDocument}
use Rattle.sdh_plan.specs.Answers.{IsPlanOf, IsWhy}
use Rattle.sdh_status.specs.declared.Status.{Status}
use Rattle.sdh_status.specs.declared.Status.TheVariants as status
use Rattle.sdh_shell.specs.declared.reading.NoPlan.{NoPlan}
use Rattle.sdh_shell.specs.declared.reading.NoPlan.TheVariants as none

-- there are no more bytes than a plan may have, 1,048,576
abbrev pub HasPlanLength : List ℕ → Type 0
HasPlanLength bytes = length bytes ≤ 1048576

-- Why there is no plan: a read failed, of which the bytes say nothing; there are too many bytes; they are no document;
-- or they are a document, and the first of its checks that fails has a reason of this number and this place.
abbrev pub HasNoPlan : List ℕ → Status → Type 0
HasNoPlan bytes status.ReadFault = Unit {0}
HasNoPlan bytes status.TooLong = 1048576 < length bytes
HasNoPlan bytes status.NotToml = HasPlanLength bytes × IsNoDocument bytes
HasNoPlan bytes (status.BadPlan number place) = HasPlanLength bytes × IsWhy bytes (error.BadPlan number place)
HasNoPlan bytes status.Ok = ⊥
HasNoPlan bytes status.Usage = ⊥
HasNoPlan bytes status.WriteFault = ⊥
HasNoPlan bytes (status.Unsettled k) = ⊥
HasNoPlan bytes status.PlantFault = ⊥
HasNoPlan bytes status.NoSuchPort = ⊥
HasNoPlan bytes status.Memory = ⊥

-- these bytes are those of this plan, and no more than a plan may have
abbrev pub TellsPlan : List ℕ → Planned → Type 0
TellsPlan bytes plan = HasPlanLength bytes × IsPlanOf bytes plan

-- the source shows the bytes of a plan
abbrev pub HasPlan : Option (List ℕ) → Type 0
HasPlan None = ⊥
HasPlan (Some bytes) = (plan : Planned) × TellsPlan bytes plan

-- a result without a plan has its reason in the bytes, except where a read failed or memory ran out
abbrev pub IsWhyNone : List ℕ → NoPlan → Type 0
IsWhyNone bytes none.Memory = Unit {0}
IsWhyNone bytes (none.Refused how) = HasNoPlan bytes how

-- a plan is refused with this status
abbrev pub Refuses : Status → Type 0
Refuses status.ReadFault = Unit {0}
Refuses status.TooLong = Unit {0}
Refuses status.NotToml = Unit {0}
Refuses (status.BadPlan number place) = Unit {0}
Refuses how = ⊥

-- there is no plan because memory ran out, or because of one of the statuses with which a plan is refused
abbrev pub IsRefusal : NoPlan → Type 0
IsRefusal none.Memory = Unit {0}
IsRefusal (none.Refused how) = Refuses how

-- what has to be known of a source: its bytes, or nothing where it isn't read
abbrev pub told_if : Bool → Option (List ℕ) → Option (List ℕ)
told_if true left = left
told_if false left = Some []

-- a source that is read was read to its end
abbrev pub HasRead : Bool → Option (List ℕ) → Type 0
HasRead false left = Unit {0}
HasRead true left = IsAtEnd left
