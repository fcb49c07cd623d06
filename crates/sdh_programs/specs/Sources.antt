-- Where the plan of what is asked comes from.
use Rattle.std.specs.Prelude.{ℕ, ◌≡◌, List, Option, Some, None, IfSome}
use Rattle.std.specs.Io.KnownBytes.{IsAtEnd}
use Rattle.sdh_basics.specs.Causes.{Rose}
use Rattle.sdh_plan.specs.Planned.{Planned}
use Rattle.sdh_status.specs.declared.Status.{Status}
use Rattle.sdh_status.specs.declared.Status.TheVariants as status
use Rattle.sdh_shell.specs.Reading.{HasPlan, HasNoPlan, TellsPlan, Refuses}
use Rattle.sdh_shell.specs.declared.reading.NoPlan.{NoPlan}
use Rattle.sdh_shell.specs.declared.reading.NoPlan.TheVariants as noplan

-- The plan is the one that what is asked names by itself; or it names none, the source was read to its end, and the
-- plan is that of its bytes.
abbrev pub IsPlanOf : Option Planned → Option (List ℕ) → Option (List ℕ) → Planned → Type 0
IsPlanOf (Some own) source left plan = (plan ≡ own) × (left ≡ source)
IsPlanOf None source left plan = IfSome source (λ bytes. TellsPlan bytes plan) × IsAtEnd left

-- why there is no plan, where it was to be read from a source
pub record IsUnread (source left : Option (List ℕ)) (before after : ℕ) (s : Status) : Type 0 where
  pub kind : Refuses s
  pub none : IfSome source (λ bytes. HasNoPlan bytes s)
  pub fault : s ≡ status.ReadFault → Rose before after
  -- the source hasn't the bytes of a plan, or a read failed
  pub never : HasPlan source → (Rose before after → ⊥) → ⊥

-- there is no plan: memory ran out, or the plan was to be read from the source, and was refused
abbrev pub IsNoPlanOf : Option Planned → Option (List ℕ) → Option (List ℕ) → ℕ → ℕ → NoPlan → Type 0
IsNoPlanOf own source left before after noplan.Memory = Unit {0}
IsNoPlanOf (Some own) source left before after (noplan.Refused s) = ⊥
IsNoPlanOf None source left before after (noplan.Refused s) = IsUnread source left before after s
