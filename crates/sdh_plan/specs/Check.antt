-- Checks, one after the other: the first that fails is answered.
use Rattle.std.specs.Prelude.{ℕ, Bool, List, [], ◌∷◌, map, Option, Some, None, Result, Ok, Err, if◌then◌else◌}
use Rattle.sdh_plan.specs.declared.reason.Reason.{Reason}

-- what is checked: the reason that is given where it fails, the place that is named, and whether it fails
pub record Check : Type 0 where
  pub reason : Reason
  pub place : ℕ
  pub fails : Bool

-- why a document is refused, and where; places count from 1, and 0 is the document
pub record Refusal : Type 0 where
  pub reason : Reason
  pub place : ℕ

-- the first check that fails, if one does
abbrev pub answer : List Check → Option Refusal
answer [] = None
answer (check ∷ later) = if check.fails then Some (record { reason = check.reason; place = check.place }) else answer later

-- a check of one circuit or step: the reason, and whether it fails
abbrev pub Fault : Type 0
Fault = Reason × Bool

-- the checks of the circuit or step at this place
abbrev pub checks_at_place : ℕ → List Fault → List Check
checks_at_place place faults = map (λ fault. record { reason = fault.0; place = place; fails = fault.1 }) faults

-- the reason of the first that fails, if one does
abbrev pub first_fault : List Fault → Option Reason
first_fault [] = None
first_fault (fault ∷ later) = if fault.1 then Some fault.0 else first_fault later

-- the value that is read, or the reason for which there is none
abbrev pub unless : {X : Type 0} → Option Reason → X → Result X Reason
unless None x = Ok x
unless (Some reason) x = Err reason
