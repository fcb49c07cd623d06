-- One result that meets two clauses for Ok, and how a call ends that has a plan.
use Rattle.std.proofs.Common.{◌≡◌, ◌⊎◌, ℕ, List, inl, inr, Result, Ok, Err}
use Rattle.std.specs.Prelude.{IfOk, IsOk, ◌≢◌, Option, Some, None}
use Rattle.std.proofs.lemmas.Bool.{false≢true}
use Rattle.sdh_plan.specs.Planned.{Planned}
use Rattle.sdh_status.specs.declared.Status.{Status}
use Rattle.sdh_status.specs.declared.Status.TheVariants as status
use Rattle.sdh_shell.specs.Reading.{HasPlan}
use Rattle.sdh_shell.specs.declared.reading.NoPlan.{NoPlan}
use Rattle.sdh_shell.specs.declared.reading.NoPlan.TheVariants as noplan
use Rattle.sdh_whatif_cli.specs.Outcome.{HasPlanFor}

pub ok_two : {T E : Type 0} (r : Result T E) (P Q S : T → Type 0) → ((x : T) → P x → Q x → S x) → IfOk r P → IfOk r Q → IfOk r S
ok_two (Ok x) P Q S f p q = f x p q
ok_two (Err e) P Q S f p q = p

pub ok_three : {T E : Type 0} (r : Result T E) (P Q S V : T → Type 0) → ((x : T) → P x → Q x → S x → V x) → IfOk r P → IfOk r Q
    → IfOk r S → IfOk r V
ok_three (Ok x) P Q S V f p q s = f x p q s
ok_three (Err e) P Q S V f p q s = p

-- the status of a plan's table, or of a refusal of the user's own failures, is none of these
pub record IsNoFault (s : Status) : Type 0 where
  pub read : s ≢ status.ReadFault
  pub long : s ≢ status.TooLong
  pub usage : s ≢ status.Usage
  pub write : s ≢ status.WriteFault
  pub memory : s ≢ status.Memory

pub no_fault : (s : Status) → (s ≡ status.Ok) ⊎ ((place : ℕ) × (s ≡ status.BadPlan 24 place)) → IsNoFault s
no_fault s (inl e) = record { read = λ h. cc; long = λ h. cc; usage = λ h. cc; write = λ h. cc; memory = λ h. cc }
no_fault s (inr e) =
    let is : s ≡ status.BadPlan 24 e.0 = e.1 in
    record { read = λ h. cc; long = λ h. cc; usage = λ h. cc; write = λ h. cc; memory = λ h. cc }

-- ---- a source without a plan

-- a source that has a plan for the user's own failures has a plan
pub plan_for : (texts : List (List ℕ)) (left : Option (List ℕ)) → HasPlanFor texts left → HasPlan left
plan_for texts None has = absurd has
plan_for texts (Some bytes) has = (has.0, has.1)

-- where the source has a plan and no read failed, the plan isn't refused
pub refused_has : (left : Option (List ℕ)) (texts : List (List ℕ)) (why : NoPlan) (s : Status) → why ≡ noplan.Refused s → HasPlanFor texts left
    → IsOk {T = Planned} {E = NoPlan} (Err why) ⊎ (◌≡◌ {A = Result Planned NoPlan} (Err why) (Err noplan.Memory)) → ⊥
refused_has left texts why s is has (inl ok) = false≢true ok
refused_has left texts why s is has (inr memory) = cc
