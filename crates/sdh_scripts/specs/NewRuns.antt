-- What is true of a run before its fibres are made.
use Rattle.std.specs.Prelude.{ℕ, ◌≡◌, ◌≤◌, List, length}
use Rattle.sdh_plant.specs.Fibres.{Fibres}
use Rattle.sdh_plant.specs.Calls.{prepared}
use Rattle.sdh_rounds.specs.Held.{HeldRing}
use Rattle.sdh_plan.specs.Planned.{Planned, IsPlanned}
use Rattle.sdh_plan.specs.declared.step.Step.{Step}
use Rattle.sdh_scripts.specs.Plans.{Account}
use Rattle.sdh_scripts.specs.declared.run.NewRun.{NewRun}
use Rattle.sdh_scripts.specs.declared.run.NewScript.{NewScript}

-- the rate and the number of nodes of the script are those of the ring that it is run over, and its steps may be run
-- over fibres that are prepared for these
pub record MayStartRun {N R : Type 0} (ring : R → HeldRing N) (MayRun : ℕ → List Step → R → Fibres → Type 0) (runner : R)
    (script : NewScript) : Type 0 where
  pub rate : script.rate ≡ (ring runner).settings.rate
  pub nodes : script.nodes ≡ length (ring runner).ids
  pub enough : 2 ≤ script.nodes
  pub few : script.nodes ≤ 16
  pub may : (f : Fibres) → MayRun 0 script.steps.items runner (prepared script.rate script.nodes f)
  pub limit_from_1 : 1 ≤ script.limit
  pub limit_small : script.limit ≤ 65536

-- the script is that of a plan
pub record IsScriptOf (plan : Planned) (script : NewScript) : Type 0 where
  pub rate : script.rate ≡ plan.settings.rate
  pub nodes : script.nodes ≡ length plan.nodes
  pub steps : script.steps.items ≡ plan.steps
  pub limit : script.limit ≡ plan.limit

-- the run is of the script of a plan over the plan's ring
pub record IsRunOfPlan {N T R : Type 0} (ring : R → HeldRing N) (t : Account N T) (plan : Planned) (run : NewRun R) : Type 0 where
  pub form : IsPlanned plan
  pub ring_is : ring run.runner ≡ t.new_ring plan
  pub script_is : IsScriptOf plan run.script
