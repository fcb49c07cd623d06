-- The laws of scripts whose signalling is shown.
use Rattle.std.specs.Prelude.{ℕ, ◌≡◌, ◌+◌, ◌≤◌, List, [], ◌∷◌, ◌++◌, length}
use Rattle.sdh_circuits.specs.Provisioning.{Provisioning}
use Rattle.sdh_plant.specs.Fibres.{Fibres}
use Rattle.sdh_request.specs.declared.settings.Settings.{Settings}
use Rattle.sdh_node.specs.Rings.Rounds.{World}
use Rattle.sdh_node.specs.Rings.Changes.{new_world}
use Rattle.sdh_laws.specs.Hearing.Laws.{MayStart}
use Rattle.sdh_plan.specs.declared.step.Step.{Step}
use Rattle.sdh_plan.specs.declared.step.Step.TheVariants as step
use Rattle.sdh_plan.specs.Steps.{Past}
use Rattle.sdh_plan.specs.Scripts.{AreSteps}
use Rattle.sdh_status.specs.declared.Status.{Status}
use Rattle.sdh_status.specs.declared.Status.TheVariants as status
use Rattle.sdh_restoration.specs.Changes.{Change, Stretch}
use Rattle.sdh_promise.specs.Scenes.{scenes}
use Rattle.sdh_promise.specs.Owed.{Ring}
use Rattle.sdh_scripts.specs.Scripts as scripts
use Rattle.sdh_scripts.specs.Tellers.{SoFar}
use Rattle.sdh_owed.specs.Laws.{ring_by}
use Rattle.sdh_aps_cli.specs.Signalled.{Signalled}
use Rattle.sdh_aps_cli.specs.Scripts.{signalling_walk}
use Rattle.sdh_aps_cli.specs.Owed.{AreSignalled, AreOfTheNext}

-- The steps run from a world, with a limit of rounds for each settle step, after a number of settle steps that have
-- ended. They give these reports, end so, and leave that world.
abbrev pub Runs : ℕ → ℕ → List Step → World → List Signalled → Status → World → Type 0
Runs = scripts.Runs signalling_walk

-- from a new ring over new honest fibres, each settle step of a script shows what the ring of signals does
abbrev pub ScriptsGoAsSignals : Type 0
ScriptsGoAsSignals =
    (s : Settings) (ids : List ℕ) (circuits : Provisioning) (f : Fibres) → MayStart s ids f → (limit : ℕ) (past : Past) (steps : List Step)
    → AreSteps s.rate (length ids) (length circuits.circuits) past steps
    → (told : List Signalled) (end : Status) (left : World) → Runs limit 0 steps (new_world s ids circuits f) told end left
    → AreSignalled (ring_by s (length ids) circuits.circuits) ids limit [] 0 (scenes [] steps) told end

-- Some rounds ran of the settle step that comes after those in `told`. They led from one world to the other, and show
-- what the ring of signals does in them. `earlier` had happened before those in `told`, and `later` has the changes
-- before each settle step from then on.
pub record FirstRounds (ring : Ring) (ids : List ℕ) (limit : ℕ) (earlier : List Stretch) (later : List (List Change)) (told : List Signalled)
    (w : World) (one : Signalled) (mid : World) : Type 0 where
  pub count : ℕ
  pub few : count ≤ limit
  pub ran : mid.ring.rounds ≡ w.ring.rounds + count
  pub shown : AreOfTheNext ring ids earlier later told count one.changes

-- from a new ring over new honest fibres, the rounds of each settle step show what the ring of signals does in them,
-- whether the step ends or not
abbrev pub StepsGoAsSignals : Type 0
StepsGoAsSignals =
    (s : Settings) (ids : List ℕ) (circuits : Provisioning) (f : Fibres) → MayStart s ids f → (limit : ℕ) (past : Past)
    (gone later : List Step) → AreSteps s.rate (length ids) (length circuits.circuits) past (gone ++ step.Settle ∷ later)
    → (told : List Signalled) (w : World) → Runs limit 0 gone (new_world s ids circuits f) told status.Ok w
    → (number : ℕ) (one : Signalled) (mid : World) → SoFar signalling_walk limit number w one mid
    → FirstRounds (ring_by s (length ids) circuits.circuits) ids limit [] (scenes [] (gone ++ step.Settle ∷ later)) told w one mid
