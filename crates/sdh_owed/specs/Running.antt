-- When a script may be run over a ring of add-drop multiplexers.
use Rattle.std.specs.Prelude.{ℕ, ◌≡◌, ◌⊎◌, ◌-◌, ◌*◌, ◌%◌, ◌≤◌, false, List, length}
use Rattle.sdh_plant.specs.Fibres.{Fibres, IsPrepared}
use Rattle.sdh_node.specs.Rings.Held.{HeldRing}
use Rattle.sdh_owed.specs.Steps.{past_of}
use Rattle.sdh_plan.specs.declared.step.Step.{Step}
use Rattle.sdh_plan.specs.Scripts.{AreSteps}

-- no round has run, or the last round that ran has a number that is a multiple of 128
abbrev pub BeginsAtAMultiple : HeldRing → Type 0
BeginsAtAMultiple r = (r.rounds ≡ 0) ⊎ ((r.rounds - 1) % 128 ≡ 0)

-- These steps may be run over a ring and fibres after `before` settle steps that have ended. The ring isn't broken, the
-- fibres are prepared for it, and the steps are those of a plan. The ring has run at most `each` times `before` rounds.
pub record MayRun (each before : ℕ) (steps : List Step) (r : HeldRing) (f : Fibres) : Type 0 where
  pub whole : r.broken ≡ false
  pub prepared : IsPrepared r.settings.rate (length r.ids) f
  pub steps_fit : AreSteps r.settings.rate (length r.ids) (length r.circuits.circuits) (past_of before r) steps
  pub few : before ≤ 64
  pub begins : BeginsAtAMultiple r
  pub rounds : r.rounds ≤ each * before
