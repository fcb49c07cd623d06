-- When a script may be run over a path ring.
use Rattle.std.specs.Prelude.{ℕ, ◌≡◌, ◌*◌, ◌≤◌, false, List, length}
use Rattle.sdh_plant.specs.Fibres.{Fibres, IsPrepared}
use Rattle.sdh_plan.specs.declared.step.Step.{Step}
use Rattle.sdh_sncp.specs.Ring.{HeldPath}
use Rattle.sdh_sncp_cli.specs.Steps.{MayDo}
use Rattle.sdh_sncp_cli.specs.declared.script.PathRun.{PathRun}

-- These steps may be run over a ring and fibres after `before` settle steps that have ended. The ring isn't broken, the
-- fibres are prepared for it, and the steps are those of a plan. No settle step had more than 65,536 rounds.
pub record MayRun (before : ℕ) (steps : List Step) (r : HeldPath) (f : Fibres) : Type 0 where
  pub whole : r.broken ≡ false
  pub prepared : IsPrepared r.settings.rate (length r.ids) f
  pub steps_fit : MayDo r.settings.rate (length r.ids) before steps
  pub few : before ≤ 64
  pub rounds : r.rounds ≤ 65536 * before

abbrev pub running_ring : PathRun → HeldPath
running_ring r = r.ring

-- these steps may run over these fibres
abbrev pub MayRunPath : ℕ → List Step → PathRun → Fibres → Type 0
MayRunPath number steps r f = MayRun number steps r.ring f
