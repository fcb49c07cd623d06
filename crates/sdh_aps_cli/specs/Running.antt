-- When a script may be run whose lines or frames are written.
use Rattle.std.specs.Prelude.{ℕ, ◌+◌, ◌<◌, ◌≤◌, List, ◌∷◌, length}
use Rattle.sdh_plant.specs.Fibres.{Fibres}
use Rattle.sdh_node.specs.Rings.Held.{HeldRing}
use Rattle.sdh_plan.specs.declared.step.Step.{Step}
use Rattle.sdh_plan.specs.declared.step.Step.TheVariants as step
use Rattle.sdh_owed.specs.Running as ring
use Rattle.sdh_aps_cli.specs.Recording.{IsReady}
use Rattle.sdh_aps_cli.specs.declared.framing.FrameRun.{FrameRun}
use Rattle.sdh_aps_cli.specs.declared.script.SignalRun.{SignalRun}
use Rattle.sdh_aps_cli.specs.declared.listing.PlanListing.{PlanListing}
use Rattle.sdh_aps_cli.specs.declared.listing.PlanListing.TheVariants as listing
use Rattle.sdh_aps_cli.specs.declared.running.PlanRun.{PlanRun}
use Rattle.sdh_aps_cli.specs.declared.running.PlanRun.TheVariants as run

-- these steps may run over these fibres, and there is room for the lines of a round
abbrev pub MayShow : ℕ → List Step → SignalRun → Fibres → Type 0
MayShow number steps r f = ring.MayRun 65536 number steps r.ring f × IsReady r.ring r.recorder.before.items r.recorder.text

-- these steps may run over these fibres, and the node whose frames are written is one of the ring's
abbrev pub MaySend : ℕ → List Step → FrameRun → Fibres → Type 0
MaySend number steps r f = ring.MayRun 65536 number steps r.ring f × (r.recorder.ask.at.0 < length r.ring.ids)

-- ---- a run of either kind

abbrev pub running_ring : PlanRun → HeldRing
running_ring (run.Lines r) = r.ring
running_ring (run.Frames r) = r.ring

-- what is written of it
abbrev pub listing_in : PlanRun → PlanListing
listing_in (run.Lines r) = listing.Lines r.recorder.listing
listing_in (run.Frames r) = listing.Frames r.recorder.ask

abbrev pub MaySignal : ℕ → List Step → PlanRun → Fibres → Type 0
MaySignal number steps (run.Lines r) f = MayShow number steps r f
MaySignal number steps (run.Frames r) f = MaySend number steps r f

-- at most 64 settle steps end
pub few_settles : (number : ℕ) (later : List Step) (r : PlanRun) (f : Fibres) → MaySignal number (step.Settle ∷ later) r f → number + 1 ≤ 64
few_settles number later (run.Lines r) f may = may.0.steps_fit.0.few_settles
few_settles number later (run.Frames r) f may = may.0.steps_fit.0.few_settles
