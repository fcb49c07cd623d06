-- A step that runs no round leaves the rounds as they were.
use Rattle.std.proofs.Common.{◌≡◌, length, refl}
use Rattle.sdh_plant.specs.Arrivals.{Knows}
use Rattle.sdh_node.specs.Stations.{adm}
use Rattle.sdh_node.specs.Rings.Held.{place_of_port}
use Rattle.sdh_node.specs.Rings.Rounds.{World}
use Rattle.sdh_node.specs.Rings.Changes.{changed}
use Rattle.sdh_plan.specs.declared.step.Step.{Step}
use Rattle.sdh_plan.specs.declared.step.Step.TheVariants as step
use Rattle.sdh_scripts.specs.Laws.{DoesNoRound, KeepsRounds}
use Rattle.sdh_scripts.proofs.Reporting.{keeps_by}
use Rattle.sdh_owed.specs.Steps.{world_after_step}
use Rattle.sdh_node.proofs.RingLaws.Histories.{length-placed}
use Rattle.sdh_owed.specs.Reports.{report_of}
use Rattle.sdh_owed.specs.Scripts.{adm_walk}

ids_step : (s : Step) (w : World) → (world_after_step s w).ring.ids ≡ w.ring.ids
unfolding changed
ids_step (step.Fibre e) w = refl
ids_step s w = refl

count_step : (s : Step) (w : World) → length (world_after_step s w).ring.nodes ≡ length w.ring.nodes
unfolding changed
count_step (step.Order p d c) w = length-placed _ p.0 w.ring.nodes
count_step (step.Hold p turns) w = length-placed _ p.0 w.ring.nodes
count_step (step.Slip port turn count) w = length-placed _ (place_of_port w.ring port) w.ring.nodes
count_step s w = refl

rounds_step : (s : Step) (w : World) → (world_after_step s w).ring.rounds ≡ w.ring.rounds
unfolding changed
rounds_step (step.Fibre e) w = refl
rounds_step s w = refl

sent_step : (s : Step) (w : World) → (world_after_step s w).fibres.sent ≡ w.fibres.sent
unfolding changed
sent_step (step.Fibre e) w = refl
sent_step s w = refl

knows_step : (s : Step) (w : World) → Knows w.fibres → Knows (world_after_step s w).fibres
unfolding changed
knows_step (step.Fibre e) w h = h
knows_step s w h = h

pub no_round : DoesNoRound world_after_step
no_round = record { ids = ids_step; size = count_step; rounds = rounds_step; sent = sent_step; knows = knows_step }

pub keeps_rounds : KeepsRounds adm_walk
unfolding report_of
keeps_rounds = keeps_by adm world_after_step report_of no_round (λ number r. refl)
