-- Rounds and steps that a plant ran over a whole world.
use Rattle.std.proofs.Common.{◌≡◌, inl, sym, subst}
use Rattle.sdh_node.specs.Rings.Rounds.{round}
use Rattle.sdh_rounds.proofs.Laws.{known_rounds_are, known_steps}
use Rattle.sdh_laws.specs.Hearing.Laws.{IsWhole, GoesAsSignals, WholeRoundsGoAsSignals, StepsStayWhole}
use Rattle.sdh_laws.proofs.hearing.Rounds.{whole_round}
use Rattle.sdh_laws.proofs.hearing.Changes.{whole_run}
use Rattle.sdh_laws.proofs.hearing.Signalling.{rounds_are_signal_rounds}
use Rattle.sdh_node.specs.Stations.{adm}

pub whole_rounds_go_as_signals : WholeRoundsGoAsSignals
whole_rounds_go_as_signals w after whole r =
    let is : after ≡ round w = (known_rounds_are adm w after (inl whole.paired.honest.honest) r).0 in
    let signals = rounds_are_signal_rounds w whole in
    let goes : GoesAsSignals w (round w) = record { whole = whole_round w whole; may_go = signals.may_go; goes = signals.goes } in
    subst (GoesAsSignals w) (sym is) goes

pub steps_stay_whole : StepsStayWhole
steps_stay_whole = record {
  settled = λ w left limit whole settles. let k =
      (known_steps adm).settled w left limit (inl whole.paired.honest.honest) settles in subst IsWhole (sym k.2) (whole_run w k.0 whole);
  unsettled = λ w left limit whole never. let k =
      (known_steps adm).unsettled w left limit (inl whole.paired.honest.honest) never in subst IsWhole (sym k.1) (whole_run w limit whole);
}
