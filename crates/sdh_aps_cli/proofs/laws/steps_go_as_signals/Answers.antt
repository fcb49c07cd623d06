use Rattle.sdh_aps_cli.proofs.Owing as proved
use Rattle.sdh_aps_cli.proofs.laws.steps_go_as_signals.Goals as goal

pub returns : goal.returns
returns c = proved.steps_go_as_signals (record {
  rounds = c.rounds_are_signal_rounds.ensures;
  sides = c.sides_bring.ensures;
  requests = c.requests_are_the_historys.ensures;
})
