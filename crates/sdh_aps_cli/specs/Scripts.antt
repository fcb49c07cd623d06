-- What comes of a script whose signalling is shown. No round is run after a settle step.
use Rattle.std.specs.Prelude.{◌-◌}
use Rattle.sdh_node.specs.Node.{Node}
use Rattle.sdh_node.specs.Stations.{adm}
use Rattle.sdh_scripts.specs.Walks.{Walk}
use Rattle.sdh_owed.specs.Steps.{world_after_step}
use Rattle.sdh_aps_cli.specs.Signalled.{Signalled, signalled_in}

abbrev pub signalling_walk : Walk Node Signalled
signalling_walk = record {
  station = adm;
  does = world_after_step;
  behind = 0;
  tells = signalled_in;
  last = λ (s : Signalled). s.rounds - 1;
}
