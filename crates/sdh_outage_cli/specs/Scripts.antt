-- What comes of a script whose outages are listed. No round is run after a settle step (`behind` is 0).
use Rattle.sdh_node.specs.Node.{Node}
use Rattle.sdh_node.specs.Stations.{adm}
use Rattle.sdh_scripts.specs.Walks.{Walk}
use Rattle.sdh_scripts.specs.Scripts as scripts
use Rattle.sdh_owed.specs.Steps.{world_after_step}
use Rattle.sdh_outage_cli.specs.Outages.{Outaged, outaged_in}

abbrev pub outage_walk : Walk Node Outaged
outage_walk = record {
  station = adm;
  does = world_after_step;
  behind = 0;
  tells = outaged_in;
  last = λ (r : Outaged). r.round;
}

-- what a script comes to where arrivals are known
abbrev pub Ran : Type 0
Ran = scripts.Ran Node Outaged
