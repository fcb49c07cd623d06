-- What happens to a ring and its fibres between rounds, and a run with such changes.
use Rattle.std.specs.Prelude.{ℕ, List, [], ◌∷◌, length}
use Rattle.sdh_restoration.specs.Changes.{Change, Fibre, Order, Hold, Slip, Now, Stretch}
use Rattle.sdh_plant.specs.Calls.{after_apply, prepared}
use Rattle.sdh_node.specs.Receiving.{commanded_by}
use Rattle.sdh_rounds.specs.Changing.{Changing}
use Rattle.sdh_node.specs.Node.{Node, at_receiving, held_for, slips_at}
use Rattle.sdh_node.specs.Rings.Held.{at_place, place_of_port, new_ring}
use Rattle.sdh_node.specs.Rings.Clocks.{waiting_at}
use Rattle.sdh_node.specs.Rings.Rounds.{World, world}
use Rattle.sdh_node.specs.Rings.Runs.{run}
use Rattle.sdh_request.specs.declared.settings.Settings.{Settings}
use Rattle.sdh_circuits.specs.Provisioning.{Provisioning}
use Rattle.sdh_plant.specs.Fibres.{Fibres}

-- a ring and its fibres after a change
unfoldable pub changed : Change → World → World
changed (Fibre p d condition) w = record w { fibres = after_apply w.fibres p d condition }
changed (Order p d command) w =
    record w { ring = record w.ring { nodes = at_place p (at_receiving d (commanded_by command)) w.ring.nodes } }
changed (Hold p turns) w = record w { ring = record w.ring { nodes = at_place p (held_for turns) w.ring.nodes } }
changed (Slip port turn count) w =
    record w { ring = record w.ring { nodes = at_place (place_of_port w.ring port) (slips_at port turn count) w.ring.nodes } }
changed (Now t) w = record w { ring = record w.ring { moment = t } }

abbrev pub all_changed : List Change → World → World
all_changed [] w = w
all_changed (c ∷ cs) w = all_changed cs (changed c w)

abbrev pub after_stretch : Stretch → World → World
after_stretch s w = run s.rounds (all_changed s.changes w)

abbrev pub after_stretches : List Stretch → World → World
after_stretches [] w = w
after_stretches (s ∷ ss) w = after_stretches ss (after_stretch s w)

-- a new ring over fibres that were just prepared for it
abbrev pub new_world : Settings → List ℕ → Provisioning → Fibres → World
new_world s ids circuits f = world (new_ring s ids circuits) (prepared s.rate (length ids) f)

-- what each change does to a ring of add-drop multiplexers
abbrev pub adm_changes : Changing Node
adm_changes = record {
  commanded = λ p side command r. record r { nodes = at_place p (at_receiving side (commanded_by command)) r.nodes };
  held_for = λ p turns r. record r { nodes = at_place p (held_for turns) r.nodes };
  slipped = λ port turn count r. record r { nodes = at_place (place_of_port r port) (slips_at port turn count) r.nodes };
  waiting_at = waiting_at;
}
