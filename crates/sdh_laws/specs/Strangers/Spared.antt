-- A ring in which a customer is spared: the span that its circuit doesn't use is cut both ways.
use Rattle.std.specs.Prelude.{ℕ, ◌≡◌, ◌+◌, ◌<◌, [], ◌∷◌}
use Rattle.sdh_ringmap.specs.declared.Side.TheVariants.{West, East}
use Rattle.sdh_ringmap.specs.declared.terms.Condition.TheVariants.{Cut}
use Rattle.sdh_circuits.specs.Ends.{other_end, port_id}
use Rattle.sdh_circuits.specs.declared.End.{End}
use Rattle.sdh_plant.specs.Fibres.{Fibres, IsHonest}
use Rattle.sdh_restoration.specs.Changes.{Fibre, Stretch}
use Rattle.sdh_restoration.specs.Due.{nothing_applied}
use Rattle.sdh_node.specs.Rings.Changes.{new_world}
use Rattle.sdh_node.specs.Rings.Clocks.{clocks_from}
use Rattle.sdh_node.specs.Rings.Held.{outlet_at}
use Rattle.sdh_node.specs.Rings.Rounds.{round}
use Rattle.sdh_node.specs.Rings.Sides.{world_in}
use Rattle.sdh_laws.specs.Carrying.Laws.{due_by_clocks}
use Rattle.sdh_laws.specs.Converging.Rings.{settings, three, c1, one_circuit}

-- the first settle step of the ring of three, in which nothing happens
abbrev pub settling : Stretch
settling = record { changes = []; rounds = 129 }

-- 64 rounds after the span from node 2 to node 0 is cut both ways
abbrev pub cutting_beside : Stretch
cutting_beside = record { changes = Fibre 2 East Cut ∷ Fibre 0 West Cut ∷ []; rounds = 64 }

-- In each of the 64 rounds both ports of the circuit over the two other spans deliver what the other port sent two
-- rounds before, as if nothing had happened.
abbrev pub ThreeSpareACustomer : Type 0
ThreeSpareACustomer =
    (f : Fibres) → IsHonest f → (t : ℕ) → t < 64 → (e : End)
    → (let w = new_world settings three one_circuit f in
    outlet_at (round (world_in (settling ∷ cutting_beside ∷ []) w (129 + t))).ring (port_id 0 e)
    ≡ due_by_clocks 3 nothing_applied c1 e (clocks_from w (port_id 0 (other_end e))) (129 + t))
