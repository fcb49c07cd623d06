-- What the ports of a node delivered, while calls and rounds go on.
use Rattle.std.proofs.Common.{◌≡◌, ℕ, List, length, ap, sym, refl, ◌∙◌}
use Rattle.sdh_basics.proofs.CellsLaws.{length-map_from}
use Rattle.sdh_circuits.specs.declared.PortId.{PortId}
use Rattle.sdh_payload.specs.declared.clock.Turn.{Turn}
use Rattle.sdh_terminal.specs.Tributaries.{Tributary, outlets_of, with_slips, fed, all_fed}
use Rattle.sdh_terminal.proofs.Slips.{map-with_slips}
use Rattle.sdh_terminal.proofs.Waiting.{count_outlets}
use Rattle.sdh_node.specs.Node.{Node, node_round, with_calm, after_crossing, ports_after, crossing}
use Rattle.sdh_node.proofs.Later.{count_waits}

pub slips_delivered : (id : PortId) (turn : Turn) (count : ℕ) (ts : List Tributary)
    → outlets_of (with_slips id turn count ts) ≡ outlets_of ts
slips_delivered id turn count ts = map-with_slips (λ (t : Tributary). t.outlet) (λ turn count t. refl) id turn count ts

-- slips leave as many ports as there were
pub slips_many : (id : PortId) (turn : Turn) (count : ℕ) (ts : List Tributary) → length (with_slips id turn count ts) ≡ length ts
slips_many id turn count ts =
    sym (count_outlets (with_slips id turn count ts)) ∙ ap length (slips_delivered id turn count ts) ∙ count_outlets ts

-- so does what the ports send
pub fed_many : (ts : List Tributary) → length (all_fed ts) ≡ length ts
unfolding all_fed
fed_many ts = length-map_from (λ i t. fed t) 0 ts

-- a round leaves as many ports as there were
pub count_after : (now : ℕ) (n : Node) → length (node_round now n).0.ports ≡ length n.ports
unfolding node_round with_calm after_crossing ports_after all_fed
count_after now n =
    length-map_from (λ i t. fed t) 0 _ ∙ count_waits (crossing now n) n.ports
