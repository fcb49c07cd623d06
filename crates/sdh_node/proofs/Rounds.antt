-- What a round leaves for the next one, and what an arrival and a command leave of a node as it was.
use Rattle.std.proofs.Common.{◌≡◌, ℕ, ◌+◌, Bool, true, false, List, [], ◌∷◌, refl, ap, ◌∙◌}
use Rattle.std.specs.Prelude.{IsSome, find, ◌==◌, ◌&&◌}
use Rattle.sdh_basics.specs.Indexed.{map_from}
use Rattle.sdh_circuits.specs.declared.PortId.{PortId}
use Rattle.sdh_node.specs.Receiving.{after_overhead, after_intake}
use Rattle.sdh_circuits.specs.Provisioned.{same_end}
use Rattle.sdh_terminal.specs.Tributaries.{Tributary, is_port, port_of, HasPort, fed, all_fed}
use Rattle.sdh_node.specs.Crossing.{Cross, after_decision, delivered_to, all_delivered}
use Rattle.sdh_node.specs.Node.{Node, crossing, ports_after, after_crossing, with_calm, node_round, GoesOn}

one_more : (id : PortId) (u t : Tributary) (us ts : List Tributary) → u.port ≡ t.port → (b : Bool) → is_port id t ≡ b
    → (IsSome (find (is_port id) ts) → IsSome (find (is_port id) us))
    → IsSome (find (is_port id) (t ∷ ts)) → IsSome (find (is_port id) (u ∷ us))
one_more id u t us ts same true e rest h =
    let here : is_port id u ≡ true = ap (λ (p : PortId). (p.circuit == id.circuit) && same_end p.end id.end) same ∙ e in
    rw here refl
one_more id u t us ts same false e rest h =
    let here : is_port id u ≡ false = ap (λ (p : PortId). (p.circuit == id.circuit) && same_end p.end id.end) same ∙ e in
    rw here (rest (rw e at h))

has_mapped : (id : PortId) (f : ℕ → Tributary → Tributary) (i : ℕ) (ts : List Tributary) → ((k : ℕ) (t : Tributary) → (f k t).port ≡ t.port)
    → IsSome (find (is_port id) ts) → IsSome (find (is_port id) (map_from f i ts))
has_mapped id f i [] same h = h
has_mapped id f i (t ∷ ts) same h =
    one_more id (f i t) t (map_from f (i + 1) ts) ts (same i t) (is_port id t) refl (has_mapped id f (i + 1) ts same) h

delivered_has : (x : Cross) (id : PortId) (ports : List Tributary) → HasPort ports id → HasPort (all_delivered x ports) id
unfolding all_delivered port_of
delivered_has x id ports h = has_mapped id (λ i t. delivered_to x t) 0 ports (λ k t. refl) h

fed_has : (id : PortId) (ports : List Tributary) → HasPort ports id → HasPort (all_fed ports) id
unfolding all_fed port_of
fed_has id ports h = has_mapped id (λ i t. fed t) 0 ports (λ k t. refl) h

pub round_goes_on : (now : ℕ) (n : Node) → GoesOn now n (node_round now n).0
unfolding node_round with_calm after_crossing crossing ports_after after_decision after_intake after_overhead
round_goes_on now n = record {
  settings = refl;
  rounds = refl;
  held = refl;
  moment = refl;
  ports = λ id h. fed_has id _ (delivered_has _ id n.ports h);
}

-- ---- between rounds
