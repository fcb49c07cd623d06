-- How many slips wait at any port, whether or not it is in the ring.
use Rattle.std.proofs.Common.{◌≡◌, ℕ, ◌≤◌, List, [], ◌∷◌, length, map, Option, Some, None, refl, ap, sym, subst, ◌∙◌, arith}
use Rattle.std.specs.Prelude.{IsSome, slice_get, option_and_then, option_map}
use Rattle.std.specs.Option.{option_map_or}
use Rattle.std.proofs.lemmas.List.{length-map}
use Rattle.std.proofs.lemmas.Option.{slice_get-map, same_Some}
use Rattle.sdh_circuits.specs.declared.PortId.{PortId}
use Rattle.sdh_circuits.specs.Provisioned.{Provisioned, end_of}
use Rattle.sdh_circuits.specs.Provisioning.{Provisioning}
use Rattle.sdh_payload.specs.Clock.{Clock, new_clock, waiting}
use Rattle.sdh_plant.specs.Fibres.{Arrival}
use Rattle.sdh_request.specs.declared.settings.Settings.{Settings}
use Rattle.sdh_terminal.specs.Tributaries.{port_of}
use Rattle.sdh_node.specs.Node.{Node}
use Rattle.sdh_node.specs.Rings.Held.{HeldRing, new_ring, place_of_port}
use Rattle.sdh_node.specs.Rings.Fixed.{fixed}
use Rattle.sdh_node.specs.Rings.Rounds.{World, nodes_with, round_with}
use Rattle.sdh_node.specs.Rings.Runs.{run_with}
use Rattle.sdh_restoration.specs.Changes.{Change, Fibre, Order, Hold, Slip, Now}
use Rattle.sdh_payload.proofs.Clocking.{next_few}
use Rattle.sdh_node.specs.Rings.Changes.{changed}
use Rattle.sdh_node.specs.Rings.Clocks.{first_clock, clock_after, port_in, HasPortIn, clock_at, waiting_at}
use Rattle.sdh_node.proofs.RingLaws.Keeping.{all_heard, all_next, all_commanded, all_held, all_slipped, has_fixed}
use Rattle.sdh_node.proofs.RingLaws.Clocks.{clock_of, clocks_go_on, goes_changed}
use Rattle.sdh_rounds.specs.Rounds as any_round

-- ---- a port that is there was there before

was_at : (id : PortId) (ns ms : List Node) (p : ℕ) → map fixed ms ≡ map fixed ns
    → IsSome (option_and_then (λ n. port_of id n.ports) (slice_get ms p))
    → IsSome (option_and_then (λ n. port_of id n.ports) (slice_get ns p))
was_at id ns ms p same there =
    by (slice_get ns p) (slice_get ms p) (sym (slice_get-map fixed ms p) ∙ ap (λ l. slice_get l p) same ∙ slice_get-map fixed ns p) there
  where
    by : (a b : Option Node) → option_map fixed b ≡ option_map fixed a → IsSome (option_and_then (λ n. port_of id n.ports) b)
        → IsSome (option_and_then (λ n. port_of id n.ports) a)
    by a None e h = absurd (cc)
    by None (Some m) e h = absurd (cc)
    by (Some n) (Some m) e h = has_fixed id n m (sym (same_Some (fixed m) (fixed n) e)) h

-- the rings have equal circuits, and nodes that differ in what calls change alone
record IsLike (r s : HeldRing) : Type 0 where
  circuits : s.circuits ≡ r.circuits
  nodes : map fixed s.nodes ≡ map fixed r.nodes

was_there : (id : PortId) (r s : HeldRing) → IsLike r s → HasPortIn s id → HasPortIn r id
unfolding place_of_port
was_there id r s like there =
    let size : length s.nodes ≡ length r.nodes = sym (length-map s.nodes fixed) ∙ ap length like.nodes ∙ length-map r.nodes fixed in
    let place : place_of_port s id ≡ place_of_port r id =
    λ i. option_map_or (λ (c : Provisioned). (end_of c id.end).0) (slice_get (like.circuits i).circuits id.circuit) (size i) in
    was_at id r.nodes s.nodes (place_of_port r id) like.nodes
    (subst (λ p. IsSome (option_and_then (λ (n : Node). port_of id n.ports) (slice_get s.nodes p))) place there)

like_changed : (c : Change) (w : World) → IsLike w.ring (changed c w).ring
unfolding changed
like_changed (Fibre p d condition) w = record { circuits = refl; nodes = refl }
like_changed (Order p d c) w = record { circuits = refl; nodes = all_commanded p d c w.ring.nodes }
like_changed (Hold p turns) w = record { circuits = refl; nodes = all_held p turns w.ring.nodes }
like_changed (Slip port turn count) w = record {
  circuits = refl;
  nodes = all_slipped (place_of_port w.ring port) port turn count w.ring.nodes;
}
like_changed (Now t) w = record { circuits = refl; nodes = refl }

like_run : (rounds : List (List Arrival)) (w : World) → IsLike w.ring (run_with rounds w).ring
unfolding any_round.round_with
like_run [] w = record { circuits = refl; nodes = refl }
like_run (xs ∷ later) w =
    let rest = like_run later (round_with xs w) in
    record { circuits = rest.circuits; nodes = rest.nodes ∙ all_next w.ring.moment (nodes_with xs w) ∙ all_heard xs w.ring.nodes }

-- ---- what waits

-- P holds of the clock at a name, by the two cases: the ring has the port, or it hasn't
by_found : (r : HeldRing) (id : PortId) (P : Clock → Type 0) → P (new_clock 0) → (HasPortIn r id → P (clock_at r id)) → P (clock_at r id)
unfolding clock_at
by_found r id P none some = by (port_in r id) refl
  where
    by : (o : Option _) → port_in r id ≡ o → P (clock_of (port_in r id))
    by None e = subst (λ o. P (clock_of o)) (sym e) none
    by (Some t) e = some (subst (λ o. IsSome o) (sym e) refl)

-- what a change makes of a clock bounds the slips that wait after it
pub waits_changed : (c : Change) (w : World) (id : PortId) → waiting_at (changed c w).ring id
    ≤ waiting (clock_after id c (clock_at w.ring id))
waits_changed c w id =
    by_found (changed c w).ring id (λ k. waiting k ≤ waiting (clock_after id c (clock_at w.ring id))) (omega arith) (λ there. (
    let goes = goes_changed id c w (was_there id w.ring (changed c w).ring (like_changed c w) there) in
    omega (arith, ap (λ (k : Clock). waiting k) goes.1)))

-- in a new ring no slip waits
pub waits_new : (s : Settings) (ids : List ℕ) (circuits : Provisioning) (id : PortId) → waiting_at (new_ring s ids circuits) id ≡ 0
unfolding first_clock
waits_new s ids circuits id =
    by_found (new_ring s ids circuits) id (λ k. waiting k ≡ 0) refl
    (λ there. ap (λ (k : Clock). waiting k) (clocks_go_on.new s ids circuits id there))

-- 68 rounds use up 16 slips
pub waits_run_out : (rounds : List (List Arrival)) (w : World) (id : PortId)
    → (HasPortIn w.ring id → ((clock_at w.ring id).rest ≤ 4) × (waiting_at w.ring id ≤ 16)) → 68 ≤ length rounds
    → waiting_at (run_with rounds w).ring id ≡ 0
waits_run_out rounds w id few long = by_found (run_with rounds w).ring id (λ k. waiting k ≡ 0) refl (λ there. (
    let was = was_there id w.ring (run_with rounds w).ring (like_run rounds w) there in
    let h = few was in
    clocks_go_on.run_out rounds w id was h.0 h.1 long))

-- where no slip waits, none waits after a round
pub none_round : (xs : List Arrival) (w : World) (id : PortId) → waiting_at w.ring id ≡ 0 → waiting_at (round_with xs w).ring id ≡ 0
none_round xs w id none = by_found (round_with xs w).ring id (λ k. waiting k ≡ 0) refl (λ there. (
    let next = (clocks_go_on.round xs w id (was_there id w.ring (round_with xs w).ring (like_run (xs ∷ []) w) there)).1 in
    let few = next_few (clock_at w.ring id) 0 (omega (arith, none)) in
    omega (arith, ap (λ (k : Clock). waiting k) next, few)))
