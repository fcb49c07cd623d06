-- What listeners keep depends only on the rounds that have run.
use Rattle.std.specs.Prelude.{◌≡◌, ℕ, zero, suc, ◌+◌, ◌^◌, ◌≤◌, List, ◌∷◌, length, slice_get}
use mathlib.Core.Path.{refl, ap, ap₂, sym, subst, ◌∙◌}
use native.Mathlib.Nat.{le_refl, le_step}
use Prim.Native.Nat.{zero-le}
use Rattle.sdh_circuits.specs.declared.End.TheVariants.{A, B}
use Rattle.sdh_circuits.specs.declared.PortId.{PortId}
use Rattle.sdh_circuits.specs.Ends.{port_id}
use Rattle.sdh_payload.specs.Customer.{Customer}
use Rattle.sdh_node.specs.Rings.Rounds.{World}
use Rattle.sdh_outage.specs.Kept.{heard}
use Rattle.sdh_outage_cli.specs.Outages.{delivered_at, whose_in}
use Rattle.sdh_outage_cli.specs.Streams.{holder_of, AreNear}
use Rattle.sdh_outage_cli.specs.Ports.{delivered_in, listener_after, AreListening, ports_by_node}
use Rattle.sdh_outage_cli.specs.declared.ports.ListenerPair.{ListenerPair}
use Rattle.sdh_outage_cli.specs.declared.streams.StreamPair.{StreamPair}

delivered_same : (port : PortId) (k : ℕ) (at bt : ℕ → World) → ((j : ℕ) → j ≤ k → at j ≡ bt j)
    → delivered_in port k at ≡ delivered_in port k bt
delivered_same port zero at bt same = refl
delivered_same port (suc k) at bt same =
    ap₂ (λ (v : World) l. delivered_at v.ring port ∷ l) (same (suc k) (le_refl (suc k)))
    (delivered_same port k at bt (λ j low. same j (le_step low)))

heard_same : (far : Customer) (index : ℕ) (port : PortId) (k : ℕ) (at bt : ℕ → World) → ((j : ℕ) → j ≤ k → at j ≡ bt j)
    → listener_after far (whose_in at index) port k at ≡ listener_after far (whose_in bt index) port k bt
heard_same far index port k at bt same =
    let first = same 0 zero-le in
    let past = delivered_same port k at bt same in
    λ i. heard far (holder_of (first i).ring.circuits.circuits index) (first i).ring.rounds (delivered_at (first i).ring port) (past i)

-- listeners in the state that one course gives are in the state that an equal course gives
pub listening_same : (at bt : ℕ → World) (k : ℕ) (items : List ListenerPair) (streams : List StreamPair) → ((j : ℕ) → j ≤ k → at j ≡ bt j)
    → AreListening at k items streams → AreListening bt k items streams
listening_same at bt k items streams same x =
    let first = same 0 zero-le in
    let last = same k (le_refl k) in
    record {
      few = subst (λ (v : World). v.ring.rounds ≤ 2 ^ 31) first x.few;
      many = x.many ∙ ap (λ (v : World). length v.ring.circuits.circuits) last;
      circuits = ap (λ (v : World). v.ring.circuits) (sym last) ∙ x.circuits ∙ ap (λ (v : World). v.ring.circuits) first;
      each = λ i c both there here. (
          let h = x.each i c both (ap (λ (v : World). slice_get v.ring.circuits.circuits i) last ∙ there) here in
          record { at_a = h.at_a ∙ heard_same c.b i (port_id i A) k at bt same; at_b = h.at_b ∙ heard_same c.a i (port_id i B) k at bt same });
      near = subst (λ (v : World). AreNear v.ring.circuits.circuits (v.ring.rounds + k) streams) first x.near;
    }

-- room for as many ports as there are in one course is room for as many as there are in an equal course
pub rooms_same : (at bt : ℕ → World) (k : ℕ) (counts : List ℕ) → ((j : ℕ) → j ≤ k → at j ≡ bt j) → counts ≡ ports_by_node (at k).ring
    → counts ≡ ports_by_node (bt k).ring
rooms_same at bt k counts same x = x ∙ ap (λ (v : World). ports_by_node v.ring) (same k (le_refl k))
