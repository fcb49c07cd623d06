-- The listeners, round by round.
use Rattle.std.proofs.Common.{◌≡◌, ℕ, zero, suc, ◌+◌, ◌-◌, ◌^◌, ◌<◌, ◌≤◌, List, [], ◌∷◌, ◌++◌, length, take, None, Some, refl, ap, sym}
use Rattle.std.proofs.Common.{subst, ◌∙◌, arith}
use Rattle.std.specs.Prelude.{slice_get, Option, option_map, is_some}
use Rattle.std.proofs.lemmas.Option.{slice_get_within}
use Rattle.sdh_circuits.specs.declared.PortId.{PortId}
use Rattle.sdh_circuits.specs.declared.End.{End}
use Rattle.sdh_circuits.specs.declared.End.TheVariants.{A, B}
use Rattle.sdh_circuits.specs.Ends.{other_end, port_id}
use Rattle.sdh_circuits.specs.Provisioned.{Provisioned, customer_at}
use Rattle.sdh_circuits.specs.Provisioning.{Provisioning}
use Rattle.sdh_payload.specs.Customer.{Customer}
use Rattle.sdh_node.specs.Stations.{adm}
use Rattle.sdh_rounds.proofs.Laws.{rounds_keep}
use Rattle.sdh_node.specs.Rings.Held.{HeldRing}
use Rattle.sdh_node.specs.Rings.Rounds.{World}
use Rattle.sdh_node.specs.Rings.Runs.{IsRound}
use Rattle.sdh_ring.specs.Observed.{RanOne}
use Rattle.sdh_outage.specs.Kinds.{Whose, kind_of, kinds_of, last_heard}
use Rattle.sdh_outage.specs.Outages.{outage_of}
use Rattle.sdh_outage.specs.Changes.{kind_changes}
use Rattle.sdh_outage.specs.Kept.{Nearby, Heard, heard}
use Rattle.sdh_scripts.proofs.Lists.{some_at}
use Rattle.sdh_outage_cli.specs.Outages.{delivered_at, kinds_in, outage_in, whose_in, ports_out, trace_at, trace_in}
use Rattle.sdh_outage_cli.specs.Streams.{AreNear, HaveStepped}
use Rattle.sdh_outage_cli.specs.Lines.{told_line, outage_changes_text, trace_text}
use Rattle.sdh_outage_cli.specs.Ports.{AreReady, delivered_in, listener_after, IsListening, AreListening, AreFew, HaveBegun, Listens, ListenersLooked}
use Rattle.sdh_outage_cli.specs.Ports.{outages_shown, listener_at, heard_lines, outage_port_lines}
use Rattle.sdh_outage_cli.specs.declared.ports.ListenerPair.{ListenerPair}
use Rattle.sdh_outage_cli.specs.declared.streams.StreamPair.{StreamPair}

-- ---- what was delivered in a course

length-delivered : (port : PortId) (k : ℕ) (at : ℕ → World) → length (delivered_in port k at) ≡ k
length-delivered port zero at = refl
length-delivered port (suc k) at = ap suc (length-delivered port k at)

-- ---- a step begins

-- a listener that began anew
began_is : (far : Customer) (whose : Whose) (r : HeldRing) (port : PortId) (at : ℕ → World) (rounds : ℕ) (after : Heard) → r ≡ (at 0).ring
    → rounds ≡ r.rounds → after ≡ heard far whose rounds (delivered_at r port) [] → after ≡ listener_after far whose port 0 at
began_is far whose r port at rounds after is round began =
    began ∙ ap (λ n. heard far whose n (delivered_at r port) []) round
    ∙ ap (λ (x : HeldRing). heard far whose x.rounds (delivered_at x port) []) is

-- the bytes that are near before the first round
no_more : (at : ℕ → World) (streams : List StreamPair) → AreNear (at 0).ring.circuits.circuits (at 0).ring.rounds streams
    → AreNear (at 0).ring.circuits.circuits ((at 0).ring.rounds + 0) streams
no_more at streams x =
    let none : (at 0).ring.rounds ≡ (at 0).ring.rounds + 0 = omega arith in
    subst (λ n. AreNear (at 0).ring.circuits.circuits n streams) none x

pub listening_none : (r : HeldRing) (old new : List ListenerPair) (streams : List StreamPair) → r.rounds ≤ 2 ^ 31
    → AreReady r.circuits.circuits r.rounds old streams → length new ≡ length old
    → ((i : ℕ) (before after : ListenerPair) → slice_get old i ≡ Some before → slice_get new i ≡ Some after → HaveBegun r i before after)
    → (at : ℕ → World) → r ≡ (at 0).ring → AreListening at 0 new streams
listening_none r old new streams few ready many each at is = record {
  few = subst (λ (x : HeldRing). x.rounds ≤ 2 ^ 31) is few;
  many = many ∙ ready.many ∙ ap (λ (x : HeldRing). length x.circuits.circuits) is;
  circuits = refl;
  each = λ i c after there here. (
      let was = some_at old i (let h = slice_get_within new i after here in omega (arith, many)) in
      let mine = ready.rounds_are i was.0 was.1 in
      let begun = each i was.0 after was.1 here in
      let whose = whose_in at i in
      record {
        at_a = began_is c.b whose r (port_id i A) at was.0.a.round after.a is mine.0 (begun.a c.b whose);
        at_b = began_is c.a whose r (port_id i B) at was.0.b.round after.b is mine.1 (begun.b c.a whose);
      });
  near = no_more at streams (subst (λ (x : HeldRing). AreNear x.circuits.circuits x.rounds streams) is ready.near);
}

-- ---- one round more

circuits_kept : (w after : World) → IsRound w after → after.ring.circuits ≡ w.ring.circuits
circuits_kept w after is = ap (λ (r : HeldRing). r.circuits) (rounds_keep adm w after is).0.ring

-- how many rounds a listener has heard of
rounds_of : (far : Customer) (whose : Whose) (port : PortId) (k : ℕ) (at : ℕ → World) (h : Heard) → h ≡ listener_after far whose port k at
    → h.round ≡ (at 0).ring.rounds + k
rounds_of far whose port k at h is = ap (λ (x : Heard). x.round) is ∙ ap (λ n. (at 0).ring.rounds + n) (length-delivered port k at)

-- the bytes that are near a round later
near_more : (circuits : List Provisioned) (round : ℕ) (old new : List StreamPair) → AreNear circuits round old → length new ≡ length old
    → ((i : ℕ) (before after : StreamPair) → slice_get old i ≡ Some before → slice_get new i ≡ Some after → HaveStepped before after)
    → AreNear circuits (round + 1) new
near_more circuits round old new x many each = record {
  many = many ∙ x.many;
  each = λ i c after there here. (
      let was = some_at old i (let h = slice_get_within new i after here in omega (arith, many)) in
      let before = x.each i c was.0 there was.1 in
      let stepped = each i was.0 after was.1 here in
      record {
        a = stepped.a ∙ ap (λ (n : Nearby). let m : Nearby = record n { round = n.round + 1 } in m) before.a;
        b = stepped.b ∙ ap (λ (n : Nearby). let m : Nearby = record n { round = n.round + 1 } in m) before.b;
      });
}

-- a listener that heard one more round
module _ (at : ℕ → World) (k : ℕ) (r : HeldRing) (streams : List StreamPair) (i : ℕ) (c : Provisioned) (end : End)
    (ring : r ≡ (at (suc k)).ring)
    (there : slice_get (at 0).ring.circuits.circuits i ≡ Some c)
    (near : AreNear (at 0).ring.circuits.circuits ((at 0).ring.rounds + k) streams) where
  abbrev far : Customer
  far = customer_at c (other_end end)

  abbrev own : PortId
  own = port_id i end

  hears_more : (before after : Heard) → before ≡ listener_after far (whose_in at i) own k at → Listens r own streams before after
      → after ≡ listener_after far (whose_in at i) own (suc k) at
  hears_more before after is listens =
      let cs = (at 0).ring.circuits.circuits in
      let first = (at 0).ring.rounds in
      let last = delivered_at (at 0).ring own in
      let past = delivered_in own k at in
      let here = subst (λ n. AreNear cs n streams) (sym (rounds_of far (whose_in at i) own k at before is)) near in
      listens cs c here there first last past is
      ∙ ap (λ (v : HeldRing). heard far (whose_in at i) first last (delivered_at v own ∷ past)) ring

pub listening_more : (at : ℕ → World) (k : ℕ) (r : HeldRing) (old new : List ListenerPair) (streams later : List StreamPair)
    → AreListening at k old streams → RanOne at k r
    → length new ≡ length old
    → ((i : ℕ) (before after : ListenerPair) → slice_get old i ≡ Some before → slice_get new i ≡ Some after → ListenersLooked r streams i before after)
    → length later ≡ length streams
    → ((i : ℕ) (before after : StreamPair) → slice_get streams i ≡ Some before → slice_get later i ≡ Some after → HaveStepped before after)
    → AreListening at (suc k) new later
listening_more at k r old new streams later x ran many each steps stepped =
    let same = circuits_kept (at k) (at (suc k)) ran.round in
    let next : (at 0).ring.rounds + k + 1 ≡ (at 0).ring.rounds + suc k = omega arith in
    record {
      few = x.few;
      many = many ∙ x.many ∙ ap (λ (p : Provisioning). length p.circuits) (sym same);
      circuits = same ∙ x.circuits;
      each = λ i c after there here. (
          let was = some_at old i (let h = slice_get_within new i after here in omega (arith, many)) in
          let before = x.each i c was.0 (ap (λ (p : Provisioning). slice_get p.circuits i) (sym same) ∙ there) was.1 in
          let looked = each i was.0 after was.1 here in
          let first = ap (λ (p : Provisioning). slice_get p.circuits i) (sym (same ∙ x.circuits)) ∙ there in
          record {
            at_a = hears_more at k r streams i c A ran.ring_is first x.near was.0.a after.a before.at_a looked.a;
            at_b = hears_more at k r streams i c B ran.ring_is first x.near was.0.b after.b before.at_b looked.b;
          });
      near = subst (λ n. AreNear (at 0).ring.circuits.circuits n later) next
          (near_more (at 0).ring.circuits.circuits ((at 0).ring.rounds + k) streams later x.near steps stepped);
    }

-- there are as many listeners as the ring has circuits, and customers' bytes for each
pub many_more : (at : ℕ → World) (k : ℕ) (r : HeldRing) (items : List ListenerPair) (streams : List StreamPair) → AreListening at k items streams
    → RanOne at k r → length items ≡ length r.circuits.circuits
many_more at k r items streams x ran =
    x.many ∙ ap (λ (p : Provisioning). length p.circuits) (sym (circuits_kept (at k) (at (suc k)) ran.round))
    ∙ ap (λ (v : HeldRing). length v.circuits.circuits) (sym ran.ring_is)

pub near_many : (at : ℕ → World) (k : ℕ) (r : HeldRing) (items : List ListenerPair) (streams : List StreamPair) → AreListening at k items streams
    → RanOne at k r → length streams ≡ length r.circuits.circuits
near_many at k r items streams x ran =
    x.near.many ∙ ap (λ (p : Provisioning). length p.circuits) (sym (circuits_kept (at k) (at (suc k)) ran.round ∙ x.circuits))
    ∙ ap (λ (v : HeldRing). length v.circuits.circuits) (sym ran.ring_is)

pub few_heard : (at : ℕ → World) (k : ℕ) (items : List ListenerPair) (streams : List StreamPair) → k < 65536 → AreListening at k items streams
    → AreFew (2 ^ 31 + 65536) items
few_heard at k items streams small x i both here =
    let named = some_at (at k).ring.circuits.circuits i (let h = slice_get_within items i both here in omega (arith, x.many)) in
    let h = x.each i named.0 both named.1 here in
    let few = x.few in
    let a = rounds_of named.0.b (whose_in at i) (port_id i A) k at both.a h.at_a in
    let b = rounds_of named.0.a (whose_in at i) (port_id i B) k at both.b h.at_b in
    (omega arith, omega arith)

pub few_near : (at : ℕ → World) (k : ℕ) (items : List ListenerPair) (streams : List StreamPair) → k < 65536 → AreListening at k items streams
    → (i : ℕ) (pair : StreamPair) → slice_get streams i ≡ Some pair → (pair.a.round ≤ 2 ^ 31 + 65536) × (pair.b.round ≤ 2 ^ 31 + 65536)
few_near at k items streams small x i pair here =
    let named = some_at (at 0).ring.circuits.circuits i (let h = slice_get_within streams i pair here in omega (arith, x.near.many)) in
    let n = x.near.each i named.0 pair named.1 here in
    let few = x.few in
    let a = ap (λ (y : Nearby). y.round) n.a in
    let b = ap (λ (y : Nearby). y.round) n.b in
    (omega arith, omega arith)

-- ---- a step ended

-- the listeners have heard of all rounds
pub ready_then : (at : ℕ → World) (k : ℕ) (items : List ListenerPair) (streams : List StreamPair) → AreListening at k items streams
    → (at k).ring.rounds ≡ (at 0).ring.rounds + k → AreReady (at k).ring.circuits.circuits (at k).ring.rounds items streams
ready_then at k items streams x rounds = record {
  many = x.many;
  rounds_are = λ i both here. (
      let named = some_at (at k).ring.circuits.circuits i (let h = slice_get_within items i both here in omega (arith, x.many)) in
      let h = x.each i named.0 both named.1 here in (
        rounds_of named.0.b (whose_in at i) (port_id i A) k at both.a h.at_a ∙ sym rounds,
        rounds_of named.0.a (whose_in at i) (port_id i B) k at both.b h.at_b ∙ sym rounds,
      ));
  near = subst (λ n. AreNear (at k).ring.circuits.circuits n streams) (sym rounds)
      (subst (λ (p : Provisioning). AreNear p.circuits ((at 0).ring.rounds + k) streams) (sym x.circuits) x.near);
}

-- lists of equal length have elements at equal places
both_there : {X Y : Type 0} (xs : List X) (ys : List Y) (i : ℕ) → length xs ≡ length ys
    → is_some (slice_get xs i) ≡ is_some (slice_get ys i)
both_there [] [] i long = refl
both_there [] (y ∷ ys) i long = absurd (omega arith)
both_there (x ∷ xs) [] i long = absurd (omega arith)
both_there (x ∷ xs) (y ∷ ys) zero long = refl
both_there (x ∷ xs) (y ∷ ys) (suc i) long = both_there xs ys i (omega arith)

module _ (at : ℕ → World) where
  -- a port delivered last what it did in the last round
  last_is : (port : PortId) (k : ℕ) → last_heard (delivered_at (at 0).ring port) (delivered_in port k at) ≡ delivered_at (at k).ring port
  last_is port zero = refl
  last_is port (suc k) = refl

  -- the kinds of the rounds for a port follow from what it delivered
  kinds_are : (far : Customer) (whose : Whose) (port : PortId) (k : ℕ) → ((j : ℕ) → j ≤ k → (at j).ring.rounds ≡ (at 0).ring.rounds + j)
      → kinds_of far whose (at 0).ring.rounds (delivered_at (at 0).ring port) (delivered_in port k at) ≡ kinds_in far whose port k at
  kinds_are far whose port zero rounds = refl
  kinds_are far whose port (suc k) rounds =
      let now = delivered_at (at (suc k)).ring port in
      let number : (at 0).ring.rounds + length (delivered_in port k at) ≡ (at (suc k)).ring.rounds - 1 =
      (let here = rounds (suc k) (omega arith) in omega (arith, length-delivered port k at)) in
      let last = last_is port k in
      let rest = kinds_are far whose port k (λ j h. rounds j (omega arith)) in
      λ i. kind_of far whose (number i) (last i) now ∷ rest i

  outage_is : (far : Customer) (whose : Whose) (port : PortId) (k : ℕ) (h : Heard)
      → ((j : ℕ) → j ≤ k → (at j).ring.rounds ≡ (at 0).ring.rounds + j)
      → h ≡ listener_after far whose port k at → h.outage ≡ outage_in far whose port k at
  outage_is far whose port k h rounds is =
      ap (λ (x : Heard). x.outage) is ∙ ap (outage_of (at 0).ring.rounds) (kinds_are far whose port k rounds)

  -- the listeners show the outages of the ports
  shown_from : (k : ℕ) → ((j : ℕ) → j ≤ k → (at j).ring.rounds ≡ (at 0).ring.rounds + j)
      → (cs : List Provisioned) (items : List ListenerPair) (index : ℕ) → length items ≡ length cs
      → ((i : ℕ) (c : Provisioned) (both : ListenerPair) → slice_get cs i ≡ Some c → slice_get items i ≡ Some both
      → IsListening k at c (index + i) both) → outages_shown cs items ≡ ports_out k at index cs
  shown_from k rounds [] items index many each = refl
  shown_from k rounds (c ∷ cs) [] index many each = absurd (omega arith)
  shown_from k rounds (c ∷ cs) (both ∷ items) index many each =
      let none : index + 0 ≡ index = omega arith in
      let here : IsListening k at c index both = subst (λ n. IsListening k at c n both) none (each 0 c both refl refl) in
      let a = outage_is c.b (whose_in at index) (port_id index A) k both.a rounds here.at_a in
      let b = outage_is c.a (whose_in at index) (port_id index B) k both.b rounds here.at_b in
      let rest =
      shown_from k rounds cs items (index + 1) (omega arith)
      (λ i d other there at_i. (let next : index + suc i
      ≡ index + 1 + i = omega arith in subst (λ n. IsListening k at d n other) next (each (suc i) d other there at_i))) in
      λ i. record { name = c.name; end = A; outage = a i } ∷ record { name = c.name; end = B; outage = b i } ∷ rest i

  pub shown_is : (k : ℕ) (items : List ListenerPair) (streams : List StreamPair) → ((j : ℕ) → j ≤ k → (at j).ring.rounds ≡ (at 0).ring.rounds + j)
      → AreListening at k items streams → outages_shown (at k).ring.circuits.circuits items ≡ ports_out k at 0 (at k).ring.circuits.circuits
  shown_is k items streams rounds x =
      shown_from k rounds (at k).ring.circuits.circuits items 0 x.many
      (λ i c both there here. (let none : i ≡ 0 + i = omega arith in subst (λ n. IsListening k at c n both) none
      (x.each i c both there here)))

  -- the listener on a port shows what the port went through
  heard_is : (cs : List Provisioned) (far : Customer) (index : ℕ) (end : End) (name : List ℕ) (k : ℕ) (h : Heard)
      → ((j : ℕ) → j ≤ k → (at j).ring.rounds ≡ (at 0).ring.rounds + j) → h ≡ listener_after far (whose_in at index) (port_id index end) k at
      → heard_lines cs name end h ≡ trace_text cs (Some (record {
        changes = kind_changes (at 0).ring.rounds (kinds_in far (whose_in at index) (port_id index end) k at);
        out = record { name = name; end = end; outage = outage_in far (whose_in at index) (port_id index end) k at };
      }))
  heard_is cs far index end name k h rounds is =
      let first = (at 0).ring.rounds in
      ap (heard_lines cs name end) is
      ∙ ap (λ kinds. outage_changes_text (take 64 (kind_changes first kinds)) (length (kind_changes first kinds) - 64)
      ++ told_line cs (record { name = name; end = end; outage = outage_of first kinds }))
      (kinds_are far (whose_in at index) (port_id index end) k rounds)

  end_is : (c : Provisioned) (index : ℕ) (k : ℕ) (both : ListenerPair) (end : End) → IsListening k at c index both
      → listener_at both end ≡ listener_after (customer_at c (other_end end)) (whose_in at index) (port_id index end) k at
  end_is c index k both A x = x.at_a
  end_is c index k both B x = x.at_b

  trace_shown : (cs : List Provisioned) (k index : ℕ) (end : End) (c : Option Provisioned) (both : Option ListenerPair)
      → ((j : ℕ) → j ≤ k → (at j).ring.rounds ≡ (at 0).ring.rounds + j)
      → is_some c ≡ is_some both → ((d : Provisioned) (b : ListenerPair) → c ≡ Some d → both ≡ Some b → IsListening k at d index b)
      → outage_port_lines cs c both end ≡ trace_text cs (option_map (λ d. trace_at k at index d end) c)
  trace_shown cs k index end None None rounds same each = refl
  trace_shown cs k index end None (Some both) rounds same each = refl
  trace_shown cs k index end (Some c) None rounds same each = absurd (grind arith)
  trace_shown cs k index end (Some c) (Some both) rounds same each =
      heard_is cs (customer_at c (other_end end)) index end c.name k (listener_at both end) rounds
      (end_is c index k both end (each c both refl refl))

  pub trace_is : (k : ℕ) (items : List ListenerPair) (streams : List StreamPair) → ((j : ℕ) → j ≤ k → (at j).ring.rounds ≡ (at 0).ring.rounds + j)
      → AreListening at k items streams → (port : PortId)
      → outage_port_lines (at k).ring.circuits.circuits (slice_get (at k).ring.circuits.circuits port.circuit) (slice_get items port.circuit) port.end
      ≡ trace_text (at k).ring.circuits.circuits (trace_in k at (at k).ring.circuits.circuits port)
  trace_is k items streams rounds x port =
      let cs = (at k).ring.circuits.circuits in
      trace_shown cs k port.circuit port.end (slice_get cs port.circuit) (slice_get items port.circuit) rounds
      (both_there cs items port.circuit (sym x.many)) (x.each port.circuit)
