-- Rounds one after the other, and what the watches were given in them.
use Rattle.std.proofs.Common.{◌≡◌, ℕ, zero, suc, ◌+◌, ◌≤◌, List, [], ◌∷◌, length, Some, refl, ap, sym, subst, ◌∙◌, arith}
use Rattle.std.specs.Prelude.{slice_get}
use Rattle.std.proofs.lemmas.Option.{slice_get_within}
use Rattle.sdh_circuits.specs.declared.PortId.{PortId}
use Rattle.sdh_circuits.specs.declared.End.TheVariants.{A, B}
use Rattle.sdh_circuits.specs.Ends.{port_id}
use Rattle.sdh_node.specs.Rings.Held.{HeldRing}
use Rattle.sdh_node.specs.Rings.Rounds.{World}
use Rattle.sdh_node.specs.Rings.Runs.{IsRound}
use Rattle.sdh_node.specs.Rings.Clocks.{waiting_at}
use Rattle.sdh_node.specs.Stations.{adm}
use Rattle.sdh_rounds.proofs.Runs.{held_round}
use Rattle.sdh_rounds.proofs.Settling.{held_none}
use Rattle.sdh_path.specs.History.{Given}
use Rattle.sdh_scripts.proofs.Lists.{some_at}
use Rattle.sdh_watch.specs.declared.ports.WatchPair.{WatchPair}
use Rattle.sdh_watch.specs.Watching.{Lead, given_of}
use Rattle.sdh_watch.specs.Ports.{AreWatching, AreFew, Looked, Shown}
use Rattle.sdh_node.proofs.RingLaws.Waiting.{none_round}

-- ---- the ring

pub held_one : (w left : World) → IsRound w left → left.ring ≡ record w.ring { nodes = left.ring.nodes; rounds = w.ring.rounds + 1 }
held_one w left is =
    subst (λ (v : World). v.ring ≡ record w.ring { nodes = v.ring.nodes; rounds = w.ring.rounds + 1 }) (sym is.after_is)
    (held_round adm is.arrivals w)

-- what k + 1 rounds leave of a ring, from what k rounds and one more leave
pub held_more : (w mid left : World) (k : ℕ) → mid.ring ≡ record w.ring { nodes = mid.ring.nodes; rounds = w.ring.rounds + k }
    → IsRound mid left → left.ring ≡ record w.ring { nodes = left.ring.nodes; rounds = w.ring.rounds + (k + 1) }
held_more w mid left k held is =
    held_one mid left is
    ∙ ap (λ (r : HeldRing). record r { nodes = left.ring.nodes; rounds = r.rounds + 1 }) held
    ∙ ap (λ n. record w.ring { nodes = left.ring.nodes; rounds = n }) (omega arith)

pub held_lead : (k : ℕ) (w left : World) (heard : PortId → List Given) → Lead k w left heard
    → left.ring ≡ record w.ring { nodes = left.ring.nodes; rounds = w.ring.rounds + k }
held_lead zero w left heard lead =
    subst (λ (v : World). v.ring ≡ record w.ring { nodes = v.ring.nodes; rounds = w.ring.rounds + 0 }) (sym lead.0) (held_none w.ring)
held_lead (suc k) w left heard (mid, before, lead, is, more) =
    held_more w mid left k (held_lead k w mid before lead) is
    ∙ ap (λ n. record w.ring { nodes = left.ring.nodes; rounds = n }) (omega arith)

-- ---- slips

-- where no slip waits, none waits after more rounds
pub none_lead : (k : ℕ) (w left : World) (heard : PortId → List Given) → Lead k w left heard → (id : PortId) → waiting_at w.ring id ≡ 0
    → waiting_at left.ring id ≡ 0
none_lead zero w left heard lead id none = ap (λ (v : World). waiting_at v.ring id) lead.0 ∙ none
none_lead (suc k) w left heard (mid, before, lead, is, more) id none =
    ap (λ (v : World). waiting_at v.ring id) is.after_is ∙ none_round is.arrivals mid id (none_lead k w mid before lead id none)

-- ---- the watches

pub shown_none : (w : World) (watches : List WatchPair) → AreWatching w.ring.circuits.circuits (λ port. []) watches → Shown 0 w w watches
shown_none w watches are = record { heard = λ port. []; rounds = (refl, λ port. refl); watching = are }

-- after one round more, in which each watch looked
pub shown_more : (k : ℕ) (w mid left : World) (old new : List WatchPair) → Shown k w mid old → IsRound mid left → length new ≡ length old
    → ((i : ℕ) (before after : WatchPair) → slice_get old i ≡ Some before → slice_get new i ≡ Some after → Looked left.ring i before after)
    → Shown (k + 1) w left new
shown_more k w mid left old new shown is many each =
    let heard = λ (port : PortId). given_of left.ring port ∷ shown.heard port in
    let lead : Lead (suc k) w left heard = (mid, shown.heard, shown.rounds, is, λ port. refl) in
    let on : suc k ≡ k + 1 = omega arith in
    record {
      heard = heard;
      rounds = subst (λ j. Lead j w left heard) on lead;
      watching = record {
        many = many ∙ shown.watching.many;
        each = λ i c after there at. (
            let was = some_at old i (let h = slice_get_within new i after at in omega (arith, many)) in
            let looked = each i was.0 after was.1 at in
            let before = shown.watching.each i c was.0 there was.1 in
            record {
              at_a = looked.a c.b.trace (shown.heard (port_id i A)) before.at_a;
              at_b = looked.b c.a.trace (shown.heard (port_id i B)) before.at_b;
            });
      };
    }

pub few_more : (r : HeldRing) (k : ℕ) (old new : List WatchPair) → AreFew k old → length new ≡ length old
    → ((i : ℕ) (before after : WatchPair) → slice_get old i ≡ Some before → slice_get new i ≡ Some after → Looked r i before after)
    → AreFew (k + 1) new
few_more r k old new few many each i after at =
    let was = some_at old i (let h = slice_get_within new i after at in omega (arith, many)) in
    let looked = each i was.0 after was.1 at in
    let h = few i was.0 was.1 in
    (omega (arith, looked.few_a, h.0), omega (arith, looked.few_b, h.1))

pub few_enough : (k m : ℕ) (watches : List WatchPair) → k ≤ m → AreFew k watches → AreFew m watches
few_enough k m watches le few i both at = let h = few i both at in (omega (arith, h.0, le), omega (arith, h.1, le))
