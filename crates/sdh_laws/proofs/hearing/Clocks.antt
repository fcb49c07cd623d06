-- The clocks of a node's ports, and the slips that wait at them.
use Rattle.std.proofs.Common.{◌≡◌, ℕ, suc, ◌+◌, ◌≤◌, List, Some, refl, ap, ◌∙◌, arith}
use Rattle.std.specs.Prelude.{All, slice_get}
use Rattle.sdh_ringmap.specs.declared.Pos.{Pos}
use Rattle.sdh_circuits.specs.declared.PortId.{PortId}
use Rattle.sdh_circuits.specs.Provisioned.{Provisioned}
use Rattle.sdh_payload.specs.Feed.{Fed, next_feed}
use Rattle.sdh_payload.specs.declared.clock.Turn.{Turn}
use Rattle.sdh_payload.specs.declared.clock.Turn.TheVariants.{Up, Down}
use Rattle.sdh_payload.specs.Clock.{Clock, IsClock, waiting, with_waiting, ticked, ticks}
use Rattle.sdh_payload.proofs.Clocking.{next_few, slips_run_out}
use Rattle.sdh_terminal.specs.Tributaries.{Tributary, tributaries_at, with_slips}
use Rattle.sdh_node.specs.Node.{Node}
use Rattle.sdh_node.specs.Rings.Held.{HeldRing, place_of_port, AtEach}
use Rattle.sdh_node.specs.Rings.Rounds.{World, round}
use Rattle.sdh_node.specs.Rings.Clocks.{waiting_at}
use Rattle.sdh_terminal.proofs.Found.{new_ports}
use Rattle.sdh_node.proofs.RingLaws.Clocks.{slips_keep, few_waits, waiting_found}
use Rattle.sdh_laws.specs.Hearing.Placed.{HaveGone, IsPlaced}
use Rattle.sdh_laws.specs.Hearing.Paired.{FewWait}
use Rattle.sdh_laws.specs.Hearing.Laws.{NoneWait}
use Rattle.sdh_laws.proofs.hearing.Nodes.{feeds_round}

-- ---- of new ports

pub new_gone : (at : Pos) (cs : List Provisioned) → HaveGone 0 (tributaries_at at cs)
unfolding tributaries_at
new_gone at cs =
    new_ports (λ (t : Tributary). IsClock t.feed.port.offset 0 t.feed.clock)
    (λ i e d s c. record { rounds_are = refl; rest_few = omega arith; value_small = λ h. h }) at 0 cs

pub new_none : (at : Pos) (cs : List Provisioned) → NoneWait (tributaries_at at cs)
unfolding tributaries_at
new_none at cs = new_ports (λ (t : Tributary). waiting t.feed.clock ≡ 0) (λ i e d s c. refl) at 0 cs

pub new_few : (at : Pos) (cs : List Provisioned) → FewWait (tributaries_at at cs)
new_few at cs i d lt = omega (arith, new_none at cs i d lt)

-- ---- after a round

pub few_round : (w : World) → IsPlaced w → AtEach (λ p n. FewWait n.ports) w.ring.nodes
    → AtEach (λ p n. FewWait n.ports) (round w).ring.nodes
few_round w placed each = feeds_round (λ f. waiting f.clock ≤ 16) (λ f. waiting f.clock ≤ 16) (λ f h. next_few f.clock 16 h) w placed each

-- a clock after k rounds in which nothing else happens, from one at which at most 16 slips waited
pub record HasTicked (k : ℕ) (f : Fed) : Type 0 where
  pub from : Clock
  pub rest_few : from.rest ≤ 4
  pub few : waiting from ≤ 16
  pub is : f.clock ≡ ticks k from

next_ticked : (k : ℕ) (f : Fed) → HasTicked k f → HasTicked (suc k) (next_feed f)
unfolding ticks
next_ticked k f h = record { from = h.from; rest_few = h.rest_few; few = h.few; is = ap ticked h.is }

abbrev pub AllTicked : ℕ → World → Type 0
AllTicked k w = AtEach (λ p n. All (λ (t : Tributary). HasTicked k t.feed) n.ports) w.ring.nodes

pub ticked_first : (w : World) → IsPlaced w → AtEach (λ p n. FewWait n.ports) w.ring.nodes → AllTicked 0 w
unfolding ticks
ticked_first w placed each p h k d lt = record {
  from = _;
  rest_few = ((placed.between p h).gone k d lt).rest_few;
  few = each p h k d lt;
  is = refl;
}

pub ticked_round : (k : ℕ) (w : World) → IsPlaced w → AllTicked k w → AllTicked (suc k) (round w)
ticked_round k w placed each = feeds_round (HasTicked k) (HasTicked (suc k)) (next_ticked k) w placed each

-- no slip waits after 68 rounds
pub ticked_out : (k : ℕ) (ports : List Tributary) → 68 ≤ k → All (λ (t : Tributary). HasTicked k t.feed) ports → NoneWait ports
ticked_out k ports late all i d lt = let h = all i d lt in ap (λ (c : Clock). waiting c) h.is ∙ slips_run_out h.from k h.rest_few h.few late

-- ---- after slips

gone_waits : (turn : Turn) (count offset rounds : ℕ) (c : Clock) → IsClock offset rounds c
    → IsClock offset rounds (with_waiting turn count c)
gone_waits Up count offset rounds c h = record { rounds_are = h.rounds_are; rest_few = h.rest_few; value_small = h.value_small }
gone_waits Down count offset rounds c h = record { rounds_are = h.rounds_are; rest_few = h.rest_few; value_small = h.value_small }

pub gone_slipped : (rounds : ℕ) (id : PortId) (turn : Turn) (count : ℕ) (ts : List Tributary) → HaveGone rounds ts
    → HaveGone rounds (with_slips id turn count ts)
gone_slipped rounds id turn count ts gone =
    slips_keep (λ (t : Tributary). IsClock t.feed.port.offset rounds t.feed.clock) id turn count ts
    (λ t found h. gone_waits turn count t.feed.port.offset rounds t.feed.clock h) gone

pub few_slipped : (r : HeldRing) (id : PortId) (turn : Turn) (count : ℕ) (n : Node) → waiting_at r id + count ≤ 16
    → slice_get r.nodes (place_of_port r id) ≡ Some n → FewWait n.ports → FewWait (with_slips id turn count n.ports)
few_slipped r id turn count n most node few =
    slips_keep (λ (t : Tributary). waiting t.feed.clock ≤ 16) id turn count n.ports
    (λ t found h. few_waits turn count t.feed.clock (omega (arith, most, waiting_found r id n t node found))) few
