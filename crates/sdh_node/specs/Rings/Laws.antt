-- Laws of what happens between rounds, and of clocks.
use Rattle.std.specs.Prelude.{◌≡◌, ℕ, ◌+◌, ◌<◌, ◌≤◌, List, [], ◌∷◌, length}
use Rattle.sdh_ringmap.specs.declared.terms.Rate.{Rate}
use Rattle.sdh_plant.specs.Fibres.{Arrival, Fibres, IsPrepared, IsHonest}
use Rattle.sdh_ringmap.specs.Fibres.{IsConditionAt}
use Rattle.sdh_ringmap.specs.declared.Side.{Side}
use Rattle.sdh_request.specs.declared.Command.{Command}
use Rattle.sdh_circuits.specs.Provisioning.{Provisioning}
use Rattle.sdh_ringmap.specs.declared.terms.Condition.{Condition}
use Rattle.sdh_plant.specs.Calls.{prepared, after_apply}
use Rattle.sdh_request.specs.declared.settings.Settings.{Settings}
use Rattle.sdh_node.specs.Receiving.{commanded_by}
use Rattle.sdh_payload.specs.declared.clock.Turn.{Turn}
use Rattle.sdh_circuits.specs.declared.PortId.{PortId}
use Rattle.sdh_node.specs.Node.{at_receiving, held_for, slips_at}
use Rattle.sdh_node.specs.Rings.Held.{HeldRing, new_ring, at_place, place_of_port}
use Rattle.sdh_restoration.specs.Changes.{Change, Order, Hold, Slip, Now, Fibre, Stretch, rounds_in}
use Rattle.sdh_node.specs.Rings.Changes.{changed, after_stretch, after_stretches}
use Rattle.sdh_circuits.specs.Provisioned.{Provisioned}
use Rattle.sdh_payload.specs.Clock.{ticked}
use Rattle.sdh_payload.specs.Laws.{clock_by}
use Rattle.sdh_node.specs.Rings.Clocks.{clock_after, clock_in, offset_of, first_clock, clocks_by, HasPortIn, clock_at, waiting_at}
use Rattle.sdh_restoration.specs.Happened.{happened}
use Rattle.sdh_restoration.specs.Sides.{new_holding, holding_in}
use Rattle.sdh_node.specs.Rings.Sides.{holding_of, world_in, HasPositions}
use Rattle.sdh_node.specs.Rings.Rounds.{World, world, round_with}
use Rattle.sdh_node.specs.Rings.Runs.{run_with}

-- ---- between rounds

-- changes leave honest fibres honest
abbrev pub ChangesKeepHonest : Type 0
ChangesKeepHonest = (w : World) (c : Change) → IsHonest w.fibres → IsHonest (changed c w).fibres

-- what each call between rounds does to a ring or its fibres is a change
pub record CallsChange : Type 0 where
  pub command : (r : HeldRing) (f : Fibres) (p : ℕ) (d : Side) (c : Command)
      → world (record r { nodes = at_place p (at_receiving d (commanded_by c)) r.nodes }) f ≡ changed (Order p d c) (world r f)
  pub hold : (r : HeldRing) (f : Fibres) (p turns : ℕ) → world (record r { nodes = at_place p (held_for turns) r.nodes }) f
      ≡ changed (Hold p turns) (world r f)
  pub slip : (r : HeldRing) (f : Fibres) (port : PortId) (turn : Turn) (count : ℕ)
      → world (record r { nodes = at_place (place_of_port r port) (slips_at port turn count) r.nodes }) f
      ≡ changed (Slip port turn count) (world r f)
  pub moment : (r : HeldRing) (f : Fibres) (t : ℕ) → world (record r { moment = t }) f ≡ changed (Now t) (world r f)
  pub apply : (r : HeldRing) (f : Fibres) (p : ℕ) (d : Side) (c : Condition)
      → world r (after_apply f p d c) ≡ changed (Fibre p d c) (world r f)

-- A change that may happen. The condition that it gives a fibre is one that a fibre may have at the rate; a controller
-- that it holds misses at most 100 rounds; and at most 16 slips wait at a port after it.
abbrev pub IsChangeOf : World → Change → Type 0
IsChangeOf w (Fibre p d c) = IsConditionAt w.ring.settings.rate c
IsChangeOf w (Order p d c) = Unit {0}
IsChangeOf w (Hold p turns) = turns ≤ 100
IsChangeOf w (Slip port turn count) = waiting_at w.ring port + count ≤ 16
IsChangeOf w (Now t) = Unit {0}

-- each of these changes may happen, one after the other
abbrev pub AreChangesOf : World → List Change → Type 0
AreChangesOf w [] = Unit {0}
AreChangesOf w (c ∷ cs) = IsChangeOf w c × AreChangesOf (changed c w) cs

-- the changes of each of these stretches may happen, one stretch after the other
abbrev pub MayHappen : World → List Stretch → Type 0
MayHappen w [] = Unit {0}
MayHappen w (s ∷ ss) = AreChangesOf w s.changes × MayHappen (after_stretch s w) ss

-- changes that may happen leave prepared fibres prepared
abbrev pub ChangesKeepPrepared : Type 0
ChangesKeepPrepared =
    (n : ℕ) (w : World) (c : Change) → IsChangeOf w c → IsPrepared w.ring.settings.rate n w.fibres
    → IsPrepared w.ring.settings.rate n (changed c w).fibres

-- in a new ring over new fibres a clear fibre, no command and moment 0 are what holds on each side
abbrev pub NewHolds : Type 0
NewHolds =
    (s : Settings) (ids : List ℕ) (circuits : Provisioning) (rate : Rate) (f : Fibres) (p : ℕ) (d : Side) → p < length ids
    → holding_of (length ids) p d (world (new_ring s ids circuits) (prepared rate (length ids) f)) ≡ new_holding

-- what holds on a side when round t of some stretches begins follows from their history
abbrev pub HistoriesHold : Type 0
HistoriesHold =
    (n p : ℕ) (d : Side) (ss : List Stretch) (w : World) (t : ℕ) → HasPositions n w → p < n
    → holding_of n p d (world_in ss w t) ≡ holding_in n p d ss (holding_of n p d w) t

-- ---- clocks

-- The clock of each port that is in a ring starts with the offset of its customer. It goes on by each round, whatever
-- arrives, and between rounds only slips at its own port change it. So before each round of some stretches, and after
-- the last one, it is the clock by their history.
pub record ClocksGoOn : Type 0 where
  pub new : (s : Settings) (ids : List ℕ) (circuits : Provisioning) (port : PortId) → HasPortIn (new_ring s ids circuits) port
      → clock_at (new_ring s ids circuits) port ≡ first_clock circuits.circuits port
  pub round : (arrivals : List Arrival) (w : World) (port : PortId) → HasPortIn w.ring port
      → HasPortIn (round_with arrivals w).ring port × (clock_at (round_with arrivals w).ring port ≡ ticked (clock_at w.ring port))
  pub change : (c : Change) (w : World) (port : PortId) → HasPortIn w.ring port
      → HasPortIn (changed c w).ring port × (clock_at (changed c w).ring port ≡ clock_after port c (clock_at w.ring port))
  pub history : (ss : List Stretch) (w : World) (port : PortId) (t : ℕ) → HasPortIn w.ring port → t < rounds_in ss
      → clock_at (world_in ss w t).ring port ≡ clock_in port ss (clock_at w.ring port) t
  pub behind : (ss : List Stretch) (w : World) (port : PortId) → HasPortIn w.ring port
      → clock_at (after_stretches ss w).ring port ≡ clock_in port ss (clock_at w.ring port) (rounds_in ss)
  -- 68 rounds use up 16 slips: four rounds at the start, and four with each slip
  pub run_out : (rounds : List (List Arrival)) (w : World) (port : PortId) → HasPortIn w.ring port → (clock_at w.ring port).rest ≤ 4
      → waiting_at w.ring port ≤ 16 → 68 ≤ length rounds → waiting_at (run_with rounds w).ring port ≡ 0

-- the clock by a history of stretches is the clock by what happened at the port, for which `sdh_payload` has the rule
abbrev pub ClocksTellWhatHappened : Type 0
ClocksTellWhatHappened =
    (circuits : List Provisioned) (ss : List Stretch) (port : PortId) (t : ℕ)
    → clocks_by circuits ss port t ≡ clock_by (offset_of circuits port) (happened ss port t)
