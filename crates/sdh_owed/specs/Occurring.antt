-- A ring of three for which the promise of every round is worked out: after slips, after a cut span, and after a hold.
use Rattle.std.specs.Prelude.{ℕ, ◌≡◌, ◌+◌, ◌-◌, ◌<◌, ◌≤◌, List, [], ◌∷◌, ◌++◌, length}
use Rattle.sdh_ringmap.specs.declared.Side.TheVariants.{West, East}
use Rattle.sdh_ringmap.specs.declared.terms.Condition.TheVariants.{Clear, Cut}
use Rattle.sdh_circuits.specs.declared.End.TheVariants.{A}
use Rattle.sdh_payload.specs.declared.clock.Turn.TheVariants.{Up}
use Rattle.sdh_plant.specs.Fibres.{Fibres, IsHonest}
use Rattle.sdh_node.specs.Rings.Rounds.{World, round}
use Rattle.sdh_node.specs.Rings.Held.{outlet_at}
use Rattle.sdh_node.specs.Rings.Changes.{after_stretches, new_world}
use Rattle.sdh_restoration.specs.Due.{sends_by}
use Rattle.sdh_restoration.specs.Happened.{happened}
use Rattle.sdh_circuits.specs.Provisioned.{arc_of, customer_at}
use Rattle.sdh_circuits.specs.Ends.{other_end, port_id}
use Rattle.sdh_circuits.specs.declared.End.{End}
use Rattle.sdh_node.specs.Rings.Clocks.{clocks_by}
use Rattle.sdh_node.specs.Rings.Laws.{MayHappen}
use Rattle.sdh_node.specs.Rings.Sides.{world_in}
use Rattle.sdh_laws.specs.Converging.Rings.{settings, three, c1, one_circuit}
use Rattle.sdh_laws.specs.Strangers.Owners.{NoneMeetsAStranger}
use Rattle.sdh_laws.specs.Strangers.Ages.{NoneMeetsAStrangerSince}
use Rattle.sdh_laws.specs.Strangers.Transit.{IsTransit, AllComeAfterTransit}
use Rattle.sdh_laws.specs.Strangers.Laws.{HoldNonePassing, EndQuietly}
use Rattle.sdh_restoration.specs.Changes.{Change, Fibre, Hold, Slip, Stretch, rounds_in}
use Rattle.sdh_promise.specs.Owed.{Ring}
use Rattle.sdh_owed.specs.Laws.{ring_by}
use Rattle.sdh_owed.specs.Course.{stretch, IsLate, ShowsWhatIsOwed}
use Rattle.sdh_owed.specs.Strangers.{IsOldest, IsUnheld}

-- the clock of a customer slips three times
abbrev pub slipping : List Change
slipping = Slip (record { circuit = 0; end = A }) Up 3 ∷ []

-- a span is cut both ways
abbrev pub cutting : List Change
cutting = Fibre 0 East Cut ∷ Fibre 1 West Cut ∷ []

-- a controller misses seven rounds
abbrev pub seven_held : List Change
seven_held = Hold 2 7 ∷ []

abbrev pub ring_of_three : Ring
ring_of_three = ring_by settings (length three) one_circuit.circuits

abbrev pub three_over : Fibres → World
three_over f = new_world settings three one_circuit f

-- These changes may happen to the ring before its first round, and `k` rounds are enough after them. Then each port
-- shows what it is owed.
pub record IsOwedBehind (f : Fibres) (changes : List Change) (k : ℕ) : Type 0 where
  pub happens : MayHappen (three_over f) (stretch changes k ∷ [])
  pub late : IsLate (length three) changes k
  pub shows : ShowsWhatIsOwed (three_over f) ring_of_three (stretch changes k ∷ [])

-- The circuit has two of the three spans. 26 rounds after one of them is cut both its ports deliver what the other one
-- sent exactly three rounds before. That is a transit: once round the ring, past the cut span.
pub record ComesRound (f : Fibres) : Type 0 where
  pub transit : IsTransit (length three) (arc_of (length three) c1).spans 3
  pub comes : (e : End) → (let now = stretch cutting 26 ∷ [] in
      outlet_at (after_stretches now (three_over f)).ring (port_id 0 e)
      ≡ sends_by (customer_at c1 (other_end e)) (happened now (port_id 0 (other_end e)) (25 - 3)))

-- each port shows what it is owed 8n + 61 rounds after the slips, 6n + 8 after the cut, and 6n + 15 after the hold
pub record ThreeAreOwed (f : Fibres) : Type 0 where
  pub slips : IsOwedBehind f slipping 85
  pub cut : IsOwedBehind f cutting 26
  pub hold : IsOwedBehind f seven_held 33
  pub round : ComesRound f

abbrev pub ThreeAreOwedSoon : Type 0
ThreeAreOwedSoon = (f : Fibres) → IsHonest f → ThreeAreOwed f

-- ---- whose bytes come while a controller is held

-- A customer's clock slips and a span is cut, while the controller of the node that is to pass its traffic through
-- misses twenty rounds.
abbrev pub cutting_held : List Change
cutting_held = Slip (record { circuit = 0; end = A }) Up 3 ∷ Fibre 0 East Cut ∷ Fibre 1 West Cut ∷ Hold 2 20 ∷ []

-- the span is mended, while the controller of the first node, which is switched away from it, misses twenty rounds
abbrev pub mending_held : List Change
mending_held = Hold 0 20 ∷ Fibre 0 East Clear ∷ Fibre 1 West Clear ∷ []

-- the span is mended, and no controller is held
abbrev pub mending : List Change
mending = Fibre 0 East Clear ∷ Fibre 1 West Clear ∷ []

-- These stretches may happen to the ring, and each but the last ends with a quiet window. The changes of the last one
-- hold no node that passes traffic through, and `age` is the bound for its round t. So in this round no port meets a
-- stranger, nor bytes that are older than `age` rounds.
pub record GetsItsOwn (f : Fibres) (earlier : List Stretch) (last : Stretch) (t age : ℕ) : Type 0 where
  pub happens : MayHappen (three_over f) (earlier ++ last ∷ [])
  pub quiet : EndQuietly (three_over f) (earlier ++ last ∷ [])
  pub held : HoldNonePassing ring_of_three.threshold ring_of_three.wait ring_of_three.nodes earlier last.changes
  pub oldest : IsOldest ring_of_three earlier last.changes t age
  pub none : (let now = earlier ++ last ∷ [] in
      NoneMeetsAStranger (clocks_by ring_of_three.circuits now) (round (world_in now (three_over f) (rounds_in earlier + t))).ring)
  pub recent : (let now = earlier ++ last ∷ [] in
      NoneMeetsAStrangerSince (rounds_in earlier + t - age) (clocks_by ring_of_three.circuits now)
      (round (world_in now (three_over f) (rounds_in earlier + t))).ring)

-- These stretches may happen to the ring, and each but the last ends with a quiet window. In round t of the last one no
-- held controller counts any more. So in this round each port delivers AIS, ones, or what its circuit's other port sent
-- exactly one transit before.
pub record GetsItAfterTransit (f : Fibres) (earlier : List Stretch) (last : Stretch) (t : ℕ) : Type 0 where
  pub happens : MayHappen (three_over f) (earlier ++ last ∷ [])
  pub quiet : EndQuietly (three_over f) (earlier ++ last ∷ [])
  pub unheld : IsUnheld ring_of_three last.changes t
  pub comes : (let now = earlier ++ last ∷ [] in
      AllComeAfterTransit (clocks_by ring_of_three.circuits now) (round (world_in now (three_over f) (rounds_in earlier + t))).ring)

-- No port meets a stranger in the 64 rounds after the span is cut in a new ring. Nor does one in the 64 rounds after
-- the span is mended, where a quiet window came before. Bytes that come are at most 32 rounds old: 5n - 3 and the hold.
-- From round 23 on they are at most 3 rounds old, which is 2n - 3. Where no controller is held they are so in every
-- round. In the same rounds they are exactly one transit old.
pub record ThreeGetTheirOwn (f : Fibres) : Type 0 where
  pub cut : (t : ℕ) → t < 64 → GetsItsOwn f [] (stretch cutting_held 64) t 32
  pub cut_later : (t : ℕ) → 23 ≤ t → t < 64 → GetsItsOwn f [] (stretch cutting_held 64) t 3
  pub cut_unheld : (t : ℕ) → t < 64 → GetsItsOwn f [] (stretch cutting 64) t 3
  pub rounds : ℕ
  pub mended : (t : ℕ) → t < 64 → GetsItsOwn f (stretch cutting rounds ∷ []) (stretch mending_held 64) t 32
  pub mended_later : (t : ℕ) → 23 ≤ t → t < 64 → GetsItsOwn f (stretch cutting rounds ∷ []) (stretch mending_held 64) t 3
  pub mended_unheld : (t : ℕ) → t < 64 → GetsItsOwn f (stretch cutting rounds ∷ []) (stretch mending 64) t 3
  pub cut_transit : (t : ℕ) → t < 64 → GetsItAfterTransit f [] (stretch cutting 64) t
  pub mended_transit : (t : ℕ) → t < 64 → GetsItAfterTransit f (stretch cutting rounds ∷ []) (stretch mending 64) t
  pub held_transit : (t : ℕ) → 23 ≤ t → t < 64 → GetsItAfterTransit f (stretch cutting rounds ∷ []) (stretch mending_held 64) t

abbrev pub ThreeMeetNoStrangers : Type 0
ThreeMeetNoStrangers = (f : Fibres) → IsHonest f → ThreeGetTheirOwn f
