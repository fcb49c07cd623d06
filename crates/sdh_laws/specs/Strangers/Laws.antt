-- No port ever delivers another customer's byte: the laws, for every round of a ring over honest fibres in which only
-- controllers of certain nodes are held. These are nodes that stand aside, and after a quiet window all nodes but those
-- that pass traffic through.
use Rattle.std.specs.Prelude.{ℕ, ◌≡◌, ◌⊎◌, ◌+◌, ◌-◌, ◌*◌, ◌<◌, ◌≤◌, ◌/◌, Bool, Some, List, [], ◌∷◌, ◌++◌, length, slice_get}
use Rattle.sdh_ringmap.specs.Rates.{n_of}
use Rattle.sdh_nodestate.specs.declared.NodeState.{NodeState}
use Rattle.sdh_nodestate.specs.declared.NodeState.TheVariants as state
use Rattle.sdh_ringmap.specs.Ids.{AreIds}
use Rattle.sdh_circuits.specs.Provisioning.{Provisioning, AreCircuits}
use Rattle.sdh_circuits.specs.declared.PortId.{PortId}
use Rattle.sdh_payload.specs.Clock.{Clock}
use Rattle.sdh_plant.specs.Fibres.{Fibres, IsHonest}
use Rattle.sdh_request.specs.declared.settings.Settings.{Settings}
use Rattle.sdh_node.specs.Rings.Held.{AtEach, node_at}
use Rattle.sdh_node.specs.Rings.Rounds.{World, round}
use Rattle.sdh_node.specs.Rings.Runs.{IsRound, run, course}
use Rattle.sdh_node.specs.Rings.Quiet.{Settles, Unsettles, EndsWindow}
use Rattle.sdh_restoration.specs.Changes.{Change, Stretch, rounds_in}
use Rattle.sdh_restoration.specs.Changes.{Fibre, Order, Hold, Slip, Now}
use Rattle.sdh_node.specs.Rings.Changes.{changed, all_changed, after_stretch, new_world}
use Rattle.sdh_node.specs.Rings.Clocks.{clocks_by}
use Rattle.sdh_node.specs.Rings.Laws.{IsChangeOf, MayHappen}
use Rattle.sdh_node.specs.Rings.Sides.{world_in}
use Rattle.sdh_restoration.specs.Applied.{span_requests}
use Rattle.sdh_signal.specs.Settled.{settled}
use Rattle.sdh_restoration.specs.Sides.{asked_in}
use Rattle.sdh_laws.specs.Hearing.Laws.{IsWhole, MayStart}
use Rattle.sdh_laws.specs.Carrying.Windows.{layout_of, HasCircuits}
use Rattle.sdh_laws.specs.Strangers.Owners.{NoneMeetsAStranger, AreClocksOf, AreClocksBetween}
use Rattle.sdh_laws.specs.Strangers.Ages.{NoneMeetsAStrangerSince}
use Rattle.sdh_laws.specs.Strangers.Transit.{IsTransit, AllComeAfterTransit}
use Rattle.sdh_circuits.specs.Provisioned.{Provisioned, arc_of}
use Rattle.sdh_restoration.specs.Routes.{hops}
use Rattle.sdh_laws.specs.Strangers.Vouched.{IsAside, IsVouched}

-- ---- no controller is held

-- a change holds no controller
abbrev pub HoldsNone : Change → Type 0
HoldsNone (Fibre p d condition) = Unit {0}
HoldsNone (Order p d command) = Unit {0}
HoldsNone (Hold p turns) = turns ≡ 0
HoldsNone (Slip port turn count) = Unit {0}
HoldsNone (Now t) = Unit {0}

-- none of these changes holds a controller
abbrev pub HoldNone : List Change → Type 0
HoldNone [] = Unit {0}
HoldNone (c ∷ cs) = HoldsNone c × HoldNone cs

-- none of these stretches has a change that holds a controller
abbrev pub NoneHolds : List Stretch → Type 0
NoneHolds [] = Unit {0}
NoneHolds (s ∷ ss) = HoldNone s.changes × NoneHolds ss

-- ---- only controllers of nodes that stand aside are held

-- a change holds no controller, or that of a node that stands aside when the change comes
abbrev pub HoldsAside : World → Change → Type 0
HoldsAside w (Fibre p d condition) = Unit {0}
HoldsAside w (Order p d command) = Unit {0}
HoldsAside w (Hold p turns) = (turns ≡ 0) ⊎ IsAside (node_at w.ring.nodes p).state
HoldsAside w (Slip port turn count) = Unit {0}
HoldsAside w (Now t) = Unit {0}

-- each of some changes may be made, one after the other, where `May` says which change may be made to a world
abbrev pub EachMay : (World → Change → Type 0) → World → List Change → Type 0
EachMay May w [] = Unit {0}
EachMay May w (c ∷ cs) = May w c × EachMay May (changed c w) cs

-- each change of some stretches may be made, one after the other, where `May` says which change may be made to a world
abbrev pub AllMay : (World → Change → Type 0) → World → List Stretch → Type 0
AllMay May w [] = Unit {0}
AllMay May w (s ∷ ss) = EachMay May w s.changes × AllMay May (after_stretch s w) ss

-- all controllers that these stretches hold are those of nodes that stand aside then
abbrev pub HeldAside : World → List Stretch → Type 0
HeldAside w ss = AllMay HoldsAside w ss

-- ---- only controllers of nodes that don't pass traffic through are held

-- a node that doesn't pass traffic through
abbrev pub IsNoPass : NodeState → Type 0
IsNoPass (state.Idle i) = Unit {0}
IsNoPass (state.Isolated i) = Unit {0}
IsNoPass (state.PassThrough i) = ⊥
IsNoPass (state.SwitchWest f) = Unit {0}
IsNoPass (state.SwitchEast f) = Unit {0}

-- a change holds no controller, or that of a node that doesn't pass traffic through when the change comes
abbrev pub HoldsNoPass : World → Change → Type 0
HoldsNoPass w (Fibre p d condition) = Unit {0}
HoldsNoPass w (Order p d command) = Unit {0}
HoldsNoPass w (Hold p turns) = (turns ≡ 0) ⊎ IsNoPass (node_at w.ring.nodes p).state
HoldsNoPass w (Slip port turn count) = Unit {0}
HoldsNoPass w (Now t) = Unit {0}

-- In each of the stretches only controllers of nodes that stand aside are held. Where the stretch before it ended with
-- a quiet window, those of all nodes that don't pass traffic through may be held.
abbrev pub HeldBesidePassing : Type 0 → World → List Stretch → Type 0
HeldBesidePassing Quiet w [] = Unit {0}
HeldBesidePassing Quiet w (s ∷ ss) =
    (EachMay HoldsAside w s.changes ⊎ (Quiet × EachMay HoldsNoPass w s.changes))
    × HeldBesidePassing (EndsWindow (course (all_changed s.changes w)) s.rounds) (after_stretch s w) ss

-- ---- where requests follow from what happened

-- the requests of all spans in the last round of these stretches, from a new ring of n on, with this threshold and this
-- waiting time
abbrev pub last_requests : ℕ → ℕ → ℕ → List Stretch → List ℕ
last_requests threshold wait n ss = span_requests n (asked_in threshold wait n ss (rounds_in ss - 1))

-- After these stretches a change holds no controller, or that of a node that doesn't pass traffic through. In a new
-- ring no node passes traffic through. In a ring after a quiet window the requests of the last round decide which nodes
-- do.
abbrev pub HoldsNonePassing : ℕ → ℕ → ℕ → List Stretch → Change → Type 0
HoldsNonePassing threshold wait n earlier (Fibre p d condition) = Unit {0}
HoldsNonePassing threshold wait n earlier (Order p d command) = Unit {0}
HoldsNonePassing threshold wait n earlier (Hold p turns) =
    (turns ≡ 0) ⊎ ((earlier ≡ []) ⊎ IsNoPass (settled (last_requests threshold wait n earlier) p))
HoldsNonePassing threshold wait n earlier (Slip port turn count) = Unit {0}
HoldsNonePassing threshold wait n earlier (Now t) = Unit {0}

-- after these stretches none of these changes holds a controller of a node that passes traffic through
abbrev pub HoldNonePassing : ℕ → ℕ → ℕ → List Stretch → List Change → Type 0
HoldNonePassing threshold wait n earlier [] = Unit {0}
HoldNonePassing threshold wait n earlier (c ∷ cs) =
    HoldsNonePassing threshold wait n earlier c × HoldNonePassing threshold wait n earlier cs

-- each stretch but the last one ends with a quiet window
abbrev pub EndQuietly : World → List Stretch → Type 0
EndQuietly w [] = Unit {0}
EndQuietly w (s ∷ []) = Unit {0}
EndQuietly w (s ∷ r ∷ ss) = EndsWindow (course (all_changed s.changes w)) s.rounds × EndQuietly (after_stretch s w) (r ∷ ss)

-- ---- rings stay vouched for

-- What a round makes of a ring that is vouched for: it stays so, and no port meets a stranger in the round. These are
-- the ports' clocks before each round.
abbrev pub KeepsStrangersOut : World → World → Type 0
KeepsStrangersOut w after =
    (clocks : PortId → ℕ → Clock) → IsVouched clocks w → AreClocksOf clocks w.ring
    → IsVouched clocks after × NoneMeetsAStranger clocks after.ring

-- A ring that is vouched for stays so over rounds alone, and no port meets a stranger in any of these rounds.
abbrev pub KeepsStrangersOutInAll : World → World → Type 0
KeepsStrangersOutInAll w left = (clocks : PortId → ℕ → Clock) → IsVouched clocks w → AreClocksBetween clocks w left
    → IsVouched clocks left × ((j : ℕ) → 1 ≤ j → w.ring.rounds + j ≤ left.ring.rounds → NoneMeetsAStranger clocks (run j w).ring)

-- A new ring over honest fibres is vouched for. It stays so over every change, except one that holds the controller of
-- a node that does not stand aside.
pub record VouchedRingsStay : Type 0 where
  pub new : (s : Settings) (ids : List ℕ) (circuits : Provisioning) (f : Fibres) (clocks : PortId → ℕ → Clock) → AreIds ids → IsHonest f
      → IsVouched clocks (new_world s ids circuits f)
  pub change : (c : Change) (w : World) (clocks : PortId → ℕ → Clock) → IsChangeOf w c → HoldsAside w c → IsVouched clocks w
      → IsVouched clocks (changed c w)

-- every round keeps strangers out, whichever plant ran it
abbrev pub RoundsKeepStrangersOut : Type 0
RoundsKeepStrangersOut = (w after : World) → HasCircuits (layout_of w) → IsRound w after → KeepsStrangersOut w after

-- every settle step keeps strangers out, whether it ended with a window or ran all its rounds
pub record StepsKeepStrangersOut : Type 0 where
  pub settled : (w left : World) (limit : ℕ) → HasCircuits (layout_of w) → Settles w limit left → KeepsStrangersOutInAll w left
  pub unsettled : (w left : World) (limit : ℕ) → HasCircuits (layout_of w) → Unsettles w limit left → KeepsStrangersOutInAll w left

-- ---- from a new ring on

-- Where no controller is ever held, no port meets a stranger in any round of the stretches, whatever else happens.
abbrev pub NoPortEverMeetsAStranger : Type 0
NoPortEverMeetsAStranger =
    (s : Settings) (ids : List ℕ) (circuits : Provisioning) (f : Fibres) (ss : List Stretch) → AreIds ids → IsHonest f
    → MayHappen (new_world s ids circuits f) ss → NoneHolds ss
    → AreCircuits (length ids) (n_of s.rate / 2) circuits.circuits
    → (t : ℕ) → t < rounds_in ss → NoneMeetsAStranger (clocks_by circuits.circuits ss)
    (round (world_in ss (new_world s ids circuits f) t)).ring

-- No port meets a stranger where each controller that is held is that of a node that stands aside, idle or isolated,
-- when it is held. What arrives while the controller misses its rounds doesn't matter.
abbrev pub NodesAsideMayBeHeld : Type 0
NodesAsideMayBeHeld =
    (s : Settings) (ids : List ℕ) (circuits : Provisioning) (f : Fibres) (ss : List Stretch) → AreIds ids → IsHonest f
    → MayHappen (new_world s ids circuits f) ss → HeldAside (new_world s ids circuits f) ss
    → AreCircuits (length ids) (n_of s.rate / 2) circuits.circuits
    → (t : ℕ) → t < rounds_in ss → NoneMeetsAStranger (clocks_by circuits.circuits ss)
    (round (world_in ss (new_world s ids circuits f) t)).ring

-- Where the stretch before ended with a quiet window, controllers of switched nodes may be held too: those of all nodes
-- but those that pass traffic through.
abbrev pub NodesThatDoNotPassMayBeHeld : Type 0
NodesThatDoNotPassMayBeHeld =
    (s : Settings) (ids : List ℕ) (circuits : Provisioning) (f : Fibres) (ss : List Stretch) → AreIds ids → IsHonest f
    → MayHappen (new_world s ids circuits f) ss → HeldBesidePassing ⊥ (new_world s ids circuits f) ss
    → AreCircuits (length ids) (n_of s.rate / 2) circuits.circuits
    → (t : ℕ) → t < rounds_in ss → NoneMeetsAStranger (clocks_by circuits.circuits ss)
    (round (world_in ss (new_world s ids circuits f) t)).ring

-- ---- after quiet windows

-- After a settle step that ended with a window the ring is vouched for, whatever it carried before, and whichever
-- controllers were held.
abbrev pub SettledRingsAreVouchedFor : Type 0
SettledRingsAreVouchedFor =
    (w left : World) (limit : ℕ) (clocks : PortId → ℕ → Clock) → IsWhole w → HasCircuits (layout_of w) → Settles w limit left
    → AreClocksBetween clocks w left → IsVouched clocks left

-- A hold spoils its own step alone. From a new ring on, each stretch but the last ends with a quiet window. No port
-- meets a stranger in any round of the last stretch, if its own changes hold no controller of a node that passes
-- traffic through. What was held before it doesn't matter.
abbrev pub AHoldSpoilsItsOwnStepAlone : Type 0
AHoldSpoilsItsOwnStepAlone =
    (s : Settings) (ids : List ℕ) (circuits : Provisioning) (f : Fibres) (earlier : List Stretch) (last : Stretch) → MayStart s ids f
    → MayHappen (new_world s ids circuits f) (earlier ++ last ∷ []) → EndQuietly (new_world s ids circuits f) (earlier ++ last ∷ [])
    → HoldNonePassing s.threshold s.wait (length ids) earlier last.changes
    → AreCircuits (length ids) (n_of s.rate / 2) circuits.circuits
    → (t : ℕ) → t < last.rounds → NoneMeetsAStranger (clocks_by circuits.circuits (earlier ++ last ∷ []))
    (round (world_in (earlier ++ last ∷ []) (new_world s ids circuits f) (rounds_in earlier + t))).ring

-- ---- from every whole ring on

-- Whatever a ring carries, and whatever happens to it except further holds, it becomes vouched for. That takes `most`
-- rounds, in which the last controller stops missing rounds, and then 2n - 2 rounds: bytes go round the ring at most
-- once, and that past one span of their arc at least.
abbrev pub RingsComeToBeVouchedFor : Type 0
RingsComeToBeVouchedFor =
    (most : ℕ) (w : World) (ss : List Stretch) (clocks : PortId → ℕ → Clock) → IsWhole w → HasCircuits (layout_of w)
    → AtEach (λ p n. n.held ≤ most) w.ring.nodes → MayHappen w ss → NoneHolds ss
    → ((j : ℕ) → j < rounds_in ss → AreClocksOf clocks (world_in ss w j).ring)
    → (t : ℕ) → most + 2 * length w.ring.ids ≤ t + 2 → t ≤ rounds_in ss → IsVouched clocks (world_in ss w t)

-- As soon as 2n - 3 rounds are over in which no controller missed its turn, each port delivers AIS, ones, or what its
-- circuit's other port sent exactly one transit before: straight over the arc, or once round the ring.
abbrev pub BytesComeAfterTransit : Type 0
BytesComeAfterTransit =
    (most : ℕ) (w : World) (ss : List Stretch) (clocks : PortId → ℕ → Clock) → IsWhole w → HasCircuits (layout_of w)
    → AtEach (λ p n. n.held ≤ most) w.ring.nodes → MayHappen w ss → NoneHolds ss
    → ((j : ℕ) → j < rounds_in ss → AreClocksOf clocks (world_in ss w j).ring)
    → (t : ℕ) → most + 2 * length w.ring.ids ≤ t + 3 → t < rounds_in ss → AllComeAfterTransit clocks (round (world_in ss w t)).ring

-- The route between the ends of a circuit, over which a port is owed its bytes once the ring is at rest, is a transit too,
-- whichever spans are applied.
abbrev pub RoutesAreTransits : Type 0
RoutesAreTransits =
    (n slots : ℕ) (cs : List Provisioned) → AreCircuits n slots cs → (applied : ℕ → Bool) (index : ℕ) (c : Provisioned)
    → slice_get cs index ≡ Some c → IsTransit n (arc_of n c).spans (hops n applied (arc_of n c))

-- A transit takes 2n - 3 rounds at most: ports that deliver what was sent one transit before meet no stranger, nor bytes
-- that are older than 2n - 3 rounds.
abbrev pub TransitsAreShort : Type 0
TransitsAreShort =
    (w : World) (clocks : PortId → ℕ → Clock) → HasCircuits (layout_of w) → AllComeAfterTransit clocks w.ring
    → NoneMeetsAStrangerSince (w.ring.rounds + 2 - 2 * length w.ring.ids) clocks w.ring

-- So the ports of such a ring meet no stranger as soon as those 2n - 3 rounds are over. From then on no port delivers
-- bytes that are older than 2n - 3 rounds.
abbrev pub StrangersAreGoneSoon : Type 0
StrangersAreGoneSoon =
    (most : ℕ) (w : World) (ss : List Stretch) (clocks : PortId → ℕ → Clock) → IsWhole w → HasCircuits (layout_of w)
    → AtEach (λ p n. n.held ≤ most) w.ring.nodes → MayHappen w ss → NoneHolds ss
    → ((j : ℕ) → j < rounds_in ss → AreClocksOf clocks (world_in ss w j).ring)
    → (t : ℕ) → most + 2 * length w.ring.ids ≤ t + 3 → t < rounds_in ss
    → NoneMeetsAStrangerSince (w.ring.rounds + t + 3 - 2 * length w.ring.ids) clocks (round (world_in ss w t)).ring

-- Over rounds alone, from a whole ring on in which no controller misses more than `most` turns, from 2n - 3 rounds after
-- these on each port delivers AIS, ones, or what its circuit's other port sent exactly one transit before, whatever the
-- ring carried. These are the ports' clocks before each round.
abbrev pub DeliversAfterTransit : World → World → Type 0
DeliversAfterTransit w left =
    (most : ℕ) (clocks : PortId → ℕ → Clock) → IsWhole w → AtEach (λ p n. n.held ≤ most) w.ring.nodes → AreClocksBetween clocks w left
    → (j : ℕ) → most + 2 * length w.ring.ids ≤ j + 2 → w.ring.rounds + j ≤ left.ring.rounds → AllComeAfterTransit clocks (run j w).ring

-- so does every settle step, whether it ended with a window or ran all its rounds
pub record StepsDeliverAfterTransit : Type 0 where
  pub settled : (w left : World) (limit : ℕ) → HasCircuits (layout_of w) → Settles w limit left → DeliversAfterTransit w left
  pub unsettled : (w left : World) (limit : ℕ) → HasCircuits (layout_of w) → Unsettles w limit left → DeliversAfterTransit w left

-- In the same rounds no port delivers bytes that are older than 2n - 3 rounds.
abbrev pub DeliversRecentBytes : World → World → Type 0
DeliversRecentBytes w left =
    (most : ℕ) (clocks : PortId → ℕ → Clock) → IsWhole w → AtEach (λ p n. n.held ≤ most) w.ring.nodes → AreClocksBetween clocks w left
    → (j : ℕ) → most + 2 * length w.ring.ids ≤ j + 2 → w.ring.rounds + j ≤ left.ring.rounds
    → NoneMeetsAStrangerSince (w.ring.rounds + j + 2 - 2 * length w.ring.ids) clocks (run j w).ring

-- so it is in every settle step, whether it ended with a window or ran all its rounds
pub record StepsDeliverRecentBytes : Type 0 where
  pub settled : (w left : World) (limit : ℕ) → HasCircuits (layout_of w) → Settles w limit left → DeliversRecentBytes w left
  pub unsettled : (w left : World) (limit : ℕ) → HasCircuits (layout_of w) → Unsettles w limit left → DeliversRecentBytes w left

-- Where no controller is ever held, each port delivers AIS, ones, or what its circuit's other port sent exactly one
-- transit before, from the first round of a new ring on, whatever else happens.
abbrev pub BytesAlwaysComeAfterTransit : Type 0
BytesAlwaysComeAfterTransit =
    (s : Settings) (ids : List ℕ) (circuits : Provisioning) (f : Fibres) (ss : List Stretch) → AreIds ids → IsHonest f
    → MayHappen (new_world s ids circuits f) ss → NoneHolds ss
    → AreCircuits (length ids) (n_of s.rate / 2) circuits.circuits
    → (t : ℕ) → t < rounds_in ss → AllComeAfterTransit (clocks_by circuits.circuits ss) (round (world_in ss (new_world s ids circuits f) t)).ring

-- Where no controller is ever held, no port delivers bytes that are older than 2n - 3 rounds, from the first round of a
-- new ring on, whatever else happens: each port delivers AIS, ones, or what its circuit's other port sent in one of the
-- 2n - 3 rounds before.
abbrev pub NothingComesLate : Type 0
NothingComesLate =
    (s : Settings) (ids : List ℕ) (circuits : Provisioning) (f : Fibres) (ss : List Stretch) → AreIds ids → IsHonest f
    → MayHappen (new_world s ids circuits f) ss → NoneHolds ss
    → AreCircuits (length ids) (n_of s.rate / 2) circuits.circuits
    → (t : ℕ) → t < rounds_in ss → NoneMeetsAStrangerSince (t + 3 - 2 * length ids) (clocks_by circuits.circuits ss)
    (round (world_in ss (new_world s ids circuits f) t)).ring
