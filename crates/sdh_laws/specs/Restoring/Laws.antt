-- How soon every port delivers what it is owed again, where nothing happens but rounds. Rounds are counted from the
-- given world on.
use Rattle.std.specs.Prelude.{ℕ, ◌≡◌, ◌+◌, ◌*◌, ◌/◌, ◌≤◌, true, false, Some, List, [], ◌∷◌, ◌++◌, length, slice_get}
use Rattle.sdh_ringmap.specs.Rates.{n_of}
use Rattle.sdh_circuits.specs.Provisioning.{Provisioning, AreCircuits}
use Rattle.sdh_plant.specs.Fibres.{Fibres}
use Rattle.sdh_request.specs.declared.settings.Settings.{Settings}
use Rattle.sdh_restoration.specs.Changes.{Stretch, rounds_in}
use Rattle.sdh_node.specs.Rings.Changes.{after_stretches, new_world}
use Rattle.sdh_node.specs.Rings.Laws.{MayHappen}
use Rattle.sdh_laws.specs.Hearing.Laws.{MayStart}
use Rattle.sdh_restoration.specs.Sides.{asked_in}
use Rattle.sdh_ringmap.specs.Arcs.{is_joined}
use Rattle.sdh_circuits.specs.Provisioned.{Provisioned, arc_of}
use Rattle.sdh_circuits.specs.declared.End.{End}
use Rattle.sdh_restoration.specs.Applied.{is_applied, span_requests}
use Rattle.sdh_restoration.specs.Routes.{hops}
use Rattle.sdh_node.specs.Node.{is_held}
use Rattle.sdh_node.specs.Rings.Held.{AtEach}
use Rattle.sdh_node.specs.Rings.Rounds.{World}
use Rattle.sdh_node.specs.Rings.Runs.{run}
use Rattle.sdh_node.specs.Rings.Clocks.{clocks_from, clocks_by}
use Rattle.sdh_node.specs.Rings.Quiet.{Unsettles}
use Rattle.sdh_laws.specs.Hearing.Laws.{IsWhole}
use Rattle.sdh_laws.specs.Carrying.Windows.{layout_of, HasCircuits, span_requests_of}
use Rattle.sdh_laws.specs.Carrying.Laws.{DeliversItsDue, IsRestored}
use Rattle.sdh_laws.specs.Converging.Steady.{IsUnslipped}

-- no controller misses the next round
abbrev pub NoControllerHeld : World → Type 0
NoControllerHeld w = AtEach (λ p n. is_held n ≡ false) w.ring.nodes

-- From every whole ring on, all nodes are in the settled states and every port delivers what it is owed, in each round
-- from number 12n + 102 on. Interpreters, generators, parities, words and filters may be whatever they were before. Any
-- controllers may be held, any slips may wait, and any fibres may be cut or degraded. The number is 294 in a ring of
-- 16. That is less than the 400 rounds of 125 microseconds in 50 milliseconds.
abbrev pub RingsAreRestoredSoon : Type 0
RingsAreRestoredSoon =
    (w : World) → IsWhole w → HasCircuits (layout_of w) → (k : ℕ) → 12 * length w.ring.ids + 102 ≤ k
    → IsRestored (clocks_from w) (run k w) (span_requests_of (run k w))

-- Where no controller is held, traffic is restored from number 12n + 2 on, which is 194 in a ring of 16. Where slips
-- wait, it is restored from the larger of 12n + 2 and 8n + 61 on.
abbrev pub FreeRingsAreRestoredSoon : Type 0
FreeRingsAreRestoredSoon =
    (w : World) → IsWhole w → HasCircuits (layout_of w) → NoControllerHeld w → (k : ℕ) → 12 * length w.ring.ids + 2 ≤ k
    → 8 * length w.ring.ids + 61 ≤ k → IsRestored (clocks_from w) (run k w) (span_requests_of (run k w))

-- where no controller is held and no slip waits, traffic is restored from number 12n + 2 on
abbrev pub UnslippedRingsAreRestoredSoon : Type 0
UnslippedRingsAreRestoredSoon =
    (w : World) → IsWhole w → HasCircuits (layout_of w) → NoControllerHeld w → IsUnslipped w → (k : ℕ) → 12 * length w.ring.ids + 2 ≤ k
    → IsRestored (clocks_from w) (run k w) (span_requests_of (run k w))

-- ---- each port by its own number

-- A port of a circuit whose ends are joined over h hops delivers what it is owed from round number `base` + 4h + 5 on.
-- Every other port does so from number `away` on. The connections are those of the settled states from `base` on, and no
-- slip waits then. A port that is owed AIS is cut off before that.
pub record ArePortsOwedFrom (w : World) (base away : ℕ) : Type 0 where
  pub joined : (k index : ℕ) (c : Provisioned) → slice_get w.ring.circuits.circuits index ≡ Some c → (e : End)
      → (let n = length w.ring.ids in let rs = span_requests_of (run k w) in
      is_joined n (is_applied rs) (arc_of n c) ≡ true → base + 4 * hops n (is_applied rs) (arc_of n c) + 5 ≤ k
      → DeliversItsDue (clocks_from w) (run k w) rs c index e)
  pub parted : (k index : ℕ) (c : Provisioned) → slice_get w.ring.circuits.circuits index ≡ Some c → (e : End)
      → (let n = length w.ring.ids in let rs = span_requests_of (run k w) in
      is_joined n (is_applied rs) (arc_of n c) ≡ false → away ≤ k → DeliversItsDue (clocks_from w) (run k w) rs c index e)

-- in every whole ring ports have what comes over h hops from number 4n + 4h + 114 on, and AIS from number 5n + 100 on
abbrev pub PortsAreOwedSoon : Type 0
PortsAreOwedSoon =
    (w : World) → IsWhole w → HasCircuits (layout_of w) → ArePortsOwedFrom w (4 * length w.ring.ids + 109) (5 * length w.ring.ids + 100)

-- where no controller is held and no slip waits, ports have what comes over h hops from number 4n + 4h + 14 on, and AIS
-- from number 5n on
abbrev pub UnslippedPortsAreOwedSoon : Type 0
UnslippedPortsAreOwedSoon =
    (w : World) → IsWhole w → HasCircuits (layout_of w) → NoControllerHeld w → IsUnslipped w
    → ArePortsOwedFrom w (4 * length w.ring.ids + 9) (5 * length w.ring.ids)

-- ---- a settle step

-- A settle step of at least 12n + 102 rounds leaves the ring restored, even where it is unsettled.
abbrev pub RestoresBy : World → ℕ → World → Type 0
RestoresBy w limit left = IsWhole w → 12 * length w.ring.ids + 102 ≤ limit → IsRestored (clocks_from w) left (span_requests_of left)

abbrev pub UnsettledRingsAreRestored : Type 0
UnsettledRingsAreRestored = (w left : World) (limit : ℕ) → HasCircuits (layout_of w) → Unsettles w limit left → RestoresBy w limit left

-- ---- from a new ring on

-- Where the last of some stretches has at least 12n + 102 rounds, the ring is restored under the requests that the
-- histories give for its last round. What is owed goes by the history of clocks.
abbrev pub StretchesAreRestoredSoon : Type 0
StretchesAreRestoredSoon =
    (s : Settings) (ids : List ℕ) (circuits : Provisioning) (f : Fibres) (earlier : List Stretch) (last : Stretch) (t : ℕ)
    → MayStart s ids f → MayHappen (new_world s ids circuits f) (earlier ++ last ∷ [])
    → AreCircuits (length ids) (n_of s.rate / 2) circuits.circuits → 12 * length ids + 102 ≤ last.rounds
    → rounds_in (earlier ++ last ∷ []) ≡ t + 1
    → IsRestored (clocks_by circuits.circuits (earlier ++ last ∷ [])) (after_stretches (earlier ++ last ∷ []) (new_world s ids circuits f))
    (span_requests (length ids) (asked_in s.threshold s.wait (length ids) (earlier ++ last ∷ []) t))
