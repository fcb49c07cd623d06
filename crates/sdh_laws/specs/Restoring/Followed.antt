-- Rings whose pointer interpreters follow the generators across their spans, and how soon every port of such a ring
-- delivers what it is owed again. A new ring is followed, and it stays so through rounds and changes, but for slips and
-- for changes of fibres that come within four rounds of one another.
use Rattle.std.specs.Prelude.{ℕ, ◌≡◌, ◌≢◌, ◌+◌, ◌*◌, ◌/◌, ◌<◌, ◌≤◌, ◌⊎◌, true, false, Option, Some, None, List, [], ◌∷◌, ◌++◌, length}
use Rattle.std.specs.Prelude.{slice_get, slice_index_or, All}
use Rattle.std.specs.Option.{option_map_or}
use Rattle.sdh_ringmap.specs.Arcs.{is_joined}
use Rattle.sdh_ringmap.specs.Fibres.{fibre}
use Rattle.sdh_ringmap.specs.Places.{neighbour, opposite}
use Rattle.sdh_ringmap.specs.Rates.{n_of}
use Rattle.sdh_ringmap.specs.declared.Side.{Side}
use Rattle.sdh_parity.specs.Scrambling.{scrambled}
use Rattle.sdh_circuits.specs.Provisioned.{Provisioned, arc_of}
use Rattle.sdh_circuits.specs.Provisioning.{Provisioning, AreCircuits}
use Rattle.sdh_circuits.specs.declared.End.{End}
use Rattle.sdh_plant.specs.Arrivals.{carried_on}
use Rattle.sdh_plant.specs.Fibres.{Fibres}
use Rattle.sdh_pointer.specs.Reading.{start}
use Rattle.sdh_pointer.specs.Words.{word_of}
use Rattle.sdh_pointer.specs.declared.reading.Mode.TheVariants as mode
use Rattle.sdh_pointer.specs.declared.reading.Reading.{Reading}
use Rattle.sdh_pointer.specs.declared.word.Form.TheVariants as form
use Rattle.sdh_request.specs.declared.settings.Settings.{Settings}
use Rattle.sdh_restoration.specs.Applied.{is_applied, span_requests}
use Rattle.sdh_restoration.specs.Routes.{hops}
use Rattle.sdh_restoration.specs.Changes.{Change, Fibre, Order, Hold, Slip, Now, Stretch, rounds_in}
use Rattle.sdh_restoration.specs.Sides.{asked_in}
use Rattle.sdh_terminal.specs.Receiving.{pointer_word_at}
use Rattle.sdh_node.specs.Node.{receiving_on, sending_on}
use Rattle.sdh_node.specs.Rings.Changes.{changed, after_stretches, new_world}
use Rattle.sdh_node.specs.Rings.Clocks.{clocks_from, clocks_by}
use Rattle.sdh_node.specs.Rings.Held.{node_at, AtEach}
use Rattle.sdh_node.specs.Rings.Laws.{MayHappen}
use Rattle.sdh_node.specs.Rings.Rounds.{World}
use Rattle.sdh_node.specs.Rings.Quiet.{EndsWindow, Settles, Unsettles}
use Rattle.sdh_node.specs.Rings.Runs.{run, course}
use Rattle.sdh_laws.specs.Hearing.Laws.{IsWhole, MayStart}
use Rattle.sdh_laws.specs.Carrying.Windows.{layout_of, HasCircuits, span_requests_of}
use Rattle.sdh_laws.specs.Carrying.Laws.{DeliversItsDue, IsRestored}
use Rattle.sdh_laws.specs.Converging.Steady.{IsUnslipped}
use Rattle.sdh_laws.specs.Restoring.Laws.{NoControllerHeld}

-- ---- what an interpreter keeps, and what comes to it

-- the pointer word of AU-4 number au in the frame on the fibre that leaves position p on side d; ones where it carries
-- no frame
abbrev pub pointer_word_on : World → ℕ → Side → ℕ → ℕ
pointer_word_on w p d au =
    let n = n_of w.ring.settings.rate in
    option_map_or (λ line. pointer_word_at n (scrambled (9 * n) line) au) (carried_on w.fibres (fibre p d)) 65535

-- a word that a generator has sent to come to this state: ones where it sends AIS, and otherwise its value, in a
-- normal word or with a new data flag
abbrev pub IsWordOf : Option ℕ → ℕ → Type 0
IsWordOf None word = word ≡ 65535
IsWordOf (Some v) word = (v ≤ 782) × ((word ≡ word_of form.Enabled v) ⊎ (word ≡ word_of form.Normal v))

-- An interpreter that hasn't lost its pointer, where this word of a generator in this state comes next. It counts at
-- most two new values, and one that has a pointer has one of at most 782.
pub record IsSoundReading (r : Reading) (s : Option ℕ) (word : ℕ) : Type 0 where
  pub small : r.mode ≡ mode.Norm → r.value ≤ 782
  pub few : r.news ≤ 2
  pub kept : r.mode ≢ mode.Lop
  pub sent : IsWordOf s word

-- An interpreter that has a pointer has the value of the normal word that comes next.
abbrev pub HasItsValue : Reading → Option ℕ → ℕ → Type 0
HasItsValue r s word = (v : ℕ) → s ≡ Some v → word ≡ word_of form.Normal v → r.mode ≡ mode.Norm → r.value ≡ v

-- An interpreter follows a generator: it hasn't lost its pointer, and has the value of the word that comes next, unless
-- that is a new one or the interpreter is in Ais.
pub record Follows (r : Reading) (s : Option ℕ) (word : ℕ) : Type 0 where
  pub sound : IsSoundReading r s word
  pub value : HasItsValue r s word

-- each interpreter of a ring follows the generator across its span, whether the fibre between them is cut or not
abbrev pub IsFollowed : World → Type 0
IsFollowed w =
    (p : ℕ) (d : Side) (i : ℕ) → p < length w.ring.nodes → i < n_of w.ring.settings.rate
    → (let q = neighbour (length w.ring.ids) p d in let e = opposite d in
    Follows (slice_index_or (receiving_on d (node_at w.ring.nodes p)).readings i start)
    (slice_index_or (sending_on e (node_at w.ring.nodes q)).generators i None) (pointer_word_on w q e (i + 1)))

-- ---- rounds and changes

-- where no slip waits, a followed ring is followed again after four rounds or more, whatever its fibres do
abbrev pub RoundsStayFollowed : Type 0
RoundsStayFollowed =
    (w : World) → IsWhole w → HasCircuits (layout_of w) → IsUnslipped w → IsFollowed w → (k : ℕ) → 4 ≤ k → IsFollowed (run k w)

-- a new ring is followed
abbrev pub NewRingsAreFollowed : Type 0
NewRingsAreFollowed = (s : Settings) (ids : List ℕ) (circuits : Provisioning) (f : Fibres) → MayStart s ids f
    → IsFollowed (new_world s ids circuits f)

-- every change leaves a followed ring followed
abbrev pub ChangesKeepFollowed : Type 0
ChangesKeepFollowed = (w : World) (c : Change) → IsFollowed w → IsFollowed (changed c w)

-- a quiet window leaves a ring followed, whatever happened before it
abbrev pub WindowsLeaveFollowed : Type 0
WindowsLeaveFollowed =
    (w : World) → IsWhole w → HasCircuits (layout_of w) → (k : ℕ) → EndsWindow (course w) k → IsFollowed (run k w)

-- where rounds alone turned the whole world w into `left`, it is followed
abbrev pub LeavesFollowed : World → World → Type 0
LeavesFollowed w left = IsWhole w → IsFollowed left

-- a settle step that ended with a quiet window leaves a ring followed
abbrev pub StepsLeaveFollowed : Type 0
StepsLeaveFollowed = (w left : World) (limit : ℕ) → HasCircuits (layout_of w) → Settles w limit left → LeavesFollowed w left

-- ---- how soon traffic is restored

-- A port of a circuit whose ends are joined over h hops delivers what it is owed from round number `base` + h + 2 on.
-- Every other port does so from number `away` on.
pub record ArePortsOwedAtOnce (w : World) (base away : ℕ) : Type 0 where
  pub joined : (k index : ℕ) (c : Provisioned) → slice_get w.ring.circuits.circuits index ≡ Some c → (e : End)
      → (let n = length w.ring.ids in let rs = span_requests_of (run k w) in
      is_joined n (is_applied rs) (arc_of n c) ≡ true → base + hops n (is_applied rs) (arc_of n c) + 2 ≤ k
      → DeliversItsDue (clocks_from w) (run k w) rs c index e)
  pub parted : (k index : ℕ) (c : Provisioned) → slice_get w.ring.circuits.circuits index ≡ Some c → (e : End)
      → (let n = length w.ring.ids in let rs = span_requests_of (run k w) in
      is_joined n (is_applied rs) (arc_of n c) ≡ false → away ≤ k → DeliversItsDue (clocks_from w) (run k w) rs c index e)

-- In a followed ring in which no slip waits and no controller is held for more than this number of turns, ports have
-- what comes over h hops from number 4n + h + 11 + turns on, and AIS from number 5n + turns on. No route has more than
-- 2n - 3 hops.
abbrev pub FollowedPortsAreOwedSoon : Type 0
FollowedPortsAreOwedSoon =
    (w : World) → IsWhole w → HasCircuits (layout_of w) → (turns : ℕ) → AtEach (λ p n. n.held ≤ turns) w.ring.nodes → IsUnslipped w
    → IsFollowed w → ArePortsOwedAtOnce w (4 * length w.ring.ids + turns + 9) (5 * length w.ring.ids + turns)

-- all nodes are in the settled states and every port delivers what it is owed from number 6n + 8 on, which is 104 in a
-- ring of 16
abbrev pub FollowedRingsAreRestoredSoon : Type 0
FollowedRingsAreRestoredSoon =
    (w : World) → IsWhole w → HasCircuits (layout_of w) → NoControllerHeld w → IsUnslipped w → IsFollowed w → (k : ℕ)
    → 6 * length w.ring.ids + 8 ≤ k → IsRestored (clocks_from w) (run k w) (span_requests_of (run k w))

-- where no controller is held for more than this number of turns, they do so from number 6n + 8 + turns on
abbrev pub HeldFollowedRingsAreRestoredSoon : Type 0
HeldFollowedRingsAreRestoredSoon =
    (w : World) → IsWhole w → HasCircuits (layout_of w) → (turns : ℕ) → AtEach (λ p n. n.held ≤ turns) w.ring.nodes → IsUnslipped w
    → IsFollowed w → (k : ℕ) → 6 * length w.ring.ids + 8 + turns ≤ k → IsRestored (clocks_from w) (run k w) (span_requests_of (run k w))

-- ---- a settle step

-- A settle step of at least 6n + 8 rounds leaves a followed ring restored, even where it is unsettled.
abbrev pub RestoresFollowedBy : World → ℕ → World → Type 0
RestoresFollowedBy w limit left =
    IsWhole w → NoControllerHeld w → IsUnslipped w → IsFollowed w → 6 * length w.ring.ids + 8 ≤ limit
    → IsRestored (clocks_from w) left (span_requests_of left)

abbrev pub UnsettledFollowedRingsAreRestored : Type 0
UnsettledFollowedRingsAreRestored =
    (w left : World) (limit : ℕ) → HasCircuits (layout_of w) → Unsettles w limit left → RestoresFollowedBy w limit left

-- ---- from a new ring on

-- a change that slips no port and holds no controller
abbrev pub IsPlainChange : Change → Type 0
IsPlainChange (Fibre p d condition) = Unit {0}
IsPlainChange (Order p d command) = Unit {0}
IsPlainChange (Hold p turns) = ⊥
IsPlainChange (Slip port turn count) = ⊥
IsPlainChange (Now t) = Unit {0}

-- a change that concerns no fibre
abbrev pub LeavesFibres : Change → Type 0
LeavesFibres (Fibre p d condition) = ⊥
LeavesFibres (Order p d command) = Unit {0}
LeavesFibres (Hold p turns) = Unit {0}
LeavesFibres (Slip port turn count) = Unit {0}
LeavesFibres (Now t) = Unit {0}

-- Changes of fibres come at one moment, or four rounds apart or more. `since` is the number of rounds since the last of
-- them, or since the ring's start. Orders and moments may come in any round.
abbrev pub FibresWait : ℕ → List Stretch → Type 0
FibresWait since [] = Unit {0}
FibresWait since (s ∷ ss) =
    (All LeavesFibres s.changes × FibresWait (since + s.rounds) ss) ⊎ (((since ≡ 0) ⊎ (4 ≤ since)) × FibresWait s.rounds ss)

-- Where no port slips and no controller is held, and no fibre changes within four rounds of another change of a fibre,
-- every stretch of at least 6n + 8 rounds leaves the ring restored, under the requests that the histories give for its
-- last round. Orders may be given in any round, also while a failure or a mending is only a round old.
abbrev pub PlainStretchesAreRestoredSoon : Type 0
PlainStretchesAreRestoredSoon =
    (s : Settings) (ids : List ℕ) (circuits : Provisioning) (f : Fibres) (earlier : List Stretch) (last : Stretch) (t : ℕ)
    → MayStart s ids f → MayHappen (new_world s ids circuits f) (earlier ++ last ∷ [])
    → AreCircuits (length ids) (n_of s.rate / 2) circuits.circuits → All (λ (x : Stretch). All IsPlainChange x.changes) (earlier ++ last ∷ [])
    → FibresWait 0 (earlier ++ last ∷ []) → 6 * length ids + 8 ≤ last.rounds → rounds_in (earlier ++ last ∷ []) ≡ t + 1
    → IsRestored (clocks_by circuits.circuits (earlier ++ last ∷ [])) (after_stretches (earlier ++ last ∷ []) (new_world s ids circuits f))
    (span_requests (length ids) (asked_in s.threshold s.wait (length ids) (earlier ++ last ∷ []) t))
