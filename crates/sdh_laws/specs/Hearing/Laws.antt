-- The laws of a ring with frames. They are promised by the functions of this crate, which have no work to do.
use Rattle.std.specs.Prelude.{ℕ, suc, ◌≡◌, ◌≢◌, ◌<◌, ◌≤◌, ◌+◌, ◌*◌, true, false, length, List, [], ◌∷◌, ◌++◌, All}
use Rattle.sdh_kbytes.specs.declared.Mark.TheVariants as mark
use Rattle.sdh_ringmap.specs.Ids.{AreIds}
use Rattle.sdh_ringmap.specs.declared.Side.{Side}
use Rattle.sdh_circuits.specs.Provisioning.{Provisioning}
use Rattle.sdh_restoration.specs.Applied.{span_requests}
use Rattle.sdh_signal.specs.Settled.{settled_states}
use Rattle.sdh_signal.specs.Signals as signal
use Rattle.sdh_signal.specs.Signals.{MaySignal, requests_in}
use Rattle.sdh_plant.specs.Fibres.{Arrival, Fibres, IsHonest}
use Rattle.sdh_request.specs.declared.settings.Settings.{Settings}
use Rattle.sdh_node.specs.Node.{receiving_on, is_held, compared, last_word_on}
use Rattle.sdh_node.specs.Rings.Held.{new_ring, node_at, AtEach}
use Rattle.sdh_node.specs.Rings.Rounds.{World, world, round_with, round}
use Rattle.sdh_node.specs.Rings.Runs.{IsRound, run, course}
use Rattle.sdh_node.specs.Rings.Quiet.{is_calm, IsCalm, EndsWindow, Settles, Unsettles}
use Rattle.sdh_restoration.specs.Changes.{Change, Stretch, rounds_in}
use Rattle.sdh_node.specs.Rings.Changes.{changed, all_changed, after_stretches, new_world}
use Rattle.sdh_node.specs.Rings.Laws.{IsChangeOf, AreChangesOf, MayHappen}
use Rattle.sdh_payload.specs.Clock.{waiting}
use Rattle.sdh_terminal.specs.Lines.{line_on}
use Rattle.sdh_terminal.specs.Tributaries.{Tributary}
use Rattle.sdh_node.specs.Rings.Sides.{condition_to, world_in}
use Rattle.sdh_spans.specs.Frames.{violations_shown}
use Rattle.sdh_restoration.specs.Sides.{asked_in}
use Rattle.sdh_laws.specs.Hearing.Placed.{IsPlaced}
use Rattle.sdh_laws.specs.Hearing.Paired.{IsPaired}
use Rattle.sdh_laws.specs.Hearing.Signalling.{Brings, CountsViolations, Reads, lines_at, signals_of, needs_in, held_in}

-- ---- what stays

-- each node stays in its place, whatever arrives
pub record StayPlaced : Type 0 where
  pub new : (s : Settings) (ids : List ℕ) (circuits : Provisioning) (f : Fibres) → AreIds ids → IsPlaced (world (new_ring s ids circuits) f)
  pub round : (arrivals : List Arrival) (w : World) → IsPlaced w → IsPlaced (round_with arrivals w)
  pub change : (c : Change) (w : World) → IsPlaced w → IsPlaced (changed c w)

-- a whole world: its nodes are in their places, and its fibres carry what they sent
pub record IsWhole (w : World) : Type 0 where
  pub placed : IsPlaced w
  pub paired : IsPaired w

-- a new ring over new honest fibres is a whole world
abbrev pub NewWorldsAreWhole : Type 0
NewWorldsAreWhole =
    (s : Settings) (ids : List ℕ) (circuits : Provisioning) (f : Fibres) → AreIds ids → IsHonest f → IsWhole (new_world s ids circuits f)

-- rounds, and changes that may happen between them, leave a whole world whole
pub record StayWhole : Type 0 where
  pub round : (w : World) → IsWhole w → IsWhole (round w)
  pub rounds : (w : World) (k : ℕ) → IsWhole w → IsWhole (run k w)
  pub change : (c : Change) (w : World) → IsChangeOf w c → IsWhole w → IsWhole (changed c w)

-- ---- a round

-- what each side of each node makes of a round is what `Brings` says
abbrev pub SidesBring : Type 0
SidesBring =
    (w : World) (p : ℕ) (d : Side) → IsWhole w → p < length w.ring.nodes
    → Brings w p d (receiving_on d (node_at w.ring.nodes p)) (receiving_on d (node_at (round w).ring.nodes p))

-- what the interpreters on each side of each node read in a round is what `Reads` says
abbrev pub SidesRead : Type 0
SidesRead = (w : World) (p : ℕ) (d : Side) → IsWhole w → p < length w.ring.nodes
    → Reads w p d (receiving_on d (node_at w.ring.nodes p)) (receiving_on d (node_at (round w).ring.nodes p))
    (line_on (lines_at w p) d).intake

-- From the second frame on, the violations of B2 that a side counts in a round are those that its fibre's condition
-- made in the round before. That is so whatever parities the ring began with, and whatever changed between the rounds.
abbrev pub ViolationsAreOfTheRoundBefore : Type 0
ViolationsAreOfTheRoundBefore =
    (w : World) (first second : List Change) (p : ℕ) (d : Side) → IsWhole w → AreChangesOf (round w) first
    → AreChangesOf (round (all_changed first (round w))) second → p < length w.ring.nodes
    → CountsViolations (all_changed second (round (all_changed first (round w)))) p d
    (violations_shown (condition_to (all_changed first (round w)) p d))

-- no node sends a word that is AIS of the multiplex section
abbrev pub NoneSaysAis : Type 0
NoneSaysAis =
    (w : World) (p : ℕ) (d : Side) → IsWhole w → p < length w.ring.nodes → (last_word_on d (node_at (round w).ring.nodes p)).mark ≢ mark.MsAis

-- a round of a ring with frames is a round of its ring of signals, with the same needs and the same held nodes
pub record IsSignalRound (w : World) : Type 0 where
  pub may_go : MaySignal (needs_in (round w)) (signals_of w)
  pub goes : signals_of (round w) ≡ signal.round (needs_in (round w)) (held_in w) (signals_of w)

abbrev pub RoundsAreSignalRounds : Type 0
RoundsAreSignalRounds = (w : World) → IsWhole w → IsSignalRound w

-- What a round makes of a whole world, whichever plant ran it. The world stays whole. Its states, words and filters are
-- those of its ring of signals after a round with the same needs and held nodes. In that round nothing comes in on a
-- side that fails.
pub record GoesAsSignals (w after : World) : Type 0 where
  pub whole : IsWhole after
  pub may_go : MaySignal (needs_in after) (signals_of w)
  pub goes : signals_of after ≡ signal.round (needs_in after) (held_in w) (signals_of w)

abbrev pub WholeRoundsGoAsSignals : Type 0
WholeRoundsGoAsSignals = (w after : World) → IsWhole w → IsRound w after → GoesAsSignals w after

-- a settle step leaves a whole world whole, whether it ended with a window or ran all its rounds
pub record StepsStayWhole : Type 0 where
  pub settled : (w left : World) (limit : ℕ) → IsWhole w → Settles w limit left → IsWhole left
  pub unsettled : (w left : World) (limit : ℕ) → IsWhole w → Unsettles w limit left → IsWhole left

-- ---- quiet windows

-- a calm round isn't the ring's first one, holds no node, and leaves all that is compared as it was
pub record RoundIsStill (w : World) : Type 0 where
  pub later : 0 < w.ring.rounds
  pub free : AtEach (λ p n. is_held n ≡ false) w.ring.nodes
  pub same : (p : ℕ) → p < length w.ring.nodes → compared (node_at (round w).ring.nodes p) ≡ compared (node_at w.ring.nodes p)
  pub words : (signals_of (round w)).words ≡ (signals_of w).words
  pub states : (signals_of (round w)).states ≡ (signals_of w).states
  -- the requests are those of the round before
  pub requests : requests_in (needs_in (round w)) ≡ requests_in (needs_in w)

abbrev pub CalmRoundsAreStill : Type 0
CalmRoundsAreStill = (w : World) → IsWhole w → is_calm (round w).ring.nodes ≡ true → RoundIsStill w

-- after three calm rounds in a row, each node is in the settled state of its position, under the requests of the last
-- of these rounds
abbrev pub ThreeCalmRoundsAreSettled : Type 0
ThreeCalmRoundsAreSettled =
    (w : World) → IsWhole w → IsCalm (course w) 1 → IsCalm (course w) 2 → IsCalm (course w) 3
    → (signals_of (run 3 w)).states ≡ settled_states (requests_in (needs_in (run 3 w)))

-- in each round of a quiet window all nodes are in the settled states, under the requests of the window's last round
abbrev pub WindowsAreSettled : Type 0
WindowsAreSettled =
    (w : World) (k j : ℕ) → IsWhole w → EndsWindow (course w) k → k < j + 3 * length w.ring.ids → j ≤ k
    → (signals_of (run j w)).states ≡ settled_states (requests_in (needs_in (run k w)))

-- the world after a settle step that ended with a window: it is whole, and its nodes are in the settled states
pub record IsSettled (w : World) : Type 0 where
  pub whole : IsWhole w
  pub states : (signals_of w).states ≡ settled_states (requests_in (needs_in w))

abbrev pub StepsSettle : Type 0
StepsSettle = (w left : World) (limit : ℕ) → IsWhole w → Settles w limit left → IsSettled left

-- ---- from a new ring on

-- a script may start with these: the identifiers are those of a ring, the fibres are honest, and the threshold of a
-- degradation is at least one violation
pub record MayStart (s : Settings) (ids : List ℕ) (f : Fibres) : Type 0 where
  pub ids_ok : AreIds ids
  pub honest : IsHonest f
  pub least : 1 ≤ s.threshold

-- the requests of all sides are those of their histories: in each round of the stretches, and after the last one
pub record AreTheHistorys (s : Settings) (n : ℕ) (ss : List Stretch) (w : World) : Type 0 where
  pub each : (p : ℕ) (d : Side) (t : ℕ) → p < n → t < rounds_in ss
      → (receiving_on d (node_at (round (world_in ss w t)).ring.nodes p)).request ≡ asked_in s.threshold s.wait n ss t p d
  pub last : (p : ℕ) (d : Side) (t : ℕ) → p < n → rounds_in ss ≡ t + 1
      → (receiving_on d (node_at (after_stretches ss w).ring.nodes p)).request ≡ asked_in s.threshold s.wait n ss t p d

abbrev pub RequestsAreTheHistorys : Type 0
RequestsAreTheHistorys =
    (s : Settings) (ids : List ℕ) (circuits : Provisioning) (f : Fibres) (ss : List Stretch) → MayStart s ids f
    → MayHappen (new_world s ids circuits f) ss → AreTheHistorys s (length ids) ss (new_world s ids circuits f)

-- Where the last of some stretches ends with a quiet window, all nodes are in the settled states in each round of that
-- window. These are the settled states under the requests that the histories give for the window's last round.
abbrev pub StretchesSettle : Type 0
StretchesSettle =
    (s : Settings) (ids : List ℕ) (circuits : Provisioning) (f : Fibres) (earlier : List Stretch) (last : Stretch) (j t : ℕ)
    → MayStart s ids f → MayHappen (new_world s ids circuits f) (earlier ++ last ∷ [])
    → EndsWindow (course (all_changed last.changes (after_stretches earlier (new_world s ids circuits f)))) last.rounds
    → last.rounds < j + 3 * length ids → j ≤ last.rounds → rounds_in (earlier ++ last ∷ []) ≡ t + 1
    → (signals_of (run j (all_changed last.changes (after_stretches earlier (new_world s ids circuits f))))).states
    ≡ settled_states (span_requests (length ids) (asked_in s.threshold s.wait (length ids) (earlier ++ last ∷ []) t))

-- ---- where nothing but rounds happens

-- no slip waits at any of a node's ports
abbrev pub NoneWait : List Tributary → Type 0
NoneWait ports = All (λ (t : Tributary). waiting t.feed.clock ≡ 0) ports

-- Where no node is held from round f on, counted from this world: what the nodes need stays from the third round after
-- that on. So their states settle, and their words stay.
pub record StillFrom (w : World) (f : ℕ) : Type 0 where
  pub needs : (k : ℕ) → f + 3 ≤ k → needs_in (run (suc k) w) ≡ needs_in (run k w)
  pub states : (k : ℕ) → 4 * length w.ring.ids + f + 10 ≤ k
      → (signals_of (run k w)).states ≡ settled_states (requests_in (needs_in (run k w)))
  pub words : (k : ℕ) → 5 * length w.ring.ids + f + 10 ≤ k → (signals_of (run (suc k) w)).words ≡ (signals_of (run k w)).words

abbrev pub FreeRunsGetStill : Type 0
FreeRunsGetStill =
    (w : World) → IsWhole w → (f : ℕ) → ((k : ℕ) → f ≤ k → AtEach (λ p n. is_held n ≡ false) (run k w).ring.nodes) → StillFrom w f

-- From round 100 on, counted from this world, no node is held and no slip waits. What the nodes need stays from the
-- third round after that on. So their states settle, and their words stay.
pub record GetsStill (w : World) : Type 0 where
  pub free : (k : ℕ) → 100 ≤ k → AtEach (λ p n. is_held n ≡ false) (run k w).ring.nodes
  pub slips : (k : ℕ) → 100 ≤ k → AtEach (λ p n. NoneWait n.ports) (run k w).ring.nodes
  pub needs : (k : ℕ) → 103 ≤ k → needs_in (run (suc k) w) ≡ needs_in (run k w)
  pub states : (k : ℕ) → 4 * length w.ring.ids + 110 ≤ k → (signals_of (run k w)).states ≡ settled_states (requests_in (needs_in (run k w)))
  pub words : (k : ℕ) → 5 * length w.ring.ids + 110 ≤ k → (signals_of (run (suc k) w)).words ≡ (signals_of (run k w)).words

abbrev pub RunsGetStill : Type 0
RunsGetStill = (w : World) → IsWhole w → GetsStill w
