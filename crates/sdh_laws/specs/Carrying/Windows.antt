-- A number of calm rounds in settled states, and what the origins of AU-4s bring in them.
use Rattle.std.specs.Prelude.{ℕ, ◌≡◌, ◌<◌, ◌≤◌, ◌/◌, true, List, length}
use Rattle.sdh_ringmap.specs.Rates.{n_of}
use Rattle.sdh_ringmap.specs.Places.{span_at}
use Rattle.sdh_ringmap.specs.declared.Side.{Side}
use Rattle.sdh_circuits.specs.Provisioned.{Provisioned}
use Rattle.sdh_circuits.specs.Provisioning.{AreCircuits}
use Rattle.sdh_bridge.specs.declared.Origin.{Origin}
use Rattle.sdh_restoration.specs.Applied.{is_applied}
use Rattle.sdh_signal.specs.Settled.{settled}
use Rattle.sdh_signal.specs.Signals.{requests_in}
use Rattle.sdh_request.specs.declared.settings.Settings.{Settings}
use Rattle.sdh_terminal.specs.declared.matrix.Feeder.{Feeder}
use Rattle.sdh_terminal.specs.Passing.{Input}
use Rattle.sdh_terminal.specs.Lines.{fed_by}
use Rattle.sdh_terminal.specs.Tributaries.{added_by}
use Rattle.sdh_node.specs.Crossing.{is_failed, feeder_of, leads}
use Rattle.sdh_node.specs.Node.{receiving_on}
use Rattle.sdh_node.specs.Rings.Held.{HeldRing, node_at}
use Rattle.sdh_node.specs.Rings.Rounds.{World}
use Rattle.sdh_node.specs.Rings.Runs.{run, course}
use Rattle.sdh_node.specs.Rings.Quiet.{IsCalm}
use Rattle.sdh_laws.specs.Hearing.Signalling.{crossing_at, lines_at, needs_in}

-- what no round changes of a ring: the settings, the identifiers by position, and the circuits
pub record Layout : Type 0 where
  pub settings : Settings
  pub ids : List ℕ
  pub circuits : List Provisioned

abbrev pub layout_in : HeldRing → Layout
layout_in r = record { settings = r.settings; ids = r.ids; circuits = r.circuits.circuits }

abbrev pub layout_of : World → Layout
layout_of w = layout_in w.ring

-- the number of positions of a ring
abbrev pub positions_of : Layout → ℕ
positions_of l = length l.ids

-- the number of working slots of a ring
abbrev pub slots_of : Layout → ℕ
slots_of l = n_of l.settings.rate / 2

-- the circuits are those of a ring of this size and rate
abbrev pub HasCircuits : Layout → Type 0
HasCircuits l = AreCircuits (positions_of l) (slots_of l) l.circuits

-- ---- in the round that begins with this world

-- what an AU-4 at position p is fed with
abbrev pub fed_at : World → ℕ → Feeder → Input
fed_at w p f = fed_by (lines_at w p) (added_by (node_at w.ring.nodes p).ports) f

-- what an origin in slot m brings at position p
abbrev pub value_at : World → ℕ → ℕ → Origin → Input
value_at w p m o = fed_at w p (feeder_of (crossing_at w p) m o)

-- what goes into AU-4 number au that leaves position p on side d
abbrev pub sent_at : World → ℕ → Side → ℕ → Input
sent_at w p d au = fed_at w p (leads (crossing_at w p) d au)

-- ---- after a round

-- the requests of all spans in the round that left this world
abbrev pub span_requests_of : World → List ℕ
span_requests_of w = requests_in (needs_in w)

-- each of n nodes is in the settled state of these requests of spans
abbrev pub AreSettled : ℕ → List ℕ → World → Type 0
AreSettled n rs w = (p : ℕ) → p < n → (node_at w.ring.nodes p).state ≡ settled rs p

-- a side that failed in the round that left this world is on an applied span
abbrev pub FailOnApplied : ℕ → List ℕ → World → Type 0
FailOnApplied n rs w =
    (p : ℕ) (d : Side) → p < n → is_failed (receiving_on d (node_at w.ring.nodes p)).local.defect ≡ true
    → is_applied rs (span_at n p d) ≡ true

-- the rounds from the first-th to the last-th from w are calm, in these settled states
pub record IsQuiet (n : ℕ) (rs : List ℕ) (w : World) (first last : ℕ) : Type 0 where
  pub spans : length rs ≡ n
  pub calm : (k : ℕ) → first ≤ k → k ≤ last → IsCalm (course w) k
  pub settled_are : (k : ℕ) → first ≤ k → k ≤ last → AreSettled n rs (run k w)
  pub failing : (k : ℕ) → first ≤ k → k ≤ last → FailOnApplied n rs (run k w)
