-- The laws of what spans carry and ports deliver in calm rounds.
use Rattle.std.specs.Prelude.{ℕ, Bool, ◌≡◌, ◌+◌, ◌-◌, ◌*◌, ◌<◌, ◌≤◌, ◌/◌, true, false, Some, List, length, slice_get, [], ◌∷◌, ◌++◌}
use Rattle.sdh_ringmap.specs.Rates.{n_of}
use Rattle.sdh_ringmap.specs.Places.{opposite, neighbour}
use Rattle.sdh_ringmap.specs.declared.Side.{Side}
use Rattle.sdh_circuits.specs.Provisioned.{Provisioned, customer_at}
use Rattle.sdh_circuits.specs.declared.End.{End}
use Rattle.sdh_circuits.specs.Provisioning.{Provisioning, AreCircuits}
use Rattle.sdh_plant.specs.Fibres.{Fibres}
use Rattle.sdh_restoration.specs.Applied.{span_requests, is_applied}
use Rattle.sdh_signal.specs.Settled.{settled_states}
use Rattle.sdh_payload.specs.Outlet.{Outlet}
use Rattle.sdh_restoration.specs.Due.{due}
use Rattle.sdh_circuits.specs.Ends.{other_end}
use Rattle.sdh_request.specs.declared.settings.Settings.{Settings}
use Rattle.sdh_terminal.specs.Lines.{received}
use Rattle.sdh_node.specs.Crossing.{is_failed}
use Rattle.sdh_node.specs.Node.{receiving_on}
use Rattle.sdh_node.specs.Rings.Held.{HeldRing, outlet_at, node_at}
use Rattle.sdh_node.specs.Rings.Fixed.{IsRing}
use Rattle.sdh_node.specs.Rings.Rounds.{World, round}
use Rattle.sdh_node.specs.Rings.Runs.{run, course}
use Rattle.sdh_node.specs.Rings.Quiet.{is_calm, EndsWindow, Settles}
use Rattle.sdh_restoration.specs.Changes.{Stretch, rounds_in}
use Rattle.sdh_node.specs.Rings.Changes.{all_changed, after_stretches, new_world}
use Rattle.sdh_laws.specs.Hearing.Signalling.{lines_at, signals_of}
use Rattle.sdh_node.specs.Rings.Laws.{MayHappen}
use Rattle.sdh_node.specs.Rings.Clocks.{clocks_by, clocks_from}
use Rattle.sdh_payload.specs.Clock.{Clock}
use Rattle.sdh_circuits.specs.declared.PortId.{PortId}
use Rattle.sdh_restoration.specs.Sides.{asked_in}
use Rattle.sdh_laws.specs.Hearing.Laws.{IsWhole, MayStart}
use Rattle.sdh_spans.specs.Brought.{BringsDelivery, HasValue, plainly}
use Rattle.sdh_laws.specs.Carrying.Windows.{layout_in, layout_of, HasCircuits, sent_at, span_requests_of, FailOnApplied, IsQuiet}

-- Let two rounds in a row be calm. In the second, an AU-4 brings, over a span that didn't fail, what the neighbour sent
-- in this AU-4 in the first.
abbrev pub ASpanCarries : Type 0
ASpanCarries = (w : World) → IsWhole w → is_calm (round w).ring.nodes ≡ true → is_calm (round (round w)).ring.nodes ≡ true
    → (p : ℕ) (d : Side) (au : ℕ) (b : Outlet) → p < length w.ring.ids → 1 ≤ au → au ≤ n_of w.ring.settings.rate → HasValue b
    → is_failed (receiving_on d (node_at (round (round w)).ring.nodes p)).local.defect ≡ false
    → BringsDelivery (sent_at w (neighbour (length w.ring.ids) p d) (opposite d) au) b → BringsDelivery (received (lines_at (round w) p) d au) b

-- after a round a side that failed is on an applied span
abbrev pub FailuresAreApplied : Type 0
FailuresAreApplied = (w : World) → IsWhole w → FailOnApplied (length w.ring.ids) (span_requests_of (round w)) (round w)

-- what a port is owed where these are the other port's clocks before each round
abbrev pub due_by_clocks : ℕ → (ℕ → Bool) → Provisioned → End → (ℕ → Clock) → ℕ → Outlet
due_by_clocks n applied c e clocks t = due n applied c (λ k. plainly (customer_at c (other_end e)) (clocks k)) t

-- the port of a circuit delivered in the last round what it is owed under these requests of spans, where these are the
-- ports' clocks before each round
abbrev pub DeliversItsDue : (PortId → ℕ → Clock) → World → List ℕ → Provisioned → ℕ → End → Type 0
DeliversItsDue clocks w rs c index e =
    outlet_at w.ring (record { circuit = index; end = e }) ≡ due_by_clocks (length w.ring.ids) (is_applied rs) c e
    (clocks (record { circuit = index; end = other_end e })) (w.ring.rounds - 1)

-- each port of a ring delivered in the last round what it is owed under these requests of spans
abbrev pub DeliversWhatIsDue : (PortId → ℕ → Clock) → World → List ℕ → Type 0
DeliversWhatIsDue clocks w rs =
    (index : ℕ) (c : Provisioned) → slice_get w.ring.circuits.circuits index ≡ Some c → (e : End) → DeliversItsDue clocks w rs c index e

-- after 2n quiet rounds each port delivers what it is owed
abbrev pub QuietRingsDeliverWhatIsDue : Type 0
QuietRingsDeliverWhatIsDue = (w : World) → IsWhole w → HasCircuits (layout_of w)
    → (rs : List ℕ) (first last : ℕ) → IsQuiet (length w.ring.ids) rs w first last → 1 ≤ first → first + 2 * length w.ring.ids ≤ last
    → DeliversWhatIsDue (clocks_from w) (run last w) rs

-- A restored ring: each node is in the settled state of these requests of spans, and each port has delivered what it is
-- owed under them.
pub record IsRestored (clocks : PortId → ℕ → Clock) (w : World) (rs : List ℕ) : Type 0 where
  pub states : (signals_of w).states ≡ settled_states rs
  pub ports : DeliversWhatIsDue clocks w rs

-- where rounds alone turned the whole world w into `left`, the ring is restored under the requests of the last round
abbrev pub Restores : World → World → Type 0
Restores w left = IsWhole w → IsRestored (clocks_from w) left (span_requests_of left)

-- after a settle step that ended with a quiet window the ring is restored
abbrev pub SettledRingsAreRestored : Type 0
SettledRingsAreRestored = (w left : World) (limit : ℕ) → HasCircuits (layout_of w) → Settles w limit left → Restores w left

-- Where the last of some stretches ends with a quiet window, the ring is restored under the requests that the histories
-- give for the window's last round.
abbrev pub SettledRingsRestore : Type 0
SettledRingsRestore =
    (s : Settings) (ids : List ℕ) (circuits : Provisioning) (f : Fibres) (earlier : List Stretch) (last : Stretch) (t : ℕ)
    → MayStart s ids f → MayHappen (new_world s ids circuits f) (earlier ++ last ∷ [])
    → AreCircuits (length ids) (n_of s.rate / 2) circuits.circuits
    → EndsWindow (course (all_changed last.changes (after_stretches earlier (new_world s ids circuits f)))) last.rounds
    → rounds_in (earlier ++ last ∷ []) ≡ t + 1
    → IsRestored (clocks_by circuits.circuits (earlier ++ last ∷ [])) (after_stretches (earlier ++ last ∷ []) (new_world s ids circuits f))
    (span_requests (length ids) (asked_in s.threshold s.wait (length ids) (earlier ++ last ∷ []) t))

-- ---- where circuits come from

-- the circuits of every ring are circuits of its size and rate
abbrev pub RingsHaveCircuits : Type 0
RingsHaveCircuits = (r : HeldRing) → IsRing r → HasCircuits (layout_in r)
