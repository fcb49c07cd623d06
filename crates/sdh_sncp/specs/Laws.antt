-- When a path ring and its fibres are paired, and the laws of such rings.
use Rattle.std.specs.Prelude.{ℕ, ◌≡◌, ◌<◌, ◌≤◌, ◌+◌, ◌-◌, ◌*◌, ◌/◌, Bool, true, Some, List, length, slice_get}
use Rattle.std.specs.Prelude.{slice_index_or, not, ◌≢◌, Result, Err, OnOk}
use Rattle.std.specs.Option.{is_some}
use Rattle.sdh_pointer.specs.declared.reading.Action.TheVariants as action
use Rattle.sdh_pointer.specs.Reading.{start, is_norm}
use Rattle.sdh_pointer.specs.Laws.{is_ais_action}
use Rattle.sdh_ringmap.specs.Rates.{n_of}
use Rattle.sdh_ringmap.specs.Ids.{AreIds}
use Rattle.sdh_ringmap.specs.declared.Side.{Side}
use Rattle.sdh_circuits.specs.declared.End.{End}
use Rattle.sdh_circuits.specs.declared.PortId.{PortId}
use Rattle.sdh_circuits.specs.Provisioned.{Provisioned}
use Rattle.sdh_circuits.specs.Provisioning.{Provisioning, AreCircuits}
use Rattle.sdh_nodestate.specs.Words.{first_word}
use Rattle.sdh_payload.specs.Outlet.{silent}
use Rattle.sdh_ringmap.specs.declared.terms.Condition.{Condition}
use Rattle.sdh_plant.specs.Fibres.{Arrival, Fibres, IsPrepared, IsHonest}
use Rattle.sdh_ringmap.specs.Fibres.{IsConditionAt, fibre_to, is_cut}
use Rattle.sdh_plant.specs.Arrivals.{condition_of}
use Rattle.sdh_plant.specs.Calls.{prepared, after_apply}
use Rattle.sdh_request.specs.declared.settings.Settings.{Settings}
use Rattle.sdh_terminal.specs.Receiving.{Inlet, IsInlet, taken_in, after_taking}
use Rattle.sdh_rounds.specs.Quiet.{enough_for}
use Rattle.sdh_rounds.specs.declared.faults.SettleError.{SettleError}
use Rattle.sdh_rounds.specs.declared.faults.SettleError.TheVariants.{Unsettled, PlantFault}
use Rattle.sdh_spans.specs.Frames.{AreCarried}
use Rattle.sdh_sncp.specs.Ring.{HeldPath, new_ring, outlet_at, World, world, round_with, round, run, course, is_calm, EndsWindow, Settles}
use Rattle.sdh_sncp.specs.Ring.{Unsettles}
use Rattle.sdh_sncp.specs.Placed.{IsPlacedPathRing, IsPlaced}
use Rattle.sdh_sncp.specs.Fixed.{AreAlone}
use Rattle.sdh_sncp.specs.Due.{due_path}

-- ---- what the fibres carry

-- A ring and its fibres that are paired: the fibres are honest, prepared for the ring, and carry what the nodes sent.
-- That is nothing before round 0, and then frames whose K bytes have the word of a node that asks for nothing.
pub record IsPairedPathRing (w : World) : Type 0 where
  pub honest : IsHonest w.fibres
  pub prepared : IsPrepared w.ring.settings.rate (length w.ring.ids) w.fibres
  pub carried : (p : ℕ) → p < length w.ring.nodes → AreCarried w.ring.settings.rate w.fibres w.ring.rounds p
      (λ d. first_word w.ring.ids p d)

-- a whole ring: its nodes are in their places, and its fibres carry what they sent
pub record IsWholePathRing (w : World) : Type 0 where
  pub placed : IsPlaced w
  pub paired : IsPairedPathRing w

-- ---- what stays

-- each node stays in its place, whatever arrives
pub record PathNodesStayPlaced : Type 0 where
  pub new : (s : Settings) (ids : List ℕ) (circuits : Provisioning) → AreIds ids → IsPlacedPathRing (new_ring s ids circuits)
  pub round : (arrivals : List Arrival) (w : World) → IsPlaced w → IsPlaced (round_with arrivals w)

abbrev pub NewPathRingsAreWhole : Type 0
NewPathRingsAreWhole =
    (s : Settings) (ids : List ℕ) (circuits : Provisioning) (f : Fibres) → AreIds ids → IsHonest f
    → IsWholePathRing (world (new_ring s ids circuits) (prepared s.rate (length ids) f))

-- before the first round every port delivers AIS
abbrev pub NewRingsAreSilent : Type 0
NewRingsAreSilent =
    (s : Settings) (ids : List ℕ) (circuits : Provisioning) (port : PortId) → outlet_at (new_ring s ids circuits) port ≡ silent

pub record PathRingsStayWhole : Type 0 where
  pub round : (w : World) → IsWholePathRing w → IsWholePathRing (round w)
  pub rounds : (w : World) (k : ℕ) → IsWholePathRing w → IsWholePathRing (run k w)
  pub apply : (w : World) (p : ℕ) (d : Side) (c : Condition) → IsConditionAt w.ring.settings.rate c → IsWholePathRing w
      → IsWholePathRing (record w { fibres = after_apply w.fibres p d c })

-- ---- what is owed

-- the circuits are those of a ring of this size and rate, and no two share a slot
pub record HasPathCircuits (r : HeldPath) : Type 0 where
  pub are : AreCircuits (length r.ids) (n_of r.settings.rate / 2) r.circuits.circuits
  pub alone : AreAlone r.circuits.circuits

-- the condition of the fibre that ends at position p on a side
abbrev pub path_condition_to : World → ℕ → Side → Condition
path_condition_to w p d = condition_of w.fibres (fibre_to (length w.ring.ids) p d)

-- whether the fibre is cut that ends at position p on a side
abbrev pub cut_in : World → ℕ → Side → Bool
cut_in w p d = is_cut (path_condition_to w p d)

-- each port delivered in the last round what it is owed in that round
abbrev pub PathDeliversWhatIsDue : World → Type 0
PathDeliversWhatIsDue w = (index : ℕ) (c : Provisioned) → slice_get w.ring.circuits.circuits index ≡ Some c → (e : End)
    → outlet_at w.ring (record { circuit = index; end = e }) ≡ due_path (length w.ring.ids) (cut_in w) c e (w.ring.rounds - 1)

abbrev pub QuietRingsDeliver : Type 0
QuietRingsDeliver = (w : World) (k : ℕ) → IsWholePathRing w → HasPathCircuits w.ring → EndsWindow (course w) k → PathDeliversWhatIsDue (run k w)

-- after a settle step that ended with a quiet window, each port has delivered what it is owed
abbrev pub StepsDeliver : Type 0
StepsDeliver = (w left : World) (limit : ℕ) → HasPathCircuits w.ring → Settles w limit left → IsWholePathRing w → PathDeliversWhatIsDue left

-- ---- a quiet window always comes

-- from the (9n + 20)-th round of a step on, all rounds are calm
abbrev pub PathRoundsGetCalm : Type 0
PathRoundsGetCalm =
    (w : World) → IsWholePathRing w → HasPathCircuits w.ring → (j : ℕ) → 9 * length w.ring.ids + 20 ≤ j → is_calm (run j w).ring.nodes ≡ true

-- no settle step is unsettled if its limit is large enough
abbrev pub PathStepsAnswer : Type 0
PathStepsAnswer =
    (w left : World) (limit : ℕ) → HasPathCircuits w.ring → IsWholePathRing w → enough_for (length w.ring.ids) ≤ limit → Unsettles w limit left → ⊥

-- What every settle step keeps where ring and fibres are paired. They stay paired, unless a fault ends the step. After
-- a step that ended with a window all ports have delivered what they are owed, by the conditions of the fibres alone.
-- No step with a large limit is unsettled.
pub record KeepsPathPromises (w : World) (limit : ℕ) (result : Result (Unit {0}) SettleError) (left : World) : Type 0 where
  pub owed : OnOk result (IsPairedPathRing w → PathDeliversWhatIsDue left)
  pub paired : result ≢ Err PlantFault → IsPairedPathRing w → IsPairedPathRing left
  pub answers : IsPairedPathRing w → enough_for (length w.ring.ids) ≤ limit → result ≢ Err Unsettled

-- ---- what a port takes

-- where something arrived on a side, an AU-4 comes with a pointer exactly where its interpreter's mode is Norm then
abbrev pub ComesIsNorm : Type 0
ComesIsNorm = (threshold : ℕ) (i : Inlet) (m : ℕ) → IsInlet i → is_some i.arrived ≡ true → 1 ≤ m → m ≤ n_of i.section.rate
    → not (is_ais_action (slice_index_or (taken_in threshold i).actions (m - 1) action.Ais))
    ≡ is_norm (slice_index_or (after_taking threshold i).readings (m - 1) start).mode
