-- The laws of a healthy ring: a new ring over new honest fibres, all clear, and without commands.
use Rattle.std.specs.Prelude.{ℕ, zero, suc, ◌≡◌, ◌≤◌, ◌+◌, ◌*◌, false, Some, None, List, [], ◌∷◌, length, replicate, slice_get}
use Rattle.sdh_restoration.specs.Applied.{is_applied}
use Rattle.sdh_circuits.specs.Ends.{other_end}
use Rattle.sdh_laws.specs.Carrying.Laws.{due_by_clocks}
use Rattle.sdh_node.specs.Rings.Clocks.{clocks_by}
use Rattle.sdh_circuits.specs.declared.End.{End}
use Rattle.sdh_circuits.specs.Provisioned.{Provisioned}
use Rattle.sdh_circuits.specs.Provisioning.{Provisioning}
use Rattle.sdh_node.specs.Rings.Held.{outlet_at}
use Rattle.sdh_plant.specs.Fibres.{Fibres}
use Rattle.sdh_request.specs.declared.settings.Settings.{Settings}
use Rattle.sdh_node.specs.Rings.Rounds.{World}
use Rattle.sdh_node.specs.Rings.Runs.{run, course}
use Rattle.sdh_node.specs.Rings.Quiet.{IsCalm, settles_in}
use Rattle.sdh_restoration.specs.Changes.{Stretch}
use Rattle.sdh_node.specs.Rings.Changes.{after_stretches, new_world}
use Rattle.sdh_laws.specs.Hearing.Laws.{MayStart}
use Rattle.sdh_laws.specs.Carrying.Windows.{layout_of, HasCircuits, span_requests_of}

-- Each round from number n + 4 on is calm. (`IsCalm` counts rounds from 1, but they are numbered from 0.) An
-- interpreter h spans from a port enters Norm in round number h, counts three rounds more, and doesn't change from
-- round number h + 4 on.
abbrev pub HealthyRoundsAreCalm : Type 0
HealthyRoundsAreCalm =
    (s : Settings) (ids : List ℕ) (circuits : Provisioning) (f : Fibres) → MayStart s ids f
    → HasCircuits (layout_of (new_world s ids circuits f))
    → (k : ℕ) → length ids + 5 ≤ k → IsCalm (course (new_world s ids circuits f)) k

-- the stretches of settle steps without changes, one after the other
abbrev pub healthy_steps : ℕ → List Stretch
healthy_steps zero = []
healthy_steps (suc later) = record { changes = []; rounds = 129 } ∷ replicate later (record { changes = []; rounds = 128 })

-- The first settle step ends with round number 128 where its limit is at least 129, and is unsettled where the limit is
-- smaller. Each later step ends 128 rounds later. So the last round of the K-th step has number 128 K.
pub record HealthySteps (w : World) : Type 0 where
  pub short : (limit : ℕ) → limit ≤ 128 → settles_in w limit ≡ None
  pub first : (limit : ℕ) → 129 ≤ limit → settles_in w limit ≡ Some 129
  pub later : (limit steps : ℕ) → 128 ≤ limit → 1 ≤ steps → settles_in (after_stretches (healthy_steps steps) w) limit ≡ Some 128
  pub left : (steps : ℕ) → 1 ≤ steps → after_stretches (healthy_steps steps) w ≡ run (128 * steps + 1) w
  pub number : (steps : ℕ) → 1 ≤ steps → (after_stretches (healthy_steps steps) w).ring.rounds ≡ 128 * steps + 1

abbrev pub HealthyStepsSettle : Type 0
HealthyStepsSettle =
    (s : Settings) (ids : List ℕ) (circuits : Provisioning) (f : Fibres) → MayStart s ids f
    → HasCircuits (layout_of (new_world s ids circuits f)) → HealthySteps (new_world s ids circuits f)

-- after each round of a healthy ring no span is applied
abbrev pub HealthyRingsApplyNothing : Type 0
HealthyRingsApplyNothing = (s : Settings) (ids : List ℕ) (circuits : Provisioning) (f : Fibres) → MayStart s ids f
    → (k span : ℕ) → 1 ≤ k → is_applied (span_requests_of (run k (new_world s ids circuits f))) span ≡ false

-- After each settle step of a healthy ring each port has delivered what it is owed in the step's last round, where no
-- span is applied.
abbrev pub HealthyStepsDeliver : Type 0
HealthyStepsDeliver =
    (s : Settings) (ids : List ℕ) (circuits : Provisioning) (f : Fibres) → MayStart s ids f
    → HasCircuits (layout_of (new_world s ids circuits f))
    → (steps index : ℕ) (c : Provisioned) → 1 ≤ steps → slice_get circuits.circuits index ≡ Some c → (e : End)
    → outlet_at (after_stretches (healthy_steps steps) (new_world s ids circuits f)).ring (record { circuit = index; end = e })
    ≡ due_by_clocks (length ids) (λ span. false) c e (clocks_by circuits.circuits [] (record { circuit = index; end = other_end e }))
    (128 * steps)
