-- What no settle step changes of a ring.
use Rattle.std.proofs.Common.{◌≡◌, ℕ, ◌+◌, Bool, true, false, List, length, refl, ap, ◌∙◌}
use Rattle.std.specs.Prelude.{Result, Ok, Err}
use Rattle.sdh_plant.specs.Fibres.{Arrival}
use Rattle.sdh_rounds.specs.Outcome.{IsStep}
use Rattle.sdh_rounds.specs.declared.faults.SettleError.{SettleError}
use Rattle.sdh_rounds.specs.declared.faults.SettleError.TheVariants.{Unsettled, PlantFault}
use Rattle.sdh_rounds.specs.Runs.{run_with}
use Rattle.sdh_rounds.proofs.Runs.{held_run}
use Rattle.sdh_node.specs.Stations.{adm}
use Rattle.sdh_node.specs.Rings.Held.{HeldRing}
use Rattle.sdh_node.specs.Rings.Rounds.{World}

pub record Stays (r s : HeldRing) : Type 0 where
  pub settings : s.settings ≡ r.settings
  pub ids : s.ids ≡ r.ids

stays_by : (w left : World) (rounds : List (List Arrival)) → left ≡ run_with adm rounds w → Stays w.ring left.ring
stays_by w left rounds is =
    let held : left.ring ≡ record w.ring { nodes = (run_with adm rounds w).ring.nodes; rounds = w.ring.rounds + length rounds } =
    ap (λ (x : World). x.ring) is ∙ held_run adm rounds w in
    record { settings = ap (λ (x : HeldRing). x.settings) held; ids = ap (λ (x : HeldRing). x.ids) held }

-- a step that leaves the ring whole
pub stays_step : (exact : Bool) (w left : World) (limit : ℕ) (result : Result (Unit {0}) SettleError) (before after : ℕ)
    → IsStep adm exact w limit result left before after → left.ring.broken ≡ false → Stays w.ring left.ring
stays_step exact w left limit (Ok u) before after step whole = stays_by w left step.outcome.rounds step.outcome.left_is
stays_step exact w left limit (Err Unsettled) before after step whole = stays_by w left step.outcome.rounds step.outcome.left_is
stays_step exact w left limit (Err PlantFault) before after step whole =
    let broken : left.ring.broken ≡ true = step.broken refl in
    absurd (cc)
