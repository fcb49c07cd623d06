-- A script, step by step.
use Rattle.std.proofs.Common.{◌≡◌, ◌≤◌, ℕ, ◌+◌, false, refl, List, ◌∷◌, length, ap, sym, ◌∙◌, subst, arith}
use Rattle.sdh_plant.specs.Fibres.{Fibres, IsPrepared}
use Rattle.sdh_plant.specs.Calls.{prepared}
use Rattle.sdh_plant.proofs.Calling.{stay_prepared}
use Rattle.sdh_ringmap.specs.declared.terms.Rate.{Rate}
use Rattle.sdh_rounds.proofs.Runs.{held_run}
use Rattle.sdh_plan.specs.declared.step.Step.{Step}
use Rattle.sdh_plan.specs.declared.step.Step.TheVariants as step
use Rattle.sdh_plan.specs.Planned.{Planned, IsPlanned}
use Rattle.sdh_scripts.specs.Ports.{lines_room}
use Rattle.sdh_scripts.proofs.Plans.{as_planned}
use Rattle.sdh_sncp.specs.Stations.{path_node}
use Rattle.sdh_sncp.specs.Ring.{HeldPath, World, Settles}
use Rattle.sdh_sncp_cli.specs.Steps.{AreKnown, MayDo}
use Rattle.sdh_sncp_cli.specs.Running.{MayRun}
use Rattle.sdh_sncp_cli.specs.Plans.{new_path_ring_of}
use Rattle.sdh_sncp_cli.proofs.Fits.{fits}

-- ---- a new ring

-- the steps of a plan may be run over the ring that is made of it, and fibres that were just prepared for it
pub may_new : (plan : Planned) (r : HeldPath) (rate : Rate) (n : ℕ) (steps : List Step) (f : Fibres) → IsPlanned plan → AreKnown plan.steps
    → r ≡ new_path_ring_of plan → rate ≡ plan.settings.rate → n ≡ length plan.nodes → steps ≡ plan.steps
    → MayRun 0 steps r (prepared rate n f)
may_new plan r rate n steps f form known ring rates size same =
    as_planned (MayRun 0) plan (new_path_ring_of plan) r rate n steps f ring rates size same (record {
      whole = refl;
      prepared = stay_prepared.prepared plan.settings.rate (length plan.nodes) f form.nodes_fit.enough form.nodes_fit.few;
      steps_fit = fits plan.settings.rate (length plan.nodes) (length plan.circuits) plan.steps known form.steps_fit;
      few = omega arith;
      rounds = omega arith;
    })

-- ---- a settle step

-- what a step that ended keeps of the ring
pub settled_held : (w left : World) (limit : ℕ) → (s : Settles w limit left)
    → left.ring ≡ record w.ring { nodes = left.ring.nodes; rounds = w.ring.rounds + length s.rounds }
settled_held w left limit s =
    subst (λ (v : World). v.ring ≡ record w.ring { nodes = v.ring.nodes; rounds = w.ring.rounds + length s.rounds }) (sym s.left_is)
    (held_run path_node s.rounds w)

pub settled_whole : (w left : World) (limit : ℕ) → Settles w limit left → w.ring.broken ≡ false → left.ring.broken ≡ false
settled_whole w left limit s whole = ap (λ (r : HeldPath). r.broken) (settled_held w left limit s) ∙ whole

pub settled_room : (w left : World) (limit : ℕ) → Settles w limit left
    → lines_room (length left.ring.circuits.circuits) ≡ lines_room (length w.ring.circuits.circuits)
settled_room w left limit s = ap (λ (r : HeldPath). lines_room (length r.circuits.circuits)) (settled_held w left limit s)

pub settled_next : (limit before : ℕ) (w left : World) → limit ≤ 65536 → Settles w limit left
    → IsPrepared w.ring.settings.rate (length w.ring.ids) left.fibres
    → (later : List Step) → MayRun before (step.Settle ∷ later) w.ring w.fibres → MayRun (before + 1) later left.ring left.fibres
settled_next limit before w left few s prepared later h =
    let held = settled_held w left limit s in
    let most : length s.rounds ≤ limit = s.settles.within in
    let grown : left.ring.rounds ≡ w.ring.rounds + length s.rounds = ap (λ (r : HeldPath). r.rounds) held in
    let Shape =
    λ (r : HeldPath). (r.broken ≡ false) × IsPrepared r.settings.rate (length r.ids) left.fibres
    × MayDo r.settings.rate (length r.ids) (before + 1) later in
    let old : Shape (record w.ring { nodes = left.ring.nodes; rounds = w.ring.rounds + length s.rounds }) =
    (h.whole, prepared, h.steps_fit.1) in
    let new : Shape left.ring = subst Shape (sym held) old in
    record {
      whole = new.0;
      prepared = new.1;
      steps_fit = new.2;
      few = h.steps_fit.0;
      rounds = omega (arith, h.rounds, grown, most);
    }
