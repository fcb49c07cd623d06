-- The ring of a plan is new, and its circuits fit it.
use Rattle.std.proofs.Common.{length, refl}
use Rattle.sdh_plant.specs.Fibres.{Fibres, IsHonest}
use Rattle.sdh_node.proofs.RingLaws.Keeping.{length-new}
use Rattle.sdh_circuits.proofs.Rings.{circuits_are}
use Rattle.sdh_laws.specs.Carrying.Windows.{layout_in, HasCircuits}
use Rattle.sdh_laws.specs.Hearing.Laws.{MayStart}
use Rattle.sdh_plan.specs.Planned.{Planned, IsPlanned, provisioning_of}
use Rattle.sdh_plan.proofs.Following.{circuits_keep_the_ring}
use Rattle.sdh_scripts.proofs.Plans.{IsNew}
use Rattle.sdh_owed.specs.Plans.{new_ring_of}

-- the ring of a plan is new
pub adm_new : IsNew new_ring_of
adm_new = record {
  rate = λ plan. refl;
  ids = λ plan. refl;
  nodes = λ plan. length-new plan.settings plan.nodes plan.circuits (length plan.nodes);
  rounds = λ plan. refl;
}

-- a plan's ring over new honest fibres
pub may_start : (plan : Planned) (f : Fibres) → IsPlanned plan → IsHonest f → MayStart plan.settings plan.nodes f
may_start plan f fits honest = record { ids_ok = fits.nodes_fit; honest = honest; least = fits.threshold_from_1 }

-- a plan's circuits fit the plan's ring
pub circuits_fit : (plan : Planned) → IsPlanned plan → HasCircuits (layout_in (new_ring_of plan))
circuits_fit plan fits = circuits_are (provisioning_of plan) plan.nodes fits.circuits_fit (circuits_keep_the_ring plan)
