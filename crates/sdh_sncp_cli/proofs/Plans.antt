-- What comes of a plan.
use Rattle.std.proofs.Common.{◌≡◌, true, ℕ, List, [], length, refl, sym, subst, inl, inr}
use Rattle.sdh_plant.specs.Fibres.{Fibres, IsHonest}
use Rattle.sdh_plant.specs.Arrivals.{Knows}
use Rattle.sdh_circuits.proofs.Rings.{circuits_are}
use Rattle.sdh_plan.specs.Planned.{Planned, IsPlanned, provisioning_of}
use Rattle.sdh_plan.proofs.Following.{circuits_keep_the_ring}
use Rattle.sdh_plan.specs.declared.step.Step.{Step}
use Rattle.sdh_plan.specs.declared.step.Step.TheVariants as step
use Rattle.sdh_report.specs.Reports.{Report, report_text}
use Rattle.sdh_status.specs.declared.Status.{Status}
use Rattle.sdh_promise.specs.Scenes.{scenes}
use Rattle.sdh_scripts.specs.Laws.{DoesNoRound, KeepsRounds}
use Rattle.sdh_scripts.specs.Outcomes.{Came}
use Rattle.sdh_scripts.specs.Plans.{Comes}
use Rattle.sdh_scripts.proofs.Plans.{IsNew, tells_all}
use Rattle.sdh_scripts.proofs.Reporting.{keeps_by}
use Rattle.sdh_sncp.specs.Stations.{path_node}
use Rattle.sdh_sncp.specs.Ring.{World, new_ring}
use Rattle.sdh_sncp.specs.Fixed.{AreAlone}
use Rattle.sdh_sncp.specs.Laws.{HasPathCircuits}
use Rattle.sdh_sncp.proofs.New.{length-new}
use Rattle.sdh_sncp_cli.specs.Reports.{path_ring_report}
use Rattle.sdh_sncp_cli.specs.Walking.{does, path_walk}
use Rattle.sdh_sncp_cli.specs.Steps.{AreKnown}
use Rattle.sdh_sncp_cli.specs.Promise.{PathOwesAll}
use Rattle.sdh_sncp_cli.specs.Plans.{new_path_ring_of, path_account, Owes, world_of, Tells}
use Rattle.sdh_sncp_cli.specs.Laws.{ReportsAreDue, PathScriptsSettle}
use Rattle.sdh_sncp_cli.proofs.Fits.{fits}
use Rattle.sdh_sncp_cli.proofs.Due.{due_none}

-- ---- a walk, and a new ring

no_round : DoesNoRound does
no_round = record {
  ids = ids;
  size = size;
  rounds = rounds;
  sent = sent;
  knows = knows;
}
  where
    ids : (s : Step) (w : World) → (does s w).ring.ids ≡ w.ring.ids
    ids (step.Fibre e) w = refl
    ids s w = refl

    size : (s : Step) (w : World) → length (does s w).ring.nodes ≡ length w.ring.nodes
    size (step.Fibre e) w = refl
    size s w = refl

    rounds : (s : Step) (w : World) → (does s w).ring.rounds ≡ w.ring.rounds
    rounds (step.Fibre e) w = refl
    rounds s w = refl

    sent : (s : Step) (w : World) → (does s w).fibres.sent ≡ w.fibres.sent
    sent (step.Fibre e) w = refl
    sent s w = refl

    knows : (s : Step) (w : World) → Knows w.fibres → Knows (does s w).fibres
    knows (step.Fibre e) w h = h
    knows s w h = h

pub keeps_rounds : KeepsRounds path_walk
unfolding path_ring_report
keeps_rounds = keeps_by path_node does path_ring_report no_round (λ number r. refl)

-- the path ring of a plan is new
pub path_new : IsNew new_path_ring_of
path_new = record {
  rate = λ plan. refl;
  ids = λ plan. refl;
  nodes = λ plan. length-new plan.settings plan.nodes plan.circuits (length plan.nodes);
  rounds = λ plan. refl;
}

-- ---- over honest fibres

module _ (plan : Planned) (f left : Fibres) (reports : List Report) (end : Status) (form : IsPlanned plan) (known : AreKnown plan.steps)
    (alone : AreAlone plan.circuits) where
  circuits_fit : HasPathCircuits (new_ring plan.settings plan.nodes (provisioning_of plan))
  circuits_fit = record {
    are = circuits_are (provisioning_of plan) plan.nodes form.circuits_fit (circuits_keep_the_ring plan);
    alone = alone;
  }

  owed_then : ReportsAreDue → IsHonest f → Comes path_account plan f reports end left → PathOwesAll plan reports end
  owed_then law honest (inl x) =
      subst (λ rs. PathOwesAll plan rs end) (sym x.1) (due_none (length plan.nodes) plan.circuits plan.limit [] 0 0
      (scenes [] plan.steps) end x.0)
  owed_then law honest (inr x) =
      law plan.settings plan.nodes (provisioning_of plan) f plan.limit plan.steps reports end x.0 form.nodes_fit honest circuits_fit
      (fits plan.settings.rate (length plan.nodes) (length plan.circuits) plan.steps known form.steps_fit) x.2

-- ---- all that is reported

pub tells : ReportsAreDue → PathScriptsSettle → (plan : Planned) (f left : Fibres) (text : List ℕ) (end : Status) → IsPlanned plan
    → AreKnown plan.steps → AreAlone plan.circuits → (f.honest ≡ true → IsHonest f)
    → Came path_walk plan.limit report_text plan.steps (world_of plan f) f text end left → Tells plan f text end left
tells owed settles plan f left text end form known alone honest x =
    tells_all path_account plan f left end Owes report_text text keeps_rounds path_new form
    (λ h reports came. owed_then plan f left reports end form known alone owed (honest h) came)
    (λ h large reports last ran. settles plan.settings plan.nodes
    (provisioning_of plan) f plan.limit plan.steps reports end last form.nodes_fit (honest h)
    (circuits_fit plan f left reports end form known alone)
    (fits plan.settings.rate (length plan.nodes) (length plan.circuits) plan.steps known form.steps_fit) large ran)
    x
