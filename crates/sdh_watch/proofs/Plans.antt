-- What comes of a plan with watches.
use Rattle.std.proofs.Common.{◌≡◌, true, ℕ, List, [], sym, subst, inl, inr}
use Rattle.sdh_plant.specs.Fibres.{Fibres, IsHonest}
use Rattle.sdh_plan.specs.Planned.{Planned, IsPlanned, provisioning_of}
use Rattle.sdh_plan.specs.Steps.{new_past}
use Rattle.sdh_status.specs.declared.Status.{Status}
use Rattle.sdh_promise.specs.Scenes.{scenes}
use Rattle.sdh_promise.specs.Plans.{ring_of}
use Rattle.sdh_scripts.specs.Outcomes.{Came}
use Rattle.sdh_scripts.specs.Plans.{Comes}
use Rattle.sdh_scripts.proofs.Plans.{tells_all}
use Rattle.sdh_owed.proofs.Plans.{adm_new, may_start, circuits_fit}
use Rattle.sdh_owed.specs.Plans.{world_of}
use Rattle.sdh_watch.specs.Shows.{Watched}
use Rattle.sdh_watch.specs.Laws.{WatchesAreClean, WatchedScriptsSettle}
use Rattle.sdh_watch.specs.Scripts.{watch_walk}
use Rattle.sdh_watch.proofs.Known.{keeps_rounds}
use Rattle.sdh_watch.proofs.Owing.{clean_none}
use Rattle.sdh_watch.specs.Lines.{watched_text}
use Rattle.sdh_watch.specs.Plans.{ShowsClean, watch_account, Owes, Tells}

-- ---- over honest fibres

module _ (plan : Planned) (f left : Fibres) (reports : List Watched) (end : Status) (fits : IsPlanned plan) (honest : IsHonest f) where
  owed_comes : WatchesAreClean → Comes watch_account plan f reports end left → ShowsClean plan reports end
  owed_comes law (inl x) =
      subst (λ rs. ShowsClean plan rs end) (sym x.1) (clean_none (ring_of plan) plan.limit [] 0 (scenes [] plan.steps) end x.0)
  owed_comes law (inr x) =
      law plan.settings plan.nodes (provisioning_of plan) f (may_start plan f fits honest)
      (circuits_fit plan fits) plan.limit new_past plan.steps fits.steps_fit reports end x.0 x.2

-- ---- all that is reported

pub tells : WatchesAreClean → WatchedScriptsSettle → (plan : Planned) (f left : Fibres) (text : List ℕ) (end : Status) → IsPlanned plan
    → (f.honest ≡ true → IsHonest f)
    → Came watch_walk plan.limit watched_text plan.steps (world_of plan f) f text end left → Tells plan f text end left
tells owed settles plan f left text end fits honest x =
    tells_all watch_account plan f left end Owes watched_text text keeps_rounds adm_new fits
    (λ h reports came. owed_comes plan f left reports end fits (honest h) owed came)
    (λ h large reports last ran. settles plan.settings plan.nodes (provisioning_of plan) f (may_start plan f fits (honest h))
    (circuits_fit plan fits) plan.limit new_past plan.steps fits.steps_fit large reports end last ran)
    x
