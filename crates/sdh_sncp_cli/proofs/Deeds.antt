-- What is done with a plan.
use Rattle.std.proofs.Common.{◌≡◌, ℕ, Some, None, List, [], refl, ap, ap₂, sym, ◌∙◌, subst, arith, inl, inr}
use Rattle.std.specs.Prelude.{Option, Result, Err}
use Rattle.std.proofs.lemmas.Bool.{cases_order}
use Rattle.std.specs.Io.KnownBytes.{Appends}
use Rattle.sdh_circuits.specs.Provisioned.{Provisioned}
use Rattle.sdh_plan.specs.Planned.{Planned}
use Rattle.sdh_report.specs.Reports.{report_text}
use Rattle.sdh_scripts.specs.NewRuns.{IsRunOfPlan}
use Rattle.sdh_scripts.proofs.Plans.{came_of}
use Rattle.sdh_programs.specs.Programs.{Deed, Refuses, Writes, Runs}
use Rattle.sdh_programs.specs.Deeds.{IsOnly}
use Rattle.sdh_programs.specs.Laws.{StepsAreReported}
use Rattle.sdh_programs.proofs.Promises.{RunsAlone}
use Rattle.sdh_sncp.specs.Fixed.{AreAlone}
use Rattle.sdh_sncp.specs.Sharing.{Share, AreFirstToShare}
use Rattle.sdh_sncp.specs.declared.ring.PathError.{PathError}
use Rattle.sdh_sncp.specs.declared.ring.PathError.TheVariants.{SameSlot}
use Rattle.sdh_sncp_cli.specs.Steps.{first_strange, AreKnown}
use Rattle.sdh_sncp_cli.specs.Walking.{path_walk}
use Rattle.sdh_sncp_cli.specs.Running.{running_ring}
use Rattle.sdh_sncp_cli.specs.Laws.{ReportsAreDue, PathScriptsSettle}
use Rattle.sdh_sncp_cli.specs.Plans.{path_account}
use Rattle.sdh_sncp_cli.specs.Outcome.{DoesPath, pathing}
use Rattle.sdh_sncp_cli.specs.declared.ending.Ending.{Ending}
use Rattle.sdh_sncp_cli.specs.declared.ending.Ending.TheVariants as ending
use Rattle.sdh_sncp_cli.specs.declared.script.PathRun.{PathRun}
use Rattle.sdh_sncp_cli.proofs.Plans.{tells}

-- ---- one thing is done with it

-- where no two circuits share a slot, no two are the first to share one
none_share : (plan : Planned) (i j : ℕ) (A : Type 0) → AreAlone plan.circuits → AreFirstToShare plan.circuits i j → A
none_share plan i j A alone x =
    absurd (let same : i ≡ j = alone i j x.share.first x.share.second x.share.first_is x.share.second_is x.share.slot in omega
    (arith, x.order, same))

-- where a path ring has all steps, no step is the first that it doesn't have
none_strange : (plan : Planned) (step : ℕ) (A : Type 0) → first_strange plan.steps ≡ None → first_strange plan.steps ≡ Some step → A
none_strange plan step A known strange = absurd (both known strange)
  where
    both : first_strange plan.steps ≡ None → first_strange plan.steps ≡ Some step → ⊥
    both a b = grind arith

pub run_alone : RunsAlone pathing tt
run_alone plan listing (Refuses (ending.NoSuchStep step)) does other = none_strange plan step _ does.0 other
run_alone plan listing (Refuses (ending.SameSlot first second)) does other = none_share plan first second _ does.1 other.1
run_alone plan listing (Refuses (ending.Shared how)) does other = absurd other
run_alone plan listing (Writes told) does other = absurd other
run_alone plan listing (Runs listed) does other = refl

pub run_only : (plan : Planned) → AreKnown plan.steps → AreAlone plan.circuits → IsOnly pathing tt plan (Runs tt)
run_only plan known alone = record { does = (known, alone); only = λ other d. run_alone plan tt other (known, alone) d }

-- a number is one number
some_same : (a b : ℕ) → ◌≡◌ {A = Option ℕ} (Some a) (Some b) → a ≡ b
some_same a b e = grind arith

-- the first step that a path ring doesn't have is one step
pub strange_only : (plan : Planned) (step : ℕ) → first_strange plan.steps ≡ Some step
    → IsOnly pathing tt plan (Refuses (ending.NoSuchStep step))
strange_only plan step is = record { does = is; only = only }
  where
    only : (other : Deed (Unit {0}) Ending) → DoesPath plan other → other ≡ Refuses (ending.NoSuchStep step)
    only (Refuses (ending.NoSuchStep found)) d = ap (λ k. Refuses (ending.NoSuchStep k)) (some_same found step (sym d ∙ is))
    only (Refuses (ending.SameSlot first second)) d = none_strange plan step _ d.0 is
    only (Refuses (ending.Shared how)) d = absurd d
    only (Writes told) d = absurd d
    only (Runs listing) d = none_strange plan step _ d.0 is

-- no other two circuits are the first that share a slot
first_shared : (cs : List Provisioned) (i j k l : ℕ) → AreFirstToShare cs i j → AreFirstToShare cs k l → (i ≡ k) × (j ≡ l)
first_shared cs i j k l x y =
    let second : j ≡ l = elim (cases_order j l) [
      | inl same ↦ same
      | inr (inl before) ↦ absurd (y.least_second i j x.order before x.share)
      | inr (inr after) ↦ absurd (x.least_second k l y.order after y.share)
    ] in (
      elim (cases_order i k) [
        | inl same ↦ same
        | inr (inl before) ↦ absurd (y.least_first i before (subst (Share cs i) second x.share))
        | inr (inr after) ↦ absurd (x.least_first k after (subst (Share cs k) (sym second) y.share))
      ],
      second,
    )

-- the first two circuits that share a slot are two circuits
pub share_only : (plan : Planned) (first second : ℕ) → AreKnown plan.steps → AreFirstToShare plan.circuits first second
    → IsOnly pathing tt plan (Refuses (ending.SameSlot first second))
share_only plan first second known share = record { does = (known, share); only = only }
  where
    only : (other : Deed (Unit {0}) Ending) → DoesPath plan other → other ≡ Refuses (ending.SameSlot first second)
    only (Refuses (ending.NoSuchStep step)) d = none_strange plan step _ known d
    only (Refuses (ending.SameSlot i j)) d =
        let same = first_shared plan.circuits i j first second d.1 share in
        ap₂ (λ a b. Refuses (ending.SameSlot a b)) same.0 same.1
    only (Refuses (ending.Shared how)) d = absurd d
    only (Writes told) d = absurd d
    only (Runs listing) d = none_share plan first second _ d.1 share

pub slot_error : {T : Type 0} (why : PathError) (first second : ℕ) → why ≡ SameSlot first second
    → ◌≡◌ {A = Result T PathError} (Err why) (Err (SameSlot first second))
slot_error why first second is = ap (λ (w : PathError). Err w) is

-- ---- what its run comes to

-- what was written of the steps of a plan is what is listed of a run of the plan
pub reported : ReportsAreDue → PathScriptsSettle
    → StepsAreReported pathing path_walk running_ring (λ (r : PathRun) told. report_text told) (λ r told. [])
    (λ listing plan run. IsRunOfPlan running_ring path_account plan run × AreKnown plan.steps × AreAlone plan.circuits) (λ told end ring. Unit {0})
reported owed settles listing plan run f old new end left begins fresh x =
    let y = came_of running_ring path_account plan run begins.0 report_text f left old new end x in
    let t = tells owed settles plan f left.fibres y.0 end begins.0.form begins.1 begins.2 fresh.honest y.1 in
    record { told = t.reports; came = t.came; text = subst (Appends old new) t.text_is y.2; leaves = tt }
