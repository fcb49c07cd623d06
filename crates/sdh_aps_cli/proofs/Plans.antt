-- What is reported of a plan that is run.
use Rattle.std.proofs.Common.{◌≡◌, ◌≢◌, true, ℕ, zero, suc, ◌+◌, List, [], ◌∷◌, ◌++◌, length, refl, ap, ap₂, sym, subst, ◌∙◌, arith, inl, inr}
use Rattle.std.proofs.Common.{append_assoc}
use Rattle.std.specs.Prelude.{◌⊎◌, Option, map, All}
use Rattle.std.specs.List.{flat_map}
use Rattle.std.specs.Io.KnownBytes.{Appends}
use Rattle.std.proofs.lemmas.Grind.{flat_map-append}
use Rattle.sdh_shell.specs.Writing.{Parts, AppendsUpTo}
use Rattle.sdh_shell.proofs.Writing.{up_to}
use Rattle.sdh_plant.specs.Fibres.{Fibres, IsHonest}
use Rattle.sdh_plant.specs.Arrivals.{Knows}
use Rattle.sdh_ringmap.specs.declared.terms.Rate.{Rate}
use Rattle.sdh_node.specs.Rings.Rounds.{World}
use Rattle.sdh_owed.specs.Steps.{world_after_step}
use Rattle.sdh_plan.specs.Planned.{Planned, IsPlanned, provisioning_of}
use Rattle.sdh_plan.specs.Steps.{Past, new_past, after}
use Rattle.sdh_plan.specs.declared.step.Step.{Step}
use Rattle.sdh_plan.specs.declared.step.Step.TheVariants as step
use Rattle.sdh_plan.specs.Scripts.{AreSteps}
use Rattle.sdh_status.specs.declared.Status.{Status}
use Rattle.sdh_status.specs.declared.Status.TheVariants as status
use Rattle.sdh_promise.specs.Scenes.{scenes}
use Rattle.sdh_promise.specs.Plans.{ring_of}
use Rattle.sdh_scripts.specs.Scripts.{Runs}
use Rattle.sdh_scripts.specs.Scripts as scripts
use Rattle.sdh_scripts.specs.Texts.{WriteFailed}
use Rattle.sdh_scripts.specs.Streams.{NoneMade, WroteSteps, LastTold, StoppedTold, CutTold}
use Rattle.sdh_scripts.proofs.Outcomes.{refused_ends}
use Rattle.sdh_scripts.proofs.Streams.{stopped_told, cut_told, so_far_of}
use Rattle.sdh_scripts.specs.Plans.{Comes}
use Rattle.sdh_scripts.specs.Plans as plans
use Rattle.sdh_scripts.proofs.Plans.{comes_of, known_then, settles_then, done_of}
use Rattle.sdh_scripts.proofs.Reporting.{reported}
use Rattle.sdh_owed.specs.Laws.{ScriptsSettle}
use Rattle.sdh_owed.specs.Reports.{report_of}
use Rattle.sdh_owed.specs.Plans.{world_of}
use Rattle.sdh_owed.proofs.Plans.{adm_new, may_start, circuits_fit}
use Rattle.sdh_aps_cli.specs.Endings.{frames_end}
use Rattle.sdh_aps_cli.specs.Signalled.{Signalled}
use Rattle.sdh_aps_cli.specs.Scripts.{signalling_walk}
use Rattle.sdh_aps_cli.specs.Listing.{begun_of, ended_of}
use Rattle.sdh_aps_cli.specs.Owed.{AreSignalled, AreOfTheNext}
use Rattle.sdh_aps_cli.specs.Laws.{ScriptsGoAsSignals, StepsGoAsSignals}
use Rattle.sdh_aps_cli.specs.Plans.{signalling_account, Owes, IsRunOf, Piece, Ended, Begun, piece_text, pieces_text, pieces_of, rounds_of_pieces}
use Rattle.sdh_aps_cli.specs.Plans.{AreFirstRounds, IsSignalledRun, CutOwes, IsCutRun, has_rounds, ends_by, MaySettle}
use Rattle.sdh_aps_cli.specs.declared.ending.Ending.TheVariants as ending
use Rattle.sdh_aps_cli.specs.declared.listing.PlanListing.{PlanListing}
use Rattle.sdh_aps_cli.specs.declared.listing.PlanListing.TheVariants as listed
use Rattle.sdh_aps_cli.proofs.Known.{keeps_rounds}
use Rattle.sdh_aps_cli.proofs.Owing.{none_shown}
use Rattle.sdh_aps_cli.proofs.Counts.{all_ran, done_rounds, stopped_rounds, stopped_other}

-- ---- the text of pieces

module _ (listing : PlanListing) where
  ended_pieces : (told : List Signalled) → pieces_text listing (map Ended told) ≡ flat_map (ended_of listing) told
  ended_pieces [] = refl
  ended_pieces (s ∷ told) = ap (λ l. ended_of listing s ++ l) (ended_pieces told)

  begun_pieces : (told : List Signalled) → pieces_text listing (map Begun told) ≡ flat_map (begun_of listing) told
  begun_pieces [] = refl
  begun_pieces (s ∷ told) = ap (λ l. begun_of listing s ++ l) (begun_pieces told)

  pub all_pieces : (ended begun : List Signalled)
      → pieces_text listing (pieces_of ended begun) ≡ flat_map (ended_of listing) ended ++ flat_map (begun_of listing) begun
  all_pieces ended begun =
      flat_map-append (piece_text listing) (map Ended ended) (map Begun begun)
      ∙ ap₂ (λ (l m : List ℕ). l ++ m) (ended_pieces ended) (begun_pieces begun)

-- ---- the first steps of a script

steps_front : (rate : Rate) (size circuits : ℕ) (past : Past) (gone later : List Step) → AreSteps rate size circuits past (gone ++ later)
    → AreSteps rate size circuits past gone
steps_front rate size circuits past [] later fit = tt
steps_front rate size circuits past (s ∷ gone) later fit = (fit.0, steps_front rate size circuits (after past s) gone later fit.1)

-- steps that were done, and a settle step after them that ended
settled_more : (limit before : ℕ) (gone : List Step) (w mid : World) (told : List Signalled) (one : Signalled) (left : World) (number : ℕ)
    → number ≡ before + length told + 1 → Runs signalling_walk limit before gone w told status.Ok mid
    → scripts.Ended signalling_walk limit number mid one left
    → Runs signalling_walk limit before (gone ++ step.Settle ∷ []) w (told ++ one ∷ []) status.Ok left
settled_more limit before [] w mid told one left number is x done =
    let same : number ≡ before + 1 = let none = ap (λ (l : List Signalled). length l) x.1.0 in omega (arith, none, is) in
    inl (
      one,
      left,
      [],
      subst (λ (v : World). scripts.Ended signalling_walk limit (before + 1) v one left) x.0
          (subst (λ k. scripts.Ended signalling_walk limit k mid one left) same done),
      ap (λ (l : List Signalled). l ++ one ∷ []) x.1.0,
      (refl, (refl, refl)),
    )
settled_more limit before (step.Settle ∷ gone) w mid told one left number is (inl (first, next, rest, ended, are, x)) done =
    let size = ap (λ (l : List Signalled). length l) are in
    inl (
      first,
      next,
      rest ++ one ∷ [],
      ended,
      ap (λ (l : List Signalled). l ++ one ∷ []) are,
      settled_more limit (before + 1) gone next mid rest one left number (omega (arith, size, is)) x done,
    )
settled_more limit before (step.Settle ∷ gone) w mid told one left number is (inr (inl x)) done = absurd (let e = x.1.1 in grind arith)
settled_more limit before (step.Settle ∷ gone) w mid told one left number is (inr (inr x)) done = absurd (let e = x.1.1 in grind arith)
settled_more limit before (this ∷ gone) w mid told one left number is x done =
    elim x [
      | inl goes ↦ inl (settled_more limit before gone (world_after_step this w) mid told one left number is goes done)
      | inr refused ↦ absurd (let e = (refused_ends {T = Signalled} this w told status.Ok mid refused).1 in grind arith)
    ]

-- ---- a run

module _ (settles : ScriptsSettle) (signals : ScriptsGoAsSignals) (steps_go : StepsGoAsSignals) (plan : Planned) (listing : PlanListing) (f : Fibres)
    (fits : IsPlanned plan) (honest : f.honest ≡ true → IsHonest f) where
  owed_comes : f.honest ≡ true → (left : Fibres) (reports : List Signalled) (end : Status)
      → Comes signalling_account plan f reports end left → Owes plan f reports end left
  owed_comes h left reports end (inl x) =
      subst (λ rs. Owes plan f rs end left) (sym x.1)
      (none_shown (ring_of plan) plan.nodes plan.limit [] 0 (scenes [] plan.steps) end x.0)
  owed_comes h left reports end (inr x) =
      signals plan.settings plan.nodes (provisioning_of plan) f (may_start plan f fits (honest h))
      plan.limit new_past plan.steps fits.steps_fit reports end x.0 x.2

  -- ---- what is reported of a step that did not end

  module _ (reports : List Signalled) (end : Status) where
    no_rounds : All (AreFirstRounds plan reports end) []
    no_rounds = λ k d low. absurd (omega (arith, low))

    of_one : {one : Signalled} → AreFirstRounds plan reports end one → All (AreFirstRounds plan reports end) (one ∷ [])
    of_one is zero d low = is
    of_one is (suc k) d low = absurd (omega (arith, low))

  -- the plan's steps can be done one after the other
  steps_as : (l : List Step) → plan.steps ≡ l → AreSteps plan.settings.rate (length plan.nodes) (length plan.circuits) new_past l
  steps_as l are = subst (λ l. AreSteps plan.settings.rate (length plan.nodes) (length plan.circuits) new_past l) are fits.steps_fit

  first_rounds : f.honest ≡ true → (reports begun : List Signalled) (end : Status) (left : World) (gone : List Step) (stops : Step)
      (later : List Step) (mid : World) → plan.steps ≡ gone ++ stops ∷ later
      → Runs signalling_walk plan.limit 0 gone (world_of plan f) reports status.Ok mid
      → LastTold signalling_walk plan.limit (length reports) stops mid begun end left → All (AreFirstRounds plan reports end) begun
  first_rounds h reports begun end left gone step.Settle later mid are went last =
      let x = last.1 in
      let so =
      steps_go plan.settings plan.nodes (provisioning_of plan) f (may_start plan f fits (honest h)) plan.limit new_past gone later
      (steps_as (gone ++ step.Settle ∷ later) are) reports mid went (length reports + 1) x.told x.mid x.so_far in
      let one : AreFirstRounds plan reports end x.told = record {
        count = so.count;
        few = so.few;
        all = λ k unsettled. (
            let ran = all_ran plan.limit (length reports) k mid left end unsettled last.0 in
            let same : left.ring.rounds ≡ x.mid.ring.rounds =
            ap (λ (v : World). v.ring.rounds) (last.3 (λ e. (let clash = sym e ∙ unsettled in grind arith))) in
            omega (arith, ran, same, so.ran));
        shown = subst (λ l. AreOfTheNext (ring_of plan) plan.nodes [] (scenes [] l) reports so.count x.told.changes) (sym are) so.shown;
      } in subst (λ l. All (AreFirstRounds plan reports end) l) (sym last.2) (of_one reports end one)
  first_rounds h reports begun end left gone s later mid are went last =
      subst (λ l. All (AreFirstRounds plan reports end) l) (sym last.1) (no_rounds reports end)

  stopped_owed : f.honest ≡ true → (reports begun : List Signalled) (end : Status) (left : World)
      → StoppedTold signalling_walk plan.limit plan.steps (world_of plan f) reports begun end left
      → All (AreFirstRounds plan reports end) begun
  stopped_owed h reports begun end left x =
      first_rounds h reports begun end left x.gone x.stops x.later x.mid x.steps_are x.went x.last

  -- ---- a run

  run_of : (left : Fibres) (reports : List Signalled) (end : Status) → Comes signalling_account plan f reports end left
      → IsRunOf plan f reports end left
  run_of left reports end came = record {
    ran = came;
    known = λ knows. known_then signalling_account plan f left end keeps_rounds adm_new fits reports came knows;
    owed = λ h. owed_comes h left reports end came;
    settles =
        λ h large. settles_then signalling_account plan f left end
        (λ told last ran. (
        let shown = reported signalling_walk refl report_of plan.limit 0 plan.steps (world_of plan f) told end last ran in
        settles plan.settings plan.nodes (provisioning_of plan) f (may_start plan f fits (honest h))
        (circuits_fit plan fits) plan.limit new_past plan.steps fits.steps_fit large shown.0 end last shown.1))
        reports came;
  }

  -- a run in which no write failed
  module _ (old new : Option (List ℕ)) (end : Status) (left : World) where
    abbrev pub Reported : Type 0
    Reported =
        (pieces : List Piece) × IsSignalledRun plan f pieces end left.fibres × Appends old new (pieces_text listing pieces)
        × (end ≢ status.PlantFault → left.ring.rounds ≡ rounds_of_pieces pieces)

    pub signalled : WroteSteps signalling_walk plan.limit (ended_of listing) (begun_of listing) plan.steps (world_of plan f) f old new end left
        → Reported
    signalled y =
        let came = run_of left.fibres y.reports end
        (comes_of signalling_walk plan.limit plan.steps (world_of plan f) f y.reports end left y.ran) in
        elim y.tail_is [
          | inl none ↦ (
            pieces_of y.reports [],
            record {
              reports = y.reports;
              came = came;
              begun = [];
              begun_is = inl (refl, none.1);
              begun_owed = λ h. no_rounds y.reports end;
              pieces_are = refl;
            },
            subst (Appends old new)
                (ap (λ l. flat_map (ended_of listing) y.reports ++ l) none.0 ∙ sym (all_pieces listing y.reports [])) y.text,
            λ other. done y.reports none.1 y.ran other,
          )
          | inr stopped ↦ (
              let told = stopped_told signalling_walk plan.limit (ended_of listing) (begun_of listing) plan.steps (world_of plan f)
              y.reports y.tail end left stopped in (
                pieces_of y.reports told.0,
                record {
                  reports = y.reports;
                  came = came;
                  begun = told.0;
                  begun_is = inr (left, refl, told.1);
                  begun_owed = λ h. stopped_owed h y.reports told.0 end left told.1;
                  pieces_are = refl;
                },
                subst (Appends old new)
                    (ap (λ l. flat_map (ended_of listing) y.reports ++ l) told.2 ∙ sym (all_pieces listing y.reports told.0)) y.text,
                λ other. stopped_rounds plan.limit plan.steps (world_of plan f) (adm_new.rounds plan) y.reports left told.0 end told.1 other,
              ))
        ]
      where
        done : (reports : List Signalled) → (end ≡ status.Ok) ⊎ NoneMade f reports end left
            → NoneMade f reports end left ⊎ Runs signalling_walk plan.limit 0 plan.steps (world_of plan f) reports end left
            → end ≢ status.PlantFault → left.ring.rounds ≡ rounds_of_pieces (pieces_of reports [])
        done reports (inr none) ran other = absurd (other none.0)
        done reports (inl ok) (inl none) other = absurd (other none.0)
        done reports (inl ok) (inr runs) other =
            done_rounds plan.limit plan.steps (world_of plan f) (adm_new.rounds plan) reports left
            (subst (λ (how : Status). Runs signalling_walk plan.limit 0 plan.steps (world_of plan f) reports how left) ok runs)

  -- the first steps of the plan's script, where they came to their end
  gone_shown : f.honest ≡ true → (gone later : List Step) → plan.steps ≡ gone ++ later → (reports : List Signalled) (left : World)
      → Runs signalling_walk plan.limit 0 gone (world_of plan f) reports status.Ok left
      → AreSignalled (ring_of plan) plan.nodes plan.limit [] 0 (scenes [] gone) reports status.Ok
  gone_shown h gone later are reports left went =
      signals plan.settings plan.nodes (provisioning_of plan) f (may_start plan f fits (honest h)) plan.limit new_past gone
      (steps_front plan.settings.rate (length plan.nodes) (length plan.circuits) new_past gone later (steps_as (gone ++ later) are))
      reports status.Ok left went

  -- what was to be written where a write failed
  cut_owes : f.honest ≡ true → (done shown ended begun : List Signalled) (left : World)
      → CutTold signalling_walk plan.limit plan.steps (world_of plan f) done shown ended begun left → CutOwes plan ended begun
  cut_owes h done shown ended begun left x = elim x.was [
    | inl b ↦ (let so =
        steps_go plan.settings plan.nodes (provisioning_of plan) f (may_start plan f fits (honest h)) plan.limit new_past x.gone x.later
        (steps_as (x.gone ++ step.Settle ∷ x.later) x.steps_are) done x.mid x.went (length done + 1) b.1 left
        (so_far_of signalling_walk plan.limit (length done + 1) x.mid b.0 b.1 left b.2) in
        let one : AreFirstRounds plan done status.WriteFault b.1 = record {
          count = so.count;
          few = so.few;
          all = λ k unsettled. absurd (grind arith);
          shown =
              subst (λ l. AreOfTheNext (ring_of plan) plan.nodes [] (scenes [] l) done so.count b.1.changes) (sym x.steps_are)
              so.shown;
        } in
        record {
          gone = x.gone;
          later = step.Settle ∷ x.later;
          steps_are = x.steps_are;
          shown = subst (ShownOf x.gone) (sym b.4) (gone_shown h x.gone (step.Settle ∷ x.later) x.steps_are done x.mid x.went);
          next =
              subst (λ l. All (AreFirstRounds plan ended status.WriteFault) l) (sym b.5)
              (of_one ended status.WriteFault (subst (λ rs. AreFirstRounds plan rs status.WriteFault b.1) (sym b.4) one));
        })
    | inr e ↦ (let all = x.gone ++ step.Settle ∷ [] in
        let are : plan.steps ≡ all ++ x.later = x.steps_are ∙ sym (append_assoc x.gone (step.Settle ∷ []) x.later) in
        record {
          gone = all;
          later = x.later;
          steps_are = are;
          shown =
              subst (ShownOf all) (sym e.3)
              (gone_shown h all x.later are (done ++ e.0 ∷ []) left
              (settled_more plan.limit 0 x.gone (world_of plan f) x.mid done e.0 left (length done + 1) (omega arith) x.went e.1));
          next = subst (λ l. All (AreFirstRounds plan ended status.WriteFault) l) (sym e.4) (no_rounds ended status.WriteFault);
        })
  ]
    where
      ShownOf : List Step → List Signalled → Type 0
      ShownOf gone rs = AreSignalled (ring_of plan) plan.nodes plan.limit [] 0 (scenes [] gone) rs status.Ok

  -- a run in which a write failed
  pub cut_run : (old new : Option (List ℕ)) (left : World)
      → WriteFailed signalling_walk plan.limit (ended_of listing) (begun_of listing) plan.steps (world_of plan f) old new left
      → (text : Parts) × IsCutRun listing plan f text left.fibres × AppendsUpTo old new text
  cut_run old new left y =
      let told = cut_told signalling_walk plan.limit (ended_of listing) (begun_of listing) plan.steps (world_of plan f) old new left y in
      let before = flat_map (ended_of listing) y.reports ++ y.first in (
        record { first = before; last = y.last },
        record {
          done = y.reports;
          shown = told.0;
          ended = told.1;
          begun = told.2;
          last = left;
          last_is = refl;
          cut = told.3;
          owed = λ h. cut_owes h y.reports told.0 told.1 told.2 left told.3;
          first_is = told.4 ∙ sym (all_pieces listing y.reports told.0);
          text_is = told.5 ∙ sym (all_pieces listing told.1 told.2);
        },
        up_to old y.front.0 new before y.last y.front.1 y.front.2,
      )

-- ---- how it ends

-- a run that settles and that no fault broke off is done
lines_done : (plan : Planned) (f left : Fibres) (pieces : List Piece) (end : Status) → IsSignalledRun plan f pieces end left
    → plans.MaySettle signalling_account plan f → (end ≡ status.PlantFault → ⊥) → end ≡ status.Ok
lines_done plan f left pieces end x may fine = done_of signalling_account plan f left end x.reports x.came may fine

-- where arrivals are known, a run that is done reports all that the script comes to
known_pieces : (plan : Planned) (f left : Fibres) (pieces : List Piece) (end : Status) → IsSignalledRun plan f pieces end left
    → Knows (world_of plan f).fibres → end ≡ status.Ok → pieces ≡ pieces_of (plans.ran_of signalling_account plan f).reports []
known_pieces plan f left pieces end x knows done =
    let ran = plans.ran_of signalling_account plan f in
    let reports : x.reports ≡ ran.reports = elim (x.came.known knows) [
      | inl is ↦ is.reports_are
      | inr cut ↦ absurd (let e = sym cut.0 ∙ done in grind arith)
    ] in
    let begun : x.begun ≡ [] = elim x.begun_is [
      | inl none ↦ none.0
      | inr stopped ↦ absurd (stopped_other plan.limit plan.steps (world_of plan f) x.reports x.begun end stopped.0 stopped.2 done)
    ] in
    x.pieces_are ∙ ap₂ (λ (r b : List Signalled). pieces_of r b) reports begun

-- with all that is needed, and no fault, a run ends with Ok
pub run_done : (listing : PlanListing) (plan : Planned) (f left : Fibres) (pieces : List Piece) (end : Status)
    → IsSignalledRun plan f pieces end left → MaySettle listing plan f → (end ≡ status.PlantFault → ⊥)
    → ends_by listing (rounds_of_pieces pieces) end ≡ ending.Shared status.Ok
run_done (listed.Lines l) plan f left pieces end x may fine = ap ending.Shared (lines_done plan f left pieces end x may fine)
run_done (listed.Frames ask) plan f left pieces end x may fine =
    let done = lines_done plan f left pieces end x (inl (may.0, may.1)) fine in
    let all : has_rounds ask (rounds_of_pieces pieces) ≡ true =
    ap (λ (p : List Piece). has_rounds ask (rounds_of_pieces p)) (known_pieces plan f left pieces end x may.0 done) ∙ may.2 in
    ap₂ frames_end all done
