-- What is reported of a plan, by the laws of its ring.
use Rattle.std.proofs.Common.{◌≡◌, true, ℕ, ◌≤◌, List, [], ◌++◌, length, refl, ap, sym, ◌∙◌, subst, arith, inl, inr}
use Rattle.std.proofs.Common.{append-nil}
use Rattle.std.specs.Prelude.{◌⊎◌, Option}
use Rattle.std.specs.List.{flat_map}
use Rattle.std.specs.Io.KnownBytes.{Appends}
use Rattle.std.proofs.KnownBytes.{Appends-nil}
use Rattle.sdh_plant.specs.Fibres.{Fibres}
use Rattle.sdh_plant.specs.Calls.{prepared}
use Rattle.sdh_plant.specs.Arrivals.{Knows}
use Rattle.sdh_rounds.specs.Held.{HeldRing, World, world}
use Rattle.sdh_rounds.specs.Quiet.{enough_for}
use Rattle.sdh_plan.specs.Planned.{Planned, IsPlanned}
use Rattle.sdh_plan.specs.declared.step.Step.{Step}
use Rattle.sdh_status.specs.declared.Status.{Status}
use Rattle.sdh_status.specs.declared.Status.TheVariants as status
use Rattle.sdh_ringmap.specs.declared.terms.Rate.{Rate}
use Rattle.sdh_scripts.specs.Walks.{Walk}
use Rattle.sdh_scripts.specs.Scripts.{Runs}
use Rattle.sdh_scripts.specs.Texts.{Lists}
use Rattle.sdh_scripts.specs.Streams.{NoneMade, WroteSteps}
use Rattle.sdh_scripts.specs.Outcomes.{with_fibres, Came, ComesOfSteps, AllSettled, ComesOfKnownRun}
use Rattle.sdh_scripts.specs.Laws.{KeepsRounds}
use Rattle.sdh_scripts.specs.Plans.{Account, ReportsOwe, world_of, ran_of, Comes, ComesKnown, MaySettle, IsRunOf, Tells}
use Rattle.sdh_scripts.specs.NewRuns.{MayStartRun, IsRunOfPlan}
use Rattle.sdh_scripts.specs.declared.run.NewRun.{NewRun}
use Rattle.sdh_scripts.proofs.Texts.{silent_tail}
use Rattle.sdh_scripts.proofs.Outcomes.{EndsIn, comes_ends, known_comes, settled_done, known_done, settled_by, fault_settles}

-- ---- what a run over new fibres came to

module _ {N T : Type 0} (walk : Walk N T) (limit : ℕ) (text_of begun_of : T → List ℕ) (steps : List Step) where
  -- no fibres were made
  pub wrote_none : (w : World N) (f : Fibres) (left : World N) (old : Option (List ℕ)) → left.fibres ≡ f
      → WroteSteps walk limit text_of begun_of steps w f old old status.PlantFault left
  wrote_none w f left old same = record {
    reports = [];
    ran = inl (refl, refl, same);
    tail = [];
    tail_is = inl (refl, inr (refl, refl, same));
    text = Appends-nil old;
  }

  -- the script ran
  pub wrote_ran : (w : World N) (f : Fibres) (left : World N) (old new : Option (List ℕ)) (end : Status)
      → Lists walk limit text_of begun_of steps w old new end left → WroteSteps walk limit text_of begun_of steps w f old new end left
  wrote_ran w f left old new end x = record {
    reports = x.reports;
    ran = inr x.runs;
    tail = x.tail;
    tail_is = elim x.tail_is [
      | inl done ↦ inl (done.1, inl done.0)
      | inr stopped ↦ inr stopped
    ];
    text = x.text;
  }

-- a ring over fibres that are those prepared for it
pub laid_over : {N : Type 0} (r : HeldRing N) (rate : Rate) (n : ℕ) (f made : Fibres) → rate ≡ r.settings.rate → n ≡ length r.ids
    → made ≡ prepared rate n f → world r made ≡ with_fibres r f
laid_over r rate n f made rates nodes is =
    ap (world r) (is ∙ ap (λ (a : Rate). prepared a n f) rates ∙ ap (λ (k : ℕ). prepared r.settings.rate k f) nodes)

-- what a run over fibres wrote is of these reports, which came of its steps
pub comes_of : {N T : Type 0} (walk : Walk N T) (limit : ℕ) (steps : List Step) (w : World N) (f : Fibres) (reports : List T) (end : Status)
    (left : World N) → NoneMade f reports end left ⊎ Runs walk limit 0 steps w reports end left
    → ComesOfSteps walk limit steps w f reports end left.fibres
comes_of walk limit steps w f reports end left (inl none) = inl none
comes_of walk limit steps w f reports end left (inr runs) = inr (left, refl, runs)

-- where nothing is written of a step that didn't end, the text is that of the settle steps that ended
pub came_silent : {N T : Type 0} (walk : Walk N T) (limit : ℕ) (text_of : T → List ℕ) (steps : List Step) (w : World N) (f : Fibres)
    (left : World N) (old new : Option (List ℕ)) (end : Status) → WroteSteps walk limit text_of (λ told. []) steps w f old new end left
    → (text : List ℕ) × Came walk limit text_of steps w f text end left.fibres × Appends old new text
came_silent walk limit text_of steps w f left old new end x =
    let text = flat_map text_of x.reports in (
      text,
      record { reports = x.reports; text_is = refl; ran = comes_of walk limit steps w f x.reports end left x.ran },
      subst (Appends old new)
          (ap (λ (t : List ℕ). text ++ t) (silent_tail walk limit steps w f x.reports x.tail end left x.tail_is) ∙ append-nil text) x.text,
    )

-- ---- the run of a plan

-- the ring of a plan has the plan's rate and identifiers, a node for each, and no round has run in it
pub record IsNew {N : Type 0} (new_ring : Planned → HeldRing N) : Type 0 where
  pub rate : (plan : Planned) → (new_ring plan).settings.rate ≡ plan.settings.rate
  pub ids : (plan : Planned) → (new_ring plan).ids ≡ plan.nodes
  pub nodes : (plan : Planned) → length (new_ring plan).nodes ≡ length plan.nodes
  pub rounds : (plan : Planned) → (new_ring plan).rounds ≡ 0

-- what holds of the plan's steps, its new ring and fibres prepared for it holds of what equals these
pub as_planned : {N : Type 0} (Holds : List Step → HeldRing N → Fibres → Type 0) (plan : Planned) (new r : HeldRing N) (rate : Rate) (n : ℕ)
    (steps : List Step) (f : Fibres) → r ≡ new → rate ≡ plan.settings.rate → n ≡ length plan.nodes → steps ≡ plan.steps
    → Holds plan.steps new (prepared plan.settings.rate (length plan.nodes) f) → Holds steps r (prepared rate n f)
as_planned {N} Holds plan new r rate n steps f ring rates size same x =
    subst (λ (t : List Step × HeldRing N × Rate × ℕ). Holds t.0 t.1 (prepared t.2 t.3 f)) (sym (λ i. (same i, ring i, rates i, size i))) x

module _ {N T R : Type 0} (ring : R → HeldRing N) (t : Account N T) (plan : Planned) (run : NewRun R) (is : IsRunOfPlan ring t plan run) where
  -- the run of a plan may start
  pub may_start_of : (MayRun : ℕ → List Step → R → Fibres → Type 0) → IsNew t.new_ring
      → ((f : Fibres) → MayRun 0 run.script.steps.items run.runner (prepared run.script.rate run.script.nodes f))
      → MayStartRun ring MayRun run.runner run.script
  may_start_of MayRun new may =
      let least = is.form.nodes_fit.enough in
      let most = is.form.nodes_fit.few in
      let low = is.form.limit_from_1 in
      let high = is.form.limit_small in
      let nodes = is.script_is.nodes in
      let limit = is.script_is.limit in
      record {
        rate = is.script_is.rate ∙ sym (ap (λ (r : HeldRing N). r.settings.rate) is.ring_is ∙ new.rate plan);
        nodes = nodes ∙ sym (ap (λ (r : HeldRing N). length r.ids) is.ring_is ∙ ap (λ (l : List ℕ). length l) (new.ids plan));
        enough = omega (arith, nodes, least);
        few = omega (arith, nodes, most);
        may = may;
        limit_from_1 = omega (arith, limit, low);
        limit_small = omega (arith, limit, high);
      }

  -- what holds of the limit, the steps and the new world of the run holds of those of the plan
  pub of_plan : (f : Fibres) (Holds : ℕ → List Step → World N → Type 0)
      → Holds run.script.limit run.script.steps.items (with_fibres (ring run.runner) f) → Holds plan.limit plan.steps (world_of t plan f)
  of_plan f Holds x =
      subst (λ (r : HeldRing N). Holds plan.limit plan.steps (with_fibres r f)) is.ring_is
      (subst (λ (l : List Step). Holds plan.limit l (with_fibres (ring run.runner) f)) is.script_is.steps
      (subst (λ (k : ℕ). Holds k run.script.steps.items (with_fibres (ring run.runner) f)) is.script_is.limit x))

  -- what the run of a plan wrote is what the plan's script comes to, where nothing is written of a step that didn't end
  pub came_of : (text_of : T → List ℕ) (f : Fibres) (left : World N) (old new : Option (List ℕ)) (end : Status)
      → WroteSteps t.walk run.script.limit text_of (λ told. []) run.script.steps.items (with_fibres (ring run.runner) f) f old new end left
      → (text : List ℕ) × Came t.walk plan.limit text_of plan.steps (world_of t plan f) f text end left.fibres × Appends old new text
  came_of text_of f left old new end x =
      came_silent t.walk plan.limit text_of plan.steps (world_of t plan f) f left old new end
      (of_plan f (λ k l w. WroteSteps t.walk k text_of (λ told. []) l w f old new end left) x)

-- ---- all that is reported

module _ {N T : Type 0} (t : Account N T) (plan : Planned) (f left : Fibres) (end : Status) where
  pub known_then : KeepsRounds t.walk → IsNew t.new_ring → IsPlanned plan → (reports : List T) → Comes t plan f reports end left
      → Knows (world_of t plan f).fibres → ComesKnown t plan f reports end left
  known_then law new fits reports x knows =
      let least = fits.nodes_fit.enough in
      let size : length (t.new_ring plan).ids ≡ length plan.nodes = ap (λ (l : List ℕ). length l) (new.ids plan) in
      let some : 1 ≤ length (t.new_ring plan).ids = omega (arith, size, least) in
      subst (λ (n : ℕ). ComesOfKnownRun t.walk (ran_of t plan f) n f reports end left) size
      (known_comes t.walk law plan.limit plan.steps (world_of t plan f) f (new.rounds plan) refl some
      (new.nodes plan ∙ sym size) left reports end x knows)

  -- where each run of the script settles, so does what came over any plant
  pub settles_then : ((reports : List T) (last : World N) → Runs t.walk plan.limit 0 plan.steps (world_of t plan f) reports end last
      → AllSettled end) → (reports : List T) → Comes t plan f reports end left → AllSettled end
  settles_then law reports (inl x) = settled_by end status.PlantFault x.0 fault_settles
  settles_then law reports (inr x) = law reports x.0 x.2

  pub tells_all : (Owes : ReportsOwe T) (text_of : T → List ℕ) (text : List ℕ) → KeepsRounds t.walk → IsNew t.new_ring → IsPlanned plan
      → (f.honest ≡ true → (reports : List T) → Comes t plan f reports end left → Owes plan f reports end left)
      → (f.honest ≡ true → enough_for (length plan.nodes) ≤ plan.limit → (reports : List T) (last : World N)
      → Runs t.walk plan.limit 0 plan.steps (world_of t plan f) reports end last → AllSettled end)
      → Came t.walk plan.limit text_of plan.steps (world_of t plan f) f text end left → Tells t Owes text_of plan f text end left
  tells_all Owes text_of text law new fits owes settled x = record {
    reports = x.reports;
    text_is = x.text_is;
    came = record {
      ran = x.ran;
      known = λ knows. known_then law new fits x.reports x.ran knows;
      owed = λ honest. owes honest x.reports x.ran;
      settles = λ honest large. settles_then (settled honest large) x.reports x.ran;
    };
  }

  -- the ways in which the run of a plan ends
  pub ends_of : {Owes : ReportsOwe T} (reports : List T) → IsRunOf t Owes plan f reports end left → EndsIn end
  ends_of reports x = comes_ends t.walk plan.limit plan.steps (world_of t plan f) f left reports end x.ran

  -- a script that settles, and that no fault broke off, is done
  pub done_of : {Owes : ReportsOwe T} (reports : List T) → IsRunOf t Owes plan f reports end left → MaySettle t plan f → (end ≡ status.PlantFault → ⊥)
      → end ≡ status.Ok
  done_of reports x (inl may) fine = known_done t.walk (ran_of t plan f) (length plan.nodes) f left reports end (x.known may.0) may.1 fine
  done_of reports x (inr may) fine =
      settled_done t.walk plan.limit plan.steps (world_of t plan f) f left reports end x.ran (x.settles may.0 may.1) fine
