-- Walks that run no round after a settle step.
use Rattle.std.proofs.Common.{◌≡◌, ℕ, ◌+◌, ◌-◌, List, [], ◌∷◌, ◌++◌, length, refl, ap, sym, ◌∙◌, subst, arith, inl, inr, append-nil}
use Rattle.sdh_plant.specs.Fibres.{Arrival, Fibres}
use Rattle.sdh_rounds.specs.Stations.{Station}
use Rattle.sdh_rounds.specs.Held.{HeldRing, World}
use Rattle.sdh_rounds.specs.Runs.{run_with, course_with}
use Rattle.sdh_rounds.specs.Quiet.{Settles, BreaksOff}
use Rattle.sdh_rounds.proofs.Runs.{course_whole}
use Rattle.sdh_plan.specs.declared.step.Step.{Step}
use Rattle.sdh_plan.specs.declared.step.Step.TheVariants as step
use Rattle.sdh_report.specs.Reports.{Report}
use Rattle.sdh_status.specs.declared.Status.{Status}
use Rattle.sdh_scripts.specs.Walks.{Walk, reporting}
use Rattle.sdh_scripts.specs.Scripts.{Ended, Breaks, Refuses, Runs}
use Rattle.sdh_scripts.specs.Laws.{DoesNoRound, KeepsRounds}

no_rounds : (xs : List (List Arrival)) → length xs ≡ 0 → xs ≡ []
no_rounds [] h = refl
no_rounds (x ∷ xs) h = absurd (omega arith)

-- ---- any report

module _ {N T : Type 0} (walk : Walk N T) (none : walk.behind ≡ 0) where
  -- a settle step that ended, with the report of its rounds
  pub ended_with : (limit number : ℕ) (w left : World N) → (s : Settles walk.station w limit left)
      → Ended walk limit number w (walk.tells number (course_with walk.station s.rounds w) (length s.rounds)) left
  ended_with limit number w left s = record {
    mid = left;
    settles = s;
    behind = [];
    arrive = tt;
    count = sym none;
    left_is = refl;
    told_is = ap (λ rs. walk.tells number (course_with walk.station rs w) (length s.rounds)) (sym (append-nil s.rounds));
  }

  -- a settle step that ended left this world
  pub settles_with : (limit number : ℕ) (w : World N) (told : T) (left : World N) → Ended walk limit number w told left
      → Settles walk.station w limit left
  settles_with limit number w told left e =
      subst (Settles walk.station w limit) (sym (e.left_is ∙ ap (λ rs. run_with walk.station rs e.mid)
      (no_rounds e.behind (e.count ∙ none)))) e.settles

  -- a fault that broke a settle step off broke off one of the step's own rounds
  pub breaks_with : (limit : ℕ) (w : World N) (left : Fibres) → Breaks walk limit w left → BreaksOff walk.station w limit left
  breaks_with limit w left (inl b) = b
  breaks_with limit w left (inr b) = let few = b.few in absurd (omega (arith, none))

-- ---- reports of the ring

module _ {N : Type 0} (station : Station N) (does : Step → World N → World N) (report : ℕ → HeldRing N → Report) where
  -- the ring that a step left is that of the last world of its course
  last_of : (w : World N) (limit : ℕ) (left : World N) → (s : Settles station w limit left)
      → left ≡ course_with station s.rounds w (length s.rounds)
  last_of w limit left s = s.left_is ∙ course_whole station s.rounds w

  pub ended_by : (w : World N) (limit number : ℕ) (left : World N) → Settles station w limit left
      → Ended (reporting station does report) limit number w (report number left.ring) left
  ended_by w limit number left s =
      subst (λ (v : World N). Ended (reporting station does report) limit number w (report number v.ring) left)
      (sym (last_of w limit left s)) (ended_with (reporting station does report) refl limit number w left s)

  -- a settle step that ended left this world, and its report shows the ring
  pub settles_by : (w : World N) (limit number : ℕ) (told : Report) (left : World N)
      → Ended (reporting station does report) limit number w told left → Settles station w limit left
  settles_by w limit number told left e = settles_with (reporting station does report) refl limit number w told left e

  told_by : (w : World N) (limit number : ℕ) (told : Report) (left : World N)
      → Ended (reporting station does report) limit number w told left → told ≡ report number left.ring
  told_by w limit number told left e =
      let none = no_rounds e.behind e.count in
      let same : left ≡ e.mid = e.left_is ∙ ap (λ rs. run_with station rs e.mid) none in
      e.told_is
      ∙ ap (λ rs. report number (course_with station (e.settles.rounds ++ rs) w (length e.settles.rounds)).ring) none
      ∙ ap (λ rs. report number (course_with station rs w (length e.settles.rounds)).ring) (append-nil e.settles.rounds)
      ∙ ap (λ (v : World N). report number v.ring) (sym (last_of w limit e.mid e.settles) ∙ sym same)

  pub reports_by : (w : World N) (limit number : ℕ) (told : Report) (left : World N) (reports rest : List Report)
      → Ended (reporting station does report) limit number w told left → reports ≡ told ∷ rest → reports ≡ report number left.ring ∷ rest
  reports_by w limit number told left reports rest e is = is ∙ ap (λ r. r ∷ rest) (told_by w limit number told left e)

  pub breaks_by : (w : World N) (limit : ℕ) (left : Fibres) → Breaks (reporting station does report) limit w left
      → BreaksOff station w limit left
  breaks_by w limit left b = breaks_with (reporting station does report) refl limit w left b

  pub keeps_by : DoesNoRound does → ((number : ℕ) (r : HeldRing N) → (report number r).round ≡ r.rounds - 1)
      → KeepsRounds (reporting station does report)
  keeps_by other last = record {
    other = other;
    last = λ number at k. last number (at k).ring;
    looks = λ number k at bt same. ap (λ (v : World N). report number v.ring) (same k (omega arith));
  }

-- ---- a script that runs with any report also runs with reports of the ring

refuses_of : {N T : Type 0} (S : Type 0) (s : Step) (w : World N) (told : List T) (end : Status) (left : World N)
    → Refuses s w told end left → Refuses {T = S} s w [] end left
refuses_of S (step.Fibre e) w told end left x = (x.0, (refl, x.1.1))
refuses_of S s w told end left x = absurd x

pub reported : {N T : Type 0} (walk : Walk N T) → walk.behind ≡ 0
    → (report : ℕ → HeldRing N → Report) (limit before : ℕ) (steps : List Step) (w : World N) (told : List T) (end : Status)
    (left : World N) → Runs walk limit before steps w told end left
    → (reports : List Report) × Runs (reporting walk.station walk.does report) limit before steps w reports end left
reported walk none report limit before [] w told end left x = ([], (x.0, (refl, x.1.1)))
reported walk none report limit before (step.Settle ∷ later) w told end left (inl (one, next, rest, ended, is, x)) =
    let more = reported walk none report limit (before + 1) later next rest end left x in
    let s = settles_with walk none limit (before + 1) w one next ended in
    let r = report (before + 1) next.ring in
    (r ∷ more.0, inl (r, next, more.0, ended_by walk.station walk.does report w limit (before + 1) next s, refl, more.1))
reported walk none report limit before (step.Settle ∷ later) w told end left (inr (inl x)) = ([], inr (inl (x.0, (refl, x.1.1))))
reported walk none report limit before (step.Settle ∷ later) w told end left (inr (inr x)) =
    ([], inr (inr (inl (breaks_with walk none limit w left.fibres x.0), (refl, x.1.1))))
reported walk none report limit before (this ∷ later) w told end left x =
    elim x [
      | inl goes ↦ (let more = reported walk none report limit before later (walk.does this w) told end left goes in (more.0, inl more.1))
      | inr refused ↦ ([], inr (refuses_of Report this w told end left refused))
    ]
