-- What comes of a script whose fibres aren't made yet.
use Rattle.std.proofs.Common.{◌≡◌, ◌⊎◌, ℕ, ◌+◌, ◌*◌, ◌≤◌, List, [], ◌∷◌, ◌++◌, length, take, ap, sym, ◌∙◌, arith, inl, inr}
use Rattle.std.specs.Prelude.{option_map}
use Rattle.sdh_plant.specs.Fibres.{Fibres}
use Rattle.sdh_plant.specs.Arrivals.{Knows}
use Rattle.sdh_rounds.specs.Held.{World}
use Rattle.sdh_rounds.proofs.Laws.{appended_none}
use Rattle.sdh_plan.specs.declared.step.Step.{Step}
use Rattle.sdh_plan.specs.declared.step.Step.TheVariants as step
use Rattle.sdh_status.specs.declared.Status.{Status}
use Rattle.sdh_status.specs.declared.Status.TheVariants as status
use Rattle.sdh_scripts.specs.Walks.{Walk}
use Rattle.sdh_scripts.specs.Scripts.{Stops, Refuses, Runs, Ran, script, reports_within, IsRan, IsCutShort}
use Rattle.sdh_scripts.specs.Outcomes.{ComesOfSteps, ComesOfKnownRun, AllSettled}
use Rattle.sdh_scripts.specs.Laws.{KeepsRounds}
use Rattle.sdh_scripts.proofs.Known.{none_sent, known_scripts}

-- a step that was refused ended the script by a fault
pub refused_ends : {N T : Type 0} (s : Step) (w : World N) (reports : List T) (end : Status) (left : World N) → Refuses s w reports end left
    → Stops status.PlantFault reports end
refused_ends (step.Fibre e) w reports end left x = x.1
refused_ends s w reports end left x = absurd x

-- an ending that equals a settled one is settled
pub settled_by : (end how : Status) → end ≡ how → AllSettled how → AllSettled end
settled_by end how is h k e = h k (sym is ∙ e)

pub ok_settles : AllSettled status.Ok
ok_settles k e = grind arith

pub fault_settles : AllSettled status.PlantFault
fault_settles k e = grind arith

-- the ways in which a script ends
abbrev pub EndsIn : Status → Type 0
EndsIn end = (end ≡ status.Ok) ⊎ (((k : ℕ) × (end ≡ status.Unsettled k)) ⊎ (end ≡ status.PlantFault))

module _ {N T : Type 0} (walk : Walk N T) where
  ends_in : (limit before : ℕ) (steps : List Step) (w : World N) (reports : List T) (end : Status) (left : World N)
      → Runs walk limit before steps w reports end left → EndsIn end
  ends_in limit before [] w reports end left x = inl x.1.1
  ends_in limit before (step.Settle ∷ later) w reports end left (inl (told, next, rest, ended, is, x)) =
      ends_in limit (before + 1) later next rest end left x
  ends_in limit before (step.Settle ∷ later) w reports end left (inr (inl x)) = inr (inl (before + 1, x.1.1))
  ends_in limit before (step.Settle ∷ later) w reports end left (inr (inr x)) = inr (inr x.1.1)
  ends_in limit before (this ∷ later) w reports end left x =
      elim x [
        | inl goes ↦ ends_in limit before later (walk.does this w) reports end left goes
        | inr refused ↦ inr (inr (refused_ends this w reports end left refused).1)
      ]

  pub comes_ends : (limit : ℕ) (steps : List Step) (w : World N) (f left : Fibres) (reports : List T) (end : Status)
      → ComesOfSteps walk limit steps w f reports end left → EndsIn end
  comes_ends limit steps w f left reports end (inl x) = inr (inr x.0)
  comes_ends limit steps w f left reports end (inr x) = ends_in limit 0 steps w reports end x.0 x.2

  -- a script that settles, and that no fault broke off, is done
  pub settled_done : (limit : ℕ) (steps : List Step) (w : World N) (f left : Fibres) (reports : List T) (end : Status)
      → ComesOfSteps walk limit steps w f reports end left → AllSettled end → (end ≡ status.PlantFault → ⊥) → end ≡ status.Ok
  settled_done limit steps w f left reports end x settled fine = elim (comes_ends limit steps w f left reports end x) [
    | inl done ↦ done
    | inr (inl at) ↦ absurd (settled at.0 at.1)
    | inr (inr fault) ↦ absurd (fine fault)
  ]

  pub known_done : (r : Ran N T) (n : ℕ) (f left : Fibres) (reports : List T) (end : Status) → ComesOfKnownRun walk r n f reports end left
      → r.ending ≡ status.Ok → (end ≡ status.PlantFault → ⊥) → end ≡ status.Ok
  known_done r n f left reports end (inl x) done fine = x.end_is ∙ done
  known_done r n f left reports end (inr x) done fine = absurd (fine x.0)

  -- where the arrivals are known, no round has run yet, and the prepared fibres have the sent frames of the fibres f
  -- before they were prepared
  module _ (law : KeepsRounds walk) (limit : ℕ) (steps : List Step) (w : World N) (f : Fibres) (new : w.ring.rounds ≡ 0)
      (sent : w.fibres.sent ≡ f.sent) (some : 1 ≤ length w.ring.ids) (size : length w.ring.nodes ≡ length w.ring.ids) where
    came : (left : Fibres) (reports : List T) (end : Status) (last : World N) → last.fibres ≡ left
        → IsRan (script walk limit 0 steps w) reports end last
        ⊎ ((end ≡ status.PlantFault) × IsCutShort walk (script walk limit 0 steps w) (length w.ring.ids)
        (2 * length w.ring.ids * w.ring.rounds) w reports last)
        → ComesOfKnownRun walk (script walk limit 0 steps w) (length w.ring.ids) f reports end left
    came left reports end last is (inl r) = inl (record {
      reports_are = r.reports_are;
      end_is = r.end_is;
      left_is = sym is ∙ ap (λ (v : World N). v.fibres) r.left_is;
    })
    came left reports end last is (inr r) =
        let n = length w.ring.ids in
        let a = script walk limit 0 steps w in
        let same : 2 * n * w.ring.rounds + r.1.count ≡ r.1.count = ap (λ t. 2 * n * t + r.1.count) new ∙ omega arith in
        inr (
          r.0,
          record {
            count = r.1.count;
            frames = ap (λ (g : Fibres). g.sent) (sym is) ∙ r.1.frames ∙ ap (option_map (λ l. l ++ take r.1.count a.frames)) sent;
            reports_are = r.1.reports_are ∙ ap (λ m. reports_within walk n m a.reports) same;
          },
        )

    pub known_comes : (left : Fibres) (reports : List T) (end : Status) → ComesOfSteps walk limit steps w f reports end left
        → Knows w.fibres
        → ComesOfKnownRun walk (script walk limit 0 steps w) (length w.ring.ids) f reports end left
    known_comes left reports end (inl x) knows =
        let n = length w.ring.ids in
        let none : reports_within walk n 0 (script walk limit 0 steps w).reports ≡ [] =
        none_sent walk law limit 0 n 0 steps w some (omega (arith, some, ap (λ t. 2 * n * (t + 1)) new)) in
        inr (x.0, record { count = 0; frames = ap (λ (g : Fibres). g.sent) x.2 ∙ appended_none f.sent; reports_are = x.1 ∙ sym none })
    known_comes left reports end (inr x) knows =
        came left reports end x.0 x.1 (known_scripts walk law limit 0 steps w reports end x.0 knows some size x.2)
