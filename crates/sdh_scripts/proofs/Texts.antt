-- What a run of steps writes, step by step.
use Rattle.std.proofs.Common.{◌≡◌, ◌≢◌, ◌<◌, ℕ, zero, suc, ◌+◌, ◌-◌, ◌*◌, ◌≤◌, List, [], ◌∷◌, ◌++◌, length, take, drop, get_or, Option, refl, ap}
use Rattle.std.proofs.Common.{sym, ◌∙◌, subst, inl, inr, arith, append-nil, append_assoc, drop-cons, add-one, take-append-drop, take_all}
use Rattle.std.proofs.lemmas.List.{length-append}
use Rattle.std.specs.List.{flat_map}
use Rattle.std.specs.Io.KnownBytes.{Appends}
use Rattle.std.proofs.KnownBytes.{Appends-nil, Appends-trans}
use Rattle.std.proofs.lemmas.Grind.{flat_map-append}
use Rattle.sdh_plant.specs.Fibres.{Fibres}
use Rattle.sdh_rounds.specs.Held.{World}
use Rattle.sdh_rounds.specs.Quiet.{Unsettles}
use Rattle.sdh_plan.specs.declared.step.Step.{Step}
use Rattle.sdh_plan.specs.declared.step.Step.TheVariants as step
use Rattle.sdh_status.specs.declared.Status.{Status}
use Rattle.sdh_status.specs.declared.Status.TheVariants as status
use Rattle.sdh_scripts.specs.Walks.{Walk}
use Rattle.sdh_scripts.specs.Scripts.{Breaks, Runs}
use Rattle.sdh_scripts.specs.Texts.{room_for, HasRoom, Went, WritesLast, StopsAt, FailsAt, Lists, WriteFailed}
use Rattle.sdh_scripts.specs.Streams.{IsTail}
use Rattle.sdh_scripts.specs.Runners.{WroteStep}
use Rattle.sdh_scripts.specs.Tellers.{StopsBy, WasToWrite, WroteBegun, ended_by}
use Rattle.sdh_scripts.specs.declared.teller.StepError.{StepError}
use Rattle.sdh_scripts.specs.declared.teller.StepError.TheVariants as why

-- the step at a place, and those after it
pub here : (steps : List Step) (i : ℕ) (d : Step) → i < length steps → drop i steps ≡ get_or steps i d ∷ drop (i + 1) steps
here steps i d lt = drop-cons steps i d lt ∙ ap (λ k. get_or steps i d ∷ drop k steps) (sym (add-one i))

-- ---- room

-- there is room for what is written of one more settle step
pub room_now : (each before room : ℕ) → before + 1 ≤ 64 → HasRoom each before room → each ≤ room
room_now each before room few h = one each (64 - before) (omega arith) h
  where
    one : (c k : ℕ) → 1 ≤ k → c * k + 96 ≤ room → c ≤ room
    one c zero some h = absurd (omega arith)
    one c (suc k) some h = omega arith

-- the room is that for what is written of one more settle step and of those after it
pub room_next : (each before : ℕ) → before + 1 ≤ 64 → each + room_for each (before + 1) ≡ room_for each before
room_next each before few =
    let left : suc (64 - (before + 1)) ≡ 64 - before = omega (arith, few) in
    one each (64 - (before + 1)) ∙ ap (λ k. each * k + 96) left
  where
    one : (c k : ℕ) → c + (c * k + 96) ≡ c * suc k + 96
    one c k = omega arith

-- there is room for the last line
pub room_line : (each before : ℕ) → 96 ≤ room_for each before
room_line each before = omega arith

-- ---- steps

module _ {N T : Type 0} (walk : Walk N T) (limit : ℕ) (text_of : T → List ℕ) where
  -- no step
  pub went_none : (w : World N) (old : Option (List ℕ)) → Went walk limit text_of 0 [] w old old 0 w
  went_none w old = record { reports = []; text = Appends-nil old; counted = refl; goes = λ later rest end last x. x }

  -- a settle step that ended
  pub settled_went : (before : ℕ) (w left : World N) (old new : Option (List ℕ)) → WroteStep walk limit (before + 1) text_of w left old new
      → Went walk limit text_of before (step.Settle ∷ []) w old new (before + 1) left
  settled_went before w left old new x = record {
    reports = x.told ∷ [];
    text = subst (Appends old new) (sym (append-nil (text_of x.told))) x.text;
    counted = refl;
    goes = λ later rest end last y. inl (x.told, left, rest, x.ended, refl, y);
  }

  -- a step that runs no round
  changed_goes : (s : Step) (before : ℕ) (later : List Step) (w : World N) (rest : List T) (end : Status) (last : World N)
      → (s ≡ step.Settle → ⊥) → Runs walk limit before later (walk.does s w) rest end last
      → Runs walk limit before (s ∷ later) w rest end last
  changed_goes step.Settle before later w rest end last other x = absurd (other refl)
  changed_goes s before later w rest end last other x = inl x

  pub changed_went : (s : Step) (before : ℕ) (w left : World N) (old : Option (List ℕ)) → (s ≡ step.Settle → ⊥) → left ≡ walk.does s w
      → Went walk limit text_of before (s ∷ []) w old old before left
  changed_went s before w left old other is = record {
    reports = [];
    text = Appends-nil old;
    counted = omega arith;
    goes =
        λ later rest end last x. changed_goes s before later w rest end last other
        (subst (λ (v : World N). Runs walk limit before later v rest end last) is x);
  }

  pub went_more : (gone more : List Step) (number now : ℕ) (w mid left : World N) (old text new : Option (List ℕ))
      → Went walk limit text_of 0 gone w old text number mid → Went walk limit text_of number more mid text new now left
      → Went walk limit text_of 0 (gone ++ more) w old new now left
  went_more gone more number now w mid left old text new x y =
      let a = x.reports in
      let b = y.reports in
      record {
        reports = a ++ b;
        text =
            subst (Appends old new) (sym (flat_map-append text_of a b))
            (Appends-trans old text new (flat_map text_of a) (flat_map text_of b) x.text y.text);
        counted = omega (arith, x.counted, y.counted, length-append a b);
        goes =
            λ later rest end last z. subst (λ (l : List Step). Runs walk limit 0 l w ((a ++ b) ++ rest) end last)
            (sym (append_assoc gone more later))
            (subst (λ (rs : List T). Runs walk limit 0 (gone ++ (more ++ later)) w rs end last) (sym (append_assoc a b rest))
            (x.goes (more ++ later) (b ++ rest) end last (y.goes later rest end last z)));
      }

  -- what came of the steps so far
  pub went_to : (gone : List Step) (number : ℕ) (w left : World N) (old new : Option (List ℕ))
      → (x : Went walk limit text_of 0 gone w old new number left) → Runs walk limit 0 gone w x.reports status.Ok left
  went_to gone number w left old new x =
      subst (λ (l : List Step). Runs walk limit 0 l w x.reports status.Ok left) (append-nil gone)
      (subst (λ (rs : List T). Runs walk limit 0 (gone ++ []) w rs status.Ok left) (append-nil x.reports)
      (x.goes [] [] status.Ok left (refl, (refl, refl))))

module _ {N T : Type 0} (walk : Walk N T) (limit : ℕ) (text_of begun_of : T → List ℕ) where
  -- ---- a step ends the script

  -- a settle step that was unsettled
  unsettled_stops : (before : ℕ) (w left : World N) (old new : Option (List ℕ)) → Unsettles walk.station w limit left
      → WroteBegun walk limit (before + 1) text_of begun_of w why.Unsettled left old new
      → StopsAt walk limit begun_of before step.Settle w old new (status.Unsettled (before + 1)) left
  unsettled_stops before w left old new u x = record {
    runs = λ later. inr (inl (u, (refl, refl)));
    tail = x.0;
    writes = (inr (inl (u, (refl, refl))), x.1, λ other. x.2);
    text = x.3;
  }

  -- a settle step that a fault broke off
  broken_stops : (before : ℕ) (w left : World N) (old new : Option (List ℕ)) → Breaks walk limit w left.fibres
      → WroteBegun walk limit (before + 1) text_of begun_of w why.PlantFault left old new
      → StopsAt walk limit begun_of before step.Settle w old new status.PlantFault left
  broken_stops before w left old new b x = record {
    runs = λ later. inr (inr (b, (refl, refl)));
    tail = x.0;
    writes = (inr (inr (b, (refl, refl))), x.1, λ other. absurd (other refl));
    text = x.2;
  }

  -- a settle step that didn't end, and no write failed
  pub error_stops : (e : StepError) (before : ℕ) (w left : World N) (old new : Option (List ℕ)) → StopsBy walk limit w e left
      → WroteBegun walk limit (before + 1) text_of begun_of w e left old new → ended_by e (before + 1) ≢ status.WriteFault
      → StopsAt walk limit begun_of before step.Settle w old new (ended_by e (before + 1)) left
  error_stops why.Unsettled before w left old new u x other = unsettled_stops before w left old new u x
  error_stops why.PlantFault before w left old new b x other = broken_stops before w left old new b x
  error_stops why.WriteFault before w left old new b x other = absurd (other refl)

  -- ---- a script

  -- no step is left: the script came to its end
  pub went_all : (i : ℕ) (steps : List Step) (number : ℕ) (w left : World N) (old new : Option (List ℕ)) → length steps ≤ i
      → Went walk limit text_of 0 (take i steps) w old new number left → Lists walk limit text_of begun_of steps w old new status.Ok left
  went_all i steps number w left old new all x = record {
    reports = x.reports;
    runs =
        subst (λ (l : List Step). Runs walk limit 0 l w x.reports status.Ok left) (take_all i steps all)
        (went_to walk limit text_of (take i steps) number w left old new x);
    tail = [];
    tail_is = inl (refl, refl);
    text = subst (Appends old new) (sym (append-nil (flat_map text_of x.reports))) x.text;
  }

  module _ (i : ℕ) (steps : List Step) (s : Step) (is : drop i steps ≡ s ∷ drop (i + 1) steps) where
    whole : take i steps ++ s ∷ drop (i + 1) steps ≡ steps
    whole = ap (λ (l : List Step). take i steps ++ l) (sym is) ∙ take-append-drop i steps

    -- a step ends the script
    pub went_stop : (number : ℕ) (w mid left : World N) (old text new : Option (List ℕ)) (how : Status)
        → Went walk limit text_of 0 (take i steps) w old text number mid → StopsAt walk limit begun_of number s mid text new how left
        → Lists walk limit text_of begun_of steps w old new how left
    went_stop number w mid left old text new how x y =
        let counted : number ≡ length x.reports = omega (arith, x.counted) in
        record {
          reports = x.reports;
          runs =
              subst (λ (rs : List T). Runs walk limit 0 steps w rs how left) (append-nil x.reports)
              (subst (λ (l : List Step). Runs walk limit 0 l w (x.reports ++ []) how left) whole
              (x.goes (s ∷ drop (i + 1) steps) [] how left (y.runs (drop (i + 1) steps))));
          tail = y.tail;
          tail_is =
              inr (record {
                gone = take i steps;
                stops = s;
                later = drop (i + 1) steps;
                steps_are = sym whole;
                mid = mid;
                went = went_to walk limit text_of (take i steps) number w mid old text x;
                writes = subst (λ k. WritesLast walk limit begun_of k s mid y.tail how left) counted y.writes;
              });
          text = Appends-trans old text new (flat_map text_of x.reports) y.tail x.text y.text;
        }

    -- a write fails
    pub went_fail : (number : ℕ) (w mid left : World N) (old text new : Option (List ℕ))
        → Went walk limit text_of 0 (take i steps) w old text number mid
        → FailsAt walk limit text_of begun_of number s mid text new left
        → WriteFailed walk limit text_of begun_of steps w old new left
    went_fail number w mid left old text new x y =
        let counted : number ≡ length x.reports = omega (arith, x.counted) in
        record {
          gone = take i steps;
          later = drop (i + 1) steps;
          steps_are = sym whole ∙ ap (λ (a : Step). take i steps ++ a ∷ drop (i + 1) steps) y.settles;
          reports = x.reports;
          mid = mid;
          went = went_to walk limit text_of (take i steps) number w mid old text x;
          first = y.first;
          last = y.last;
          was = subst (λ k. WasToWrite walk limit (k + 1) text_of begun_of mid y.first y.last left) counted y.was;
          front = (
            y.front.0,
            Appends-trans old text y.front.0 (flat_map text_of x.reports) y.first x.text y.front.1,
            y.front.2,
          );
        }

-- ---- where nothing is written of a settle step that didn't end

module _ {N T : Type 0} (walk : Walk N T) (limit : ℕ) where
  silent_last : (s : Step) (before : ℕ) (w : World N) (text : List ℕ) (end : Status) (left : World N)
      → WritesLast walk limit (λ (told : T). []) before s w text end left → text ≡ []
  silent_last step.Settle before w text end left x = x.1.text_is
  silent_last s before w text end left x = x.1

  -- nothing is written after the reports
  pub silent_tail : (steps : List Step) (w : World N) (f : Fibres) (reports : List T) (tail : List ℕ) (end : Status) (left : World N)
      → IsTail walk limit (λ told. []) steps w f reports tail end left → tail ≡ []
  silent_tail steps w f reports tail end left (inl x) = x.0
  silent_tail steps w f reports tail end left (inr y) = silent_last y.stops (length reports) y.mid tail end left y.writes
