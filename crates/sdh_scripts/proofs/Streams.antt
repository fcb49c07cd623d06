-- What is reported of a script whose reports are written as they come.
use Rattle.std.proofs.Common.{◌≡◌, ℕ, ◌+◌, List, [], ◌∷◌, ◌++◌, length, refl, ap, sym, ◌∙◌, inl, inr, append-nil, append_assoc}
use Rattle.std.specs.Prelude.{Option}
use Rattle.std.specs.List.{flat_map}
use Rattle.std.proofs.lemmas.Grind.{flat_map-append}
use Rattle.sdh_rounds.specs.Held.{World}
use Rattle.sdh_plan.specs.declared.step.Step.{Step}
use Rattle.sdh_plan.specs.declared.step.Step.TheVariants as step
use Rattle.sdh_status.specs.declared.Status.{Status}
use Rattle.sdh_scripts.specs.Walks.{Walk}
use Rattle.sdh_scripts.specs.Tellers.{Begun, SoFar, OneMore}
use Rattle.sdh_scripts.specs.Texts.{WritesLast, Stopped, WriteFailed}
use Rattle.sdh_scripts.specs.Streams.{LastTold, StoppedTold, CutTold}

module _ {N T : Type 0} (walk : Walk N T) (limit : ℕ) (text_of begun_of : T → List ℕ) where
  -- the rounds are the same, whatever is written of them
  abbrev unwritten : (number : ℕ) (w left : World N) (text : List ℕ) → Begun walk limit number begun_of w text left
      → Begun walk limit number (λ told. []) w [] left
  unwritten number w left text x = record { mid = x.mid; told = x.told; so_far = x.so_far; next = x.next; text_is = refl }

  one_text : (told : T) → flat_map begun_of (told ∷ []) ≡ begun_of told
  one_text told = append-nil (begun_of told)

  last_told : (s : Step) (before : ℕ) (w : World N) (text : List ℕ) (end : Status) (left : World N)
      → WritesLast walk limit begun_of before s w text end left
      → (begun : List T) × LastTold walk limit before s w begun end left × (text ≡ flat_map begun_of begun)
  last_told step.Settle before w text end left x =
      (x.1.told ∷ [], (x.0, unwritten (before + 1) w left text x.1, refl, x.2), x.1.text_is ∙ sym (one_text x.1.told))
  last_told s before w text end left x = ([], (x.0, refl), x.1)

  pub stopped_told : (steps : List Step) (w : World N) (reports : List T) (tail : List ℕ) (end : Status) (left : World N)
      → Stopped walk limit begun_of steps w reports tail end left
      → (begun : List T) × StoppedTold walk limit steps w reports begun end left × (tail ≡ flat_map begun_of begun)
  stopped_told steps w reports tail end left x =
      let last = last_told x.stops (length reports) x.mid tail end left x.writes in (
        last.0,
        record {
          gone = x.gone;
          stops = x.stops;
          later = x.later;
          steps_are = x.steps_are;
          mid = x.mid;
          went = x.went;
          last = last.1;
        },
        last.2,
      )

  -- what had been written where a write failed, and what was to be written then
  pub cut_told : (steps : List Step) (w : World N) (old new : Option (List ℕ)) (left : World N)
      → (x : WriteFailed walk limit text_of begun_of steps w old new left)
      → (shown : List T) × (ended : List T) × (begun : List T) × CutTold walk limit steps w x.reports shown ended begun left
      × (flat_map text_of x.reports ++ x.first ≡ flat_map text_of x.reports ++ flat_map begun_of shown)
      × ((flat_map text_of x.reports ++ x.first) ++ x.last ≡ flat_map text_of ended ++ flat_map begun_of begun)
  cut_told steps w old new left x =
      let all = flat_map text_of x.reports in
      let joined : (all ++ x.first) ++ x.last ≡ all ++ (x.first ++ x.last) = append_assoc all x.first x.last in
      elim x.was [
        | inl b ↦ (
          b.0 ∷ [],
          x.reports,
          b.1 ∷ [],
          record {
            gone = x.gone;
            later = x.later;
            steps_are = x.steps_are;
            mid = x.mid;
            went = x.went;
            was = inl (b.0, b.1, b.2, refl, refl, refl);
          },
          ap (λ l. all ++ l) (b.3 ∙ sym (one_text b.0)),
          joined ∙ ap (λ l. all ++ l) (b.4 ∙ sym (one_text b.1)),
        )
        | inr e ↦ (
          e.0 ∷ [],
          x.reports ++ e.0 ∷ [],
          [],
          record {
            gone = x.gone;
            later = x.later;
            steps_are = x.steps_are;
            mid = x.mid;
            went = x.went;
            was = inr (e.0, e.1, refl, refl, refl);
          },
          ap (λ l. all ++ l) (e.2 ∙ sym (one_text e.0)),
          joined
              ∙ ap (λ l. all ++ l) (e.3 ∙ sym (append-nil (text_of e.0)))
              ∙ sym (flat_map-append text_of x.reports (e.0 ∷ []))
              ∙ sym (append-nil (flat_map text_of (x.reports ++ e.0 ∷ []))),
        )
      ]

-- with one round more these are rounds of a settle step that ran so far
pub so_far_of : {N T : Type 0} (walk : Walk N T) (limit number : ℕ) (w : World N) (before told : T) (left : World N)
    → OneMore walk limit number w before told left → SoFar walk limit number w told left
so_far_of walk limit number w before told left (inl x) = inl x.0
so_far_of walk limit number w before told left (inr x) = inr x.0
