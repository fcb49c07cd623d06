-- Each report of a script shows what is owed under the requests that follow from the changes before it.
use Rattle.std.proofs.Common.{◌≡◌, ℕ, ◌+◌, ◌-◌, ◌≤◌, List, [], ◌∷◌, ◌++◌, refl, ap, ◌∙◌, subst, arith, inl, inr, append_assoc}
use Rattle.sdh_status.specs.declared.Status.{Status}
use Rattle.sdh_status.specs.declared.Status.TheVariants as status
use Rattle.sdh_restoration.specs.Changes.{Change, Stretch, rounds_in}
use Rattle.sdh_restoration.specs.Happened.{happened}
use Rattle.sdh_promise.specs.Owed.{Ring, PortReport, requests_by, IsLast, IsOwed, AreOwed}
use Rattle.sdh_verdicts.specs.Resting.{requests_after}
use Rattle.sdh_verdicts.specs.Foretold.{AreLong, changes_in, stretches_by, RequestsRest, IsForetold, AreForetold, ReportsAreForetold}
use Rattle.sdh_verdicts.specs.Foretold.{LastReportsAreForetold}
use Rattle.sdh_promise.proofs.Rounds.{rounds_last}

-- ---- one stretch more

changes_last : (ss : List Stretch) (s : Stretch) → changes_in (ss ++ s ∷ []) ≡ changes_in ss ++ s.changes ∷ []
changes_last [] s = refl
changes_last (t ∷ ss) s = ap (λ l. t.changes ∷ l) (changes_last ss s)

long_last : (ss : List Stretch) (s : Stretch) → AreLong ss → 3 ≤ s.rounds → AreLong (ss ++ s ∷ [])
long_last [] s long last = (last, tt)
long_last (t ∷ ss) s long last = (long.0, long_last ss s long.1 last)

-- the stretch of a report, after those before it
abbrev stretch_of : List Stretch → List Change → PortReport → Stretch
stretch_of earlier changes r = record { changes = changes; rounds = r.round + 1 - rounds_in earlier }

-- ---- a script, report by report

module _ (ring : Ring) (limit : ℕ) (least : 1 ≤ ring.threshold) (some : 1 ≤ ring.nodes) (rest : RequestsRest) where
  module _ (earlier : List Stretch) (changes : List Change) (r : PortReport) (long : AreLong earlier)
      (is : IsLast ring.nodes limit (rounds_in earlier) r.round) where
    abbrev now : List Stretch
    now = earlier ++ stretch_of earlier changes r ∷ []

    long_now : AreLong now
    long_now = long_last earlier (stretch_of earlier changes r) long (omega (arith, is.window, some))

    rounds_now : rounds_in now ≡ r.round + 1
    rounds_now = omega (arith, rounds_last earlier (stretch_of earlier changes r), is.window)

    foretold : IsOwed ring.nodes (requests_by ring now r.round) (happened now) ring.circuits r → IsForetold ring now r
    foretold owed =
        let same : requests_by ring now r.round ≡ requests_after ring (changes_in now) = rest ring now r.round least long_now rounds_now in
        record {
          long = long_now;
          rounds = rounds_now;
          requests = same;
          shows = subst (λ q. IsOwed ring.nodes q (happened now) ring.circuits r) same owed;
        }

  each : (earlier : List Stretch) (before : ℕ) (scenes : List (List Change)) (reports : List PortReport) (end : Status) → AreLong earlier
      → AreOwed ring limit earlier before scenes reports end → AreForetold ring earlier scenes reports
  each earlier before [] reports end long owed = owed.0
  each earlier before (changes ∷ later) [] end long owed = tt
  each earlier before (changes ∷ later) (r ∷ reports) end long owed = (
    foretold earlier changes r long owed.1 owed.2,
    each (now earlier changes r long owed.1) (before + 1) later reports end (long_now earlier changes r long owed.1) owed.3,
  )

-- ---- its last report

module _ (ring : Ring) (limit : ℕ) where
  -- the last of some reports after earlier stretches, with the changes of all
  record LastOf (earlier : List Stretch) (scenes : List (List Change)) (reports : List PortReport) : Type 0 where
    pub before : List PortReport
    pub last : PortReport
    pub are : reports ≡ before ++ last ∷ []
    pub changes : changes_in (stretches_by earlier scenes reports) ≡ changes_in earlier ++ scenes
    pub shows : IsForetold ring (stretches_by earlier scenes reports) last

  -- the last report of a script that has a settle step
  last_of : (earlier : List Stretch) (before : ℕ) (changes : List Change) (later : List (List Change)) (reports : List PortReport)
      → AreOwed ring limit earlier before (changes ∷ later) reports status.Ok → AreForetold ring earlier (changes ∷ later) reports
      → LastOf earlier (changes ∷ later) reports
  last_of earlier before changes later [] owed told = absurd (never owed)
    where
      never : AreOwed ring limit earlier before (changes ∷ later) [] status.Ok → ⊥
      never (inl e) = grind (arith, e)
      never (inr e) = grind (arith, e)
  last_of earlier before changes [] (r ∷ reports) owed told =
      record {
        before = [];
        last = r;
        are = ap (λ rs. r ∷ rs) told.1;
        changes = changes_last earlier (stretch_of earlier changes r);
        shows = told.0;
      }
  last_of earlier before changes (more ∷ later) (r ∷ reports) owed told =
      let rest_of = last_of (earlier ++ stretch_of earlier changes r ∷ []) (before + 1) more later reports owed.3 told.1 in
      record {
        before = r ∷ rest_of.before;
        last = rest_of.last;
        are = ap (λ rs. r ∷ rs) rest_of.are;
        changes = rest_of.changes ∙ ap (λ l. l ++ more ∷ later) (changes_last earlier (stretch_of earlier changes r))
            ∙ append_assoc (changes_in earlier) (changes ∷ []) (more ∷ later);
        shows = rest_of.shows;
      }

pub reports_foretold : RequestsRest → ReportsAreForetold
reports_foretold rest ring limit scenes reports end least some owed = each ring limit least some rest [] 0 scenes reports end tt owed

pub last_foretold : ReportsAreForetold → LastReportsAreForetold
last_foretold law ring limit [] reports least some there owed = absurd (there refl)
last_foretold law ring limit (changes ∷ later) reports least some there owed =
    let last = last_of ring limit [] 0 changes later reports owed (law ring limit (changes ∷ later) reports status.Ok least some owed) in
    record { before = last.before; last = last.last; are = last.are; changes = last.changes; shows = last.shows }
