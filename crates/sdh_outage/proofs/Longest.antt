-- The longest run that is counted is the longest of all.
use Rattle.std.proofs.Common.{◌≡◌, ℕ, ◌+◌, ◌≤◌, Bool, true, false, List, [], ◌∷◌, ◌++◌, length, refl, sym, ap, subst, ◌∙◌, arith, inl, inr}
use Rattle.std.specs.Prelude.{max}
use Rattle.std.specs.List.{list_all}
use Rattle.std.proofs.lemmas.Bool.{and_parts, and_from, cases_lt}
use Rattle.sdh_outage.specs.declared.kind.Kind.{Kind}
use Rattle.sdh_outage.specs.declared.outage.Runs.{Runs}
use Rattle.sdh_outage.specs.Outages.{is_out, no_runs, with_run, outage_of}
use Rattle.sdh_outage.specs.Longest.{HasRun, LongestIsLongest}

-- the runs of these rounds, the latest first
abbrev runs : List Kind → Runs
runs [] = no_runs
runs (kind ∷ earlier) = with_run (is_out kind) (runs earlier)

runs_are : (first : ℕ) (kinds : List Kind) → (outage_of first kinds).runs ≡ runs kinds
runs_are first [] = refl
runs_are first (kind ∷ earlier) = ap (with_run (is_out kind)) (runs_are first earlier)

-- ---- one round more

goes_on : (kind : Kind) (r : Runs) (b : Bool) → is_out kind ≡ b → with_run (is_out kind) r ≡ with_run b r
goes_on kind r b e = ap (λ c. with_run c r) e

-- ---- the run with which the rounds end

-- no run with which the rounds end is longer than the one that goes on
none_longer_ends : (kinds run earlier : List Kind) → kinds ≡ run ++ earlier → list_all is_out run ≡ true → length run ≤ (runs kinds).going
none_longer_ends kinds [] earlier e o = omega arith
none_longer_ends [] (r ∷ run) earlier e o = absurd (cc)
none_longer_ends (kind ∷ kinds) (r ∷ run) earlier e o =
    let both = and_parts (is_out r) (list_all is_out run) o in
    let head : kind ≡ r = cc in
    let tail : kinds ≡ run ++ earlier = cc in
    let rest = none_longer_ends kinds run earlier tail both.1 in
    let more = ap (λ (x : Runs). x.going) (goes_on kind (runs kinds) true (ap is_out head ∙ both.0)) in
    omega (arith, rest, more)

-- the run that goes on is a run with which the rounds end
pub record Ends (kinds : List Kind) (n : ℕ) : Type 0 where
  pub run : List Kind
  pub earlier : List Kind
  pub whole : kinds ≡ run ++ earlier
  pub long : length run ≡ n
  pub out : list_all is_out run ≡ true

ends_if : (kind : Kind) (kinds : List Kind) (b : Bool) → is_out kind ≡ b → Ends kinds (runs kinds).going
    → Ends (kind ∷ kinds) (with_run b (runs kinds)).going
ends_if kind kinds false e x = record { run = []; earlier = kind ∷ kinds; whole = refl; long = refl; out = refl }
ends_if kind kinds true e x = record {
  run = kind ∷ x.run;
  earlier = x.earlier;
  whole = ap (λ l. kind ∷ l) x.whole;
  long = omega (arith, x.long);
  out = and_from (is_out kind) (list_all is_out x.run) e x.out;
}

ends : (kinds : List Kind) → Ends kinds (runs kinds).going
ends [] = record { run = []; earlier = []; whole = refl; long = refl; out = refl }
ends (kind ∷ kinds) = ends_if kind kinds (is_out kind) refl (ends kinds)

-- ---- all runs

going_within : (kinds : List Kind) (b : Bool) (r : Runs) → (with_run b r).going ≤ (with_run b r).longest
going_within kinds false r = omega arith
going_within kinds true r = omega arith

-- a round more doesn't make the longest shorter
longest_kept : (b : Bool) (r : Runs) → r.longest ≤ (with_run b r).longest
longest_kept false r = omega arith
longest_kept true r = omega arith

none_longer : (kinds later run earlier : List Kind) → kinds ≡ later ++ run ++ earlier → list_all is_out run ≡ true
    → length run ≤ (runs kinds).longest
none_longer [] [] run earlier e o = let h = none_longer_ends [] run earlier e o in omega (arith, h)
none_longer [] (l ∷ later) run earlier e o = absurd (cc)
none_longer (kind ∷ kinds) [] run earlier e o =
    omega (arith, none_longer_ends (kind ∷ kinds) run earlier e o, going_within kinds (is_out kind) (runs kinds))
none_longer (kind ∷ kinds) (l ∷ later) run earlier e o =
    let tail : kinds ≡ later ++ run ++ earlier = cc in
    omega (arith, none_longer kinds later run earlier tail o, longest_kept (is_out kind) (runs kinds))

-- a run with which the rounds end is a run of them
ends_has : (kinds : List Kind) (n m : ℕ) → n ≡ m → Ends kinds n → HasRun kinds m
ends_has kinds n m same x = record { later = []; run = x.run; earlier = x.earlier; whole = x.whole; long = x.long ∙ same; out = x.out }

later_has : (kind : Kind) (kinds : List Kind) (n m : ℕ) → n ≡ m → HasRun kinds n → HasRun (kind ∷ kinds) m
later_has kind kinds n m same x = record {
  later = kind ∷ x.later;
  run = x.run;
  earlier = x.earlier;
  whole = ap (λ l. kind ∷ l) x.whole;
  long = x.long ∙ same;
  out = x.out;
}

has_if : (kind : Kind) (kinds : List Kind) (b : Bool) → is_out kind ≡ b → HasRun kinds (runs kinds).longest
    → HasRun (kind ∷ kinds) (with_run b (runs kinds)).longest
has_if kind kinds false e x = later_has kind kinds (runs kinds).longest (runs kinds).longest refl x
has_if kind kinds true e x = elim (cases_lt (runs kinds).longest ((runs kinds).going + 1)) [
  | inl more ↦ (
      let same : (runs kinds).going + 1 ≡ max (runs kinds).longest ((runs kinds).going + 1) = omega (arith, more) in
      ends_has (kind ∷ kinds) ((runs kinds).going + 1) (max (runs kinds).longest ((runs kinds).going + 1)) same
      (ends_if kind kinds true e (ends kinds)))
  | inr fewer ↦ (
      let same : (runs kinds).longest ≡ max (runs kinds).longest ((runs kinds).going + 1) = omega (arith, fewer) in
      later_has kind kinds (runs kinds).longest (max (runs kinds).longest ((runs kinds).going + 1)) same x)
]

has_longest : (kinds : List Kind) → HasRun kinds (runs kinds).longest
has_longest [] = record { later = []; run = []; earlier = []; whole = refl; long = refl; out = refl }
has_longest (kind ∷ kinds) = has_if kind kinds (is_out kind) refl (has_longest kinds)

pub longest_is_longest : LongestIsLongest
longest_is_longest first kinds =
    let same : (outage_of first kinds).runs.longest ≡ (runs kinds).longest = ap (λ (r : Runs). r.longest) (runs_are first kinds) in (
      subst (HasRun kinds) (sym same) (has_longest kinds),
      (λ n x. omega (arith, same, x.long, none_longer kinds x.later x.run x.earlier x.whole x.out)),
    )
