-- Failures in an order in which the worse ones come last: how many there are, and what is true of each.
use Rattle.std.proofs.Common.{◌≡◌, ℕ, ◌+◌, ◌<◌, ◌≤◌, Bool, true, false, List, [], ◌∷◌, ◌++◌, length, get_or, take, drop, cond, All, refl, sym, ap, subst, ◌∙◌, arith}
use Rattle.std.proofs.Common.{length-append, take-append-drop}
use Rattle.std.specs.Prelude.{◌==◌, if◌then◌else◌}
use Rattle.std.specs.List.{filter}
use Rattle.std.proofs.lemmas.List.Elements.{filter-append, filter_more, All-filter, All-append}
use Rattle.sdh_verdicts.specs.declared.failure.Failure.{Failure}
use Rattle.sdh_verdicts.specs.declared.failure.Failure.TheVariants.{Degraded, Cut, Span, Node, Manual, Forced}
use Rattle.sdh_whatif_cli.specs.Cases.{severity, of_severity, worst_last}

-- one more passes the test than those before it that do
pub room_left : (test : Failure → Bool) (fs : List Failure) (i : ℕ) (d : Failure) → i < length fs → test (get_or fs i d) ≡ true
    → length (filter test (take i fs)) < length (filter test fs)
room_left test fs i d inside passes =
    let more : filter test (take (i + 1) fs) ≡ filter test (take i fs) ++ get_or fs i d ∷ [] =
    filter_more test fs i d inside ∙ ap (λ t. filter test (take i fs) ++ cond t (get_or fs i d ∷ []) []) passes in
    let all : filter test fs ≡ filter test (take (i + 1) fs) ++ filter test (drop (i + 1) fs) =
    ap (filter test) (sym (take-append-drop (i + 1) fs)) ∙ filter-append test (take (i + 1) fs) (drop (i + 1) fs) in
    omega (
      arith,
      ap length more,
      length-append (filter test (take i fs)) (get_or fs i d ∷ []),
      ap length all,
      length-append (filter test (take (i + 1) fs)) (filter test (drop (i + 1) fs)),
    )

-- each failure is of one severity
counted : (f : Failure) (fs : List Failure) → (g : ℕ) → length (of_severity g (f ∷ fs)) ≡ length (of_severity g fs) + (if severity f == g then 1 else 0)
counted f fs g = by (severity f == g)
  where
    by : (t : Bool) → length (cond t (f ∷ of_severity g fs) (of_severity g fs)) ≡ length (of_severity g fs) + (if t then 1 else 0)
    by true = omega arith
    by false = omega arith

of_one : (f : Failure) → (if severity f == 0 then 1 else 0) + (if severity f == 1 then 1 else 0) + (if severity f == 2 then 1 else 0) ≡ 1
of_one (Degraded at side) = refl
of_one (Cut at side) = refl
of_one (Span at) = refl
of_one (Node at) = refl
of_one (Manual at side) = refl
of_one (Forced at side) = refl

pub all_counted : (fs : List Failure)
    → length (of_severity 0 fs) + length (of_severity 1 fs) + length (of_severity 2 fs) ≡ length fs
all_counted [] = refl
all_counted (f ∷ fs) =
    omega (arith, counted f fs 0, counted f fs 1, counted f fs 2, of_one f, all_counted fs)

pub as_many : (fs : List Failure) → length (worst_last fs) ≡ length fs
as_many fs =
    omega (
      arith,
      length-append (of_severity 0 fs) (of_severity 1 fs ++ of_severity 2 fs),
      length-append (of_severity 1 fs) (of_severity 2 fs),
      all_counted fs,
    )

-- ---- what is true of each

module _ (P : Failure → Type 0) where
  pub all_kept : (fs : List Failure) → All P fs → All P (worst_last fs)
  all_kept fs all =
      let of : (g : ℕ) → All P (of_severity g fs) = λ g. All-filter (λ f. severity f == g) P fs all in
      All-append P (of_severity 0 fs) (of_severity 1 fs ++ of_severity 2 fs) (of 0)
      (All-append P (of_severity 1 fs) (of_severity 2 fs) (of 1) (of 2))
