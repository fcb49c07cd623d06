-- The cases that are listed, in their order: nothing; each failure alone; each two; each three. There are failures of
-- the ring and the user's own failures. Each of the user's own is a list of failures of the ring that come together, as
-- a word of the command line names them. They come after the ring's failures, in the order of these words.
use Rattle.std.specs.Prelude.{ℕ, zero, suc, ◌≤◌, ◌+◌, ◌-◌, ◌*◌, ◌/◌, ◌%◌, Bool, ◌==◌, ◌&&◌, ◌||◌, not, nat_le, nat_lt, if◌then◌else◌, List, [], ◌∷◌, ◌++◌}
use Rattle.std.specs.Prelude.{length, slice_index_or, All, Option, Some, None}
use Rattle.std.specs.List.{filter}
use Rattle.sdh_plan.specs.Planned.{Planned}
use Rattle.sdh_verdicts.specs.declared.failure.Failure.{Failure}
use Rattle.sdh_verdicts.specs.declared.failure.Failure.TheVariants.{Degraded, Cut, Span, Node, Manual, Forced}
use Rattle.sdh_verdicts.specs.Failures.{IsFailureIn, failure_at}
use Rattle.sdh_verdicts.specs.Verdicts.{mends}
use Rattle.sdh_whatif_cli.specs.declared.ask.Ask.{Ask}
use Rattle.sdh_whatif_cli.specs.declared.forms.Digits.{Digits}
use Rattle.sdh_whatif_cli.specs.declared.forms.Entry.{Entry}
use Rattle.sdh_whatif_cli.specs.declared.ask.Kind.{Kind}
use Rattle.sdh_whatif_cli.specs.declared.ask.Kind.TheVariants as kind
use Rattle.sdh_whatif_cli.specs.declared.ask.Depth.{Depth}
use Rattle.sdh_whatif_cli.specs.declared.ask.Depth.TheVariants.{Single, Double, Triple}
use Rattle.sdh_whatif_cli.specs.Words.{takes}

-- A case is a number of three digits to this base, in a ring of n with `own` failures of the user's own. Digit 0 is
-- nothing. Digits 1 to 10 n are the ring's failures: digit d is failure d - 1. The digits after those are the user's
-- own.
abbrev pub base : ℕ → ℕ → ℕ
base n own = 10 * n + 1 + own

-- the count of numbers that may stand for a case, by the depth: the numbers of one, two or three digits to the base b
abbrev pub case_numbers : ℕ → Depth → ℕ
case_numbers b Single = b
case_numbers b Double = b * b
case_numbers b Triple = b * b * b

-- the digits of a number to the base b
abbrev pub first : ℕ → ℕ → ℕ
first b c = c / b / b % b

abbrev pub second : ℕ → ℕ → ℕ
second b c = c / b % b

abbrev pub third : ℕ → ℕ → ℕ
third b c = c % b

abbrev pub digits_of : ℕ → ℕ → Digits
digits_of b c = record { first = first b c; second = second b c; third = third b c }

-- a digit may follow another: it is larger, or the other is nothing
abbrev pub goes_before : ℕ → ℕ → Bool
goes_before d e = (d == 0) || nat_lt d e

-- the digit is nothing, or stands for one of the ring's failures
abbrev pub is_of_ring : ℕ → ℕ → Bool
is_of_ring n d = nat_le d (10 * n)

-- the failures that a digit stands for, where the user's own failures are `own`
abbrev pub failures_at : ℕ → List (List Failure) → ℕ → List Failure
failures_at n own d =
    if d == 0 then [] else if is_of_ring n d then failure_at n (d - 1) ∷ [] else slice_index_or own (d - (10 * n + 1)) []

-- Of two failures about one fibre the one of the higher severity is the worse one, and of two that give one side a
-- command: a cut is worse than a degradation, and a forced switch worse than a manual one.
abbrev pub severity : Failure → ℕ
severity (Degraded at side) = 0
severity (Cut at side) = 1
severity (Span at) = 1
severity (Node at) = 1
severity (Manual at side) = 1
severity (Forced at side) = 2

abbrev pub of_severity : ℕ → List Failure → List Failure
of_severity grade failures = filter (λ failure. severity failure == grade) failures

-- the failures in an order in which no worse one is followed by a lesser one, whose step would take its place
abbrev pub worst_last : List Failure → List Failure
worst_last failures = of_severity 0 failures ++ (of_severity 1 failures ++ of_severity 2 failures)

-- the failures of three digits, so that the worse one of two holds
abbrev pub failures_of : ℕ → List (List Failure) → Digits → List Failure
failures_of n own ds = worst_last (failures_at n own ds.first ++ (failures_at n own ds.second ++ failures_at n own ds.third))

-- the kind of a failure
abbrev pub failure_kind : Failure → Kind
failure_kind (Degraded at side) = kind.Degraded
failure_kind (Cut at side) = kind.Fibres
failure_kind (Span at) = kind.Spans
failure_kind (Node at) = kind.Nodes
failure_kind (Manual at side) = kind.Manual
failure_kind (Forced at side) = kind.Forced

-- A failure of the ring is of a kind that is taken, and doesn't mend. It would mend where it takes the place of
-- something worse that the script has set: a degradation of a cut fibre, or a manual switch of a side with a forced one
-- (`mends`).
abbrev pub is_ring_taken : Planned → Ask → Failure → Bool
is_ring_taken plan ask failure = takes ask.kinds (failure_kind failure) && not (mends plan failure)

-- A digit is nothing, or its failure is taken. A failure of the ring is taken if its kind is and it doesn't mend. The
-- user's own failures are taken by their kind alone, also where one of them mends.
abbrev pub is_taken : Planned → Ask → ℕ → Bool
is_taken plan ask d =
    (d == 0) || (if is_of_ring (length plan.nodes) d then is_ring_taken plan ask (failure_at (length plan.nodes) (d - 1))
    else takes ask.kinds kind.Own)

-- a number of these digits stands for a case that is listed; each case has one such number
abbrev pub are_told : Planned → Ask → Digits → Bool
are_told plan ask ds =
    goes_before ds.first ds.second && (goes_before ds.second ds.third
    && (is_taken plan ask ds.first && (is_taken plan ask ds.second && is_taken plan ask ds.third)))

-- the base of the numbers of a plan's cases, with these failures of the user's own
abbrev pub base_of : Planned → List (List Failure) → ℕ
base_of plan own = base (length plan.nodes) (length own)

abbrev pub digits_at : Planned → List (List Failure) → ℕ → Digits
digits_at plan own c = digits_of (base_of plan own) c

-- the case of a number that stands for one
abbrev pub case_at : Planned → List (List Failure) → ℕ → List Failure
case_at plan own c = failures_of (length plan.nodes) own (digits_at plan own c)

-- the number stands for a case that is listed
abbrev pub is_told : Planned → List (List Failure) → Ask → ℕ → Bool
is_told plan own ask c = are_told plan ask (digits_at plan own c)

-- how many of the numbers below c stand for a case that is listed, and so how many cases are listed before that of c
abbrev pub told_below : Planned → List (List Failure) → Ask → ℕ → ℕ
told_below plan own ask zero = 0
told_below plan own ask (suc c) = told_below plan own ask c + (if is_told plan own ask c then 1 else 0)

-- The part that is asked for has listed case number `number`. Listed cases are counted from 0.
abbrev pub is_in_part : Ask → ℕ → Bool
is_in_part ask number = number % ask.parts == ask.part - 1

-- How a case is written, if it is listed and this part has it: the form that is asked for, and its number among the
-- listed cases.
abbrev pub entry_of : Ask → Bool → ℕ → Option Entry
entry_of ask told number = if told && is_in_part ask number then Some (record { form = ask.form; number = number }) else None

abbrev pub entry_at : Planned → List (List Failure) → Ask → ℕ → Option Entry
entry_at plan own ask c = entry_of ask (is_told plan own ask c) (told_below plan own ask c)

-- ---- what the program keeps

-- the digit is nothing, or may stand for one of a ring's failures or for one of up to 16 of the user's own
abbrev pub IsSmall : ℕ → ℕ → Type 0
IsSmall n d = d ≤ 10 * n + 16

pub record AreSmall (n : ℕ) (ds : Digits) : Type 0 where
  pub first : IsSmall n ds.first
  pub second : IsSmall n ds.second
  pub third : IsSmall n ds.third

-- the user's own failures are up to 16, each of up to 16 failures of a ring of n
pub record AreOwn (n : ℕ) (own : List (List Failure)) : Type 0 where
  pub few : length own ≤ 16
  pub short : All (λ failures. length failures ≤ 16) own
  pub within : All (All (IsFailureIn n)) own
