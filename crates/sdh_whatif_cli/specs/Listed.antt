-- Which cases have a line: each set of failures that are taken, up to the largest number that is asked for, once.
use Rattle.std.specs.Prelude.{ℕ, ◌≡◌, ◌<◌, ◌≤◌, ◌==◌, true, if◌then◌else◌, List, [], ◌∷◌, length, map, All}
use Rattle.std.specs.List.{flat_map}
use Rattle.sdh_plan.specs.Planned.{Planned}
use Rattle.sdh_verdicts.specs.declared.failure.Failure.{Failure}
use Rattle.sdh_whatif_cli.specs.declared.ask.Ask.{Ask}
use Rattle.sdh_whatif_cli.specs.declared.ask.Depth.{Depth}
use Rattle.sdh_whatif_cli.specs.declared.ask.Depth.TheVariants.{Single, Double, Triple}
use Rattle.sdh_whatif_cli.specs.declared.ask.Form.{Form}
use Rattle.sdh_whatif_cli.specs.declared.ask.Form.TheVariants as form
use Rattle.sdh_whatif_cli.specs.declared.forms.Digits.{Digits}
use Rattle.sdh_whatif_cli.specs.Cases.{base_of, case_numbers, digits_at, case_at, failures_at, worst_last, is_taken, is_told}
use Rattle.sdh_whatif_cli.specs.Lines.{either, joined, name_text, names_text, digits_in}
use Rattle.std.specs.Prelude.{codes}

-- the largest number of failures in a case
abbrev pub most_failures : Depth → ℕ
most_failures Single = 1
most_failures Double = 2
most_failures Triple = 3

-- each number is larger than the one before it
abbrev pub Ascends : List ℕ → Type 0
Ascends [] = Unit {0}
Ascends (a ∷ []) = Unit {0}
Ascends (a ∷ b ∷ more) = (a < b) × Ascends (b ∷ more)

-- the number is that of a failure which is taken; failures are counted from 1, the ring's before the user's own
pub record IsTakenFailure (plan : Planned) (own : List (List Failure)) (ask : Ask) (d : ℕ) : Type 0 where
  pub from_1 : 1 ≤ d
  pub within : d < base_of plan own
  pub taken : is_taken plan ask d ≡ true

-- these failures, by their numbers, are a case that is asked for: a set of up to three, two or one that are taken
pub record IsCase (plan : Planned) (own : List (List Failure)) (ask : Ask) (failures : List ℕ) : Type 0 where
  pub few : length failures ≤ most_failures ask.depth
  pub ascends : Ascends failures
  pub taken : All (IsTakenFailure plan own ask) failures

-- the failures that a number stands for, by their numbers
abbrev pub failures_in : Digits → List ℕ
failures_in ds = flat_map (λ d. if d == 0 then [] else d ∷ []) (digits_in ds)

abbrev pub numbers_at : Planned → List (List Failure) → ℕ → List ℕ
numbers_at plan own c = failures_in (digits_at plan own c)

-- What a line's number stands for: these failures, a case that is asked for. The line has their names, in their order,
-- and its steps are those of the failures of the ring that they are, the worse ones last.
pub record StandsFor (plan : Planned) (own : List (List Failure)) (ask : Ask) (c : ℕ) (failures : List ℕ) : Type 0 where
  pub is_case : IsCase plan own ask failures
  pub names : (f : Form) → names_text f plan.nodes (digits_at plan own c) ≡ joined (either f (codes ",") (codes " + ")) (map (name_text f plan.nodes) failures)
  pub steps : case_at plan own c ≡ worst_last (flat_map (failures_at (length plan.nodes) own) failures)

-- one number below the last, and no other, has a line that stands for these failures
pub record HasOneLine (plan : Planned) (own : List (List Failure)) (ask : Ask) (failures : List ℕ) : Type 0 where
  pub number : ℕ
  pub within : number < case_numbers (base_of plan own) ask.depth
  pub told : is_told plan own ask number ≡ true
  pub stands_for : numbers_at plan own number ≡ failures
  pub only : (c : ℕ) → c < case_numbers (base_of plan own) ask.depth → is_told plan own ask c ≡ true → numbers_at plan own c ≡ failures → c ≡ number

-- each number that has a line stands for a case that is asked for, and each such case has exactly one line
abbrev pub CasesHaveOneLine : Type 0
CasesHaveOneLine = (plan : Planned) (own : List (List Failure)) (ask : Ask)
    → ((c : ℕ) → c < case_numbers (base_of plan own) ask.depth → is_told plan own ask c ≡ true → StandsFor plan own ask c (numbers_at plan own c))
    × ((failures : List ℕ) → IsCase plan own ask failures → HasOneLine plan own ask failures)
