-- How many circuits are lost in each failure alone, kind by kind. The texts are this project's own, after RFC 4180.
use Rattle.std.specs.Prelude.{ℕ, ◌+◌, ◌*◌, zero, suc, max, ◌==◌, if◌then◌else◌, List, [], ◌∷◌, ◌++◌, codes, decimal, length, slice_index_or}
use Rattle.sdh_plan.specs.Planned.{Planned}
use Rattle.sdh_verdicts.specs.declared.failure.Failure.{Failure}
use Rattle.sdh_verdicts.specs.Failures.{failure_at}
use Rattle.sdh_verdicts.specs.Verdicts.{mends}
use Rattle.sdh_whatif_cli.specs.declared.ask.Kind.{Kind}
use Rattle.sdh_whatif_cli.specs.declared.ask.Kind.TheVariants as kind
use Rattle.sdh_whatif_cli.specs.declared.ask.Kinds.{Kinds}
use Rattle.sdh_whatif_cli.specs.declared.counting.Fate.TheVariants.{Lost}
use Rattle.sdh_whatif_cli.specs.declared.singles.Tally.{Tally}
use Rattle.sdh_whatif_cli.specs.Words.{has_kind, takes}
use Rattle.sdh_whatif_cli.specs.Cases.{worst_last}
use Rattle.sdh_whatif_cli.specs.Counting.{fate_count}

abbrev pub new_tally : Tally
new_tally = record { cases = 0; losing = 0; most = 0 }

-- a tally with one case more, in which `lost` circuits are lost
abbrev pub with_case : ℕ → Tally → Tally
with_case lost t = record { cases = t.cases + 1; losing = t.losing + (if lost == 0 then 0 else 1); most = max lost t.most }

-- the number of circuits that are lost where the failure of this number is all that fails after the script
abbrev pub lost_by : Planned → ℕ → ℕ
lost_by plan number = fate_count plan (failure_at (length plan.nodes) number ∷ []) Lost

-- a tally with the failure of a number; a failure that would mend what the script has set isn't counted
abbrev pub tallied : Planned → ℕ → Tally → Tally
tallied plan number t = if mends plan (failure_at (length plan.nodes) number) then t else with_case (lost_by plan number) t

-- the tally of a number of failures, from number `from` on
abbrev pub tally_of : Planned → ℕ → ℕ → Tally
tally_of plan from zero = new_tally
tally_of plan from (suc k) = tallied plan (from + k) (tally_of plan from k)

-- the tally of the first k failures of the user's own
abbrev pub own_tally : Planned → List (List Failure) → ℕ → Tally
own_tally plan own zero = new_tally
own_tally plan own (suc k) = with_case (fate_count plan (worst_last (slice_index_or own k [])) Lost) (own_tally plan own k)

-- ---- the records

-- the word of a kind
abbrev pub kind_text : Kind → List ℕ
kind_text kind.Degraded = codes "degraded"
kind_text kind.Fibres = codes "fibres"
kind_text kind.Spans = codes "spans"
kind_text kind.Nodes = codes "nodes"
kind_text kind.Manual = codes "manual"
kind_text kind.Forced = codes "forced"
kind_text kind.Own = codes "own"

-- the record of failures of a kind: their number, the number of them in which circuits are lost, and the most circuits
-- that are lost in one
abbrev pub tally_record : Kind → Tally → List ℕ
tally_record k t =
    kind_text k ++ codes "," ++ decimal t.cases ++ codes "," ++ decimal t.losing ++ codes "," ++ decimal t.most ++ codes "\r\n"

-- the number of the first failure of a kind in a ring of n, and how many there are; the ring has none of the user's own
abbrev pub first_of : ℕ → Kind → ℕ
first_of n kind.Degraded = 0
first_of n kind.Fibres = 2 * n
first_of n kind.Spans = 4 * n
first_of n kind.Nodes = 5 * n
first_of n kind.Manual = 6 * n
first_of n kind.Forced = 8 * n
first_of n kind.Own = 0

abbrev pub number_of : ℕ → Kind → ℕ
number_of n kind.Degraded = 2 * n
number_of n kind.Fibres = 2 * n
number_of n kind.Spans = n
number_of n kind.Nodes = n
number_of n kind.Manual = 2 * n
number_of n kind.Forced = 2 * n
number_of n kind.Own = 0

-- the record of a kind, where it is taken
abbrev pub kind_record : Planned → Kinds → Kind → List ℕ
kind_record plan kinds k =
    if takes kinds k then tally_record k (tally_of plan (first_of (length plan.nodes) k) (number_of (length plan.nodes) k)) else []

-- the record of the user's own failures, where there are some
abbrev pub own_record : Planned → List (List Failure) → Kinds → List ℕ
own_record plan own kinds = if has_kind kinds kind.Own then tally_record kind.Own (own_tally plan own (length own)) else []

abbrev pub singles_text : Planned → List (List Failure) → Kinds → List ℕ
singles_text plan own kinds =
    codes "kind,cases,losing,most\r\n" ++ kind_record plan kinds kind.Degraded ++ kind_record plan kinds kind.Fibres
    ++ kind_record plan kinds kind.Spans ++ kind_record plan kinds kind.Nodes ++ kind_record plan kinds kind.Manual
    ++ kind_record plan kinds kind.Forced ++ own_record plan own kinds
