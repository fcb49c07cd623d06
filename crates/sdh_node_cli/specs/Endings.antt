-- How the program ends. The numbers and the lines are this project's own.
use Rattle.std.specs.Prelude.{ℕ, List, ◌++◌, codes, decimal, Option, Some, None}
use Rattle.sdh_plan.specs.Reasons.{reason_number}
use Rattle.sdh_status.specs.declared.Status.{Status}
use Rattle.sdh_report.specs.Statuses as status
use Rattle.sdh_status.specs.Numbers as numbers
use Rattle.sdh_report.specs.Lines.{own_line}
use Rattle.sdh_shell.specs.Endings.{Endings}
use Rattle.sdh_node_cli.specs.declared.ending.Ending.{Ending}
use Rattle.sdh_node_cli.specs.declared.ending.Ending.TheVariants as ending
use Rattle.sdh_node_cli.specs.declared.ending.Flaw.{Flaw}
use Rattle.sdh_node_cli.specs.declared.ending.Flaw.TheVariants as flaw

-- the number of what is wrong with a record: that of the reason for which a step is refused, or one of the program's
-- own
abbrev pub flaw_number : Flaw → ℕ
flaw_number (flaw.Said reason) = reason_number reason
flaw_number flaw.Cut = 32
flaw_number flaw.Long = 33
flaw_number flaw.Many = 34

-- the exit status of the program
abbrev pub number_of : Ending → ℕ
number_of ending.NoSuchNode = 15
number_of (ending.BadRecord f number) = 17
number_of (ending.Shared how) = numbers.number_of how

-- the last line for a record that can't be done: `why` is the number of the reason, and `number` that of the record
abbrev pub bad_record_text : ℕ → ℕ → List ℕ
bad_record_text why number = codes "bad record " ++ decimal why ++ codes " at " ++ decimal number ++ codes "\n"

-- the last line for a record that can't be done, by what is wrong with it; records are counted from 1, and the plan
-- before them is number 0
abbrev pub bad_record_line : Flaw → ℕ → List ℕ
bad_record_line f number = bad_record_text (flaw_number f) number

-- the last line of the text that goes with an ending
abbrev pub line_of : Ending → List ℕ
line_of ending.NoSuchNode = own_line (codes "no such node")
line_of (ending.BadRecord f number) = bad_record_line f number
line_of (ending.Shared how) = status.last_line how

-- the shared status that an ending is
abbrev pub shared : Ending → Option Status
shared ending.NoSuchNode = None
shared (ending.BadRecord f number) = None
shared (ending.Shared how) = Some how

-- the shared statuses, and two endings of the program's own
abbrev pub bench_endings : Endings Ending
bench_endings = record {
  of = ending.Shared;
  shared = shared;
  shared_of = λ s i. Some s;
  number = number_of;
  line = line_of;
}
