-- How the program ends. The numbers and lines are this project's own.
use Rattle.std.specs.Prelude.{ℕ, ◌+◌, List, ◌++◌, codes, decimal, Option, Some, None}
use Rattle.sdh_status.specs.declared.Status.{Status}
use Rattle.sdh_report.specs.Statuses as status
use Rattle.sdh_status.specs.Numbers as numbers
use Rattle.sdh_shell.specs.Endings.{Endings}
use Rattle.sdh_sncp_cli.specs.declared.ending.Ending.{Ending}
use Rattle.sdh_sncp_cli.specs.declared.ending.Ending.TheVariants as ending

-- the number with which the program ends
abbrev pub number_of : Ending → ℕ
number_of (ending.NoSuchStep step) = 14
number_of (ending.SameSlot first second) = 13
number_of (ending.Shared how) = numbers.number_of how

-- the last line for two circuits that share a slot; the text counts circuits from 1
abbrev pub same_slot_line : ℕ → ℕ → List ℕ
same_slot_line first second = codes "same slot " ++ decimal (first + 1) ++ codes " " ++ decimal (second + 1) ++ codes "\n"

abbrev pub no_such_step_line : ℕ → List ℕ
no_such_step_line step = codes "no such step " ++ decimal step ++ codes "\n"

-- the last line of the text that goes with an ending
abbrev pub line_of : Ending → List ℕ
line_of (ending.NoSuchStep step) = no_such_step_line step
line_of (ending.SameSlot first second) = same_slot_line first second
line_of (ending.Shared how) = status.last_line how

-- the status that an ending shares with other programs; none where the ending is this program's own
abbrev pub shared : Ending → Option Status
shared (ending.NoSuchStep step) = None
shared (ending.SameSlot first second) = None
shared (ending.Shared how) = Some how

-- the shared statuses, and two of the program's own
abbrev pub path_endings : Endings Ending
path_endings = record {
  of = ending.Shared;
  shared = shared;
  shared_of = λ s i. Some s;
  number = number_of;
  line = line_of;
}
