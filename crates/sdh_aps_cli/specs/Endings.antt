-- How the program ends. The numbers and the lines are this project's own.
use Rattle.std.specs.Prelude.{ℕ, Bool, true, false, List, [], codes, Option, Some, None}
use mathlib.Core.Logic.{inl, inr}
use Rattle.sdh_status.specs.declared.Status.{Status}
use Rattle.sdh_status.specs.declared.Status.TheVariants as how
use Rattle.sdh_report.specs.Statuses as status
use Rattle.sdh_status.specs.Numbers as numbers
use Rattle.sdh_report.specs.Lines.{own_line}
use Rattle.sdh_shell.specs.Calls.{HasRun}
use Rattle.sdh_shell.specs.Endings.{Endings}
use Rattle.sdh_programs.specs.Programs.{IsRunEnd}
use Rattle.sdh_aps_cli.specs.declared.ending.Ending.{Ending}
use Rattle.sdh_aps_cli.specs.declared.ending.Ending.TheVariants as ending

-- the number with which the program ends
abbrev pub number_of : Ending → ℕ
number_of ending.NoSuchNode = 15
number_of ending.NoSuchRound = 16
number_of (ending.Shared s) = numbers.number_of s

-- the last line of the text that goes with an ending
abbrev pub line_of : Ending → List ℕ
line_of ending.NoSuchNode = own_line (codes "no such node")
line_of ending.NoSuchRound = own_line (codes "no such round")
line_of (ending.Shared s) = status.last_line s

-- the status that an ending shares with other programs; none where the ending is this program's own
abbrev pub shared : Ending → Option Status
shared ending.NoSuchNode = None
shared ending.NoSuchRound = None
shared (ending.Shared s) = Some s

-- the shared statuses, and two of the program's own
abbrev pub signalling_endings : Endings Ending
signalling_endings = record {
  of = ending.Shared;
  shared = shared;
  shared_of = λ s i. Some s;
  number = number_of;
  line = line_of;
}

-- ---- a run whose frames are written

-- A plant's fault is reported as one, whichever rounds came. Else the run is done where it had all rounds that are
-- asked for (`came`), also if a settle step was unsettled after them. Where it hadn't, it ends with `NoSuchRound`.
abbrev pub frames_end : Bool → Status → Ending
frames_end came how.PlantFault = ending.Shared how.PlantFault
frames_end true s = ending.Shared how.Ok
frames_end false s = ending.NoSuchRound

abbrev pub frames_run : (came : Bool) (s : Status) → HasRun s → IsRunEnd signalling_endings (frames_end came s)
frames_run came how.PlantFault h = inl (how.PlantFault, (λ i. ending.Shared how.PlantFault), tt)
frames_run true s h = inl (how.Ok, (λ i. ending.Shared how.Ok), tt)
frames_run false s h = inr (λ i. None)

-- the last line: where all frames were written there is none
abbrev pub frames_line : Ending → List ℕ
frames_line (ending.Shared how.Ok) = []
frames_line end = line_of end
