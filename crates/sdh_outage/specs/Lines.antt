-- The lines of outages. A round is the time of a frame, 125 us. The texts are this project's own.
use Rattle.std.specs.Prelude.{ℕ, ◌*◌, ◌/◌, ◌%◌, ◌==◌, if◌then◌else◌, List, [], ◌++◌, codes, decimal, Option, Some, None}
use Rattle.sdh_circuits.specs.declared.End.{End}
use Rattle.sdh_report.specs.Lines.{end_letter, port_named}
use Rattle.sdh_outage.specs.declared.kind.Kind.{Kind}
use Rattle.sdh_outage.specs.declared.kind.Kind.TheVariants as kind
use Rattle.sdh_outage.specs.declared.change.Change.{Change}
use Rattle.sdh_outage.specs.declared.outage.Outage.{Outage}
use Rattle.sdh_outage.specs.declared.outage.Runs.{Runs}
use Rattle.sdh_outage.specs.declared.outage.Stretch.{Stretch}
use Rattle.sdh_outage.specs.declared.summary.Summary.{Summary}
use Rattle.sdh_outage.specs.Outages.{out}

-- a number below 1000 with exactly three digits
abbrev pub three_digits : ℕ → List ℕ
three_digits n = decimal (n / 100) ++ decimal (n / 10 % 10) ++ decimal (n % 10)

-- a number of microseconds, in milliseconds with three decimals
abbrev pub ms_text : ℕ → List ℕ
ms_text us = decimal (us / 1000) ++ codes "." ++ three_digits (us % 1000)

-- a number of rounds, and their time in milliseconds
abbrev pub rounds_text : ℕ → List ℕ
rounds_text rounds = decimal rounds ++ codes " ms " ++ ms_text (125 * rounds)

-- the first round that wasn't in order and the last one
abbrev pub stretch_text : Option Stretch → List ℕ
stretch_text None = codes " from - to -"
stretch_text (Some s) = codes " from " ++ decimal s.from ++ codes " to " ++ decimal s.to

-- the runs of rounds without the customer's bytes: how many, and the longest
abbrev pub runs_text : Runs → List ℕ
runs_text r = codes " runs " ++ decimal r.count ++ codes " longest " ++ rounds_text r.longest

-- the number of rounds of each kind that isn't in order
abbrev pub first_counts_text : Outage → List ℕ
first_counts_text o = codes " ais " ++ decimal o.ais ++ codes " ones " ++ decimal o.ones ++ codes " jump " ++ decimal o.jump

abbrev pub counts_text : Outage → List ℕ
counts_text o =
    first_counts_text o ++ codes " torn " ++ decimal o.torn ++ codes " strange " ++ decimal o.strange ++ codes " foreign "
    ++ decimal o.foreign

-- The port at that end of the circuit of that name had this outage. Whose the foreign bytes were follows.
abbrev pub outage_front : List ℕ → End → Outage → List ℕ
outage_front name end o =
    port_named name end ++ codes " out " ++ decimal (out o) ++ runs_text o.runs ++ stretch_text o.stretch ++ counts_text o

-- the foreign bytes were those of the port at that end of the circuit of that name
abbrev pub of_port : List ℕ → End → List ℕ
of_port name end = codes " of " ++ name ++ codes " " ++ end_letter end ++ codes "\n"

-- there were no foreign bytes
abbrev pub of_nobody : List ℕ
of_nobody = codes " of - -\n"

-- ---- the changes of one port

-- the word of a kind
abbrev pub kind_word : Kind → List ℕ
kind_word kind.Ais = codes "ais"
kind_word kind.Ones = codes "ones"
kind_word kind.InOrder = codes "in-order"
kind_word kind.Jump = codes "jump"
kind_word kind.Torn = codes "torn"
kind_word (kind.Foreign port) = codes "foreign"
kind_word kind.Strange = codes "strange"

-- from this round on the rounds are of this kind
abbrev pub change_line : Change → List ℕ
change_line c = codes "round " ++ decimal c.round ++ codes " " ++ kind_word c.kind ++ codes "\n"

-- `count` changes came after those that are listed
abbrev pub more_line : ℕ → List ℕ
more_line count = codes "more " ++ decimal count ++ codes "\n"

-- ---- all ports

-- how many ports got bytes of another circuit, on a line of its own where there are any
abbrev pub foreign_line : ℕ → List ℕ
foreign_line ports = if ports == 0 then [] else codes "foreign ports " ++ decimal ports ++ codes "\n"

-- the longest run of a settle step's ports that came back, how many of these had one of more than 400 rounds, and how
-- many ports were never out and are out still
abbrev pub longest_text : Summary → List ℕ
longest_text s = codes "longest " ++ rounds_text s.longest ++ codes " over " ++ decimal s.over

abbrev pub summary_line : Summary → List ℕ
summary_line s =
    longest_text s ++ codes " none " ++ decimal s.none ++ codes " still " ++ decimal s.still ++ codes "\n" ++ foreign_line s.foreign
