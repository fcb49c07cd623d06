-- The bytes of a stream, and what they lead to: a plan, a line that ends it, and then records.
use Rattle.std.specs.Prelude.{◌≡◌, ◌⊎◌, ℕ, ◌+◌, ◌<◌, ◌≤◌, List, [], ◌∷◌, ◌++◌, length, codes}
use Rattle.std.specs.Prelude.{Option, Some, None, Ok, Err}
use Rattle.std.specs.List.{flat_map}
use Rattle.std.specs.Io.KnownBytes.{IsAtEnd}
use Rattle.sdh_node_cli.specs.Lines.{IsOneLine, whole_line}
use Rattle.sdh_ringmap.specs.declared.Pos.{Pos}
use Rattle.sdh_circuits.specs.Provisioned.{Provisioned}
use Rattle.sdh_plan.specs.declared.reason.Reason.{Reason}
use Rattle.sdh_node_cli.specs.declared.ending.Flaw.{Flaw}
use Rattle.sdh_node_cli.specs.declared.ending.Flaw.TheVariants as flaw
use Rattle.sdh_node_cli.specs.declared.record.Came.{Came}
use Rattle.sdh_node_cli.specs.declared.record.Came.TheVariants as came
use Rattle.sdh_node_cli.specs.declared.record.Record.{Record}
use Rattle.sdh_node_cli.specs.declared.record.Record.TheVariants as what
use Rattle.sdh_node_cli.specs.Records.{record_of}
use Rattle.sdh_node_cli.specs.Bench.{Bench, refusal_of, after_told, size_after, with_arrivals, after_round, answer_to}

-- ---- the plan, up to the line that ends it

-- the line, with its newline byte
abbrev pub end_of_plan : List ℕ
end_of_plan = codes "end of plan\n"

-- no bytes, or whole lines, each with its newline byte
abbrev pub AreLines : List ℕ → Type 0
AreLines bytes = (bytes ≡ []) ⊎ ((before : List ℕ) × (bytes ≡ before ++ codes "\n"))

-- these bytes are a document and the line that ends it
abbrev pub EndsPlan : List ℕ → Type 0
EndsPlan bytes = (document : List ℕ) × (bytes ≡ document ++ end_of_plan) × AreLines document

-- no front of these bytes ends a plan
abbrev pub HasNoEnd : List ℕ → Type 0
HasNoEnd bytes = (front rest : List ℕ) → bytes ≡ front ++ rest → EndsPlan front → ⊥

-- The document is what comes before the first line `end of plan`. So no front of the document and that line ends a
-- plan, as long as the line's newline byte is missing.
pub record IsPlanDocument (document : List ℕ) : Type 0 where
  pub lines : AreLines document
  pub first : HasNoEnd (document ++ codes "end of plan")

-- the most bytes that are read of a document and the line that ends it: 1 MiB, and 12 bytes of the line
abbrev pub head_max : ℕ
head_max = 1048588

-- ---- records

-- a record with the frames that follow it
pub record GivenRecord : Type 0 where
  pub line : List ℕ
  pub record_is : Record
  pub west : List ℕ
  pub east : List ℕ

-- what came on each side, by a record
abbrev pub west_of : Record → Came
west_of (what.Told t) = came.Nothing
west_of (what.Round west east) = west

abbrev pub east_of : Record → Came
east_of (what.Told t) = came.Nothing
east_of (what.Round west east) = east

-- why a record can't be done, if it can't
abbrev pub refusal : Bench → Record → Option Reason
refusal b (what.Told t) = refusal_of b t
refusal b (what.Round west east) = None

-- a line of a record has at most 64 bytes
pub record IsLine (line : List ℕ) : Type 0 where
  pub one : IsOneLine line
  pub short : length line ≤ 64

-- the line is that of a record that can be done
pub record MayBe (b : Bench) (line : List ℕ) (r : Record) : Type 0 where
  pub line_is : IsLine line
  pub reads : record_of b.circuits b.at line ≡ Ok r
  pub may : refusal b r ≡ None

-- the record can be done, and its frames are whole
pub record IsGiven (b : Bench) (g : GivenRecord) : Type 0 where
  pub said : MayBe b g.line g.record_is
  pub west_whole : length g.west ≡ size_after b.node.settings.rate (west_of g.record_is)
  pub east_whole : length g.east ≡ size_after b.node.settings.rate (east_of g.record_is)

-- its bytes: the line with its newline byte, and the frames
abbrev pub bytes_of : GivenRecord → List ℕ
bytes_of g = whole_line g.line ++ (g.west ++ g.east)

-- the bench after a record, and what is written for the record
abbrev pub after_record : Record → List ℕ → List ℕ → Bench → Bench
after_record (what.Told t) from_west from_east b = after_told t b
after_record (what.Round west east) from_west from_east b = after_round (with_arrivals west from_west east from_east b)

abbrev pub answer_of : Record → List ℕ → List ℕ → Bench → List ℕ
answer_of (what.Told t) from_west from_east b = []
answer_of (what.Round west east) from_west from_east b = answer_to (with_arrivals west from_west east from_east b)

abbrev pub bench_after : GivenRecord → Bench → Bench
bench_after g b = after_record g.record_is g.west g.east b

abbrev pub record_answer : GivenRecord → Bench → List ℕ
record_answer g b = answer_of g.record_is g.west g.east b

-- ---- records, one after the other

abbrev pub AreGiven : Bench → List GivenRecord → Type 0
AreGiven b [] = Unit {0}
AreGiven b (g ∷ gs) = IsGiven b g × AreGiven (bench_after g b) gs

abbrev pub after_records : Bench → List GivenRecord → Bench
after_records b [] = b
after_records b (g ∷ gs) = after_records (bench_after g b) gs

abbrev pub answers : Bench → List GivenRecord → List ℕ
answers b [] = []
answers b (g ∷ gs) = record_answer g b ++ answers (bench_after g b) gs

abbrev pub stream_of : List GivenRecord → List ℕ
stream_of gs = flat_map bytes_of gs

-- the most records that are done
abbrev pub records_max : ℕ
records_max = 4294967295

-- ---- how many bytes come after a line that can't be done

-- the most bytes of what came from the west that are read with the line: of a frame the first byte
abbrev pub most_ahead : Came → ℕ
most_ahead came.Nothing = 0
most_ahead came.Dark = 0
most_ahead came.Frame = 1

-- the line of a record begins so
abbrev pub BeginsRecord : List Provisioned → Pos → List ℕ → Type 0
BeginsRecord circuits at front = (rest : List ℕ) × (r : Record) × (record_of circuits at (front ++ rest) ≡ Ok r)

-- Each record whose line begins so has at least this number of bytes: of the line with its newline byte, and of a frame
-- from the west, where one follows, the first byte.
abbrev pub EachHas : List Provisioned → Pos → List ℕ → ℕ → Type 0
EachHas circuits at front count =
    (rest : List ℕ) (r : Record) → record_of circuits at (front ++ rest) ≡ Ok r → count ≤ length (whole_line (front ++ rest)) + most_ahead (west_of r)

-- So many bytes may be read once this part of a line has come: no more than each record has that begins as the line
-- does, as far as a record begins so.
pub record MayRead (circuits : List Provisioned) (at : Pos) (line : List ℕ) (count : ℕ) : Type 0 where
  pub front : List ℕ
  pub rest : List ℕ
  pub line_is : line ≡ front ++ rest
  pub begins : BeginsRecord circuits at front
  pub each : EachHas circuits at front count

-- `more` was read after the newline byte of a line: nothing, or so few bytes that a record could have had them
abbrev pub IsBehind : List Provisioned → Pos → List ℕ → List ℕ → Type 0
IsBehind circuits at line more = (more ≡ []) ⊎ MayRead circuits at line (length (whole_line line ++ more))

-- ---- where the records end

-- the line can't be done for this reason: it is no record, or the node can't do it
abbrev pub IsRefusedFor : Bench → List ℕ → Reason → Type 0
IsRefusedFor b line why =
    (record_of b.circuits b.at line ≡ Err why) ⊎ ((r : Record) × (record_of b.circuits b.at line ≡ Ok r) × (refusal b r ≡ Some why))

-- the stream ended within a line
pub record IsCutLine (tail : List ℕ) : Type 0 where
  pub some : 0 < length tail
  pub line_is : IsLine tail

-- the stream ended within the frames of a record
pub record IsCutFrame (b : Bench) (tail : List ℕ) : Type 0 where
  pub line : List ℕ
  pub record_is : Record
  pub part : List ℕ
  pub said : MayBe b line record_is
  pub tail_is : tail ≡ whole_line line ++ part
  pub short : length part < size_after b.node.settings.rate (west_of record_is) + size_after b.node.settings.rate (east_of record_is)

-- part of a record: a front of its line, without the newline byte, or the line and not all of its frames
abbrev pub IsPartOfRecord : Bench → List ℕ → Type 0
IsPartOfRecord b tail = IsLine tail ⊎ IsCutFrame b tail

-- a line that can't be done for this reason, and what was read after its newline byte
pub record IsRefusedLine (b : Bench) (why : Reason) (tail : List ℕ) : Type 0 where
  pub line : List ℕ
  pub more : List ℕ
  pub tail_is : tail ≡ whole_line line ++ more
  pub line_is : IsLine line
  pub refused : IsRefusedFor b line why
  pub few : IsBehind b.circuits b.at line more

-- what was read of a record that can't be done
abbrev pub IsFlawed : Bench → Flaw → List ℕ → Type 0
IsFlawed b (flaw.Said why) tail = IsRefusedLine b why tail
IsFlawed b flaw.Cut tail = IsCutLine tail ⊎ IsCutFrame b tail
IsFlawed b flaw.Long tail = IsOneLine tail × (length tail ≡ 65)
IsFlawed b flaw.Many tail = ⊥

-- the stream has ended where it was cut
abbrev pub EndsIf : Flaw → Option (List ℕ) → Type 0
EndsIf flaw.Cut left = IsAtEnd left
EndsIf f left = Unit {0}
