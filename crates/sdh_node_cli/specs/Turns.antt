-- What is read and written for one record.
use Rattle.std.specs.Prelude.{ℕ, ◌≡◌, ◌+◌, ◌<◌, List, [], ◌∷◌, ◌++◌, length, slice_get, Option, Some, None, Ok}
use Rattle.std.specs.Io.KnownBytes.{Appends, Consumes, IsAtEnd, Keeps, prepend_known}
use Rattle.sdh_outside.specs.Writing.{AppendsFewer}
use Rattle.sdh_ringmap.specs.declared.Pos.{Pos}
use Rattle.sdh_circuits.specs.Provisioned.{Provisioned}
use Rattle.sdh_node_cli.specs.Lines.{IsOneLine, whole_line}
use Rattle.sdh_node_cli.specs.declared.line.LineEnd.{LineEnd}
use Rattle.sdh_node_cli.specs.declared.line.LineEnd.TheVariants as end
use Rattle.sdh_node_cli.specs.declared.ending.Flaw.TheVariants as flaw
use Rattle.sdh_node_cli.specs.declared.line.Got.{Got}
use Rattle.sdh_node_cli.specs.declared.line.Got.TheVariants as got
use Rattle.sdh_node_cli.specs.declared.record.Came.{Came}
use Rattle.sdh_node_cli.specs.declared.record.Came.TheVariants as came
use Rattle.sdh_node_cli.specs.declared.record.Record.{Record}
use Rattle.sdh_node_cli.specs.declared.stop.Stop.{Stop}
use Rattle.sdh_node_cli.specs.declared.stop.Stop.TheVariants as stop
use Rattle.sdh_node_cli.specs.Records.{record_of}
use Rattle.sdh_node_cli.specs.Bench.{Bench, size_after, with_arrivals, after_round, answer_to}
use Rattle.sdh_node_cli.specs.Streams.{IsBehind, IsLine, GivenRecord, IsGiven, west_of, bytes_of, bench_after, record_answer, IsPartOfRecord, IsFlawed, EndsIf}

-- ---- the byte that comes with a line

-- what is still to be taken: the byte that was read ahead, if one was, and then what the source has left
abbrev pub with_ahead : Option ℕ → Option (List ℕ) → Option (List ℕ)
with_ahead None left = left
with_ahead (Some byte) left = prepend_known (byte ∷ []) left

-- the byte that was read with a line, if one was, is the first of a frame from the west
abbrev pub IsAhead : Came → Option ℕ → Type 0
IsAhead came.Nothing first = first ≡ None
IsAhead came.Dark first = first ≡ None
IsAhead came.Frame first = Unit {0}

-- ---- a line

-- What one read of a line took. The line was read up to `old` before and is read up to `new` now. The read took a part
-- of the line; the rest of it with its newline byte and few bytes after it, the first of which is kept; or nothing,
-- since the source has ended.
abbrev pub TakesMore : Option (List ℕ) → Option (List ℕ) → List ℕ → List ℕ → Got → Type 0
TakesMore left now old new got.Part = (bytes : List ℕ) × (0 < length bytes) × IsOneLine bytes × Consumes left now bytes × (new ≡ old ++ bytes)
TakesMore left now old new (got.Rest first) =
    (bytes : List ℕ) × (more : List ℕ) × IsOneLine bytes × Consumes left now (whole_line bytes ++ more) × (new ≡ old ++ bytes)
    × ((circuits : List Provisioned) (at : Pos) → IsBehind circuits at new more) × (first ≡ slice_get more 0)
TakesMore left now old new got.End = Consumes left now [] × IsAtEnd now × (new ≡ old)

-- What was taken of the line of a record, and why no more. Either it is whole, and its newline byte was taken too, with
-- few bytes after it, the first of which is kept; or the source has ended; or there is no room for more of it.
abbrev pub TakesRecord : Option (List ℕ) → Option (List ℕ) → List ℕ → LineEnd → Type 0
TakesRecord left now line (end.Whole first) =
    IsOneLine line × ((more : List ℕ) × Consumes left now (whole_line line ++ more)
    × ((circuits : List Provisioned) (at : Pos) → IsBehind circuits at line more) × (first ≡ slice_get more 0))
TakesRecord left now line end.Ended = IsOneLine line × Consumes left now line × IsAtEnd now
TakesRecord left now line end.Full = IsOneLine line × Consumes left now line

-- a line was read, and few bytes after its newline byte; `first` is the first of these, if there are any
pub record ReadsLine (line : List ℕ) (first : Option ℕ) (left now : Option (List ℕ)) : Type 0 where
  pub line_is : IsLine line
  pub more : List ℕ
  pub read : Consumes left now (whole_line line ++ more)
  pub few : (circuits : List Provisioned) (at : Pos) → IsBehind circuits at line more
  pub first_is : first ≡ slice_get more 0

-- A line was read, and it is that of a record. Besides, only `first` was read: the first byte of a frame from the west,
-- or nothing.
pub record HasLine (b : Bench) (line : List ℕ) (r : Record) (first : Option ℕ) (left now : Option (List ℕ)) : Type 0 where
  pub line_is : IsLine line
  pub reads : record_of b.circuits b.at line ≡ Ok r
  pub ahead : IsAhead (west_of r) first
  pub read : Consumes left (with_ahead first now) (whole_line line)

-- ---- what came on the sides

-- fewer than `size` bytes were read: the source has ended, or a read failed
abbrev pub TakesPart : ℕ → Option (List ℕ) → Option (List ℕ) → Stop → Type 0
TakesPart size left now (stop.Bad flaw.Cut) = (bytes : List ℕ) × (length bytes < size) × Consumes left now bytes × IsAtEnd now
TakesPart size left now stop.ReadFault = (bytes : List ℕ) × (length bytes < size) × Consumes left now bytes
TakesPart size left now why = ⊥

-- what came on both sides was read, whole frames, that from the west first, and is kept for the next round
pub record TakesBoth (b new : Bench) (west east : Came) (left now : Option (List ℕ)) : Type 0 where
  pub from_west : List ℕ
  pub from_east : List ℕ
  pub west_whole : length from_west ≡ size_after b.node.settings.rate west
  pub east_whole : length from_east ≡ size_after b.node.settings.rate east
  pub read : Consumes left now (from_west ++ from_east)
  pub bench : new ≡ with_arrivals west from_west east from_east b

-- the number of bytes that follow a record for what came on both sides
abbrev pub both_sizes : Bench → Came → Came → ℕ
both_sizes b west east = size_after b.node.settings.rate west + size_after b.node.settings.rate east

-- ---- a round

-- a round ran over what came on both sides, and its answer was written whole
pub record Ran (b new : Bench) (west east : Came) (left now old_text new_text : Option (List ℕ)) : Type 0 where
  pub from_west : List ℕ
  pub from_east : List ℕ
  pub west_whole : length from_west ≡ size_after b.node.settings.rate west
  pub east_whole : length from_east ≡ size_after b.node.settings.rate east
  pub read : Consumes left now (from_west ++ from_east)
  pub wrote : Appends old_text new_text (answer_to (with_arrivals west from_west east from_east b))
  pub bench : new ≡ after_round (with_arrivals west from_west east from_east b)

-- a round ran over what came on both sides, and only a front of its answer was written
pub record RanCut (b : Bench) (west east : Came) (left now old_text new_text : Option (List ℕ)) : Type 0 where
  pub from_west : List ℕ
  pub from_east : List ℕ
  pub west_whole : length from_west ≡ size_after b.node.settings.rate west
  pub east_whole : length from_east ≡ size_after b.node.settings.rate east
  pub read : Consumes left now (from_west ++ from_east)
  pub front : AppendsFewer old_text new_text (answer_to (with_arrivals west from_west east from_east b))

-- no round ran, since a frame wasn't whole, or a write failed in the round's answer
abbrev pub StopsRound : Bench → Came → Came → Stop → Option (List ℕ) → Option (List ℕ) → Option (List ℕ) → Option (List ℕ) → Type 0
StopsRound b west east stop.WriteFault left now old_text new_text = RanCut b west east left now old_text new_text
StopsRound b west east why left now old_text new_text =
    TakesPart (both_sizes b west east) left now why × Keeps old_text new_text

-- ---- a record

-- A record was done: its bytes were read and nothing more, and its answer was written whole.
pub record RecordGoes (b new : Bench) (left now old_text new_text : Option (List ℕ)) : Type 0 where
  pub given : GivenRecord
  pub is : IsGiven b given
  pub read : Consumes left now (bytes_of given)
  pub wrote : Appends old_text new_text (record_answer given b)
  pub bench : new ≡ bench_after given b

-- Why no more records are done; `tail` is what was read of the next one. The source has ended, the next record is
-- flawed, or a read failed within it. A write fault isn't one of these, since the record was done.
abbrev pub StopsSo : Bench → Stop → List ℕ → Option (List ℕ) → Type 0
StopsSo b stop.Done tail now = (tail ≡ []) × IsAtEnd now
StopsSo b (stop.Bad f) tail now = IsFlawed b f tail × EndsIf f now
StopsSo b stop.ReadFault tail now = IsPartOfRecord b tail
StopsSo b stop.WriteFault tail now = ⊥

-- no more records are done, and the source was read from `left` to `now`
abbrev pub Halts : Bench → Stop → Option (List ℕ) → Option (List ℕ) → Type 0
Halts b why left now = (tail : List ℕ) × StopsSo b why tail now × Consumes left now tail

-- a write failed in the answer to a record: a front of the answer was written, and nothing was read after the record
pub record Fails (b : Bench) (left now old_text new_text : Option (List ℕ)) : Type 0 where
  pub given : GivenRecord
  pub is : IsGiven b given
  pub read : Consumes left now (bytes_of given)
  pub front : AppendsFewer old_text new_text (record_answer given b)

-- no more records were done and nothing was written, or a write failed
abbrev pub TurnStopsBy : Bench → Stop → Option (List ℕ) → Option (List ℕ) → Option (List ℕ) → Option (List ℕ) → Type 0
TurnStopsBy b stop.WriteFault left now old_text new_text = Fails b left now old_text new_text
TurnStopsBy b why left now old_text new_text = Halts b why left now × Keeps old_text new_text
