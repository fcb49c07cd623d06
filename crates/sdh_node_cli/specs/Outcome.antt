-- How a call of the program ends: each ending, when it is returned, the text that goes with it, and what was read by
-- then.
use Rattle.std.specs.Prelude.{ℕ, ◌≡◌, ◌⊎◌, ◌+◌, ◌<◌, ◌≤◌, Bool, true, List, [], ◌++◌, length, codes, Option, Some, None}
use Rattle.std.specs.Io.KnownBytes.{Consumes, IsAtEnd}
use Rattle.sdh_ringmap.specs.declared.Pos.{Pos}
use Rattle.sdh_ringmap.specs.Places.{found_at}
use Rattle.sdh_plan.specs.Planned.{Planned}
use Rattle.sdh_status.specs.declared.Status.{Status}
use Rattle.sdh_status.specs.declared.Status.TheVariants as status
use Rattle.sdh_report.specs.Lines.{own_line}
use Rattle.sdh_shell.specs.Reading.{HasPlanLength, HasNoPlan, TellsPlan}
use Rattle.sdh_shell.specs.Failing.{Counts, HaveFailed}
use Rattle.sdh_shell.specs.Kept.{Around, counts_of, Common, Keeps}
use Rattle.sdh_shell.specs.Writing.{Parts, alone, AppendsUpTo, WroteParts, TellsWith}
use Rattle.sdh_node_cli.specs.Faults.{CountsFault}
use Rattle.sdh_node_cli.specs.declared.words.Ask.{Ask}
use Rattle.sdh_node_cli.specs.declared.ending.Ending.{Ending}
use Rattle.sdh_node_cli.specs.declared.ending.Ending.TheVariants as ending
use Rattle.sdh_node_cli.specs.declared.ending.Flaw.TheVariants as flaw
use Rattle.sdh_node_cli.specs.declared.head.HeadEnd.{HeadEnd}
use Rattle.sdh_node_cli.specs.declared.head.HeadEnd.TheVariants as end
use Rattle.sdh_node_cli.specs.declared.head.NoHead.{NoHead}
use Rattle.sdh_node_cli.specs.declared.head.NoHead.TheVariants as none
use Rattle.sdh_node_cli.specs.declared.stop.Stop.{Stop}
use Rattle.sdh_node_cli.specs.declared.stop.Stop.TheVariants as stop
use Rattle.sdh_node_cli.specs.Endings.{line_of, bench_endings}
use Rattle.sdh_node_cli.specs.Bench.{Bench, new_bench}
use Rattle.sdh_node_cli.specs.Streams.{end_of_plan, HasNoEnd, IsPlanDocument, head_max, GivenRecord, IsGiven, bytes_of, record_answer, AreGiven, after_records}
use Rattle.sdh_node_cli.specs.Streams.{answers, stream_of, records_max}
use Rattle.sdh_node_cli.specs.Turns.{StopsSo}

-- how the program is called
abbrev pub usage : List ℕ
usage = codes "usage: sdhnode ID, frames, lines"

-- ---- the plan

-- the source had a document and the line that ends it; these and no more bytes were read; and the document is that of
-- this plan
pub record HasHead (left now : Option (List ℕ)) (plan : Planned) : Type 0 where
  pub document : List ℕ
  pub first : IsPlanDocument document
  pub plan_is : TellsPlan document plan
  pub read : Consumes left now (document ++ end_of_plan)

-- ---- what was read where there is no plan

-- the bytes that were read have no line that ends a plan
pub record HasNoHead (left now : Option (List ℕ)) (bytes : List ℕ) : Type 0 where
  pub none : HasNoEnd bytes
  pub read : Consumes left now bytes

-- and they are fewer than may be read of a plan and that line
pub record HasShortHead (left now : Option (List ℕ)) : Type 0 where
  pub bytes : List ℕ
  pub no_head : HasNoHead left now bytes
  pub short : length bytes < head_max

-- What was read of a document and the line that ends it, and why no more was read. Both were read whole, and nothing
-- after them; or the source ended before that; or there was no room for more.
abbrev pub TakesHead : Option (List ℕ) → Option (List ℕ) → List ℕ → HeadEnd → Type 0
TakesHead left now bytes end.Whole =
    (document : List ℕ) × (bytes ≡ document ++ end_of_plan) × IsPlanDocument document × Consumes left now bytes
TakesHead left now bytes end.Ended = HasNoHead left now bytes × IsAtEnd now
TakesHead left now bytes end.Full = HasNoHead left now bytes

-- a document was read, and it is refused with this status
pub record HasBadHead (left now : Option (List ℕ)) (how : Status) : Type 0 where
  pub document : List ℕ
  pub first : IsPlanDocument document
  pub why : HasNoPlan document how
  pub read : Consumes left now (document ++ end_of_plan)

abbrev pub RefusesHead : Option (List ℕ) → Option (List ℕ) → Status → Type 0
RefusesHead left now status.ReadFault = HasShortHead left now
RefusesHead left now status.TooLong = (bytes : List ℕ) × HasNoHead left now bytes × (length bytes ≡ head_max)
RefusesHead left now status.NotToml = HasBadHead left now status.NotToml
RefusesHead left now (status.BadPlan number place) = HasBadHead left now (status.BadPlan number place)
RefusesHead left now how = ⊥

-- why a document gives no plan
abbrev pub IsNoPlan : List ℕ → NoHead → Type 0
IsNoPlan document none.Memory = Unit {0}
IsNoPlan document none.Cut = ⊥
IsNoPlan document (none.Refused status.NotToml) = HasNoPlan document status.NotToml
IsNoPlan document (none.Refused (status.BadPlan number place)) = HasNoPlan document (status.BadPlan number place)
IsNoPlan document (none.Refused how) = ⊥

-- how the program ends where there is no plan; out of memory isn't an outcome
abbrev pub refusal_of : NoHead → Option Ending
refusal_of none.Memory = None
refusal_of none.Cut = Some (ending.BadRecord flaw.Cut 0)
refusal_of (none.Refused how) = Some (ending.Shared how)

-- nothing was read
abbrev pub TakesNothing : Option (List ℕ) → Option (List ℕ) → Type 0
TakesNothing left now = Consumes left now []

-- a document and the line that ends it were read whole, and nothing after them
pub record TakesDocument (left now : Option (List ℕ)) : Type 0 where
  pub document : List ℕ
  pub first : IsPlanDocument document
  pub short : HasPlanLength document
  pub read : Consumes left now (document ++ end_of_plan)

-- memory ran out before the first read, or once a document and the line that ends it had been read
abbrev pub TakesNoRecord : Option (List ℕ) → Option (List ℕ) → Type 0
TakesNoRecord left now = TakesNothing left now ⊎ TakesDocument left now

-- why there is no plan, by what was read; out of memory needs no reason
abbrev pub TellsNone : Option (List ℕ) → Option (List ℕ) → NoHead → Type 0
TellsNone left now none.Memory = TakesNoRecord left now
TellsNone left now none.Cut = HasShortHead left now × IsAtEnd now
TellsNone left now (none.Refused how) = RefusesHead left now how

-- ---- records, one after the other, after the bytes `head`

-- the most records that may be done were done, and nothing was read after them
pub record IsFull (records : List GivenRecord) (why : Stop) (tail : List ℕ) : Type 0 where
  pub many : why ≡ stop.Bad flaw.Many
  pub all : length records ≡ records_max
  pub unread : tail ≡ []

-- why no more records were done after these; `tail` is what was read of the next one
abbrev pub StopsAfter : Bench → List GivenRecord → Stop → List ℕ → Option (List ℕ) → Type 0
StopsAfter b records why tail now =
    ((length records < records_max) × StopsSo (after_records b records) why tail now) ⊎ IsFull records why tail

-- records were done up to one that wasn't, whose number is `number`, and their answers are `text`
pub record Served (b : Bench) (head : List ℕ) (left now : Option (List ℕ)) (number : ℕ) (why : Stop) (text : List ℕ) : Type 0 where
  pub records : List GivenRecord
  pub are : AreGiven b records
  pub numbered : number ≡ length records + 1
  pub tail : List ℕ
  pub read : Consumes left now (head ++ (stream_of records ++ tail))
  pub so : StopsAfter b records why tail now
  pub text_is : text ≡ answers b records

-- After some records a write failed in the answer to the next one. The answers to all records before it were written
-- whole, and only a front of its own. Nothing was read after that record.
pub record CutShort (b : Bench) (head : List ℕ) (left now old_text new_text : Option (List ℕ)) : Type 0 where
  pub records : List GivenRecord
  pub are : AreGiven b records
  pub given : GivenRecord
  pub is : IsGiven (after_records b records) given
  pub read : Consumes left now (head ++ (stream_of records ++ bytes_of given))
  pub front : AppendsUpTo old_text new_text
      (record { first = answers b records; last = record_answer given (after_records b records) })

-- ---- an outcome

-- how the program ends where no more records are done
abbrev pub ending_of : Stop → ℕ → Ending
ending_of stop.Done number = ending.Shared status.Ok
ending_of (stop.Bad f) number = ending.BadRecord f number
ending_of stop.ReadFault number = ending.Shared status.ReadFault
ending_of stop.WriteFault number = ending.Shared status.WriteFault

-- the plan has no node of the identifier
pub record HasNoNode (ask : Ask) (plan : Planned) (head : List ℕ) (left now : Option (List ℕ)) (how : Ending) (text : Parts) : Type 0 where
  pub none : found_at plan.nodes ask.id ≡ None
  pub read : Consumes left now head
  pub how_is : how ≡ ending.NoSuchNode
  pub text_is : text ≡ alone (line_of how)

-- The records were done for the node, up to one that wasn't. Their answers come first, and then the last line.
pub record HasServed (ask : Ask) (plan : Planned) (head : List ℕ) (left now : Option (List ℕ)) (how : Ending) (text : Parts) : Type 0 where
  pub at : Pos
  pub found : found_at plan.nodes ask.id ≡ Some at
  pub number : ℕ
  pub why : Stop
  pub how_is : how ≡ ending_of why number
  pub served : Served (new_bench ask.mode ask.id at plan) head left now number why text.first
  pub last_is : text.last ≡ line_of how

abbrev pub OfBenchPlan : Ask → Planned → List ℕ → Option (List ℕ) → Option (List ℕ) → Ending → Parts → Type 0
OfBenchPlan ask plan head left now how text =
    HasNoNode ask plan head left now how text ⊎ HasServed ask plan head left now how text

-- there is no plan
pub record HasRefusedPlan (left now : Option (List ℕ)) (how : Ending) (text : Parts) : Type 0 where
  pub why : NoHead
  pub none : TellsNone left now why
  pub how_is : Some how ≡ refusal_of why
  pub text_is : text ≡ alone (line_of how)

-- a document is that of a plan
pub record HasPlanDocument (ask : Ask) (left now : Option (List ℕ)) (how : Ending) (text : Parts) : Type 0 where
  pub document : List ℕ
  pub first : IsPlanDocument document
  pub plan : Planned
  pub plan_is : TellsPlan document plan
  pub of_plan : OfBenchPlan ask plan (document ++ end_of_plan) left now how text

-- the node that is asked for in a plan's ring, before any record
pub record IsAskedNode (ask : Ask) (plan : Planned) (b : Bench) : Type 0 where
  pub at : Pos
  pub found : found_at plan.nodes ask.id ≡ Some at
  pub new : b ≡ new_bench ask.mode ask.id at plan

-- the source had a plan, and no more was read; and this is the node that is asked for in its ring, before any record
pub record HasNode (ask : Ask) (left now : Option (List ℕ)) (b : Bench) : Type 0 where
  pub plan : Planned
  pub head : HasHead left now plan
  pub node : IsAskedNode ask plan b

-- What is asked, if anything, leads to this ending with this text, and the source goes from `left` to `now`. A write
-- fault and out of memory aren't outcomes: either may come in place of any outcome.
abbrev pub IsOutcome : Option Ask → Option (List ℕ) → Option (List ℕ) → Ending → Parts → Type 0
IsOutcome None left now how text = (how ≡ ending.Shared status.Usage) × (text ≡ alone (own_line usage)) × (now ≡ left)
IsOutcome (Some ask) left now how text = HasRefusedPlan left now how text ⊎ HasPlanDocument ask left now how text

-- a write failed in the answer to a record for the node of a plan
pub record IsCutPlan (ask : Ask) (plan : Planned) (head : List ℕ) (left now old_text new_text : Option (List ℕ)) : Type 0 where
  pub at : Pos
  pub found : found_at plan.nodes ask.id ≡ Some at
  pub cut : CutShort (new_bench ask.mode ask.id at plan) head left now old_text new_text

pub record IsCutShort (ask : Ask) (left now old_text new_text : Option (List ℕ)) : Type 0 where
  pub document : List ℕ
  pub first : IsPlanDocument document
  pub plan : Planned
  pub plan_is : TellsPlan document plan
  pub cut : IsCutPlan ask plan (document ++ end_of_plan) left now old_text new_text

abbrev pub MayBeCut : Option Ask → Option (List ℕ) → Option (List ℕ) → Option (List ℕ) → Option (List ℕ) → Type 0
MayBeCut None left now old_text new_text = ⊥
MayBeCut (Some ask) left now old_text new_text = IsCutShort ask left now old_text new_text

-- ---- what a part of a call came to

-- An ending was to be reported, with a text, and `May` says that it may be. It was reported, with all of the text; or a
-- write failed in the last part of the text. A read failed if the ending is a read fault, and none otherwise, where the
-- count of faults is exact.
pub record Finishes (May : Ending → Parts → Type 0) (exact : Bool) (reads : Counts) (end : Ending) (old_text new_text : Option (List ℕ))
    : Type 0 where
  pub how : Ending
  pub text : Parts
  pub may : May how text
  pub wrote : WroteParts bench_endings how text end old_text new_text
  pub reads_failed : CountsFault exact reads.before reads.after (how ≡ ending.Shared status.ReadFault)

-- a write failed before it was known how the call would end, and no read did
pub record Breaks (Cut : Type 0) (exact : Bool) (reads : Counts) (end : Ending) : Type 0 where
  pub end_is : end ≡ ending.Shared status.WriteFault
  pub cut : Cut
  pub later : reads.before ≤ reads.after
  pub none : exact ≡ true → reads.after ≡ reads.before

abbrev pub Goes : (Ending → Parts → Type 0) → Type 0 → Bool → Counts → Ending → Option (List ℕ) → Option (List ℕ) → Type 0
Goes May Cut exact reads end old_text new_text = Finishes May exact reads end old_text new_text ⊎ Breaks Cut exact reads end

-- memory ran out: nothing was written, no record was read, and no read failed
pub record RunsOut {W : Type 0} (exact : Bool) (reads : Counts) (left now : Option (List ℕ)) (old new : W) : Type 0 where
  pub unwritten : new ≡ old
  pub read : TakesNoRecord left now
  pub none : exact ≡ true → reads.after ≡ reads.before

-- ---- what is said of the ending that was to be reported

-- a read fault has its cause in a read that failed
abbrev pub HasReadCause : Counts → Ending → Type 0
HasReadCause reads (ending.Shared status.ReadFault) = HaveFailed reads
HasReadCause reads how = Unit {0}

-- an outcome; if it is a read fault, a read has failed
abbrev pub MayEnd : Option Ask → Counts → Option (List ℕ) → Option (List ℕ) → Ending → Parts → Type 0
MayEnd asked reads left now how text = IsOutcome asked left now how text × HasReadCause reads how

-- it was to be reported with this text: it was, or a write failed in the last part of the text
pub record WasToTell (asked : Option Ask) (reads : Counts) (left now : Option (List ℕ)) (end how : Ending) (old_text new_text : Option (List ℕ))
    : Type 0 where
  pub text : Parts
  pub may : MayEnd asked reads left now how text
  pub wrote : WroteParts bench_endings how text end old_text new_text

-- it is a write fault, with which the answers were cut short
pub record WasCut (asked : Option Ask) (left now : Option (List ℕ)) (end how : Ending) (old_text new_text : Option (List ℕ)) : Type 0 where
  pub how_is : how ≡ end
  pub end_is : end ≡ ending.Shared status.WriteFault
  pub cut : MayBeCut asked left now old_text new_text

-- memory ran out, and no record was read
pub record RanOut (left now : Option (List ℕ)) (end how : Ending) : Type 0 where
  pub how_is : how ≡ end
  pub end_is : end ≡ ending.Shared status.Memory
  pub read : TakesNoRecord left now

-- What is said of the ending `how`, which was to be reported, where the call returned `end`.
abbrev pub SaysOf : Option Ask → Counts → Option (List ℕ) → Option (List ℕ) → Ending → Option (List ℕ) → Option (List ℕ) → Ending → Type 0
SaysOf asked reads left now end old_text new_text how =
    WasToTell asked reads left now end how old_text new_text
    ⊎ (WasCut asked left now end how old_text new_text ⊎ RanOut left now end how)

-- ---- what was written

-- What was written is the whole text of an outcome. Where a write failed, it is all answers and a front of the last line;
-- or all answers but the last one, and a front of that. Out of memory, it is nothing.
abbrev pub Tells : Option Ask → Counts → Option (List ℕ) → Option (List ℕ) → Ending → Option (List ℕ) → Option (List ℕ) → Type 0
Tells asked reads left now how old_text new_text =
    TellsWith bench_endings (MayEnd asked reads left now) (MayBeCut asked left now old_text new_text) how old_text new_text

-- ---- what a call keeps

-- The endings that the call has as other programs do. All is done where the stream ended after a whole record. A stream
-- may have any number of bytes; with `TooLong` its plan has too many.
abbrev pub bench_common : Common Ending
bench_common = record {
  IsDone = λ how. how ≡ ending.Shared status.Ok;
  most = None;
  usage = ending.Shared status.Usage;
  read_fault = ending.Shared status.ReadFault;
  too_long = ending.Shared status.TooLong;
  write_fault = ending.Shared status.WriteFault;
  memory = ending.Shared status.Memory;
}

-- The source shows a plan that has the node, and then records that it can do, fewer than may be done, and nothing more.
pub record HasAllRecords (ask : Ask) (left : Option (List ℕ)) : Type 0 where
  pub document : List ℕ
  pub first : IsPlanDocument document
  pub plan : Planned
  pub plan_is : TellsPlan document plan
  pub at : Pos
  pub found : found_at plan.nodes ask.id ≡ Some at
  pub records : List GivenRecord
  pub are : AreGiven (new_bench ask.mode ask.id at plan) records
  pub few : length records < records_max
  pub bytes : left ≡ Some ((document ++ end_of_plan) ++ stream_of records)

-- What a call keeps of its source and its sink, where its words ask for `asked`, and it returns `end`.
abbrev pub KeepsBench : {R W : Type 0} → Option Ask → Around R (Option (List ℕ)) → Around W (Option (List ℕ)) → Ending → Type 0
KeepsBench asked source sink end =
    Keeps bench_common (asked ≡ None) (asked ≡ None) ((ask : Ask) × (asked ≡ Some ask) × HasAllRecords ask (source.shows source.before))
    (SaysOf asked (counts_of source) (source.shows source.before) (source.shows source.after) end (sink.shows sink.before)
    (sink.shows sink.after)) source sink end
