-- How a call of the program ends: each status, when it comes, and the text that goes with it.
use Rattle.std.specs.Prelude.{◌≡◌, ℕ, suc, ◌+◌, ◌-◌, ◌<◌, ◌≤◌, ◌⊎◌, Bool, true, false, List, [], ◌∷◌, ◌++◌, length, codes, Option, Some, IfSome}
use Rattle.sdh_report.specs.Lines.{own_line}
use Rattle.sdh_elastic.specs.History.{lasts, lengths}
use Rattle.std.specs.Io.KnownBytes.{Appends}
use Rattle.sdh_outside.specs.Reading.{TellsAtMost}
use Rattle.sdh_outside.specs.Writing.{AppendsFewer}
use Rattle.sdh_shell.specs.Kept.{Around, counts_of, Common, Keeps}
use Rattle.sdh_shell.specs.Failing.{Counts, HaveFailed, CameOfSource}
use Rattle.sdh_shell.specs.Writing.{Telling, Whole, Front, Nothing, WritesAs}
use Rattle.sdh_retime_cli.specs.declared.status.Status.{Status}
use Rattle.sdh_retime_cli.specs.declared.status.Status.TheVariants as status
use Rattle.sdh_retime_cli.specs.Digits.{IsDigits, AreDigits, size_at, offset_at, chunks}
use Rattle.sdh_retime_cli.specs.Lines.{lines_of, left_line, drift_line}

-- the number of a status, with which the program ends
abbrev pub number_of : Status → ℕ
number_of status.Ok = 0
number_of status.Usage = 2
number_of status.ReadFault = 3
number_of status.WriteFault = 4
number_of status.TooLong = 9
number_of (status.Drift turn) = 12
number_of status.Memory = 70

-- the bytes of the first k chunks are there, and none of the turns that take them in is a drift
pub record Runs (digits bytes : List ℕ) (k : ℕ) : Type 0 where
  pub there : offset_at digits k ≤ length bytes
  pub lasts : lasts (lengths (chunks digits bytes k)) ≡ true

-- all k chunks were taken in, and what is left is too little for one more
pub record AllRetimed (digits bytes : List ℕ) (k : ℕ) (text : List ℕ) : Type 0 where
  pub runs : Runs digits bytes k
  pub short : length bytes < offset_at digits (suc k)
  pub written : text ≡ lines_of (chunks digits bytes k) ++ left_line (length bytes - offset_at digits k)

-- one more chunk is there after the first k, and its turn is a drift
pub record IsDrift (digits bytes : List ℕ) (k turn : ℕ) (text : List ℕ) : Type 0 where
  pub runs : Runs digits bytes k
  pub there : offset_at digits (suc k) ≤ length bytes
  pub number : turn ≡ suc k
  pub drifts : lasts (lengths (chunks digits bytes (suc k))) ≡ false
  pub written : text ≡ lines_of (chunks digits bytes k) ++ drift_line (suc k)

-- how the run of some bytes ends
abbrev pub IsRetimed : List ℕ → List ℕ → Status → List ℕ → Type 0
IsRetimed digits bytes status.Ok text = (k : ℕ) × AllRetimed digits bytes k text
IsRetimed digits bytes (status.Drift turn) text = (k : ℕ) × IsDrift digits bytes k turn text
IsRetimed digits bytes _ text = ⊥

-- the words are digits, and the source has no more bytes than the program reads
pub record IsRead (words : List (List ℕ)) (bytes digits : List ℕ) : Type 0 where
  pub word : words ≡ digits ∷ []
  pub form : IsDigits digits
  pub short : length bytes ≤ 1048576

-- What the words and the bytes of the source come to: this status, with this text. `WriteFault` and `Memory` are no
-- outcomes: they may stand in place of one.
abbrev pub IsOutcome : List (List ℕ) → List ℕ → Status → List ℕ → Type 0
IsOutcome words bytes status.Usage text = (¬ AreDigits words) × (text ≡ own_line (codes "usage: sdhretime DIGITS"))
IsOutcome words bytes status.ReadFault text = AreDigits words × (text ≡ own_line (codes "read fault"))
IsOutcome words bytes status.TooLong text = AreDigits words × (1048576 < length bytes) × (text ≡ own_line (codes "too long"))
IsOutcome words bytes status.Ok text = (digits : List ℕ) × IsRead words bytes digits × IsRetimed digits bytes status.Ok text
IsOutcome words bytes (status.Drift turn) text =
    (digits : List ℕ) × IsRead words bytes digits × IsRetimed digits bytes (status.Drift turn) text
IsOutcome words bytes status.WriteFault text = ⊥
IsOutcome words bytes status.Memory text = ⊥

-- a read fault has its cause in a call of the source that failed
abbrev pub HasCause : Counts → Status → Type 0
HasCause reads status.ReadFault = HaveFailed reads
HasCause reads how = Unit {0}

-- an outcome; if it is a read fault, a call of the source has failed
abbrev pub MayEnd : List (List ℕ) → List ℕ → Counts → Status → List ℕ → Type 0
MayEnd words bytes reads how text = IsOutcome words bytes how text × HasCause reads how

-- what is written with a status: with a write fault a front of a text, nothing where memory ran out, and else a whole
-- text
abbrev pub retime_telling_of : Status → Telling
retime_telling_of status.WriteFault = Front
retime_telling_of status.Memory = Nothing
retime_telling_of how = Whole

-- what was written when a call ended with this status
abbrev pub RetimingWrites : List (List ℕ) → List ℕ → Counts → Status → Option (List ℕ) → Option (List ℕ) → Type 0
RetimingWrites words bytes reads how old new = WritesAs (retime_telling_of how) (λ how text. MayEnd words bytes reads how text) how old new

-- what was written when a call returned this number
pub record Answers (words : List (List ℕ)) (bytes : List ℕ) (reads : Counts) (number : ℕ) (old new : Option (List ℕ)) : Type 0 where
  pub status : Status
  pub numbered : number ≡ number_of status
  pub writes : RetimingWrites words bytes reads status old new

-- the most bytes that the program accepts
abbrev pub bytes_max : ℕ
bytes_max = 1048576

-- How many reads failed, and how many bytes were taken, by the time that the program came to the status `how`. It
-- returns this status, or a write fault if writing the text fails. Where the source's count of faults is exact, one
-- read failed if `how` is a read fault, and none otherwise. Exactly if `how` is `TooLong`, 1,048,577 bytes were taken,
-- one more than the program accepts, and none after them.
abbrev pub RetimingCameTo : Bool → ℕ → ℕ → Option (List ℕ) → Option (List ℕ) → Status → Type 0
RetimingCameTo exact before after left now how =
    CameOfSource (Some bytes_max) exact (record { before = before; after = after }) left now (how ≡ status.ReadFault) (how ≡ status.TooLong)

-- a status with which the source was read to its end, and the run came to an end
abbrev pub HasRun : Status → Type 0
HasRun status.Ok = Unit {0}
HasRun (status.Drift turn) = Unit {0}
HasRun _ = ⊥

-- four consecutive chunks, the last of them in this turn or before it, have together fewer than 9393 or more than
-- 9399 bytes: they are unsteady
pub record UnsteadyBy (digits : List ℕ) (turn : ℕ) : Type 0 where
  pub first : ℕ
  pub within : first + 4 ≤ turn
  pub sum : ℕ
  pub is : sum ≡ size_at digits first + size_at digits (first + 1) + size_at digits (first + 2) + size_at digits (first + 3)
  pub far : (sum < 9393) ⊎ (9399 < sum)

-- the text's last line names this turn, and four consecutive chunks are unsteady, the last of them in this turn or
-- before it
pub record TellsUnsteady (digits : List ℕ) (turn : ℕ) (text : List ℕ) : Type 0 where
  pub unsteady : UnsteadyBy digits turn
  pub lines : List ℕ
  pub text_is : text ≡ lines ++ drift_line turn

-- there is one word, the last line of the text names a turn, and four consecutive chunks, the last of them in that
-- turn or before it, are unsteady
abbrev pub AreUnsteady : List (List ℕ) → ℕ → List ℕ → Type 0
AreUnsteady words turn text = (digits : List ℕ) × (words ≡ digits ∷ []) × TellsUnsteady digits turn text

-- a text was appended whose last line names a turn, and four consecutive chunks, the last of them in that turn or
-- before it, are unsteady
abbrev pub WritesUnsteady : List (List ℕ) → ℕ → Option (List ℕ) → Option (List ℕ) → Type 0
WritesUnsteady words turn old new = (text : List ℕ) × AreUnsteady words turn text × Appends old new text

-- the program's run by some digits ends with a drift only where four consecutive chunks are unsteady, the last of
-- them in the turn that is the drift or before it
abbrev pub DriftsAreUnsteady : Type 0
DriftsAreUnsteady =
    (digits bytes : List ℕ) (k turn : ℕ) (text : List ℕ) → IsDigits digits → IsDrift digits bytes k turn text → UnsteadyBy digits turn

-- ---- what a call keeps

abbrev pub common : Common Status
common = record {
  IsDone = HasRun;
  most = Some bytes_max;
  usage = status.Usage;
  read_fault = status.ReadFault;
  too_long = status.TooLong;
  write_fault = status.WriteFault;
  memory = status.Memory;
}

-- What is said of the ending `how`, which was to be reported, where the call returned `end`. A text that goes with it was
-- to be written, and was, or a write failed and only a beginning of the text was written; or memory ran out.
abbrev pub RetimingSays : List (List ℕ) → Counts → Option (List ℕ) → Status → Option (List ℕ) → Option (List ℕ) → Status → Type 0
RetimingSays words reads left end old new how =
    ((text : List ℕ) × IfSome left (λ bytes. MayEnd words bytes reads how text)
    × (((end ≡ how) × Appends old new text) ⊎ ((end ≡ status.WriteFault) × AppendsFewer old new text)))
    ⊎ ((how ≡ end) × (end ≡ status.Memory))

-- What a call keeps of its source and its sink when it ends with a status. With digits and at most 1,048,576 bytes, and
-- no call that fails, the run comes to its end, or memory runs out.
abbrev pub KeepsRetiming : {R W : Type 0} → List (List ℕ) → Around R (Option (List ℕ)) → Around W (Option (List ℕ)) → Status → Type 0
KeepsRetiming words source sink end =
    Keeps common (AreDigits words → ⊥) (AreDigits words → ⊥) (AreDigits words × TellsAtMost (source.shows source.before) bytes_max)
    (RetimingSays words (counts_of source) (source.shows source.before) end (sink.shows sink.before) (sink.shows sink.after)) source sink end
