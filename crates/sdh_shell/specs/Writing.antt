-- What is written with each ending of a program's call.
use Rattle.std.specs.Prelude.{◌≡◌, ◌⊎◌, ◌<◌, ℕ, List, [], ◌++◌, length, take, Option, Some, None}
use Rattle.std.specs.Io.KnownBytes.{Appends, Keeps}
use Rattle.sdh_outside.specs.Writing.{AppendsFewer}
use Rattle.sdh_status.specs.declared.Status.{Status}
use Rattle.sdh_status.specs.declared.Status.TheVariants as status
use Rattle.sdh_shell.specs.Endings.{Endings}

-- ---- a text in two parts

-- A text that is written as it comes: all that is written before the last of it, and the last, which is written in one
-- go.
pub record Parts : Type 0 where
  pub first : List ℕ
  pub last : List ℕ

-- all of it
abbrev pub joined : Parts → List ℕ
joined text = text.first ++ text.last

-- a text that is written in one go
abbrev pub alone : List ℕ → Parts
alone text = record { first = []; last = text }

-- a write failed in the last part: all of the first one was written, and only a beginning of the last, shorter than it
abbrev pub AppendsUpTo : Option (List ℕ) → Option (List ℕ) → Parts → Type 0
AppendsUpTo old new text = (n : ℕ) × (n < length text.last) × Appends old new (text.first ++ take n text.last)

-- ---- an outcome

-- this line is all of the text, and the fibres are left alone
abbrev pub Says : {F : Type 0} → List ℕ → Parts → F → F → Type 0
Says line text f left = (text ≡ alone line) × (left ≡ f)

-- how much of an outcome's text goes with an ending: the whole text; only a beginning of it, where a write failed; or
-- nothing, where memory ran out
pub data Telling : Type 0 where
  Whole : Telling
  Front : Telling
  Nothing : Telling

-- What was written when a call ended with `how`, where `may` says which endings go with which texts: the whole text of
-- the outcome; where a write failed, only a beginning of an outcome's text; where memory ran out, nothing.
abbrev pub WritesAs : {S : Type 0} → Telling → (S → List ℕ → Type 0) → S → Option (List ℕ) → Option (List ℕ) → Type 0
WritesAs {S} Front may how old new = (told : S) × (text : List ℕ) × may told text × AppendsFewer old new text
WritesAs Nothing may how old new = Keeps old new
WritesAs Whole may how old new = (text : List ℕ) × may how text × Appends old new text

-- how much of an outcome's text goes with a status
abbrev pub telling_of : Status → Telling
telling_of status.WriteFault = Front
telling_of status.Memory = Nothing
telling_of how = Whole

-- what was written when a call ended with this status
abbrev pub Writes : (Status → List ℕ → Type 0) → Status → Option (List ℕ) → Option (List ℕ) → Type 0
Writes may how old new = WritesAs (telling_of how) may how old new

-- how much of an outcome's text goes with a shared status; the whole text where there is none
abbrev pub telling_if : Option Status → Telling
telling_if None = Whole
telling_if (Some how) = telling_of how

-- how much of an outcome's text goes with an ending; with one of the program's own the whole text
abbrev pub telling_in : {E : Type 0} → Endings E → E → Telling
telling_in endings how = telling_if (endings.shared how)

-- what was written when a call ended with this ending
abbrev pub WritesWith : {E : Type 0} → Endings E → (E → List ℕ → Type 0) → E → Option (List ℕ) → Option (List ℕ) → Type 0
WritesWith endings may how old new = WritesAs (telling_in endings how) may how old new

-- the whole text of an outcome goes with this ending: no write failed, and memory did not run out
abbrev pub IsShown : {E : Type 0} → Endings E → E → Type 0
IsShown endings how = telling_in endings how ≡ Whole

-- ---- a text that is written as it comes

-- What was written of a text that is written as it comes, where `may` says which endings go with which texts. It is the
-- whole text of the outcome; or nothing, where memory ran out. Where a write failed in the last part of the text of an
-- outcome, all before that part was written. Where one failed before it was known how the call would end, `cut` holds
-- of what was written.
abbrev pub TellsAs : {S : Type 0} → Telling → (S → Parts → Type 0) → Type 0 → S → Option (List ℕ) → Option (List ℕ) → Type 0
TellsAs {S} Front may cut how old new = ((told : S) × (text : Parts) × may told text × AppendsUpTo old new text) ⊎ cut
TellsAs Nothing may cut how old new = Keeps old new
TellsAs Whole may cut how old new = (text : Parts) × may how text × Appends old new (joined text)

-- what was written when this ending was returned
abbrev pub TellsWith : {E : Type 0} → Endings E → (E → Parts → Type 0) → Type 0 → E → Option (List ℕ) → Option (List ℕ) → Type 0
TellsWith endings may cut how old new = TellsAs (telling_in endings how) may cut how old new

-- An ending was to be returned, with a text. It was, and all of the text was written; or a write failed, and only a
-- beginning of the text was written.
abbrev pub WroteEnding : {E : Type 0} → Endings E → E → List ℕ → E → Option (List ℕ) → Option (List ℕ) → Type 0
WroteEnding endings how text end old new =
    ((end ≡ how) × Appends old new text) ⊎ ((end ≡ endings.of status.WriteFault) × AppendsFewer old new text)

-- The same of a text that is written as it comes: where a write failed, it failed in the last part.
abbrev pub WroteParts : {E : Type 0} → Endings E → E → Parts → E → Option (List ℕ) → Option (List ℕ) → Type 0
WroteParts endings how text end old new =
    ((end ≡ how) × Appends old new (joined text)) ⊎ ((end ≡ endings.of status.WriteFault) × AppendsUpTo old new text)
