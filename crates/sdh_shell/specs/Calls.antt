-- The words of a command line by which programs are called, and how a script that was run ends. The words are this
-- project's own.
use Rattle.std.specs.Prelude.{◌≡◌, ℕ, Bool, true, false, if◌then◌else◌, List, [], ◌∷◌, codes, map, Option, Some, None, String, string_bytes}
use Rattle.std.specs.Str.{bytes_eq}
use Rattle.std.specs.declared.alloc.Global.{Global}
-- the end of a circuit that a letter names
pub use Rattle.sdh_plan.specs.Steps.{end_at as end_lettered}
use Rattle.sdh_status.specs.declared.Status.{Status}
use Rattle.sdh_status.specs.declared.Status.TheVariants as status

-- the words of a command line, as bytes
abbrev pub words_of : List (String Global) → List (List ℕ)
words_of words = map string_bytes words

-- the words are the one word `run`
abbrev pub is_run : List (List ℕ) → Bool
is_run (word ∷ []) = bytes_eq word (codes "run")
is_run words = false

-- the words are the one word `run`
abbrev pub AreRun : List (List ℕ) → Type 0
AreRun words = is_run words ≡ true

-- what is asked of a program that does one thing alone, by the word `run`
abbrev pub asked_to_run : List (List ℕ) → Option (Unit {0})
asked_to_run words = if is_run words then Some tt else None

-- ---- endings

-- a script that was run may end so: it is done, or a settle step was unsettled, or a plant's call failed
abbrev pub HasRun : Status → Type 0
HasRun status.Ok = Unit {0}
HasRun (status.Unsettled k) = Unit {0}
HasRun status.PlantFault = Unit {0}
HasRun how = ⊥
