-- What the texts of the user's own failures name: failures of the ring, which come together.
use Rattle.std.specs.Prelude.{ℕ, ◌≡◌, ◌+◌, ◌*◌, Bool, true, ◌==◌, ◌||◌, nat_lt, if◌then◌else◌, List, [], ◌∷◌, map, length, Option, Some, None, option_map}
use Rattle.std.specs.Prelude.{is_none, unwrap_or, slice_get, position}
use Rattle.std.specs.List.{slice_split}
use Rattle.std.specs.Option.{option_and_then}
use Rattle.std.specs.Str.{bytes_eq}
use Rattle.sdh_basics.specs.Cells.{cells}
use Rattle.sdh_verdicts.specs.declared.failure.Failure.{Failure}
use Rattle.sdh_verdicts.specs.Failures.{failure_at}
use Rattle.sdh_whatif_cli.specs.declared.own.OwnError.{OwnError}
use Rattle.sdh_whatif_cli.specs.declared.own.OwnError.TheVariants as error
use Rattle.sdh_whatif_cli.specs.Lines.{failure_text}

-- a text without the space that it begins with, if it does
abbrev pub unspaced : List ℕ → List ℕ
unspaced [] = []
unspaced (b ∷ more) = if b == 32 then more else b ∷ more

abbrev pub is_semicolon : ℕ → Bool
is_semicolon byte = byte == 59

-- the names in the text of a failure of the user's own: semicolons part them, and a space may stand before each
abbrev pub names_in : List ℕ → List (List ℕ)
names_in text = map unspaced (slice_split is_semicolon text)

-- all failures of a ring of n, in their order
abbrev pub ring_failures : ℕ → List Failure
ring_failures n = cells (failure_at n) (10 * n)

-- The failure with this name in a ring of these nodes. In a ring of two nodes two fibres have one name, and the first
-- is meant.
unfoldable pub failure_named : List ℕ → List ℕ → Option Failure
failure_named nodes name =
    option_and_then (slice_get (ring_failures (length nodes)))
    (position (λ failure. bytes_eq (failure_text nodes failure) name) (ring_failures (length nodes)))

-- all of these failures, where each is there
abbrev pub all_there : List (Option Failure) → Option (List Failure)
all_there [] = Some []
all_there (None ∷ more) = None
all_there (Some failure ∷ more) = option_map (λ others. failure ∷ others) (all_there more)

-- the failures that a text names, or nothing where it has more than 16 names, or a name of no failure
unfoldable pub together : List ℕ → List ℕ → Option (List Failure)
together nodes text = if nat_lt 16 (length (names_in text)) then None else all_there (map (failure_named nodes) (names_in text))

-- the user's own failures, by their texts
abbrev pub own_failures : List ℕ → List (List ℕ) → List (List Failure)
own_failures nodes texts = map (λ text. unwrap_or (together nodes text) []) texts

-- The place of the first unknown text, where the first of these texts is at this place. A text is unknown where
-- `together` has no failures for it, or it is the 17th or a later one.
abbrev pub unknown_from : List ℕ → ℕ → List (List ℕ) → Option ℕ
unknown_from nodes place [] = None
unknown_from nodes place (text ∷ more) =
    if nat_lt 16 place || is_none (together nodes text) then Some place else unknown_from nodes (place + 1) more

-- the place of the first unknown text, counted from 1
abbrev pub first_unknown : List ℕ → List (List ℕ) → Option ℕ
first_unknown nodes texts = unknown_from nodes 1 texts

-- ---- what the program answers

-- the error has this place, or is that memory ran out, which may come at any time
abbrev pub IsUnknown : Option ℕ → OwnError → Type 0
IsUnknown place error.Memory = Unit {0}
IsUnknown place (error.Unknown at) = place ≡ Some at

-- why there are no failures for the text at a place: it is unknown, or memory ran out
abbrev pub IsNone : ℕ → Option (List Failure) → OwnError → Type 0
IsNone place found error.Memory = Unit {0}
IsNone place found (error.Unknown at) = (at ≡ place) × ((nat_lt 16 place || is_none found) ≡ true)
