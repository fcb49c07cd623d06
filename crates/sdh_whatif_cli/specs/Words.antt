-- What the words of a command line ask for. The words are this project's own.
use Rattle.std.specs.Prelude.{ℕ, ◌≤◌, ◌-◌, ◌^◌, Bool, true, false, ◌&&◌, ◌||◌, not, List, [], ◌∷◌, codes}
use Rattle.std.specs.Prelude.{Option, Some, None, option_map, if◌then◌else◌}
use Rattle.std.specs.Option.{option_and_then}
use Rattle.std.specs.Str.{bytes_eq}
use Rattle.sdh_plan.specs.Words.{numeral_in}
use Rattle.sdh_whatif_cli.specs.declared.ask.Ask.{Ask}
use Rattle.sdh_whatif_cli.specs.declared.ask.Awaited.{Awaited}
use Rattle.sdh_whatif_cli.specs.declared.ask.Awaited.TheVariants as awaited
use Rattle.sdh_whatif_cli.specs.declared.ask.Depth.{Depth}
use Rattle.sdh_whatif_cli.specs.declared.ask.Depth.TheVariants.{Single, Double, Triple}
use Rattle.sdh_whatif_cli.specs.declared.ask.Form.{Form}
use Rattle.sdh_whatif_cli.specs.declared.ask.Form.TheVariants as form
use Rattle.sdh_whatif_cli.specs.declared.ask.Kind.{Kind}
use Rattle.sdh_whatif_cli.specs.declared.ask.Kind.TheVariants as kind
use Rattle.sdh_whatif_cli.specs.declared.ask.Kinds.{Kinds}
use Rattle.sdh_whatif_cli.specs.declared.ask.AskedSoFar.{AskedSoFar}

-- the largest number of failures that are taken together, by its word
abbrev pub depth_named : List ℕ → Option Depth
depth_named word =
    if bytes_eq word (codes "single") then Some Single else if bytes_eq word (codes "double")
    then Some Double else if bytes_eq word (codes "triple") then Some Triple else None

-- the kind of failures that a word names
abbrev pub kind_named : List ℕ → Option Kind
kind_named word =
    if bytes_eq word (codes "degraded") then Some kind.Degraded
    else if bytes_eq word (codes "fibres") then Some kind.Fibres
    else if bytes_eq word (codes "spans") then Some kind.Spans
    else if bytes_eq word (codes "nodes") then Some kind.Nodes
    else if bytes_eq word (codes "manual") then Some kind.Manual
    else if bytes_eq word (codes "forced") then Some kind.Forced
    else None

-- the form in which cases are listed
abbrev pub form_named : List ℕ → Option Form
form_named word =
    if bytes_eq word (codes "head") then Some form.Headed
    else if bytes_eq word (codes "json") then Some form.Json
    else if bytes_eq word (codes "summary") then Some form.Summary
    else None

-- ---- kinds

abbrev pub no_kinds : Kinds
no_kinds = record { degraded = false; fibres = false; spans = false; nodes = false; manual = false; forced = false; own = false }

-- the kind is one of these
abbrev pub has_kind : Kinds → Kind → Bool
has_kind kinds kind.Degraded = kinds.degraded
has_kind kinds kind.Fibres = kinds.fibres
has_kind kinds kind.Spans = kinds.spans
has_kind kinds kind.Nodes = kinds.nodes
has_kind kinds kind.Manual = kinds.manual
has_kind kinds kind.Forced = kinds.forced
has_kind kinds kind.Own = kinds.own

-- these kinds with this one named too
abbrev pub with_kind_named : Kinds → Kind → Kinds
with_kind_named kinds kind.Degraded = record kinds { degraded = true }
with_kind_named kinds kind.Fibres = record kinds { fibres = true }
with_kind_named kinds kind.Spans = record kinds { spans = true }
with_kind_named kinds kind.Nodes = record kinds { nodes = true }
with_kind_named kinds kind.Manual = record kinds { manual = true }
with_kind_named kinds kind.Forced = record kinds { forced = true }
with_kind_named kinds kind.Own = record kinds { own = true }

-- some kind is named
abbrev pub has_some : Kinds → Bool
has_some kinds = kinds.degraded || kinds.fibres || kinds.spans || kinds.nodes || kinds.manual || kinds.forced || kinds.own

-- failures of the kind are taken: it is named, or none is
abbrev pub takes : Kinds → Kind → Bool
takes kinds k = has_kind kinds k || not (has_some kinds)

-- ---- failures of the user's own

-- Those of these words that come right after a word `own`. `behind` says whether `own` came right before the first of
-- these words.
abbrev pub texts_behind : Bool → List (List ℕ) → List (List ℕ)
texts_behind behind [] = []
texts_behind true (text ∷ more) = text ∷ texts_behind false more
texts_behind false (word ∷ more) = texts_behind (bytes_eq word (codes "own")) more

-- the texts of the user's own failures, in their order
abbrev pub own_texts : List (List ℕ) → List (List ℕ)
own_texts words = texts_behind false words

-- ---- words

-- what a depth alone asks for: all cases of all kinds, in records of the table
abbrev pub all_of : Depth → Ask
all_of depth = record { depth = depth; kinds = no_kinds; form = form.Table; part = 1; parts = 1 }

-- nothing but the depth was read
abbrev pub begun : Depth → AskedSoFar
begun depth = record { ask = all_of depth; awaited = awaited.Any; is_parted = false }

-- what is asked for with one more kind; None where this kind is asked for already
abbrev pub ask_kind : Ask → Kind → Option Ask
ask_kind ask k = if has_kind ask.kinds k then None else Some (record ask { kinds = with_kind_named ask.kinds k })

-- the form is the one that holds where none is asked for
abbrev pub is_plain_form : Form → Bool
is_plain_form form.Table = true
is_plain_form form.Headed = false
is_plain_form form.Json = false
is_plain_form form.Summary = false

-- what is asked for in this form; None where a form is asked for already
abbrev pub ask_form : Ask → Form → Option Ask
ask_form ask f = if is_plain_form ask.form then Some (record ask { form = f }) else None

-- a kind or a form is asked for
abbrev pub ask_named : Ask → Option Kind → Option Form → Option Ask
ask_named ask (Some k) f = ask_kind ask k
ask_named ask None f = option_and_then (ask_form ask) f

abbrev pub ask_word : Ask → List ℕ → Option Ask
ask_word ask word = ask_named ask (kind_named word) (form_named word)

abbrev pub with_ask : AskedSoFar → Ask → AskedSoFar
with_ask r ask = record r { ask = ask }

-- a part is asked for, unless one is already; its two numbers come next
abbrev pub begin_part : AskedSoFar → Option AskedSoFar
begin_part r = if r.is_parted then None else Some (record r { awaited = awaited.Part; is_parted = true })

-- a failure of the user's own is asked for; its text comes next
abbrev pub begin_own : AskedSoFar → AskedSoFar
begin_own r = record r { awaited = awaited.Own }

-- a word that is no number of a part and no text of a failure of the user's own
abbrev pub read_any : AskedSoFar → List ℕ → Option AskedSoFar
read_any r word =
    if bytes_eq word (codes "part") then begin_part r else
    if bytes_eq word (codes "own") then Some (begin_own r) else option_map (with_ask r) (ask_word r.ask word)

-- one more failure of the user's own is asked for, which is of a kind of its own; what its text names is read with the
-- plan
abbrev pub with_own : AskedSoFar → AskedSoFar
with_own r = record {
  ask = record r.ask { kinds = with_kind_named r.ask.kinds kind.Own };
  awaited = awaited.Any;
  is_parted = r.is_parted;
}

abbrev pub ask_with_part : Ask → ℕ → ℕ → Ask
ask_with_part ask part parts = record ask { part = part; parts = parts }

-- the number of a part is read
abbrev pub read_part : AskedSoFar → List ℕ → Option AskedSoFar
read_part r word =
    option_map (λ k. record { ask = ask_with_part r.ask k (2 ^ 32 - 1); awaited = awaited.Parts; is_parted = r.is_parted })
    (numeral_in 1 (2 ^ 32 - 1) word)

-- the number of parts that the cases are parted into: no fewer than the number of the part
abbrev pub read_parts : AskedSoFar → List ℕ → Option AskedSoFar
read_parts r word =
    option_map (λ k. record { ask = ask_with_part r.ask r.ask.part k; awaited = awaited.Any; is_parted = r.is_parted })
    (numeral_in r.ask.part (2 ^ 32 - 1) word)

abbrev pub read_awaited : Awaited → AskedSoFar → List ℕ → Option AskedSoFar
read_awaited awaited.Any r word = read_any r word
read_awaited awaited.Part r word = read_part r word
read_awaited awaited.Parts r word = read_parts r word
read_awaited awaited.Own r word = Some (with_own r)

-- one word more is read
abbrev pub read_word : AskedSoFar → List ℕ → Option AskedSoFar
read_word r word = read_awaited r.awaited r word

-- these words are read, one after the other
abbrev pub read_words : AskedSoFar → List (List ℕ) → Option AskedSoFar
read_words r [] = Some r
read_words r (word ∷ more) = option_and_then (λ next. read_words next more) (read_word r word)

-- no number and no text is missing
abbrev pub is_whole : Awaited → Bool
is_whole awaited.Any = true
is_whole awaited.Part = false
is_whole awaited.Parts = false
is_whole awaited.Own = false

-- cases may be listed in parts; the counts of each failure alone come in one piece
abbrev pub may_be_parted : Form → Bool
may_be_parted form.Table = true
may_be_parted form.Headed = true
may_be_parted form.Json = true
may_be_parted form.Summary = false

-- what was asked for at the end of the words
abbrev pub finished : AskedSoFar → Option Ask
finished r = if is_whole r.awaited && (not r.is_parted || may_be_parted r.ask.form) then Some r.ask else None

-- What the words ask for: a depth; and after it, in any order, kinds, failures of the user's own, at most one form, and
-- at most once `part`, with the number of a part and the number of parts.
unfoldable pub asked : List (List ℕ) → Option Ask
asked [] = None
asked (word ∷ others) = option_and_then (λ depth. option_and_then finished (read_words (begun depth) others)) (depth_named word)

-- ---- what the program keeps

-- a part is one of `parts` parts
abbrev pub IsPart : Ask → Type 0
IsPart ask = (1 ≤ ask.part) × (ask.part ≤ ask.parts)
