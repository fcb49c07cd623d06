-- What a node shows: that its words have bytes, and whether it shows the same in two rounds.
use Rattle.std.specs.Prelude.{ℕ, Bool, true, false, ◌==◌, ◌&&◌, Option, Some, None, IfSome}
use Rattle.sdh_ringmap.specs.Requests.{code_number}
use Rattle.sdh_kbytes.specs.KBytes.{IsSpellable}
use Rattle.sdh_kbytes.specs.Same.{same_word, same_heard}
use Rattle.sdh_report.specs.declared.node_line.StateWord.{StateWord}
use Rattle.sdh_report.specs.declared.node_line.StateWord.TheVariants as word
use Rattle.sdh_aps.specs.declared.shown.Shown.{Shown}

-- the words that are shown have bytes: their identifiers have four bits each
pub record HasWords (s : Shown) : Type 0 where
  pub west : IsSpellable s.sent.west
  pub east : IsSpellable s.sent.east
  pub heard_west : IfSome s.heard_west IsSpellable
  pub heard_east : IfSome s.heard_east IsSpellable

-- the far end is the same in both rounds, or there is none in both
abbrev pub same_shown_far : Option ℕ → Option ℕ → Bool
same_shown_far None None = true
same_shown_far (Some a) (Some b) = a == b
same_shown_far a b = false

abbrev pub same_state_word : StateWord → StateWord → Bool
same_state_word word.Idle word.Idle = true
same_state_word word.Pass word.Pass = true
same_state_word word.SwitchWest word.SwitchWest = true
same_state_word word.SwitchEast word.SwitchEast = true
same_state_word word.Isolated word.Isolated = true
same_state_word s t = false

-- the words sent, those heard, and the requests are equal
abbrev pub same_words : Shown → Shown → Bool
same_words a b =
    same_word a.sent.west b.sent.west && (same_word a.sent.east b.sent.east && (same_heard a.heard_west b.heard_west
    && (same_heard a.heard_east b.heard_east && ((code_number a.asks_west == code_number b.asks_west)
    && (code_number a.asks_east == code_number b.asks_east)))))

abbrev pub same_shown : Shown → Shown → Bool
same_shown a b = same_state_word a.state b.state && (same_shown_far a.far b.far && same_words a b)
