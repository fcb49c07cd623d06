-- One side of a node that sends: its pointer generators, and the section overhead of its frames (ITU-T G.707 clause
-- 9.2).
use Rattle.std.specs.Prelude.{◌≡◌, ℕ, Option, Some, None, List, length, replicate}
use Rattle.sdh_ringmap.specs.declared.terms.Rate.{Rate}
use Rattle.sdh_frame.specs.Sizes.{Frame, size_of}
use Rattle.sdh_ringmap.specs.Rates.{n_of}
use Rattle.sdh_frame.specs.Aus.{with_aus}
use Rattle.sdh_overhead.specs.Sections as section
use Rattle.sdh_overhead.specs.Sections.{holding, clear_frame, line_frame, parities_of}
use Rattle.sdh_kbytes.specs.declared.K.{K}
use Rattle.sdh_kbytes.specs.KBytes.{first_byte, second_byte}
use Rattle.sdh_kbytes.specs.KBytes.{IsSpellable}
use Rattle.sdh_terminal.specs.Passing.{Input, aus_sent, generators_after}

pub record Sending : Type 0 where
  -- the parities of the frame sent before
  pub section : section.SectionKept
  -- the states of the generators of AU-4s 1 to N
  pub generators : List (Option ℕ)
  -- the word sent
  pub word : K

-- a side that has sent nothing; its word is k until another one is set
abbrev pub new_sending : Rate → K → Sending
new_sending rate k = record { section = holding rate None; generators = replicate (n_of rate) None; word = k }

-- the side with its next word
abbrev pub with_word : K → Sending → Sending
with_word k s = record s { word = k }

-- the next frame without overhead: all AU-4s, from what goes into each
unfoldable pub filled : (ℕ → Input) → Sending → List ℕ
filled input s = with_aus (n_of s.section.rate) 1 (aus_sent input s.generators) (replicate (size_of s.section.rate) 0)

-- the frame with its overhead, before scrambling
unfoldable pub clear_frame_from : (ℕ → Input) → Sending → List ℕ
clear_frame_from input s = clear_frame (n_of s.section.rate) s.section.last (first_byte s.word) (second_byte s.word) (filled input s)

-- the frame on the line, scrambled
unfoldable pub line_frame_from : (ℕ → Input) → Sending → List ℕ
line_frame_from input s = line_frame (n_of s.section.rate) s.section.last (first_byte s.word) (second_byte s.word) (filled input s)

abbrev pub frame_from : (ℕ → Input) → Sending → Frame
frame_from input s = record { rate = s.section.rate; bytes = line_frame_from input s }

-- the side after it sent a frame
unfoldable pub after_sending : (ℕ → Input) → Sending → Sending
after_sending input s = record s {
  section = holding s.section.rate (Some (parities_of (n_of s.section.rate) (clear_frame_from input s) (line_frame_from input s)));
  generators = generators_after input s.generators;
}

-- what is true of the sending half of every side
pub record IsSending (s : Sending) : Type 0 where
  pub generators : length s.generators ≡ n_of s.section.rate
  pub spellable : IsSpellable s.word
