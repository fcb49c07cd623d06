-- What a side sends in a round, and what a side makes of what comes through a fibre.
use Rattle.std.specs.Prelude.{ℕ, ◌≡◌, ◌≢◌, ◌+◌, ◌*◌, ◌≤◌, true, false, nat_le, if◌then◌else◌, Some, None, List, length, replicate}
use Rattle.std.specs.Prelude.{slice_index_or}
use Rattle.sdh_ringmap.specs.declared.terms.Rate.{Rate}
use Rattle.sdh_frame.specs.Sizes.{size_of}
use Rattle.sdh_ringmap.specs.Rates.{n_of}
use Rattle.sdh_frame.specs.Aus.{au_of}
use Rattle.sdh_parity.specs.Scrambling.{scrambled}
use Rattle.sdh_parity.specs.Parity.{section_parity}
use Rattle.sdh_overhead.specs.Sections.{placed_after, parities_of, b2_in, b2_violations}
use Rattle.sdh_overhead.specs.Laws.{AreParities}
use Rattle.sdh_kbytes.specs.declared.K.{K}
use Rattle.sdh_kbytes.specs.declared.Mark.TheVariants as mark
use Rattle.sdh_kbytes.specs.KBytes.{first_byte, second_byte, decoded}
use Rattle.sdh_request.specs.declared.Defect.TheVariants as defect
use Rattle.sdh_pointer.specs.declared.reading.Action.TheVariants as action
use Rattle.sdh_pointer.specs.Sending.{next_sending}
use Rattle.sdh_ringmap.specs.declared.terms.Condition.{Condition}
use Rattle.sdh_ringmap.specs.Fibres.{IsConditionAt, is_cut}
use Rattle.sdh_plant.specs.Arrivals.{through}
use Rattle.sdh_terminal.specs.Passing.{Input, au_sent}
use Rattle.sdh_terminal.specs.Receiving.{Inlet, after_frame, actions_in, found, taken_in, after_taking}
use Rattle.sdh_terminal.specs.Sending.{Sending, line_frame_from, after_sending}
use Rattle.sdh_spans.specs.Frames.{SaysWord, violations_shown}

-- ---- sides at a rate

-- the receiving half of a side at this rate: it has an interpreter for each AU-4
pub record IsInletAt (at : Rate) (i : Inlet) : Type 0 where
  pub rate : i.section.rate ≡ at
  pub readings : length i.readings ≡ n_of at

-- the sending half of a side at this rate: it has a generator for each AU-4, and the parities of a frame of this rate,
-- or none
pub record IsSenderAt (at : Rate) (x : Sending) : Type 0 where
  pub rate : x.section.rate ≡ at
  pub generators : length x.generators ≡ n_of at
  pub parities : AreParities (n_of at) x.section.last

-- ---- what is sent

-- what goes into each AU-4 has a whole payload, of 2349 bytes
abbrev pub AreFull : (ℕ → Input) → Type 0
AreFull input = (au : ℕ) → length (input au).au.payload ≡ 2349

-- What a side sends in a round for what goes into its AU-4s, and what it keeps. The frame has the side's word, B2 is
-- the parity that the side kept, and each AU-4 is what its generator makes of what goes into it.
pub record SendsSo (at : Rate) (input : ℕ → Input) (x : Sending) : Type 0 where
  pub says : SaysWord at x.word (line_frame_from input x)
  pub b2 : b2_in (n_of at) (scrambled (9 * n_of at) (line_frame_from input x)) ≡ (placed_after (n_of at) x.section.last).b2
  pub keeps : (after_sending input x).section.last ≡ Some (parities_of (n_of at) (scrambled (9 * n_of at) (line_frame_from input x))
      (line_frame_from input x))
  pub aus : AreFull input → (k : ℕ) → k + 1 ≤ n_of at → au_of (n_of at) (k + 1) (scrambled (9 * n_of at) (line_frame_from input x))
      ≡ au_sent (slice_index_or x.generators k None) (input (k + 1))
  pub goes : (k : ℕ) → k + 1 ≤ n_of at → slice_index_or (after_sending input x).generators k None
      ≡ next_sending (slice_index_or x.generators k None) (input (k + 1)).action (input (k + 1)).value
  -- after sending, the side is still one that sends at this rate
  pub stays : IsSenderAt at (after_sending input x)

-- ---- what is found

-- a side that received nothing: it has no defect, takes no word, keeps what its interpreters kept, and forgets the
-- parities of the frame before; each AU-4 counts as AIS
pub record FindsNothing (threshold : ℕ) (i : Inlet) : Type 0 where
  pub defect : (found threshold i).defect ≡ defect.None
  pub word : (found threshold i).word ≡ None
  pub acts : (taken_in threshold i).actions ≡ replicate (n_of i.section.rate) action.Ais
  pub reads : (after_taking threshold i).readings ≡ i.readings
  pub last : (after_taking threshold i).section.last ≡ None

-- Side i received what came through a fibre in condition c, on which the frame `line` with the word k was sent.
pub record IsTold (at : Rate) (c : Condition) (k : K) (line : List ℕ) (i : Inlet) : Type 0 where
  pub may : IsConditionAt at c
  pub says : SaysWord at k line
  -- the mark of the word isn't AIS of the multiplex section, with which a side fails
  pub no_ais : k.mark ≢ mark.MsAis
  pub inlet : IsInletAt at i
  pub told : i.arrived ≡ Some (through (n_of at) c (Some line))

-- What the side finds, takes in and keeps. It fails exactly where the fibre is cut, and then its frame counts as ones.
-- Otherwise the word comes, the side is degraded by the violations that B2 of the frame shows, and each AU-4 comes as
-- it was sent.
pub record FindsSo (at : Rate) (c : Condition) (k : K) (line : List ℕ) (threshold : ℕ) (i : Inlet) : Type 0 where
  pub defect : (found threshold i).defect ≡ (if is_cut c then defect.Sf
      else if nat_le threshold (b2_violations (n_of at) i.section.last (scrambled (9 * n_of at) line)) then defect.Sd else defect.None)
  pub word : (found threshold i).word ≡ (if is_cut c then None else decoded (first_byte k) (second_byte k))
  pub rate : (taken_in threshold i).frame.rate ≡ at
  pub ones : is_cut c ≡ true → (taken_in threshold i).frame.bytes ≡ replicate (size_of at) 0xFF
  pub aus : is_cut c ≡ false → (au : ℕ) → 1 ≤ au → au ≤ n_of at
      → au_of (n_of at) au (taken_in threshold i).frame.bytes ≡ au_of (n_of at) au (scrambled (9 * n_of at) line)
  pub acts : (taken_in threshold i).actions ≡ actions_in (n_of at) (taken_in threshold i).frame.bytes i.readings
  pub reads : (after_taking threshold i).readings ≡ after_frame (n_of at) (taken_in threshold i).frame.bytes i.readings
  -- a next frame whose B2 is the parity of this frame shows the bits that the fibre inverted in this frame
  pub shows : (next : List ℕ) → b2_in (n_of at) (scrambled (9 * n_of at) next) ≡ section_parity (n_of at) (scrambled (9 * n_of at) line)
      → b2_violations (n_of at) (after_taking threshold i).section.last (scrambled (9 * n_of at) next) ≡ violations_shown c
