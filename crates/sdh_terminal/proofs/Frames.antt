-- The frame that a side sends doesn't depend on what stood in its buffer.
use Rattle.std.proofs.Common.{◌≡◌, ℕ, List, Some, length, replicate, ap, ◌∙◌}
use Rattle.std.proofs.lemmas.List.{length-replicate}
use Rattle.sdh_frame.specs.Sizes.{Frame, size_of}
use Rattle.sdh_ringmap.specs.Rates.{n_of}
use Rattle.sdh_frame.specs.Aus.{Au, with_aus}
use Rattle.sdh_overhead.specs.Sections.{SectionKept, holding, parities_of, clear_frame, line_frame}
use Rattle.sdh_overhead.proofs.Alone.{clear_alone, line_alone}
use Rattle.sdh_kbytes.specs.KBytes.{first_byte, second_byte}
use Rattle.sdh_terminal.specs.Passing.{Input, aus_sent}
use Rattle.sdh_terminal.specs.Sending.{Sending, filled, clear_frame_from, line_frame_from, frame_from}
use Rattle.sdh_terminal.proofs.Passed.{length-aus_sent}

-- `first` is the buffer, `full` what it is when all AU-4s are written
module _ (input : ℕ → Input) (s : Sending) (first full : Frame) (k1 k2 : ℕ) (whole : length first.bytes ≡ size_of first.rate)
    (e : first.rate ≡ s.section.rate) (len : length s.generators ≡ n_of s.section.rate)
    (fill : full ≡ record first { bytes = with_aus (n_of first.rate) 1 (aus_sent input s.generators) first.bytes })
    (one : k1 ≡ first_byte s.word) (two : k2 ≡ second_byte s.word) where
  pub clear_is : clear_frame (n_of s.section.rate) s.section.last k1 k2 full.bytes ≡ clear_frame_from input s
  unfolding clear_frame_from filled
  clear_is =
      let rate = s.section.rate in
      let n = n_of rate in
      let aus = aus_sent input s.generators in
      let w = with_aus (n_of first.rate) 1 aus first.bytes in
      ap (λ (f : Frame). clear_frame n s.section.last k1 k2 f.bytes) fill
      ∙ ap (λ x. clear_frame n s.section.last x k2 w) one
      ∙ ap (λ y. clear_frame n s.section.last (first_byte s.word) y w) two
      ∙ ap (λ r. clear_frame n s.section.last (first_byte s.word) (second_byte s.word) (with_aus (n_of r) 1 aus first.bytes)) e
      ∙ clear_alone rate s.section.last (first_byte s.word) (second_byte s.word) aus first.bytes (replicate (size_of rate) 0)
      (whole ∙ ap size_of e) (length-replicate (size_of rate) 0) (length-aus_sent input s.generators ∙ len)

  pub line_is : line_frame (n_of s.section.rate) s.section.last k1 k2 full.bytes ≡ line_frame_from input s
  unfolding line_frame_from filled
  line_is =
      let rate = s.section.rate in
      let n = n_of rate in
      let aus = aus_sent input s.generators in
      let w = with_aus (n_of first.rate) 1 aus first.bytes in
      ap (λ (f : Frame). line_frame n s.section.last k1 k2 f.bytes) fill
      ∙ ap (λ x. line_frame n s.section.last x k2 w) one
      ∙ ap (λ y. line_frame n s.section.last (first_byte s.word) y w) two
      ∙ ap (λ r. line_frame n s.section.last (first_byte s.word) (second_byte s.word) (with_aus (n_of r) 1 aus first.bytes)) e
      ∙ line_alone rate s.section.last (first_byte s.word) (second_byte s.word) aus first.bytes (replicate (size_of rate) 0)
      (whole ∙ ap size_of e) (length-replicate (size_of rate) 0) (length-aus_sent input s.generators ∙ len)

  pub frame_is : (last : Frame) → last ≡ record full { bytes = line_frame (n_of s.section.rate) s.section.last k1 k2 full.bytes }
      → last ≡ frame_from input s
  frame_is last seal = seal ∙ λ i. record { rate = (ap (λ (f : Frame). f.rate) fill ∙ e) i; bytes = line_is i }

-- a side that sent a frame of these AU-4s
module _ (input : ℕ → Input) (s : Sending) (out new : Frame) (aus : List Au) (k1 k2 : ℕ) (whole : length out.bytes ≡ size_of out.rate)
    (e : out.rate ≡ s.section.rate) (len : length s.generators ≡ n_of s.section.rate)
    (same : aus ≡ aus_sent input s.generators) (one : k1 ≡ first_byte s.word) (two : k2 ≡ second_byte s.word)
    (seal : new ≡ record out {
      bytes = line_frame (n_of out.rate) s.section.last k1 k2
          (with_aus (n_of out.rate) 1 aus out.bytes);
    }) where
  fill : record out { bytes = with_aus (n_of out.rate) 1 aus out.bytes }
      ≡ record out { bytes = with_aus (n_of out.rate) 1 (aus_sent input s.generators) out.bytes }
  fill i = record out { bytes = with_aus (n_of out.rate) 1 (same i) out.bytes }

  pub sent-is : new ≡ frame_from input s
  sent-is =
      frame_is input s out (record out { bytes = with_aus (n_of out.rate) 1 aus out.bytes }) k1 k2 whole e len fill one two new
      (seal ∙ ap (λ r. record out { bytes = line_frame (n_of r) s.section.last k1 k2 (with_aus (n_of out.rate) 1 aus out.bytes) }) e)

  pub kept-is : (section : SectionKept) → section ≡ holding out.rate
      (Some (parities_of (n_of out.rate) (clear_frame (n_of out.rate) s.section.last k1 k2
      (with_aus (n_of out.rate) 1 aus out.bytes)) new.bytes))
      → section ≡ holding s.section.rate (Some (parities_of (n_of s.section.rate) (clear_frame_from input s) (line_frame_from input s)))
  kept-is section holds =
      let clear = clear_is input s out (record out { bytes = with_aus (n_of out.rate) 1 aus out.bytes }) k1 k2 whole e len fill one two in
      let line : new.bytes ≡ line_frame_from input s = ap (λ (f : Frame). f.bytes) sent-is in
      holds ∙ ap (λ r. holding r (Some (parities_of (n_of r)
      (clear_frame (n_of r) s.section.last k1 k2 (with_aus (n_of out.rate) 1 aus out.bytes)) new.bytes))) e
      ∙ λ i. holding s.section.rate (Some (parities_of (n_of s.section.rate) (clear i) (line i)))
