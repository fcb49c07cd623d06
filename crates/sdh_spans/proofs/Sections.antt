-- The sections of a side that sends: what its frame says, the parities in it, and those that the side keeps.
use Rattle.std.proofs.Common.{◌≡◌, ℕ, ◌*◌, Some, ap, sym, subst, ◌∙◌}
use Rattle.sdh_basics.proofs.CellsLaws.{length-map_from}
use Rattle.sdh_ringmap.specs.declared.terms.Rate.{Rate}
use Rattle.sdh_ringmap.specs.Rates.{n_of}
use Rattle.sdh_parity.specs.Scrambling.{scrambled}
use Rattle.sdh_parity.proofs.Scrambled.{scrambled-twice}
use Rattle.sdh_kbytes.specs.KBytes.{first_byte, second_byte}
use Rattle.sdh_overhead.specs.Overhead.{with_overhead}
use Rattle.sdh_overhead.specs.Sections.{placed_after, added_after, clear_frame, parities_of, b2_in}
use Rattle.sdh_overhead.specs.Laws.{AreParities}
use Rattle.sdh_overhead.proofs.Trips.{b2-there, placed-length}
use Rattle.sdh_terminal.specs.Passing.{Input, generators_after}
use Rattle.sdh_terminal.specs.Sending.{Sending, filled, clear_frame_from, line_frame_from, after_sending}
use Rattle.sdh_spans.specs.Frames.{SaysWord}
use Rattle.sdh_spans.specs.Sides.{IsSenderAt}
use Rattle.sdh_spans.proofs.Frames.{length-filled, line_says, parities_are}

-- the bytes B2 of a sent frame are the parity that the side kept, or zeros
line_b2 : (input : ℕ → Input) (x : Sending) → AreParities (n_of x.section.rate) x.section.last
    → b2_in (n_of x.section.rate) (scrambled (9 * n_of x.section.rate) (line_frame_from input x))
    ≡ (placed_after (n_of x.section.rate) x.section.last).b2
unfolding line_frame_from clear_frame
line_b2 input x are =
    let rate = x.section.rate in
    let n = n_of rate in
    let a = added_after n x.section.last (first_byte x.word) (second_byte x.word) in
    ap (b2_in n) (scrambled-twice (9 * n) (with_overhead n a (filled input x)))
    ∙ b2-there rate a (filled input x) (length-filled input x) (placed-length n x.section.last are)

-- what the side keeps are the parities of that frame
line_last : (input : ℕ → Input) (x : Sending) → (after_sending input x).section.last
    ≡ Some (parities_of (n_of x.section.rate) (scrambled (9 * n_of x.section.rate) (line_frame_from input x)) (line_frame_from input x))
unfolding after_sending line_frame_from clear_frame_from
line_last input x =
    let n = n_of x.section.rate in
    let clear = clear_frame n x.section.last (first_byte x.word) (second_byte x.word) (filled input x) in
    ap (λ c. Some (parities_of n c (scrambled (9 * n) clear))) (sym (scrambled-twice (9 * n) clear))

module _ (at : Rate) (input : ℕ → Input) (x : Sending) (is : IsSenderAt at x) where
  are : AreParities (n_of x.section.rate) x.section.last
  are = subst (λ r. AreParities (n_of r) x.section.last) (sym is.rate) is.parities

  pub frame_says : SaysWord at x.word (line_frame_from input x)
  frame_says = subst (λ r. SaysWord r x.word (line_frame_from input x)) is.rate (line_says input x are)

  pub frame_b2 : b2_in (n_of at) (scrambled (9 * n_of at) (line_frame_from input x)) ≡ (placed_after (n_of at) x.section.last).b2
  frame_b2 =
      subst (λ r. b2_in (n_of r) (scrambled (9 * n_of r) (line_frame_from input x)) ≡ (placed_after (n_of r) x.section.last).b2) is.rate
      (line_b2 input x are)

  pub frame_keeps : (after_sending input x).section.last ≡ Some
      (parities_of (n_of at) (scrambled (9 * n_of at) (line_frame_from input x)) (line_frame_from input x))
  frame_keeps =
      subst (λ r. (after_sending input x).section.last ≡ Some
      (parities_of (n_of r) (scrambled (9 * n_of r) (line_frame_from input x)) (line_frame_from input x))) is.rate (line_last input x)

  pub sender_stays : IsSenderAt at (after_sending input x)
  unfolding after_sending generators_after
  sender_stays = record {
    rate = is.rate;
    generators = length-map_from _ 0 x.generators ∙ is.generators;
    parities =
        subst (λ r. AreParities (n_of r) (after_sending input x).section.last) is.rate
        (parities_are (n_of x.section.rate) (clear_frame_from input x) (line_frame_from input x));
  }
