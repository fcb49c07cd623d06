-- What a side makes of a frame that landed.
use Rattle.std.proofs.Common.{◌≡◌, ◌≢◌, ℕ, ◌*◌, Bool, true, false, List, Option, Some, None, refl, ap, sym, subst, ◌∙◌}
use Rattle.sdh_ringmap.specs.declared.terms.Rate.{Rate}
use Rattle.sdh_frame.specs.Sizes.{Frame}
use Rattle.sdh_ringmap.specs.Rates.{n_of}
use Rattle.sdh_parity.specs.Scrambling.{scrambled}
use Rattle.sdh_overhead.specs.declared.Received.{Received}
use Rattle.sdh_overhead.specs.Sections.{Parities, is_framed, received_in, kept_after, opened}
use Rattle.sdh_terminal.specs.Receiving.{Reception, frame_reception, reception_of}

-- a frame may be descrambled before it is known to be framed: an unframed one counts as ones anyway
opened_by : (rate : Rate) (threshold : ℕ) (last : Option Parities) (bytes : List ℕ) (b : Bool) → is_framed (n_of rate) bytes ≡ b
    → frame_reception rate threshold (scrambled (9 * n_of rate) bytes) (kept_after (n_of rate) bytes) (received_in (n_of rate) last bytes)
    ≡ reception_of (Some (Some bytes)) rate threshold last
unfolding received_in opened
opened_by rate threshold last bytes true e = rw e refl
opened_by rate threshold last bytes false e = rw e refl

opened_reception : (rate : Rate) (threshold : ℕ) (last : Option Parities) (bytes : List ℕ) (received : Received)
    → received ≡ received_in (n_of rate) last bytes
    → frame_reception rate threshold (scrambled (9 * n_of rate) bytes) (kept_after (n_of rate) bytes) received
    ≡ reception_of (Some (Some bytes)) rate threshold last
opened_reception rate threshold last bytes received is =
    ap (frame_reception rate threshold (scrambled (9 * n_of rate) bytes) (kept_after (n_of rate) bytes)) is
    ∙ opened_by rate threshold last bytes (is_framed (n_of rate) bytes) refl

-- what holds of a frame that was opened as it landed holds of what arrived
pub by_landing : (rate its_rate : Rate) (threshold : ℕ) (last : Option Parities) (landed : Option (List ℕ)) (received : Received)
    (frame : Frame) → its_rate ≡ rate → landed ≢ None
    → ((bytes : List ℕ) → landed ≡ Some bytes → received ≡ received_in (n_of its_rate) last bytes)
    → ((bytes : List ℕ) → landed ≡ Some bytes → frame ≡ record { rate = rate; bytes = scrambled (9 * n_of rate) bytes })
    → (P : Reception → Type 0) → ((k : Option Parities) → P (frame_reception frame.rate threshold frame.bytes k received))
    → P (reception_of (Some landed) rate threshold last)
by_landing rate its_rate threshold last landed received frame same there is opened_is P holds = by landed refl
  where
    by : (l : Option (List ℕ)) → landed ≡ l → P (reception_of (Some landed) rate threshold last)
    by None e = absurd (there e)
    by (Some bytes) e =
        let kept = kept_after (n_of rate) bytes in
        subst P
        (ap (λ (f : Frame). frame_reception f.rate threshold f.bytes kept received) (opened_is bytes e)
        ∙ opened_reception rate threshold last bytes received (is bytes e ∙ ap (λ r. received_in (n_of r) last bytes) same)
        ∙ ap (λ l. reception_of (Some l) rate threshold last) (sym e))
        (holds kept)
