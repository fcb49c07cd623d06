-- The frames of one round more.
use Rattle.std.proofs.Common.{◌≡◌, ℕ, suc, ◌-◌, Bool, true, false, List, [], ◌∷◌, ◌++◌, Some, None, refl, ap, sym, ◌∙◌, subst, append-nil}
use Rattle.std.specs.Prelude.{Option, slice_index_or, if◌then◌else◌}
use Rattle.std.specs.List.{flat_map}
use Rattle.std.specs.Option.{option_map_or}
use Rattle.std.specs.Io.KnownBytes.{Appends}
use Rattle.std.proofs.KnownBytes.{Appends-trans}
use Rattle.std.proofs.lemmas.Grind.{flat_map-append}
use Rattle.sdh_outside.specs.Writing.{AppendsFewer}
use Rattle.sdh_ringmap.specs.Fibres.{fibre}
use Rattle.sdh_plant.specs.Fibres.{Arrival, Fibres}
use Rattle.sdh_plant.specs.Arrivals.{carried_on}
use Rattle.sdh_node.specs.Stations.{adm}
use Rattle.sdh_rounds.specs.Rounds.{sent_all, after_given, round_with}
use Rattle.sdh_node.specs.Rings.Held.{HeldRing}
use Rattle.sdh_node.specs.Rings.Rounds.{World}
use Rattle.sdh_ring.specs.Observed.{RanOne}
use Rattle.sdh_aps_cli.specs.Frames.{Sent, sent_last, frames_sent_in, is_wanted, frame_of, frames_of, frames_bytes, FramesAreSent}
use Rattle.sdh_aps_cli.specs.FrameRecording.{HasAskedNode, FramesAreWritten, AreCut}
use Rattle.sdh_aps_cli.specs.declared.window.FrameWindow.{FrameWindow}

-- a node's position is one of the ring's after a round too
pub place_stays : (ask : FrameWindow) (w : World) (arrivals : List Arrival) → HasAskedNode ask w → HasAskedNode ask (round_with adm arrivals w)
unfolding round_with sent_all after_given
place_stays ask w arrivals h = h

module _ (ask : FrameWindow) where
  abbrev bytes : List (List ℕ) → List ℕ
  bytes frames = flat_map (λ (frame : List ℕ). frame) frames

  -- a round that isn't asked for gives no frame
  pub not_wanted : (s : Sent) → is_wanted ask s.round ≡ false → frame_of ask s ≡ []
  not_wanted s off = ap (λ b. if b then option_map_or (λ (bytes : List ℕ). bytes ∷ []) (slice_index_or s.frames (fibre ask.at.0 ask.side) None) []
      else []) off

  -- a round that is asked for gives the frame that the fibre carries
  pub one_frame : (s : Sent) (frame : List ℕ) → is_wanted ask s.round ≡ true
      → slice_index_or s.frames (fibre ask.at.0 ask.side) None ≡ Some frame → bytes (frame_of ask s) ≡ frame
  one_frame s frame on is =
      ap (λ b. bytes (if b then option_map_or (λ (bytes : List ℕ). bytes ∷ []) (slice_index_or s.frames (fibre ask.at.0 ask.side) None) []
      else [])) on
      ∙ ap (λ (a : Arrival). bytes (option_map_or (λ (bytes : List ℕ). bytes ∷ []) a [])) is ∙ append-nil frame

  pub no_frame : (s : Sent) → slice_index_or s.frames (fibre ask.at.0 ask.side) None ≡ None → bytes (frame_of ask s) ≡ []
  no_frame s is = by (is_wanted ask s.round)
    where
      by : (b : Bool) → bytes (if b then option_map_or (λ (bytes : List ℕ). bytes ∷ [])
          (slice_index_or s.frames (fibre ask.at.0 ask.side) None) [] else []) ≡ []
      by false = refl
      by true = ap (λ (a : Arrival). bytes (option_map_or (λ (bytes : List ℕ). bytes ∷ []) a [])) is

  module _ (at : ℕ → World) (k : ℕ) where
    abbrev last : Sent
    last = sent_last (at (suc k))

    -- the frames of one round alone
    of_one : frames_bytes ask (last ∷ []) ≡ bytes (frame_of ask last)
    of_one = ap bytes (append-nil (frame_of ask last))

    one_more : frames_bytes ask (frames_sent_in (suc k) at) ≡ frames_bytes ask (frames_sent_in k at) ++ bytes (frame_of ask last)
    one_more =
        ap bytes (flat_map-append (frame_of ask) (frames_sent_in k at) (last ∷ [])
        ∙ ap (λ l. frames_of ask (frames_sent_in k at) ++ l) (append-nil (frame_of ask last)))
        ∙ flat_map-append (λ (frame : List ℕ). frame) (frames_of ask (frames_sent_in k at)) (frame_of ask last)

    module _ (ring : HeldRing) (ran : RanOne at k ring) where
      pub place_next : HasAskedNode ask (at k) → HasAskedNode ask (at (suc k))
      place_next h = subst (HasAskedNode ask) (sym ran.round.after_is) (place_stays ask (at k) ran.round.arrivals h)

      -- the frame of one more round was written, or that round gives none
      pub written_more : (text : List ℕ) (old mid new : Option (List ℕ)) → bytes (frame_of ask last) ≡ text → FramesAreWritten ask at k old mid
          → Appends mid new text → FramesAreWritten ask at (suc k) old new
      written_more text old mid new is x wrote = record {
        place = place_next x.place;
        written =
            subst (Appends old new) (sym (one_more ∙ ap (λ l. frames_bytes ask (frames_sent_in k at) ++ l) is))
            (Appends-trans old mid new (frames_bytes ask (frames_sent_in k at)) text x.written wrote);
      }

      pub cut_more : (text : List ℕ) (old mid new : Option (List ℕ)) → bytes (frame_of ask last) ≡ text → FramesAreWritten ask at k old mid
          → AppendsFewer mid new text → AreCut ask at (suc k) old new
      cut_more text old mid new is x front = (k, refl, (mid, x.written, subst (AppendsFewer mid new) (sym (of_one ∙ is)) front))

-- ---- what was asked of the ring and of the plant, in the course

pub wanted_as : (ask first : FrameWindow) (rounds later round : ℕ) {b : Bool} → ask ≡ first → rounds ≡ later → round ≡ rounds - 1
    → is_wanted ask round ≡ b → is_wanted first (later - 1) ≡ b
wanted_as ask first rounds later round {b} same is at x =
    subst (λ (a : FrameWindow). is_wanted a (later - 1) ≡ b) same
    (subst (λ r. is_wanted ask r ≡ b) (at ∙ ap (λ n. n - 1) is) x)

pub frame_as : (ask first : FrameWindow) (f g : Fibres) (a : Arrival) → ask ≡ first → f ≡ g → carried_on f (fibre ask.at.0 ask.side) ≡ a
    → carried_on g (fibre first.at.0 first.side) ≡ a
frame_as ask first f g a same is x =
    subst (λ (w : FrameWindow). carried_on g (fibre w.at.0 w.side) ≡ a) same
    (subst (λ (h : Fibres). carried_on h (fibre ask.at.0 ask.side) ≡ a) is x)

-- ---- the frames are the definitions'

-- what the fibres carry after a round are the frames that the nodes sent in it, by position, west before east
pub sent_are : FramesAreSent
unfolding round_with sent_all
sent_are w arrivals = refl
