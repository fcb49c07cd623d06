-- The fibres after each call that ended with Ok. A call that ended otherwise leaves them as they were.
use Rattle.std.specs.Prelude.{ℕ, ◌≡◌, ◌⊎◌, ◌*◌, ◌==◌, Bool, true, if◌then◌else◌, Some, None, List, [], ◌∷◌, ◌++◌, length, drop, replicate}
use Rattle.std.specs.Prelude.{slice_set, option_map}
use Rattle.std.specs.List.{list_all}
use Rattle.std.specs.Option.{option_map_or}
use Rattle.sdh_ringmap.specs.declared.terms.Rate.{Rate}
use Rattle.sdh_frame.specs.Sizes.{Frame, size_of}
use Rattle.sdh_ringmap.specs.declared.Side.{Side}
use Rattle.sdh_ringmap.specs.declared.terms.Condition.{Condition}
use Rattle.sdh_ringmap.specs.declared.terms.Condition.TheVariants.{Clear}
use Rattle.sdh_plant.specs.Fibres.{Arrival, Fibres}
use Rattle.sdh_ringmap.specs.Fibres.{fibre}

-- an arrival is nothing, or a frame of this rate, which its size shows
abbrev pub is_at : Rate → Arrival → Bool
is_at rate a = option_map_or (λ bytes. length bytes == size_of rate) a true

-- the told arrivals that are left for this rate: all of them, or none where one is a frame of another rate
abbrev pub told_at_rate : Rate → List Arrival → List Arrival
told_at_rate rate told = if list_all (is_at rate) told then told else []

-- two fibres for each of n spans, each clear and without a frame, and the told arrivals that are left for the rate
abbrev pub prepared : Rate → ℕ → Fibres → Fibres
prepared rate n f =
    record f {
      nodes = n;
      rate = rate;
      conditions = replicate (2 * n) Clear;
      carried = replicate (2 * n) None;
      told = option_map (told_at_rate rate) f.told;
    }

-- the fibres once the fibre that leaves position p on that side has this condition
abbrev pub after_apply : Fibres → ℕ → Side → Condition → Fibres
after_apply f p d condition = record f { conditions = slice_set f.conditions (fibre p d) condition }

-- the fibres once the fibre that leaves position p on that side carries this frame
abbrev pub after_send : Fibres → ℕ → Side → List ℕ → Fibres
after_send f p d bytes =
    record f { carried = slice_set f.carried (fibre p d) (Some bytes); sent = option_map (λ sent. sent ++ bytes ∷ []) f.sent }

-- the frame that a fibre carried before, given back for one that was sent in exchange; where it carried none, one of
-- zeros
abbrev pub carried_or_zeros : Arrival → Frame → Frame
carried_or_zeros carried frame = record frame { bytes = option_map_or (λ bytes. bytes) carried (replicate (size_of frame.rate) 0) }

-- what comes back for a frame that was sent in exchange: the frame itself, or the one that the fibre carried before
abbrev pub IsExchanged : Arrival → Frame → Frame → Type 0
IsExchanged carried old new = (new ≡ old) ⊎ (new ≡ carried_or_zeros carried old)

-- the fibres once one of the told arrivals was given
abbrev pub after_receive : Fibres → Fibres
after_receive f = record f { told = option_map (drop 1) f.told }
