-- One side of a node that receives, without the filter of its words and its local request: what the section overhead of
-- a frame says, and what the pointer interpreters make of the AU-4s.
use Rattle.std.specs.Prelude.{◌≡◌, ℕ, ◌+◌, ◌*◌, ◌%◌, Bool, ◌==◌, nat_le, if◌then◌else◌, Option, Some, None, List, length, map, slice_index}
use Rattle.std.specs.Prelude.{replicate}
use Rattle.std.specs.Option.{is_some}
use Rattle.sdh_basics.specs.Indexed.{map_from}
use Rattle.sdh_ringmap.specs.declared.terms.Rate.{Rate}
use Rattle.sdh_frame.specs.Sizes.{Frame, size_of}
use Rattle.sdh_ringmap.specs.Rates.{n_of}
use Rattle.sdh_frame.specs.Aus.{pointers_of}
use Rattle.sdh_overhead.specs.declared.Received.{Received}
use Rattle.sdh_overhead.specs.declared.Received.TheVariants.{Framed, Unframed}
use Rattle.sdh_overhead.specs.Sections as section
use Rattle.sdh_overhead.specs.Sections.{Parities, holding, opened, received_in, kept_after}
use Rattle.sdh_kbytes.specs.declared.K.{K}
use Rattle.sdh_kbytes.specs.KBytes.{decoded}
use Rattle.sdh_request.specs.declared.Defect.{Defect}
use Rattle.sdh_request.specs.declared.Defect.TheVariants as defect
use Rattle.sdh_pointer.specs.declared.reading.Reading.{Reading}
use Rattle.sdh_pointer.specs.declared.reading.Action.{Action}
use Rattle.sdh_pointer.specs.declared.reading.Action.TheVariants as action
use Rattle.sdh_pointer.specs.Reading.{Interpreter, after_word, action_on, start}
use Rattle.sdh_plant.specs.Fibres.{Arrival}

pub record Inlet : Type 0 where
  -- what arrived since the last round: None where nothing was received; else the bytes of a frame, or darkness
  pub arrived : Option Arrival
  -- the parities of the frame before
  pub section : section.SectionKept
  -- what the interpreters of AU-4s 1 to N keep
  pub readings : List Reading

-- a side that has received nothing
abbrev pub new_inlet : Rate → Inlet
new_inlet rate = record { arrived = None; section = holding rate None; readings = replicate (n_of rate) start }

-- a side after this arrived; it replaces what had arrived since the last round
abbrev pub inlet_told : Arrival → Inlet → Inlet
inlet_told a i = record i { arrived = Some a }

-- ---- what arrived

-- What a side makes of what arrived: its defect, the word that it brings, the frame without scrambling, and the
-- parities for the next frame.
pub record Reception : Type 0 where
  pub defect : Defect
  pub word : Option K
  pub bytes : List ℕ
  pub last : Option Parities

abbrev pub all_ones : Rate → List ℕ
all_ones rate = replicate (size_of rate) 0xFF

-- a side that fails: it brings no word, and its frame counts as ones
abbrev pub failure : Rate → Option Parities → Reception
failure rate last = record { defect = defect.Sf; word = None; bytes = all_ones rate; last = last }

-- A framed frame. Where the low three bits of K2 are ones, it is AIS of the multiplex section, and the side fails.
-- Otherwise the side is degraded where B2 has at least `threshold` violations.
abbrev pub framed_reception : Rate → ℕ → List ℕ → Option Parities → ℕ → ℕ → ℕ → Reception
framed_reception rate threshold clear last k1 k2 b2 =
    if k2 % 8 == 7 then failure rate last else
    record { defect = if nat_le threshold b2 then defect.Sd else defect.None; word = decoded k1 k2; bytes = clear; last = last }

-- a frame: an unframed one is a failure
abbrev pub frame_reception : Rate → ℕ → List ℕ → Option Parities → Received → Reception
frame_reception rate threshold clear last Unframed = failure rate last
frame_reception rate threshold clear last (Framed k1 k2 b1 b2) = framed_reception rate threshold clear last k1 k2 b2

-- What a side makes of what arrived. Darkness is a failure. Where nothing was received, the side has no defect and
-- brings no word, and its frame counts as ones. Where no frame arrived, the parities are forgotten.
abbrev pub reception_of : Option Arrival → Rate → ℕ → Option Parities → Reception
reception_of None rate threshold last = record { defect = defect.None; word = None; bytes = all_ones rate; last = None }
reception_of (Some None) rate threshold last = failure rate None
reception_of (Some (Some bytes)) rate threshold last =
    frame_reception rate threshold (opened (n_of rate) bytes) (kept_after (n_of rate) bytes) (received_in (n_of rate) last bytes)

-- ---- the interpreters

-- the pointer word H1 and H2 in the nine pointer bytes of an AU-4
abbrev pub pointer_word : List ℕ → ℕ
pointer_word pointers = 256 * slice_index pointers 0 + slice_index pointers 3

-- the pointer word of an AU-4 of a frame
abbrev pub pointer_word_at : ℕ → List ℕ → ℕ → ℕ
pointer_word_at n bytes au = pointer_word (pointers_of n au bytes)

-- what interpreters keep
abbrev pub readings_of : List Interpreter → List Reading
readings_of interps = map (λ (i : Interpreter). i.reading) interps

-- what interpreters keep after they read a frame
unfoldable pub after_frame : ℕ → List ℕ → List Reading → List Reading
after_frame n bytes readings = map_from (λ k r. after_word r (pointer_word_at n bytes (k + 1))) 0 readings

-- the actions of interpreters that read a frame
unfoldable pub actions_in : ℕ → List ℕ → List Reading → List Action
actions_in n bytes readings = map_from (λ k r. action_on r (pointer_word_at n bytes (k + 1))) 0 readings

-- ---- a round

-- What one side takes in during a round: the descrambled frame, or ones where the side fails or nothing was received;
-- and the actions of the interpreters of AU-4s 1 to N.
pub record Intake : Type 0 where
  pub frame : Frame
  pub actions : List Action

-- what a side has taken in before the first round: every AU-4 counts as AIS
abbrev pub new_intake : Rate → Intake
new_intake rate = record { frame = record { rate = rate; bytes = replicate (size_of rate) 0 }; actions = replicate (n_of rate) action.Ais }

-- what interpreters keep: they read the frame where something was received, and otherwise keep what they kept
abbrev pub readings_by : Bool → ℕ → List ℕ → List Reading → List Reading
readings_by told n bytes readings = if told then after_frame n bytes readings else readings

-- the actions of interpreters: they read the frame where something was received, and otherwise every AU-4 counts as AIS
abbrev pub actions_by : Bool → ℕ → List ℕ → List Reading → List Action
actions_by told n bytes readings = if told then actions_in n bytes readings else replicate n action.Ais

-- what a side finds in what arrived
abbrev pub found : ℕ → Inlet → Reception
found threshold i = reception_of i.arrived i.section.rate threshold i.section.last

-- what a side takes in
unfoldable pub taken_in : ℕ → Inlet → Intake
taken_in threshold i = record {
  frame = record { rate = i.section.rate; bytes = (found threshold i).bytes };
  actions = actions_by (is_some i.arrived) (n_of i.section.rate) (found threshold i).bytes i.readings;
}

-- a side after it took in what arrived
unfoldable pub after_taking : ℕ → Inlet → Inlet
after_taking threshold i = record {
  arrived = None;
  section = holding i.section.rate (found threshold i).last;
  readings = readings_by (is_some i.arrived) (n_of i.section.rate) (found threshold i).bytes i.readings;
}

-- ---- what is true of the receiving half of every side

abbrev pub IsInlet : Inlet → Type 0
IsInlet i = length i.readings ≡ n_of i.section.rate
