-- The receiving half of one side of a node: what the section overhead of a frame says, the defect, the word heard, the
-- local request, and what the pointer interpreters make of the AU-4s.
use Rattle.std.specs.Prelude.{◌≡◌, ◌≢◌, ℕ, ◌≤◌, Option, Some, None, IfSome, List, length}
use Rattle.std.specs.Option.{is_some}
use Rattle.sdh_ringmap.specs.Rates.{n_of}
use Rattle.sdh_overhead.specs.Sections as section
use Rattle.sdh_overhead.specs.Sections.{holding}
use Rattle.sdh_ringmap.specs.declared.terms.Code.{Code}
use Rattle.sdh_ringmap.specs.declared.terms.Code.TheVariants.{Rr}
use Rattle.sdh_ringmap.specs.Requests.{code_number}
use Rattle.sdh_ringmap.specs.declared.Side.{Side}
use Rattle.sdh_ringmap.specs.declared.Side.TheVariants.{West, East}
use Rattle.sdh_request.specs.declared.Defect.{Defect}
use Rattle.sdh_request.specs.declared.Defect.TheVariants as defect
use Rattle.sdh_request.specs.declared.Command.{Command}
use Rattle.sdh_request.specs.History.{seen, reached, commanded}
use Rattle.sdh_request.specs.Kept as local
use Rattle.sdh_request.specs.Kept.{after_happening, kept_request}
use Rattle.sdh_kbytes.specs.KBytes.{IsSpellable}
use Rattle.sdh_nodestate.specs.Filtering.{Brought, with_brought, hears}
use Rattle.sdh_pointer.specs.declared.reading.Reading.{Reading}
use Rattle.sdh_plant.specs.Fibres.{Arrival}
use Rattle.sdh_terminal.specs.Receiving.{Inlet, Reception, reception_of, Intake, readings_by, actions_by}

pub record Receiving : Type 0 where
  -- what arrived since the last round: None where nothing was received; else the bytes of a frame, or darkness
  pub arrived : Option Arrival
  -- the parities of the frame before
  pub section : section.SectionKept
  -- the waiting time, the command, the defect, the moment, and when a defect last ended
  pub local : local.LocalKept
  -- the local request in the last round
  pub request : Code
  -- what the last three rounds brought: a word, or none
  pub brought : Brought
  -- what the interpreters of AU-4s 1 to N keep
  pub readings : List Reading

unfoldable pub reception : ℕ → Receiving → Reception
reception threshold r = reception_of r.arrived r.section.rate threshold r.section.last

-- ---- the local request

-- what is kept for the local request after the moment and the defect of a round
abbrev pub local_after : ℕ → Defect → local.LocalKept → local.LocalKept
local_after now d k = after_happening (seen d) (after_happening (reached now) k)

-- ---- a round

unfoldable pub intake_of : ℕ → Receiving → Intake
intake_of threshold r = record {
  frame = record { rate = r.section.rate; bytes = (reception threshold r).bytes };
  actions = actions_by (is_some r.arrived) (n_of r.section.rate) (reception threshold r).bytes r.readings;
}

-- the side once it has read the section overhead at the moment `now`, and before its interpreters read the AU-4s:
-- `arrived` is emptied, and the parities, the moment and defect, the local request and what the last three rounds
-- brought are up to date
unfoldable pub after_overhead : ℕ → ℕ → Receiving → Receiving
after_overhead threshold now r = record r {
  arrived = None;
  section = holding r.section.rate (reception threshold r).last;
  local = local_after now (reception threshold r).defect r.local;
  request = kept_request (local_after now (reception threshold r).defect r.local);
  brought = with_brought (reception threshold r).word r.brought;
}

-- the side after it took what arrived, and after its interpreters read
unfoldable pub after_intake : ℕ → ℕ → Receiving → Receiving
after_intake threshold now r =
    record (after_overhead threshold now r) {
      readings = readings_by (is_some r.arrived) (n_of r.section.rate)
          (reception threshold r).bytes r.readings;
    }

-- ---- between rounds

-- a side after it was given this command
abbrev pub commanded_by : Command → Receiving → Receiving
commanded_by c r = record r { local = after_happening (commanded c) r.local }

-- a side after this arrived; it replaces what had arrived since the last round
abbrev pub arrived_on : Arrival → Receiving → Receiving
arrived_on a r = record r { arrived = Some a }

-- The first argument names a side, and f is a change of that side. `if_west` is what the change does to the west side,
-- and `if_east` what it does to the east side: nothing, where that isn't the side named.
abbrev pub if_west : Side → (Receiving → Receiving) → Receiving → Receiving
if_west West f r = f r
if_west East f r = r

abbrev pub if_east : Side → (Receiving → Receiving) → Receiving → Receiving
if_east West f r = r
if_east East f r = f r

-- ---- what is true of the receiving half of every side

pub record IsReceiving (r : Receiving) : Type 0 where
  pub readings : length r.readings ≡ n_of r.section.rate
  pub never_rr : r.request ≢ Rr
  pub failing : r.local.defect ≡ defect.Sf → 11 ≤ code_number r.request
  pub silent : r.local.defect ≡ defect.Sf → hears r.brought ≡ None
  pub spellable : IfSome (hears r.brought) IsSpellable

-- the part of a receiving side that frames and pointers need: what arrived, the parities and the interpreters
abbrev pub inlet_of : Receiving → Inlet
inlet_of r = record { arrived = r.arrived; section = r.section; readings = r.readings }
