-- Both sides of a node in a round: what they took in, and where it goes.
use Rattle.std.specs.Prelude.{ℕ, ◌-◌, ◌≤◌, List, slice_index_or}
use Rattle.sdh_ringmap.specs.declared.terms.Rate.{Rate}
use Rattle.sdh_ringmap.specs.Rates.{n_of}
use Rattle.sdh_frame.specs.Aus.{au_of}
use Rattle.sdh_ringmap.specs.declared.Side.{Side}
use Rattle.sdh_ringmap.specs.declared.Side.TheVariants.{West, East}
use Rattle.sdh_circuits.specs.declared.PortId.{PortId}
use Rattle.sdh_pointer.specs.declared.reading.Reading.{Reading}
use Rattle.sdh_pointer.specs.declared.reading.Action.TheVariants as action
use Rattle.sdh_pointer.specs.Reading.{start}
use Rattle.sdh_terminal.specs.declared.matrix.Feeder.{Feeder}
use Rattle.sdh_terminal.specs.declared.matrix.Feeder.TheVariants as feeder
use Rattle.sdh_interchange.specs.Taking.{Held, IsOf}
use Rattle.sdh_terminal.specs.Receiving.{Intake}
use Rattle.sdh_terminal.specs.Passing.{Input, no_input}

-- a side: what its interpreters keep, and what it took in
pub record Line : Type 0 where
  pub readings : List Reading
  pub intake : Intake

pub record Lines : Type 0 where
  pub rate : Rate
  pub west : Line
  pub east : Line

abbrev pub line_on : Lines → Side → Line
line_on l West = l.west
line_on l East = l.east

-- AU-4 number au as a side received it, with what its interpreter made of it
abbrev pub received : Lines → Side → ℕ → Input
received l side au = record {
  action = slice_index_or (line_on l side).intake.actions (au - 1) action.Ais;
  value = (slice_index_or (line_on l side).readings (au - 1) start).value;
  au = au_of (n_of (line_on l side).intake.frame.rate) au (line_on l side).intake.frame.bytes;
}

-- the payloads that are held have been taken out of the frames that both sides took in
pub record AreOf (l : Lines) (w e : Held) : Type 0 where
  pub west : IsOf l.west.intake.frame w
  pub east : IsOf l.east.intake.frame e

-- what a feeder gives an AU-4; `added` says what each port adds
abbrev pub fed_by : Lines → (PortId → Input) → Feeder → Input
fed_by l added (feeder.Port port) = added port
fed_by l added (feeder.Received side au) = received l side au
fed_by l added feeder.Ais = no_input

-- what all AU-4s that leave on a side are fed with, by their numbers
abbrev pub all_fed_by : Lines → (PortId → Input) → (ℕ → Feeder) → ℕ → Input
all_fed_by l added leads au = fed_by l added (leads au)

-- what is dropped from this feeder to a port: the AU-4 that a side received, or AIS; what a port adds isn't dropped
abbrev pub dropped_by : Lines → Feeder → Input
dropped_by l (feeder.Port port) = no_input
dropped_by l (feeder.Received side au) = received l side au
dropped_by l feeder.Ais = no_input

-- a feeder at a rate with n AU-4s: an AU-4 that a side received has a number from 1 to n
abbrev pub IsFeeder : ℕ → Feeder → Type 0
IsFeeder n (feeder.Port port) = Unit {0}
IsFeeder n (feeder.Received side au) = (1 ≤ au) × (au ≤ n)
IsFeeder n feeder.Ais = Unit {0}
