-- The part of a port that no round changes.
use Rattle.sdh_ringmap.specs.declared.Side.{Side}
use Rattle.sdh_circuits.specs.declared.Slot.{Slot}
use Rattle.sdh_circuits.specs.declared.PortId.{PortId}
use Rattle.sdh_payload.specs.Customer.{Customer}
use Rattle.sdh_terminal.specs.Tributaries.{Tributary}

-- a port of a circuit: its name, the side and slot of its circuit, and its customer
pub record FixedPort : Type 0 where
  pub port : PortId
  pub side : Side
  pub slot : Slot
  pub customer : Customer

abbrev pub fixed_port : Tributary → FixedPort
fixed_port t = record { port = t.port; side = t.side; slot = t.slot; customer = t.feed.port }
