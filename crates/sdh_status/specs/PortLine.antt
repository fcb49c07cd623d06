-- What a report shows of a port.
use Rattle.std.specs.Prelude.{ℕ, List}
use Rattle.sdh_payload.specs.Outlet.{Outlet}
use Rattle.sdh_circuits.specs.declared.End.{End}

-- what the port at an end of the circuit of this name delivered, with the pointer value that it came with
pub record PortLine : Type 0 where
  pub name : List ℕ
  pub end : End
  pub outlet : Outlet
