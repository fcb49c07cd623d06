-- The result of making a port.
use Rattle.std.specs.Prelude.{ℕ, List, not, nat_lt, if◌then◌else◌, Result, Ok, Err}
use Rattle.sdh_payload.specs.Customer.{Customer, is_text}
use Rattle.sdh_payload.specs.declared.port.PortError.{PortError}
use Rattle.sdh_payload.specs.declared.port.PortError.TheVariants.{Offset, Text, Trace}

-- the port, or the first rule that isn't kept, in the order offset, text, trace
abbrev pub checked_port : List ℕ → List ℕ → ℕ → Result Customer PortError
checked_port text trace offset =
    if nat_lt 782 offset then Err Offset else
    if not (is_text text) then Err Text else
    if not (is_text trace) then Err Trace else
    Ok (record { text = text; trace = trace; offset = offset })
