-- The line of the front of what a port delivers.
use Rattle.std.proofs.Common.{◌≡◌, ℕ, List, ◌++◌, codes, decimal, refl, arith, ap}
use Rattle.std.proofs.lemmas.List.{take-take}
use Rattle.sdh_basics.specs.Hexadecimal.{hex_of}
use Rattle.sdh_circuits.specs.declared.End.{End}
use Rattle.sdh_payload.specs.declared.delivered.Delivered.{Delivered}
use Rattle.sdh_payload.specs.declared.delivered.Delivered.TheVariants.{Ais, Chunk}
use Rattle.sdh_payload.specs.Outlet.{Outlet, front_by, front_of}
use Rattle.sdh_report.specs.Lines.{port_named, port_line, front_line}

by_front : (name : List ℕ) (end : End) (value : ℕ) (delivered : Delivered)
    → front_line name end (front_by delivered value) ≡ port_line name end delivered value
by_front name end value Ais = refl
by_front name end value (Chunk chunk) =
    ap (λ bytes. port_named name end ++ codes " norm " ++ decimal value ++ codes " " ++ hex_of bytes ++ codes "\n")
    (take-take 16 16 chunk (omega arith))

-- the line of a front is that of all that the port delivers
pub front_line_is : (name : List ℕ) (end : End) (o : Outlet) → front_line name end (front_of o) ≡ port_line name end o.delivered o.value
front_line_is name end o = by_front name end o.value o.delivered
