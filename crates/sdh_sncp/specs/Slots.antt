-- What a node of a path ring does with a slot. This project's own, after SNC/I of ITU-T G.841.
use Rattle.std.specs.Prelude.{ℕ, ◌+◌, ◌==◌, if◌then◌else◌, List, [], ◌∷◌}
use Rattle.sdh_basics.specs.Cells.{cells}
use Rattle.sdh_circuits.specs.declared.End.TheVariants.{A, B}
use Rattle.sdh_circuits.specs.Provisioned.{Provisioned}
use Rattle.sdh_sncp.specs.declared.slots.Use.{Use}
use Rattle.sdh_sncp.specs.declared.slots.Use.TheVariants.{Unused, Passed, Ended}

-- What the node at a position does with the slot of circuit number i. At the circuit's ends its port is added and
-- dropped. Every other node passes the slot on, both ways.
abbrev pub use_by : ℕ → ℕ → Provisioned → Use
use_by at i c =
    if c.from.0 == at then Ended (record { circuit = i; end = A }) else
    if c.to.0 == at then Ended (record { circuit = i; end = B }) else Passed

-- What the node at a position does with slot m, where circuits are numbered from i on. A slot without a circuit is
-- unused.
abbrev pub use_from : ℕ → ℕ → ℕ → List Provisioned → Use
use_from at m i [] = Unused
use_from at m i (c ∷ cs) = if c.slot.0 == m then use_by at i c else use_from at m (i + 1) cs

unfoldable pub use_of : List Provisioned → ℕ → ℕ → Use
use_of circuits at m = use_from at m 0 circuits

-- the uses of slots 1 to n
unfoldable pub uses_at : List Provisioned → ℕ → ℕ → List Use
uses_at circuits at n = cells (λ k. use_of circuits at (k + 1)) n
