use Rattle.sdh_interchange.specs.Passes.{byte_by_source}
use Rattle.sdh_interchange.proofs.ByBytes.{PickedTo}
use Rattle.sdh_interchange.proofs.pass.Pass.choose.Given as goal

abbrev pub invariant-loop-r : goal.invariant-loop-r
invariant-loop-r g l = PickedTo g.row.N (byte_by_source g.row.N l.self) l.r l.fn.bytes l.bytes
