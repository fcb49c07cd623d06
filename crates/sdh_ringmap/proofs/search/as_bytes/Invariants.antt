use Rattle.std.proofs.Common.{◌≡◌, take, map}
use Rattle.sdh_ringmap.specs.Numbering.{magnitude}
use Rattle.sdh_ringmap.proofs.search.as_bytes.Given as goal

abbrev pub invariant-loop-id : goal.invariant-loop-id
invariant-loop-id l = l.bytes.items ≡ map magnitude (take l.id-index l.ids)
