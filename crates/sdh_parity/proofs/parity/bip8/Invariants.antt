use Rattle.std.proofs.Common.{◌≡◌, take}
use Rattle.sdh_basics.specs.Parity.{bip8}
use Rattle.sdh_parity.proofs.parity.bip8.Given as goal

abbrev pub invariant-loop-byte : goal.invariant-loop-byte
invariant-loop-byte l = l.parity ≡ bip8 (take l.byte-index l.bytes)
