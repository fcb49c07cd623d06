use Rattle.std.proofs.Common.{◌≡◌}
use Rattle.sdh_basics.specs.Parity.{bip8}
use Rattle.sdh_payload.specs.Stream.{vc4_front}
use Rattle.sdh_payload.proofs.walk.first_parity.Given as goal

abbrev pub invariant-loop-index : goal.invariant-loop-index
invariant-loop-index l = l.parity ≡ bip8 (vc4_front l.port 0 0 l.index)
