use Rattle.std.proofs.Common.{◌≡◌, ◌/◌, ap, subst, arith}
use Rattle.sdh_interchange.specs.Taking.{HaveRoom}
use Rattle.sdh_ringmap.specs.Rates.{n_of}
use Rattle.sdh_interchange.proofs.Holding.{half_taken}
use Rattle.sdh_interchange.proofs.payloads.take.Goals as goal

pub returns-in-Four-clause-payloads : goal.returns-in-Four-clause-payloads
returns-in-Four-clause-payloads c =
    let n : n_of c.args.rate ≡ 4 =
    ap n_of c.in-Four.is in rw c.in-Four.is
    (λ au low high. half_taken 4 2 c.args.base au c.args.bytes.now c.args.out.now c.take_half.new.out low (omega arith)
    (subst (λ m. HaveRoom c.args.base (m / 2) c.args.out.now) n c.requires.room) c.take_half.ensures.keeps
    (λ a j ha hj. c.take_half.ensures.inside a j ha (omega arith) hj))

pub returns-in-Sixteen-clause-payloads : goal.returns-in-Sixteen-clause-payloads
returns-in-Sixteen-clause-payloads c =
    let n : n_of c.args.rate ≡ 16 =
    ap n_of c.in-Sixteen.is in rw c.in-Sixteen.is
    (λ au low high. half_taken 16 8 c.args.base au c.args.bytes.now c.args.out.now c.take_half-in-Sixteen.new.out low (omega arith)
    (subst (λ m. HaveRoom c.args.base (m / 2) c.args.out.now) n c.requires.room) c.take_half-in-Sixteen.ensures.keeps
    (λ a j ha hj. c.take_half-in-Sixteen.ensures.inside a j ha (omega arith) hj))
