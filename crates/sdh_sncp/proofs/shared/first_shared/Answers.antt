use Rattle.std.proofs.Common.{sym}
use Rattle.sdh_sncp.proofs.Sharing.{first_if}
use Rattle.sdh_sncp.proofs.shared.first_shared.Goals as goal

pub returns-clause-some : goal.returns-clause-some
returns-clause-some c =
    first_if c.args.circuits.now.circuits c.in-Some-first_before.first c.in-Some.second (sym c.in-Some.ensures.index)
    (sym c.in-Some-first_before.ensures.index)
