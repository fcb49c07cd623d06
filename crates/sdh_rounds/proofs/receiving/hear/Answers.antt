use Rattle.std.proofs.Common.{subst, sym, length}
use Rattle.sdh_rounds.specs.Calls.{FirstReceive}
use Rattle.sdh_rounds.proofs.Receives.{hears_none, none_hears}
use Rattle.sdh_rounds.proofs.receiving.hear.Goals as goal

pub returns-then-rounds-eq0-clause-ok : goal.returns-then-rounds-eq0-clause-ok
returns-then-rounds-eq0-clause-ok g c =
    let f = g.P.Plant.fibres c.args.plant.now in
    let ns = c.args.nodes.now.items in
    subst (λ k. FirstReceive g.S.Station.kind k f f ns ns) (sym (none_hears c.args.rounds (length ns) c.if-rounds-eq0.true))
    (hears_none g.S.Station.kind f ns)
