use Rattle.std.proofs.lemmas.Result.{on_ok_weaker}
use Rattle.sdh_rounds.proofs.Receives.{receives_both, second_fails}
use Rattle.sdh_rounds.proofs.receiving.receive_both.Goals as goal

pub returns-clause-node : goal.returns-clause-node
returns-clause-node g c =
    on_ok_weaker c.receive_one-2.result
    (λ east. receives_both g.S.Station.kind _ _ _ _ _ _ c.in_ok-receive_one.ensures.fibres c.in_ok-receive_one.ensures.node east) c.receive_one-2.ensures.node

pub returns-clause-kept : goal.returns-clause-kept
returns-clause-kept g c =
    second_fails g.S.Station.kind c.receive_one-2.result _ _ _ _ _ _ _ c.in_ok-receive_one.ensures.fibres c.in_ok-receive_one.ensures.node c.receive_one-2.ensures.kept c.receive_one-2.ensures.same
