use Rattle.sdh_node_cli.proofs.Long.{may_any, may_round, may_frame}
use Rattle.sdh_node_cli.proofs.line.fewest.Goals as goal

pub returns-then-begins_with-clause-may : goal.returns-then-begins_with-clause-may
returns-then-begins_with-clause-may c circuits at =
    may_frame c.args.front.now circuits at (c.begins_with.ensures c.if-begins_with.true)

pub returns-then-begins_with-2-clause-may : goal.returns-then-begins_with-2-clause-may
returns-then-begins_with-2-clause-may c circuits at =
    may_round c.args.front.now circuits at (c.begins_with-else-begins_with.ensures c.if-begins_with-2.true)

pub returns-else-begins_with-2-clause-may : goal.returns-else-begins_with-2-clause-may
returns-else-begins_with-2-clause-may c circuits at = may_any c.args.front.now circuits at
