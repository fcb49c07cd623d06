use Rattle.std.proofs.Common.{ap, ◌∙◌}
use Rattle.sdh_node.specs.Rings.Held.{HeldRing}
use Rattle.sdh_aps_cli.proofs.Goings.{ends_reported}
use Rattle.sdh_aps_cli.proofs.program.SignalAskProgram.close.Goals as goal

pub returns-clause-ending : goal.returns-clause-ending
returns-clause-ending g c told has =
    c.ending_after-ending.ensures
    ∙ ends_reported c.args.listing c.rounds.result c.args.status told
    (λ other. c.rounds.ensures ∙ ap (λ (r : HeldRing). r.rounds) c.ring.ensures ∙ has other)
