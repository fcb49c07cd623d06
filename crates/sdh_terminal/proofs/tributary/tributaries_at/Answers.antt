use Rattle.std.proofs.Common.{◌++◌, ap, sym, subst, ◌∙◌, arith}
use Rattle.std.specs.Prelude.{All}
use Rattle.std.proofs.lemmas.List.{take_all}
use Rattle.sdh_terminal.specs.Tributaries.{tributaries_of, tributaries_from, tributaries_at, IsTributary}
use Rattle.sdh_terminal.proofs.Ports.{ends_more, tributaries_are}
use Rattle.sdh_terminal.proofs.tributary.tributaries_at.Goals as goal

pub loop-i-preserved : goal.loop-i-preserved
loop-i-preserved c =
    let circuit = c.get-circuit.result.now in
    c.in_ok-add_ends.ensures ∙ ap (λ r. r ++ tributaries_of c.args.at c.loop-i.i circuit) c.loop-i.invariant
    ∙ sym (ends_more c.args.at c.args.circuits.now.circuits c.loop-i.i circuit c.get-circuit.ensures (omega arith))

pub returns-clause-ports : goal.returns-clause-ports
unfolding tributaries_at
returns-clause-ports c =
    c.loop-i.invariant ∙ ap (tributaries_from c.args.at 0) (take_all c.loop-i.i c.args.circuits.now.circuits (omega arith))

pub returns-clause-slots : goal.returns-clause-slots
returns-clause-slots c =
    subst (All (IsTributary c.args.circuits.now.slots 0)) (sym (returns-clause-ports c))
    (tributaries_are c.args.at c.args.circuits.now c.len-i-end.ensures.form)
