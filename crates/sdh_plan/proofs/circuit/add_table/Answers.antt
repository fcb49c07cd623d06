use Rattle.std.proofs.Common.{◌≡◌, true, Some, Option, sym, subst, ◌∙◌, rules}
use Rattle.toml.specs.Data.{Members}
use Rattle.toml.specs.View.{table_view}
use Rattle.sdh_circuits.specs.Checks.{Wish, wish_of}
use Rattle.sdh_plan.specs.declared.reason.Reason.{Reason}
use Rattle.sdh_plan.specs.Document.{has_only}
use Rattle.sdh_plan.specs.Refusals.{IsRefused, refusal_at}
use Rattle.sdh_plan.specs.Circuits.{circuit_keys, wish_in}
use Rattle.sdh_plan.proofs.Elements.{all_keys_view}
use Rattle.sdh_plan.proofs.Refusing.{asked_first, refused_for}
use Rattle.sdh_plan.proofs.circuit.add_table.Goals as goal

pub returns-in-Err-clause-refused : goal.returns-in-Err-clause-refused
unfolding has_only
returns-in-Err-clause-refused c =
    let ms : Members = table_view c.args.table.now in
    let wish : Wish = wish_of c.in-Some.asked in
    let known : has_only circuit_keys ms ≡ true = search (rules, all_keys_view) in
    let asks : wish_in ms ≡ Some wish = search rules in
    subst (λ (o : Option Reason). IsRefused (refusal_at c.args.place o) c.refused_at.result)
    (sym (asked_first c.args.circuits.now.slots c.args.ring.now c.args.circuits.now.circuits ms wish known asks
    ∙ refused_for _ c.args.circuits.now c.args.ring.now wish c.in-Err.why c.in-Err.ensures.refused c.in-Err.ensures.memory))
    c.refused_at.ensures
