use Rattle.std.proofs.Common.{◌≡◌, ◌∙◌, ℕ, List, Some, None, length, sym, ap, subst, inr}
use Rattle.sdh_verdicts.specs.declared.failure.Failure.{Failure}
use Rattle.sdh_shell.specs.Calls.{words_of}
use Rattle.sdh_outside.proofs.Pieces.{as_text}
use Rattle.sdh_whatif_cli.specs.Words.{own_texts}
use Rattle.sdh_whatif_cli.specs.Cases.{AreOwn}
use Rattle.sdh_whatif_cli.specs.Lines.{table_text}
use Rattle.sdh_whatif_cli.specs.Own.{own_failures, first_unknown}
use Rattle.sdh_whatif_cli.specs.Outcome.{of_unknown, of_plan}
use Rattle.sdh_whatif_cli.proofs.Told.{ok_two}
use Rattle.sdh_whatif_cli.proofs.Unknown.{first_place}
use Rattle.sdh_whatif_cli.proofs.top.tell.Goals as goal

-- a text that names none of the ring's
pub returns-in-Err-clause-status : goal.returns-in-Err-clause-status
returns-in-Err-clause-status g c =
    let plan = c.args.plan.now in
    let texts = own_texts (words_of c.args.words.now) in
    ok_two c.refuse_own.result _ _ (λ x. x.status ≡ (of_plan plan texts c.args.ask).0) (λ x told same.
    let first : first_unknown plan.nodes texts ≡ Some told.0 =
    first_place plan.nodes c.map.result.now texts c.in-Err.why told.0 c.map.ensures told.1 c.in-Err.ensures.unknown in
    told.2 ∙ sym (ap (λ o. (of_unknown o plan texts c.args.ask).0) first)) c.refuse_own.ensures.told c.refuse_own.ensures.told

pub returns-in-Err-clause-wrote : goal.returns-in-Err-clause-wrote
returns-in-Err-clause-wrote g c =
    let plan = c.args.plan.now in
    let texts = own_texts (words_of c.args.words.now) in
    ok_two c.refuse_own.result _ _ _ (λ x told same.
    let first : first_unknown plan.nodes texts ≡ Some told.0 =
    first_place plan.nodes c.map.result.now texts c.in-Err.why told.0 c.map.ensures told.1 c.in-Err.ensures.unknown in
    as_text _ _ _ _ _ _ _ _ (sym (ap (λ o. (of_unknown o plan texts c.args.ask).1) first)) told.3)
    c.refuse_own.ensures.told c.refuse_own.ensures.told

pub returns-in-Err-clause-own : goal.returns-in-Err-clause-own
returns-in-Err-clause-own g c =
    ok_two c.refuse_own.result _ _ _ (λ x told same. inr (told.0, told.2)) c.refuse_own.ensures.told c.refuse_own.ensures.told

pub write_table-wrote-requires-clause-scene : goal.write_table-wrote-requires-clause-scene
write_table-wrote-requires-clause-scene g c = record {
  sides = c.in_ok-sides.ensures;
  own = subst (λ (nodes : List ℕ). AreOwn (length nodes) c.in-Ok.own) c.map.ensures c.in-Ok.ensures.own;
}

pub returns-clause-status : goal.returns-clause-status
returns-clause-status g c =
    let plan = c.args.plan.now in
    let texts = own_texts (words_of c.args.words.now) in
    let known : first_unknown plan.nodes texts ≡ None =
    sym (ap (λ (nodes : List ℕ). first_unknown nodes texts) c.map.ensures) ∙ c.in-Ok.ensures.known in
    sym (ap (λ o. (of_unknown o plan texts c.args.ask).0) known)

pub returns-clause-wrote : goal.returns-clause-wrote
returns-clause-wrote g c =
    let plan = c.args.plan.now in
    let texts = own_texts (words_of c.args.words.now) in
    let known : first_unknown plan.nodes texts ≡ None =
    sym (ap (λ (nodes : List ℕ). first_unknown nodes texts) c.map.ensures) ∙ c.in-Ok.ensures.known in
    as_text _ _ _ _ _ _ _ _
    (ap (λ (own : List (List Failure)). table_text plan own c.args.ask)
    (c.in-Ok.ensures.are ∙ ap (λ (nodes : List ℕ). own_failures nodes texts) c.map.ensures)
    ∙ sym (ap (λ o. (of_unknown o plan texts c.args.ask).1) known)) c.write_table-wrote.ensures
