use Rattle.std.proofs.Common.{◌≡◌, ◌∙◌, ◌+◌, ◌≤◌, ℕ, List, [], Ok, Err, sym, ap, length, arith}
use Rattle.std.specs.Prelude.{Option}
use Rattle.std.specs.Option.{option_map_or}
use Rattle.sdh_whatif_cli.specs.declared.forms.Digits.{Digits}
use Rattle.sdh_whatif_cli.specs.declared.forms.Entry.{Entry}
use Rattle.sdh_whatif_cli.specs.Cases.{base, base_of, digits_of, digits_at, case_numbers, failures_of, are_told, is_told, entry_of, entry_at}
use Rattle.sdh_whatif_cli.specs.Lines.{line_text, line_at, lines_below}
use Rattle.sdh_whatif_cli.proofs.Parts.{sides_long}
use Rattle.sdh_whatif_cli.proofs.Below.{below_next, rest_of, told_next, few_next, byte_low}
use Rattle.sdh_outside.proofs.Pieces.{as_text, after, stopped}
use Rattle.sdh_whatif_cli.proofs.table.write_cases.Goals as goal

pub are_told-told-requires-clause-sides : goal.are_told-told-requires-clause-sides
are_told-told-requires-clause-sides g c = sides_long c.args.scene.now.plan.now c.args.scene.now.sides.now c.requires.scene.sides

pub are_told-told-requires-clause-nodes : goal.are_told-told-requires-clause-nodes
are_told-told-requires-clause-nodes g c =
    c.len-nodes.ensures.len ∙ ap (λ (l : List ℕ). length l) (c.map.ensures ∙ sym c.requires.scene.sides.nodes)

-- the digits are those of the number among the plan's cases
pub write_entry-requires-clause-digits : goal.write_entry-requires-clause-digits
write_entry-requires-clause-digits g c =
    let plan = c.args.scene.now.plan.now in
    let size : c.len-nodes.result ≡ length plan.nodes = c.len-nodes.ensures.len ∙ ap (λ (l : List ℕ). length l) c.map.ensures in
    record {
      first = omega (arith, c.digits_of-digits.ensures.low.0, c.base-base.ensures.is, size, c.len.ensures, c.requires.scene.own.few);
      second = omega (arith, c.digits_of-digits.ensures.low.1, c.base-base.ensures.is, size, c.len.ensures, c.requires.scene.own.few);
      third = omega (arith, c.digits_of-digits.ensures.low.2, c.base-base.ensures.is, size, c.len.ensures, c.requires.scene.own.few);
    }

pub returns-in-Err : goal.returns-in-Err
returns-in-Err g c =
    let plan = c.args.scene.now.plan.now in
    let own = c.args.scene.now.own.now in
    let ask = c.args.ask in
    let k = c.loop-number.number in
    let m = case_numbers (base_of plan own) ask.depth in
    let nodes : c.len-nodes.result ≡ length plan.nodes = c.len-nodes.ensures.len ∙ ap (λ (l : List ℕ). length l) c.map.ensures in
    let counts : c.base-base.result ≡ base_of plan own =
    c.base-base.ensures.is ∙ ap (λ n. base n c.len.result) nodes ∙ ap (base (length plan.nodes)) c.len.ensures in
    let size : c.numbers_of-number-end.result ≡ m = c.numbers_of-number-end.ensures ∙ ap (λ b. case_numbers b ask.depth) counts in
    let digits : c.digits_of-digits.result ≡ digits_at plan own k = c.digits_of-digits.ensures.is ∙ ap (λ b. digits_of b k) counts in
    let told : c.are_told-told.result ≡ is_told plan own ask k =
    c.are_told-told.ensures plan c.requires.scene.sides ∙ ap (are_told plan ask) digits in
    let within : k + 1 ≤ m = omega (arith, size, c.loop-number-test.true) in
    let rest = rest_of plan own ask (k + 1) m within in
    let entry : c.entry_of-entry.result ≡ entry_at plan own ask k =
    c.entry_of-entry.ensures ∙ ap (λ t. entry_of ask t c.loop-number.before) told
    ∙ ap (entry_of ask (is_told plan own ask k)) c.loop-number.invariant.told in
    let line : Digits → Option Entry → List ℕ = λ ds o. option_map_or (line_text plan ds (failures_of (length plan.nodes) own ds)) o [] in
    let here = as_text _ _ _ _ _ _ _ _ (ap (λ (ds : Digits). line ds c.entry_of-entry.result) digits ∙ ap (line (digits_at plan own k)) entry)
    c.in-Err.ensures in
    as_text _ _ _ _ _ _ _ _ rest.1
    (stopped _ _ _ _ _ (lines_below plan own ask (k + 1)) rest.0 c.in-Err.fault
    (as_text _ _ _ _ _ _ _ _ (below_next plan own ask k) (after _ _ _ _ _ _ _ (lines_below plan own ask k) (line_at plan own ask k) tt
    (Err c.in-Err.fault) c.loop-number.invariant.wrote here)))

pub overflow_add-before : goal.overflow_add-before
overflow_add-before g c = record {
  fits = omega (
    arith,
    c.loop-number.invariant.few,
    byte_low c.are_told-told.result,
    c.from-before.ensures,
    c.loop-number-test.true,
    c.numbers_of-number-end.type_inv,
  );
}

pub loop-number-preserved : goal.loop-number-preserved
loop-number-preserved g c =
    let plan = c.args.scene.now.plan.now in
    let own = c.args.scene.now.own.now in
    let ask = c.args.ask in
    let k = c.loop-number.number in
    let nodes : c.len-nodes.result ≡ length plan.nodes = c.len-nodes.ensures.len ∙ ap (λ (l : List ℕ). length l) c.map.ensures in
    let counts : c.base-base.result ≡ base_of plan own =
    c.base-base.ensures.is ∙ ap (λ n. base n c.len.result) nodes ∙ ap (base (length plan.nodes)) c.len.ensures in
    let digits : c.digits_of-digits.result ≡ digits_at plan own k = c.digits_of-digits.ensures.is ∙ ap (λ b. digits_of b k) counts in
    let told : c.are_told-told.result ≡ is_told plan own ask k =
    c.are_told-told.ensures plan c.requires.scene.sides ∙ ap (are_told plan ask) digits in
    let entry : c.entry_of-entry.result ≡ entry_at plan own ask k =
    c.entry_of-entry.ensures ∙ ap (λ t. entry_of ask t c.loop-number.before) told
    ∙ ap (entry_of ask (is_told plan own ask k)) c.loop-number.invariant.told in
    let line : Digits → Option Entry → List ℕ = λ ds o. option_map_or (line_text plan ds (failures_of (length plan.nodes) own ds)) o [] in
    let here = as_text _ _ _ _ _ _ _ _ (ap (λ (ds : Digits). line ds c.entry_of-entry.result) digits ∙ ap (line (digits_at plan own k)) entry)
    c.in_default.ensures in
    record {
      wrote = as_text _ _ _ _ _ _ _ _ (below_next plan own ask k) (after _ _ _ _ _ _ _ (lines_below plan own ask k)
          (line_at plan own ask k) tt (Ok tt) c.loop-number.invariant.wrote here);
      told = told_next plan own ask k c.loop-number.before c.from-before.result c.are_told-told.result c.loop-number.invariant.told
          c.from-before.ensures told;
      few = few_next k c.loop-number.before c.from-before.result c.are_told-told.result c.loop-number.invariant.few c.from-before.ensures;
    }
