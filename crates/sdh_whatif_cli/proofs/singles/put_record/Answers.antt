use Rattle.std.proofs.Common.{◌≡◌, ◌∙◌, ◌++◌, [], ℕ, List, sym, ap, length}
use Rattle.std.specs.Prelude.{if◌then◌else◌}
use Rattle.sdh_whatif_cli.specs.declared.singles.Tally.{Tally}
use Rattle.sdh_whatif_cli.specs.Singles.{tally_of, tally_record, first_of, number_of}
use Rattle.sdh_whatif_cli.proofs.singles.put_record.Goals as goal

pub returns-then-takes-clause-text : goal.returns-then-takes-clause-text
returns-then-takes-clause-text c =
    let plan = c.args.plan.now in
    let n = length plan.nodes in
    let k = c.args.kind in
    let old = c.args.line.now in
    let size : c.len.result ≡ n = c.len.ensures.len ∙ ap (λ (l : List ℕ). length l) c.map.ensures in
    let first : c.numbers_of-first.result.0 ≡ first_of n k = c.numbers_of-first.ensures.first ∙ ap (λ m. first_of m k) size in
    let count : c.numbers_of-first.result.1 ≡ number_of n k = c.numbers_of-first.ensures.count ∙ ap (λ m. number_of m k) size in
    let tally : c.tally_of.result ≡ tally_of plan (first_of n k) (number_of n k) =
    c.tally_of.ensures ∙ ap (λ x. tally_of plan x c.numbers_of-first.result.1) first ∙ ap (tally_of plan (first_of n k)) count in
    c.put_tally.ensures.text
    ∙ ap (λ (t : Tally). old ++ tally_record k t) tally
    ∙ ap (λ b. old ++ (if b then tally_record k (tally_of plan (first_of n k) (number_of n k)) else []))
    (sym c.if-takes.true ∙ c.takes.ensures)
