use Rattle.std.proofs.Common.{arith, ap, subst, sym, ◌∙◌, List, ℕ, map, pos}
use Rattle.sdh_ringmap.specs.Ids.{AreIds}
use Rattle.sdh_ringmap.proofs.Firsts.{fit, are_ids, same_numbers}
use Rattle.sdh_ringmap.proofs.RingMap.new.Goals as goal

pub as_bytes-requires-clause-fit : goal.as_bytes-requires-clause-fit
as_bytes-requires-clause-fit c = λ k d h. fit c.args.ids.now k d (sym c.in_default.ensures.index) h

pub invariant_of-result : goal.invariant_of-result
invariant_of-result c =
    let P : List ℕ → Type 0 = λ xs. AreIds xs in
    subst P (sym c.as_bytes.ensures) (are_ids c.args.ids.now (omega arith) (omega arith) (sym c.in_default.ensures.index)
    (sym c.in_default-first_repeat.ensures.index))

pub returns-clause-ids : goal.returns-clause-ids
returns-clause-ids c = ap (map pos) c.as_bytes.ensures ∙ same_numbers c.args.ids.now (sym c.in_default.ensures.index)
