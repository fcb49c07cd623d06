use Rattle.std.proofs.Common.{ℕ, ◌+◌, ◌<◌, List, length, ap, sym, ◌∙◌, subst}
use Rattle.std.specs.List.{All}
use Rattle.std.proofs.lemmas.List.Elements.{All-nil}
use Rattle.sdh_squelch.specs.Table.{rows_of, HasEnds, circuits_at}
use Rattle.sdh_ringmap.specs.declared.Side.TheVariants.{West, East}
use Rattle.sdh_squelch.proofs.Rows.{sixteen-rows, all-rows}
use Rattle.sdh_squelch.proofs.Table.try_new.Goals as goal

pub invariant_of-result : goal.invariant_of-result
unfolding rows_of
invariant_of-result c =
    let ids = c.args.map.now in let n = length ids in let circuits = c.args.circuits.now.circuits in let p = c.args.at.0 in
    let made =
    all-rows n circuits p c.span.result.0 c.span-2.result.0 c.in_ok-rows.rows.items c.add_rows.new.rows.items c.add_rows-2.new.rows.items
    c.in_ok-rows.ensures.items c.span.ensures.place c.span-2.ensures.place (c.in_ok-add_rows.ensures.rows ids c.requires.kept)
    (c.in_ok-add_rows-2.ensures.rows ids c.requires.kept) in
    let none : All (HasEnds n) c.in_ok-rows.rows.items = subst (All (HasEnds n)) (sym c.in_ok-rows.ensures.items) (All-nil (HasEnds n)) in
    let ends = c.in_ok-add_rows-2.ensures.ends ids c.requires.kept (c.in_ok-add_rows.ensures.ends ids c.requires.kept none) in
    let ring = sym c.copy.ensures in
    let kept = sym c.of.ensures in
    record {
      rows_are = made ∙ λ i. rows_of (record { ring = ring i; at = c.args.at; circuits = (kept i).circuits });
      sixteen = ap length made ∙ sixteen-rows (λ i. circuits_at n circuits p (i + 1) West) (λ i. circuits_at n circuits p (i + 1) East);
      inside = subst (λ (l : List ℕ). c.args.at.0 < length l) ring c.requires.at;
      ends = subst (λ (l : List ℕ). All (HasEnds (length l)) c.add_rows-2.new.rows.items) ring ends;
    }
