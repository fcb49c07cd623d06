use Rattle.std.proofs.Common.{◌≡◌, ◌-◌, ◌+◌, length, ap, sym, ◌∙◌, arith, None}
use Rattle.std.proofs.lemmas.List.{get_or_default}
use Rattle.sdh_ringmap.specs.declared.Side.TheVariants.{West, East}
use Rattle.sdh_squelch.specs.Table.{SquelchTable, circuits_at, row_at}
use Rattle.sdh_squelch.proofs.Rows.{kept-are}
use Rattle.sdh_squelch.proofs.Table.row.Goals as goal

pub returns-in-West-clause-row : goal.returns-in-West-clause-row
returns-in-West-clause-row c =
    let t : SquelchTable = record { ring = c.self.inside.map; at = c.self.inside.at; circuits = c.self.inside.circuits.value.circuits } in
    let m = c.args.slot.0 in
    let read : c.index.result.now ≡ row_at c.self.inside.rows.items m West =
    c.index.ensures ∙ get_or_default c.self.inside.rows.items (m - 1) c.index.result.now None
    (omega (arith, c.self.invariant.sixteen, c.requires.slot.1)) in
    read ∙ ap (λ f. f West) (kept-are t c.self.inside.rows.items m c.self.invariant.rows_are c.requires.slot.0 c.requires.slot.1)
    ∙ ap (λ (t : SquelchTable). circuits_at (length t.ring) t.circuits t.at.0 m West) c.self.view_is
    ∙ ap (circuits_at (length c.args.self.now.ring) c.args.self.now.circuits c.args.self.now.at.0 m) (sym c.in-West.is)

pub returns-in-East-clause-row : goal.returns-in-East-clause-row
returns-in-East-clause-row c =
    let t : SquelchTable = record { ring = c.self.inside.map; at = c.self.inside.at; circuits = c.self.inside.circuits.value.circuits } in
    let m = c.args.slot.0 in
    let read : c.index-in-East.result.now ≡ row_at c.self.inside.rows.items m East =
    c.index-in-East.ensures ∙ get_or_default c.self.inside.rows.items (m + 7) c.index-in-East.result.now None
    (omega (arith, c.self.invariant.sixteen, c.requires.slot.1)) in
    read ∙ ap (λ f. f East) (kept-are t c.self.inside.rows.items m c.self.invariant.rows_are c.requires.slot.0 c.requires.slot.1)
    ∙ ap (λ (t : SquelchTable). circuits_at (length t.ring) t.circuits t.at.0 m East) c.self.view_is
    ∙ ap (circuits_at (length c.args.self.now.ring) c.args.self.now.circuits c.args.self.now.at.0 m) (sym c.in-East.is)
