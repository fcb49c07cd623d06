use Rattle.std.proofs.Common.{◌≡◌, ◌+◌, ◌%◌, length, ap, ◌∙◌, sym, arith}
use Rattle.sdh_payload.proofs.Repeating.{text_len, row_short, row_long}
use Rattle.sdh_payload.proofs.repeated.Repeated.behind.Goals as goal

pub returns-then-next-self : goal.returns-then-next-self
returns-then-next-self c =
    let len : length c.args.self.now ≡ c.self.inside.len =
    ap length (sym c.self.view_is) ∙ text_len c.self.inside.bytes c.self.inside.len c.self.invariant.repeats in
    row_short c.args.place c.self.inside.len c.self.inside.after_row
    (omega (arith, len, c.requires.place)) c.self.invariant.after_row c.if-next-self.true
    ∙ ap (λ n. (c.args.place + n) % c.self.inside.len) (omega (arith, c.if-count-lt-ROW.false, c.requires.count))
    ∙ ap (λ n. (c.args.place + c.args.count) % n) (sym len)

pub returns-else-next-self : goal.returns-else-next-self
returns-else-next-self c =
    let len : length c.args.self.now ≡ c.self.inside.len =
    ap length (sym c.self.view_is) ∙ text_len c.self.inside.bytes c.self.inside.len c.self.invariant.repeats in
    row_long c.args.place c.self.inside.len c.self.inside.after_row
    (omega (arith, len, c.requires.place)) c.self.invariant.after_row c.if-next-self.false
    ∙ ap (λ n. (c.args.place + n) % c.self.inside.len) (omega (arith, c.if-count-lt-ROW.false, c.requires.count))
    ∙ ap (λ n. (c.args.place + c.args.count) % n) (sym len)
