use Rattle.std.proofs.Common.{◌≡◌, ℕ, ◌+◌, ◌*◌, ◌-◌, ◌≤◌, get_or, inl, inr, ap, sym, ◌∙◌, subst, arith}
use Rattle.sdh_interchange.specs.Taking.{HasTaken}
use Rattle.sdh_interchange.proofs.Halves.{half-four, half-sixteen}
use Rattle.sdh_interchange.proofs.payloads.take_block.Goals as goal

pub returns-then-this-eq4 : goal.returns-then-this-eq4
returns-then-this-eq4 g c =
    let r = c.args.r in
    let q = c.args.c in
    let at : c.byte_of-at.result ≡ 4 * (270 * r + (9 + q)) =
    c.byte_of-at.ensures.place ∙ ap (λ m. m * (270 * r + (9 + q))) c.if-this-eq4.true in
    let here : ℕ = c.byte_of-at.result + c.args.base - 2 in
    let place : here + 2 ≡ 4 * (270 * r + (9 + q)) + c.args.base = omega arith in
    subst (λ m. HasTaken m c.args.base (261 * r + q) (261 * r + (q + 16)) c.args.bytes.now c.args.out.now c.put_all.new.out)
    (sym c.if-this-eq4.true)
    (half-four c.args.bytes.now c.args.out.now c.put_all.new.out c.last_two-payloads.result c.load.result c.args.base r q c.requires.row c.requires.column c.put_all.ensures.before c.put_all.ensures.inside c.put_all.ensures.keeps
    here c.last_two-payloads.ensures.table.rows place c.last_two-payloads.ensures.each c.load.ensures.each)

pub returns-else-this-eq4 : goal.returns-else-this-eq4
returns-else-this-eq4 g c =
    let r = c.args.r in
    let q = c.args.c in
    let n : g.row.N ≡ 16 = elim c.requires.rate [ inl four ↦ absurd (c.if-this-eq4.false four) | inr sixteen ↦ sixteen ] in
    let at : c.byte_of-at.result ≡ 16 * (270 * r + (9 + q)) = c.byte_of-at.ensures.place ∙ ap (λ m. m * (270 * r + (9 + q))) n in
    let low : c.args.base ≤ 8 = elim c.requires.base [ inl none ↦ omega arith | inr twice ↦ omega (arith, n) ] in
    subst (λ m. HasTaken m c.args.base (261 * r + q) (261 * r + (q + 16)) c.args.bytes.now c.args.out.now c.put_all-else-this-eq4.new.out)
    (sym n)
    (half-sixteen c.args.bytes.now c.args.out.now c.put_all-else-this-eq4.new.out c.lanes_from-payloads.result c.load-else-this-eq4.result c.args.base r q c.requires.row c.requires.column c.put_all-else-this-eq4.ensures.before c.put_all-else-this-eq4.ensures.inside c.put_all-else-this-eq4.ensures.keeps
    c.lanes_from-payloads.ensures.table.rows low c.lanes_from-payloads.ensures.each
    (λ k j small h. c.load-else-this-eq4.ensures.each k j small h ∙ ap (λ m. get_or c.args.bytes.now (m + (16 * k + j)) 0) at))
