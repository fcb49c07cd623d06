use Rattle.std.proofs.Common.{◌≡◌, ◌+◌, ◌*◌, ◌++◌, length, drop, ap, sym, subst, ◌∙◌}
use Rattle.sdh_ringmap.specs.Rates.{n_of}
use Rattle.sdh_parity.specs.Pieces.{after_bytes}
use Rattle.sdh_overhead.specs.Sections.{SectionKept, UnderWay, under_way_of, next_of, under_way_in}
use Rattle.sdh_overhead.specs.Rows.{ArePassed, skipped}
use Rattle.sdh_overhead.proofs.Passing.{as-passed, one-more, rows-next, may-write}
use Rattle.sdh_overhead.proofs.section.Section.send.Goals as goal

pub returns-clause-passed : goal.returns-clause-passed
returns-clause-passed c = λ clear line are.
    let s = c.self.inside in
    let r = s.rows in
    let t = c.send.new.self in
    let u : UnderWay = under_way_in r in
    let v : UnderWay = under_way_in t in
    let n = n_of s.rate in
    let rate : n_of s.rate ≡ n_of c.args.self.now.rate = ap (λ (k : SectionKept). n_of k.rate) c.self.view_is in
    let was : ArePassed n clear line (under_way_of u) =
    subst (λ m. ArePassed m clear line (under_way_of u)) (sym rate)
    (subst (ArePassed (n_of c.args.self.now.rate) clear line) (sym (ap (λ (k : SectionKept). k.under_way) c.self.view_is)) are) in
    let next : c.args.row ≡ u.rows + 1 =
    c.requires.next ∙ sym (ap (λ (k : SectionKept). next_of k.under_way) c.self.view_is) ∙ rows-next u in
    let long : length c.args.bytes.now ≡ 270 * n = c.requires.bytes ∙ ap (λ k. 270 * k) (sym rate) in
    subst (λ m. ArePassed m (clear ++ c.args.bytes.now) (line ++ c.send.new.bytes) (under_way_of v)) rate
    (one-more n c.args.row clear line c.args.bytes.now c.send.new.bytes u v
    (as-passed n r.scrambler clear line u c.self.invariant.placed was) next c.send.ensures.passed long c.send.auto.bytes c.send.ensures.line
    (λ before e. subst (λ m. t.clear ≡ after_bytes m (before ++ drop (skipped m c.args.row) c.args.bytes.now)) c.n.ensures
    (c.send.ensures.clear before (e ∙ ap (λ m. after_bytes m before) (sym c.n.ensures)))))

pub returns-clause-way : goal.returns-clause-way
returns-clause-way c =
    let t = c.send.new.self in
    may-write (under_way_in t) c.send.ensures.written
