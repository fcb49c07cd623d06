use Rattle.std.proofs.Common.{◌≡◌, ◌+◌, ◌*◌, ◌-◌, ◌++◌, true, length, take, drop, get_or, ap, sym, subst, refl, ◌∙◌}
use Rattle.std.specs.Prelude.{◌==◌, if◌then◌else◌}
use Rattle.sdh_ringmap.specs.Rates.{n_of}
use Rattle.sdh_parity.specs.Pieces.{after_bytes, scrambled_from}
use Rattle.sdh_parity.specs.Violations.{differing_bits, violations_of}
use Rattle.sdh_overhead.specs.Sections.{SectionKept, UnderWay, next_of, under_way_of, is_framed, under_way_in}
use Rattle.sdh_overhead.specs.Rows.{AreRead, skipped}
use Rattle.sdh_overhead.proofs.Passing.{rate_some, rows-next, may-read}
use Rattle.sdh_overhead.proofs.Reading.{read-more}
use Rattle.sdh_overhead.proofs.section.Section.receive.Goals as goal

pub returns-clause-read : goal.returns-clause-read
returns-clause-read c = λ line are framed.
    let s = c.self.inside in
    let r = s.rows in
    let t = c.receive.new.self in
    let row = c.args.row in
    let u : UnderWay = under_way_in r in
    let v : UnderWay = record (under_way_in t) {
      framed = true;
      k1 = c.k_after-self-inside.result;
      k2 = c.k_after-self-inside-2.result;
      b1 = c.b1_after-self-inside.result;
      b2 = c.b2_after-self-inside.result;
    } in
    let n = n_of s.rate in
    let m = c.n-n.result in
    let new = c.receive.new.bytes in
    let same : m ≡ n = c.n-n.ensures in
    let rate : n ≡ n_of c.args.self.now.rate = ap (λ (k : SectionKept). n_of k.rate) c.self.view_is in
    let was = subst (λ (k : SectionKept). AreRead (n_of k.rate) k.last line k.under_way) (sym c.self.view_is) are in
    let next : row ≡ u.rows + 1 = c.requires.next ∙ sym (ap (λ (k : SectionKept). next_of k.under_way) c.self.view_is) ∙ rows-next u in
    let long : length c.args.bytes.now ≡ 270 * n = c.requires.bytes ∙ ap (λ k. 270 * k) (sym rate) in
    subst (λ (k : SectionKept). AreRead (n_of k.rate) k.last (line ++ c.args.bytes.now) (under_way_of v)) c.self.view_is
    (read-more n row s.known s.b1 s.b2 line c.args.bytes.now new r.scrambler u v (rate_some s.rate) c.self.invariant.placed was
    (ap (λ (k : SectionKept). is_framed (n_of k.rate) (line ++ c.args.bytes.now)) c.self.view_is
    ∙ framed) next c.receive.ensures.passed refl long
    (c.receive.ensures.bytes ∙ ap (λ k. scrambled_from (9 * k) ((row - 1) * (270 * k)) c.args.bytes.now) same)
    (sym c.receive.auto.bytes) c.receive.ensures.line
    (λ before e. subst (λ k. t.clear ≡ after_bytes k (before ++ drop (skipped k row) new)) same
    (c.receive.ensures.clear before (e ∙ ap (λ k. after_bytes k before) (sym same))))
    (c.k_after-self-inside.ensures ∙ ap (λ x. if row == 5 then get_or new (3 * m) 0 else x) c.receive.ensures.k1
    ∙ ap (λ k. if row == 5 then get_or new (3 * k) 0 else r.k1) same)
    (c.k_after-self-inside-2.ensures ∙ ap (λ x. if row == 5 then get_or new (6 * m) 0 else x) c.receive.ensures.k2
    ∙ ap (λ k. if row == 5 then get_or new (6 * k) 0 else r.k2) same)
    (c.b1_after-self-inside.ensures ∙ ap (λ x. if row == 2 then (if s.known then differing_bits s.b1 (get_or new 0 0) else 0)
    else x) c.receive.ensures.b1)
    (c.b2_after-self-inside.ensures ∙ ap (λ x. if row == 5 then
    (if s.known then violations_of (take (3 * m) s.b2) (take (3 * m) new) else 0) else x) c.receive.ensures.b2
    ∙ ap (λ k. if row == 5 then (if s.known then violations_of (take (3 * k) s.b2) (take (3 * k) new) else 0) else r.b2) same))

pub returns-clause-way : goal.returns-clause-way
returns-clause-way c =
    let t = c.receive.new.self in
    may-read (record (under_way_in t) {
      framed = true;
      k1 = c.k_after-self-inside.result;
      k2 = c.k_after-self-inside-2.result;
      b1 = c.b1_after-self-inside.result;
      b2 = c.b2_after-self-inside.result;
    }) c.receive.ensures.written
