use Rattle.std.proofs.Common.{◌≡◌, ◌+◌, ◌++◌, ap, sym, subst, ◌∙◌, arith}
use Rattle.sdh_ringmap.specs.Rates.{n_of}
use Rattle.sdh_overhead.specs.Sections.{SectionKept, UnderWay, next_of, is_framed, last_of, under_way_in}
use Rattle.sdh_overhead.specs.Rows.{AreRead}
use Rattle.sdh_overhead.proofs.Passing.{rows-next}
use Rattle.sdh_overhead.proofs.Reading.{still-framed}
use Rattle.sdh_overhead.proofs.section.Section.is_framed.Goals as goal

pub returns : goal.returns
returns c = λ line are.
    let s = c.self.inside in
    let r = s.rows in
    let u : UnderWay = under_way_in r in
    let n = n_of s.rate in
    let was = subst (λ (k : SectionKept). AreRead (n_of k.rate) k.last line k.under_way) (sym c.self.view_is) are in
    let next : c.args.row ≡ u.rows + 1 =
    c.requires.next ∙ sym (ap (λ (k : SectionKept). next_of k.under_way) c.self.view_is) ∙ rows-next u in
    still-framed n (last_of n s.known s.b1 s.b2) line c.args.bytes.now u (omega arith) was
    ∙ ap (λ (k : SectionKept). is_framed (n_of k.rate) (line ++ c.args.bytes.now)) c.self.view_is
