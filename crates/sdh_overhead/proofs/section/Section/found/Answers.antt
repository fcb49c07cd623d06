use Rattle.std.proofs.Common.{◌≡◌, ◌+◌, true, ap, sym, subst, ◌∙◌}
use Rattle.sdh_ringmap.specs.Rates.{n_of}
use Rattle.sdh_overhead.specs.Sections.{SectionKept, UnderWay, next_of, is_framed, last_of, received_in, under_way_in}
use Rattle.sdh_overhead.specs.Rows.{AreRead}
use Rattle.sdh_overhead.proofs.Passing.{rows-next}
use Rattle.sdh_overhead.proofs.Reading.{found-is}
use Rattle.sdh_overhead.proofs.section.Section.found.Goals as goal

pub returns : goal.returns
returns c = λ line are framed.
    let s = c.self.inside in
    let r = s.rows in
    let u : UnderWay = under_way_in r in
    let was = subst (λ (k : SectionKept). AreRead (n_of k.rate) k.last line k.under_way) (sym c.self.view_is) are in
    let nine : u.rows + 1 ≡ 10 = sym (rows-next u) ∙ ap (λ (k : SectionKept). next_of k.under_way) c.self.view_is ∙ c.requires in
    let is : is_framed (n_of s.rate) line ≡ true = ap (λ (k : SectionKept). is_framed (n_of k.rate) line) c.self.view_is ∙ framed in
    found-is (n_of s.rate) (last_of (n_of s.rate) s.known s.b1 s.b2) line u nine was is
    ∙ ap (λ (k : SectionKept). received_in (n_of k.rate) k.last line) c.self.view_is
