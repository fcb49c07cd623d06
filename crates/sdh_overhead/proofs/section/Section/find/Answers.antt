use Rattle.std.proofs.Common.{refl, ap, ◌∙◌}
use Rattle.sdh_ringmap.specs.Rates.{n_of}
use Rattle.sdh_overhead.specs.Sections.{SectionKept, found_in}
use Rattle.sdh_overhead.proofs.Opening.{finds}
use Rattle.sdh_overhead.proofs.section.Section.find.Goals as goal

pub returns : goal.returns
returns c =
    let s = c.self.inside in
    finds (n_of s.rate) c.n-n.result _ _ _ _ s.known s.b1 s.b2 c.args.bytes.now c.n-n.ensures refl refl c.b1_after.ensures c.b2_after.ensures ∙ ap (λ (k : SectionKept). found_in (n_of k.rate) k.last c.args.bytes.now) c.self.view_is
