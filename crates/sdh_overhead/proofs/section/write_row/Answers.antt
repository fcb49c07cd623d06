use Rattle.std.proofs.Common.{◌*◌, ◌++◌, ap, sym, subst, ◌∙◌, arith}
use Rattle.sdh_ringmap.specs.declared.terms.Rate.{Rate}
use Rattle.sdh_ringmap.specs.Rates.{n_of}
use Rattle.sdh_overhead.specs.Sections.{MayWrite}
use Rattle.sdh_overhead.specs.Rows.{HasSent}
use Rattle.sdh_overhead.proofs.Passing.{rate_some, sent-more, sent-all}
use Rattle.sdh_overhead.proofs.section.write_row.Goals as goal

pub returns-then-row-lt9-clause-section : goal.returns-then-row-lt9-clause-section
returns-then-row-lt9-clause-section c = λ first clear line h.
    let long = c.send.auto.bytes ∙ c.place.auto.bytes ∙ c.requires.bytes ∙ ap (λ (r : Rate). 270 * n_of r) h.rate in
    subst (λ l. HasSent first (clear ++ l) (line ++ c.send.new.bytes) c.send.new.self) c.place.ensures
    (sent-more first c.args.section.now c.send.new.self c.args.row clear line c.place.new.bytes c.send.new.bytes h
    (rate_some first.rate) c.requires.next long c.send.ensures.rate c.send.ensures.last (c.send.ensures.passed clear line)
    (omega arith))

pub returns-clause-section : goal.returns-clause-section
returns-clause-section c = λ first clear line h.
    let long = c.send.auto.bytes ∙ c.place.auto.bytes ∙ c.requires.bytes ∙ ap (λ (r : Rate). 270 * n_of r) h.rate in
    subst (λ l. HasSent first (clear ++ l) (line ++ c.send.new.bytes) c.end.new.self) c.place.ensures
    (sent-all first c.args.section.now c.send.new.self c.args.row clear line c.place.new.bytes c.send.new.bytes h
    (rate_some first.rate) c.requires.next long c.send.ensures.rate c.send.ensures.last (c.send.ensures.passed clear line)
    (omega arith) c.end.new.self c.end.ensures.last c.end.ensures.rate)

pub returns-clause-way : goal.returns-clause-way
returns-clause-way c = subst MayWrite (sym c.end.ensures.under_way) tt
