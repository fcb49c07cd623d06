use Rattle.sdh_overhead.specs.Sections.{under_way_in}
use Rattle.sdh_overhead.proofs.Passing.{may-read}
use Rattle.sdh_overhead.proofs.section.Section.pass_over.Goals as goal

pub returns-clause-way : goal.returns-clause-way
returns-clause-way c =
    let t = c.pass_over.new.self in
    may-read (under_way_in t) c.pass_over.ensures.written
