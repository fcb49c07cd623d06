use Rattle.std.proofs.Common.{[], ◌∙◌}
use Rattle.std.proofs.lemmas.List.{get_or_default}
use Rattle.sdh_interchange.proofs.Holding.{written_before, written_inside, written_keeps}
use Rattle.sdh_interchange.proofs.payloads.put_in.Goals as goal

pub returns-clause-before : goal.returns-clause-before
returns-clause-before c =
    written_before c.args.out.now c.args.a c.as_mut_slice.result.now c.put.new.out c.requires.there
    (c.as_mut_slice.ensures.bytes
    ∙ get_or_default c.args.out.now c.args.a _ [] c.requires.there) c.put.ensures.len c.args.at c.put.ensures.before

pub returns-clause-inside : goal.returns-clause-inside
returns-clause-inside c =
    written_inside c.args.out.now c.args.a c.as_mut_slice.result.now c.put.new.out c.requires.there
    (c.as_mut_slice.ensures.bytes
    ∙ get_or_default c.args.out.now c.args.a _ [] c.requires.there) c.put.ensures.len c.args.at c.args.lanes c.put.ensures.inside

pub returns-clause-keeps : goal.returns-clause-keeps
returns-clause-keeps c =
    written_keeps c.args.out.now c.args.a c.as_mut_slice.result.now c.put.new.out c.requires.there
    (c.as_mut_slice.ensures.bytes ∙ get_or_default c.args.out.now c.args.a _ [] c.requires.there) c.put.ensures.len
