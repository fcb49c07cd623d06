use Rattle.std.proofs.Common.{length, ap, ◌∙◌}
use Rattle.sdh_payload.specs.Walk.{containers_from}
use Rattle.sdh_payload.proofs.Splicing.{written_whole}
use Rattle.sdh_payload.proofs.walk.Walk.fill.Goals as goal

pub returns-clause-bytes : goal.returns-clause-bytes
returns-clause-bytes c =
    let many = ap length c.as_mut_slice.ensures.bytes ∙ c.make_room.ensures.count in
    written_whole c.as_mut_slice.result.now c.fill_all.new.out c.fill_all.auto.out ∙ c.fill_all.ensures.bytes
    ∙ ap (containers_from c.args.self.now.port c.args.self.now.at) many
