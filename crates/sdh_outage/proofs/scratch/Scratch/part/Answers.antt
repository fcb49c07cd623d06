use Rattle.std.proofs.Common.{◌≡◌, ◌+◌, ◌-◌, take, drop, ◌∙◌, arith}
use Rattle.sdh_outage.proofs.scratch.Scratch.part.Goals as goal

pub returns-clause-bytes : goal.returns-clause-bytes
returns-clause-bytes c =
    let at = c.args.at in
    let count : at + 2349 - at ≡ 2349 = omega arith in
    let bytes = c.deref.ensures.value ∙ c.self.view_is in
    λ i. take (count i) (drop at (bytes i))
