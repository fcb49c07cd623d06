use Rattle.std.proofs.Common.{◌++◌, set, take, add-one, ap, ◌∙◌}
use Rattle.std.proofs.Math.Seq.{take-suc-set}
use Rattle.sdh_payload.proofs.walk.Walk.put_overhead.Goals as goal

pub returns-clause-bytes : goal.returns-clause-bytes
returns-clause-bytes c =
    ap (λ n. take n (set c.args.out.now c.args.done c.next_overhead.result)) (add-one c.args.done)
    ∙ take-suc-set c.args.out.now c.args.done c.next_overhead.result c.requires.room
    ∙ ap (λ l. take c.args.done c.args.out.now ++ l) c.next_overhead.ensures.byte
