use Rattle.std.proofs.Common.{ap, ◌∙◌, set}
use Rattle.sdh_frame.proofs.Single.{set_pointer}
use Rattle.sdh_frame.proofs.view.put_pointer_byte.Goals as goal

pub returns : goal.returns
returns c =
    ap (λ k. set c.args.bytes.now k c.args.value) c.pointer_index.ensures.place
    ∙ set_pointer c.args.rate c.args.au c.args.index c.args.value c.args.bytes.now c.requires.size c.requires.first c.requires.last c.requires.index
