use Rattle.std.proofs.Common.{◌≡◌, List, ℕ, length, ap, sym, ◌∙◌, arith}
use Rattle.std.proofs.lemmas.List.{with_items_is}
use Rattle.sdh_ringmap.specs.Rates.{n_of}
use Rattle.sdh_ringmap.specs.Places.{opposite}
use Rattle.sdh_frame.specs.Sizes.{size_of}
use Rattle.sdh_overhead.specs.Sections.{line_frame}
use Rattle.sdh_node_cli.specs.Pairs.{FramePair, frame_on}
use Rattle.sdh_node_cli.proofs.Places.{pair_in, placed, start_is, other_stays}
use Rattle.sdh_node_cli.proofs.pair.PairExit.seal.Goals as goal

pub returns-clause-other : goal.returns-clause-other
returns-clause-other c = λ buffer.
    let room = c.self.inside in
    let side = opposite c.args.side in
    let section = c.args.section.now in
    let line = line_frame (n_of section.rate) section.last c.args.k1 c.args.k2 c.args.frame.now.bytes in
    let items = with_items_is room.bytes c.seal_at.new.bytes (omega (arith, c.seal_at.auto.bytes, c.as_mut_slice.ensures.len)) in
    let size : length line ≡ size_of room.rate =
    c.seal_at.ensures.line ∙ sym (ap (λ (l : FramePair). size_of l.rate) c.self.view_is ∙ ap size_of c.requires.fits) in
    let start = start_is c.args.side room.rate room.at c.start_on-at.result c.start_on-at.ensures.west c.start_on-at.ensures.east in
    let view : List ℕ → FramePair = pair_in room.rate room.from room.at in
    ap (λ b. frame_on side (view b)) (items ∙ c.seal_at.ensures.bytes
    ∙ (λ i. placed (start i) line (c.as_mut_slice.ensures.value i)))
    ∙ other_stays c.args.side room.rate room.from room.at line room.bytes.items size c.self.invariant.frames
    ∙ ap (frame_on side) c.self.view_is
