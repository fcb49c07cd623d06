use Rattle.std.proofs.Common.{List, ℕ, ◌-◌, length, ap, ◌∙◌, arith}
use Rattle.std.proofs.lemmas.List.{with_items_is}
use Rattle.sdh_node_cli.specs.Pairs.{FramePair}
use Rattle.sdh_node_cli.proofs.Places.{pair_in, placed, lines_placed}
use Rattle.sdh_node_cli.proofs.pair.Pair.put_lines.Goals as goal

pub returns : goal.returns
returns c =
    let room = c.self.inside in
    let lines = c.args.lines.now in
    let start : ℕ = room.at - length lines in
    let items = with_items_is room.bytes c.place.new.bytes (omega (arith, c.place.auto.bytes, c.as_mut_slice.ensures.len)) in
    let view : List ℕ → FramePair = pair_in room.rate start room.at in
    ap view (items ∙ c.place.ensures ∙ ap (placed start lines) c.as_mut_slice.ensures.value)
    ∙ lines_placed room.rate room.from room.at lines room.bytes.items (omega (arith, c.requires, c.self.invariant.lines)) c.self.invariant.frames
    ∙ ap (λ (l : FramePair). record l { lines = lines }) c.self.view_is
