use Rattle.std.proofs.Common.{◌≡◌, List, ℕ, length, take, ap, subst, sym, ◌∙◌, arith}
use Rattle.std.specs.Prelude.{OnOk}
use Rattle.std.specs.Io.KnownBytes.{Consumes}
use Rattle.std.proofs.lemmas.List.{with_items_is}
use Rattle.std.specs.List.{between}
use Rattle.sdh_node_cli.specs.Pairs.{FramePair, both_in}
use Rattle.sdh_node_cli.specs.Turns.{with_ahead}
use Rattle.sdh_node_cli.proofs.Places.{pair_in, both_is, lines_stay}
use Rattle.sdh_node_cli.proofs.pair.Pair.read.Goals as goal

pub returns-clause-ok : goal.returns-clause-ok
returns-clause-ok g c =
    let room = c.self.inside in
    let left = g.R.Source.left in
    let bytes = c.read_at.new.buf in
    let size : length bytes ≡ length room.bytes.items = omega (arith, c.read_at.auto.buf, c.as_mut_slice.ensures.len) in
    let items = with_items_is room.bytes bytes (omega (arith, c.read_at.auto.buf, c.as_mut_slice.ensures.len)) in
    subst
    (λ (frames : List ℕ). OnOk c.read_at.result (Consumes (with_ahead c.args.first (left c.args.source.now)) (left c.read_at.new.source) (take c.args.size frames)))
    (both_is room.rate room.from room.at bytes (size ∙ c.self.invariant.frames) ∙ ap (λ b. both_in (pair_in room.rate room.from room.at b)) (sym items))
    c.read_at.ensures.ok

pub returns-clause-lines : goal.returns-clause-lines
returns-clause-lines g c =
    let room = c.self.inside in
    let bytes = c.read_at.new.buf in
    let items = with_items_is room.bytes bytes (omega (arith, c.read_at.auto.buf, c.as_mut_slice.ensures.len)) in
    ap (between room.from room.at) items
    ∙ lines_stay room.from room.at room.bytes.items bytes (c.read_at.ensures.front ∙ ap (take room.at) c.as_mut_slice.ensures.value)
    ∙ ap (λ (l : FramePair). l.lines) c.self.view_is
