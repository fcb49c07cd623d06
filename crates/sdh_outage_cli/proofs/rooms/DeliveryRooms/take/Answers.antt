use Rattle.std.proofs.Common.{◌≡◌, [], length, ap, sym, ◌∙◌, arith}
use Rattle.std.proofs.Math.ListN.{set, length-set}
use Rattle.std.proofs.lemmas.List.{get_or-set_same}
use Rattle.std.specs.Prelude.{slice_index_or}
use Rattle.sdh_terminal.specs.Tributaries.{outlets_of}
use Rattle.sdh_terminal.proofs.Waiting.{count_outlets}
use Rattle.sdh_node.specs.Node.{Node}
use Rattle.sdh_node.specs.Rings.Held.{node_at}
use Rattle.sdh_outage_cli.specs.Rooms.{Rooms}
use Rattle.sdh_outage_cli.proofs.Counting.{room_at, room_for, rooms_set, node_there}
use Rattle.sdh_outage_cli.proofs.rooms.DeliveryRooms.take.Goals as goal

pub deliver-requires : goal.deliver-requires
deliver-requires c =
    let rooms = c.self.inside.rooms.items in
    let k = c.index-count.result.now in
    let for =
    room_for c.args.ring.now c.self.inside.counts.items rooms c.args.at.0 k c.node-node.result.now
    (ap (λ (x : Rooms). x.counts) c.self.view_is ∙ c.requires.rooms) c.node-node.ensures c.self.invariant.fit c.index-count.ensures in
    ap length c.index_mut-room.ensures.value ∙ room_at rooms k c.index_mut-room.result.now c.self.invariant.sized for.1 ∙ for.0

pub invariant_of-self : goal.invariant_of-self
invariant_of-self c =
    let rooms = c.self.inside.rooms.items in
    let k = c.index-count.result.now in
    let n = c.node-node.result.now in
    let new = c.deliver.new.outlets in
    let for =
    room_for c.args.ring.now c.self.inside.counts.items rooms c.args.at.0 k n
    (ap (λ (x : Rooms). x.counts) c.self.view_is ∙ c.requires.rooms) c.node-node.ensures c.self.invariant.fit c.index-count.ensures in
    let size : length (set rooms k new) ≡ length rooms = length-set rooms k new in
    record {
      sized = rooms_set rooms k new c.self.invariant.sized for.1 (ap length c.deliver.ensures ∙ count_outlets n.ports ∙ sym for.0);
      fit = λ i lt. (let h = c.self.invariant.fit i lt in omega (arith, h, size));
      last = omega (arith, for.1, size);
    }

pub returns : goal.returns
returns c =
    let r = c.args.ring.now in
    let rooms = c.self.inside.rooms.items in
    let k = c.index-count.result.now in
    let n = c.node-node.result.now in
    let new = c.deliver.new.outlets in
    let for =
    room_for r c.self.inside.counts.items rooms c.args.at.0 k n
    (ap (λ (x : Rooms). x.counts) c.self.view_is ∙ c.requires.rooms) c.node-node.ensures c.self.invariant.fit c.index-count.ensures in
    let same = ap (λ (x : Rooms). x.counts) c.self.view_is in
    let took : slice_index_or (set rooms k new) k [] ≡ outlets_of (node_at r.nodes c.args.at.0).ports =
    get_or-set_same rooms k new [] for.1 ∙ c.deliver.ensures
    ∙ ap (λ (m : Node). outlets_of m.ports) (sym (node_there r c.args.at.0 n c.node-node.ensures)) in
    λ i. record { counts = same i; taken = took i }
