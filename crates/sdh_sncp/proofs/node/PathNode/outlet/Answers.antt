use Rattle.std.proofs.Common.{◌≡◌, length, get_or, ap, sym, subst, ◌∙◌, arith}
use Rattle.sdh_payload.specs.Outlet.{silent}
use Rattle.sdh_terminal.specs.Tributaries.{HasPort, outlet_of, outlets_of}
use Rattle.sdh_terminal.proofs.Waiting.{count_outlets, outlet_in_place, place-waiting, has-under}
use Rattle.sdh_sncp.specs.Node.{PathNode, path_dropped_to}
use Rattle.sdh_sncp.proofs.Waiting.{delivers, count_waits}
use Rattle.sdh_sncp.proofs.node.PathNode.outlet.Goals as goal

pub place_of-place-requires : goal.place_of-place-requires
place_of-place-requires c =
    let i = c.self.inside in
    has-under (path_dropped_to i.cross) c.args.port i.ports
    (subst (λ (n : PathNode). HasPort n.ports c.args.port) (sym c.self.view_is) c.requires.there)

pub at-requires : goal.at-requires
at-requires c =
    let i = c.self.inside in
    let within = c.place_of-place.ensures.within in
    let many : length c.args.outlets.now ≡ length i.ports =
    ap length c.requires.outlets ∙ count_outlets c.args.self.now.ports ∙ sym (ap (λ (n : PathNode). length n.ports) c.self.view_is)
    ∙ count_waits i.cross i.ports in
    omega (arith, within, many)

pub returns : goal.returns
returns c =
    let i = c.self.inside in
    c.at.ensures ∙ ap (λ os. get_or os c.place_of-place.result silent) c.requires.outlets
    ∙ ap (λ (n : PathNode). get_or (outlets_of n.ports) c.place_of-place.result silent) (sym c.self.view_is)
    ∙ outlet_in_place c.args.port (delivers i.cross i.ports) c.place_of-place.result silent
    (place-waiting (path_dropped_to i.cross) c.args.port i.ports ∙ c.place_of-place.ensures.place)
    ∙ ap (λ (n : PathNode). outlet_of c.args.port n.ports) c.self.view_is
