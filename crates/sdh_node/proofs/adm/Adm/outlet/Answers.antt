use Rattle.std.proofs.Common.{◌≡◌, length, get_or, ap, sym, subst, ◌∙◌, arith}
use Rattle.sdh_payload.specs.Outlet.{silent}
use Rattle.sdh_terminal.specs.Tributaries.{HasPort, outlet_of, outlets_of}
use Rattle.sdh_terminal.proofs.Waiting.{count_outlets, outlet_in_place}
use Rattle.sdh_node.specs.Crossing.{all_delivered}
use Rattle.sdh_node.specs.Node.{Node}
use Rattle.sdh_node.proofs.Later.{count_waits, has_waits, place_waits}
use Rattle.sdh_node.proofs.adm.Adm.outlet.Goals as goal

pub place_of-place-requires : goal.place_of-place-requires
place_of-place-requires g c =
    let i = c.self.inside in
    has_waits i.cross c.args.port i.ports (subst (λ (n : Node). HasPort n.ports c.args.port) (sym c.self.view_is) c.requires.there)

pub at-requires : goal.at-requires
at-requires g c =
    let i = c.self.inside in
    let within = c.place_of-place.ensures.within in
    let many : length c.args.outlets.now ≡ length i.ports =
    ap length c.requires.outlets ∙ count_outlets c.args.self.now.ports ∙ sym (ap (λ (n : Node). length n.ports) c.self.view_is)
    ∙ count_waits i.cross i.ports in
    omega (arith, within, many)

pub returns : goal.returns
returns g c =
    let i = c.self.inside in
    c.at.ensures ∙ ap (λ os. get_or os c.place_of-place.result silent) c.requires.outlets
    ∙ ap (λ (n : Node). get_or (outlets_of n.ports) c.place_of-place.result silent) (sym c.self.view_is)
    ∙ outlet_in_place c.args.port (all_delivered i.cross i.ports) c.place_of-place.result silent
    (place_waits i.cross c.args.port i.ports ∙ c.place_of-place.ensures.place)
    ∙ ap (λ (n : Node). outlet_of c.args.port n.ports) c.self.view_is
