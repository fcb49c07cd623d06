use Rattle.std.proofs.Common.{◌≡◌, ◌++◌, Some, refl, ap, ap₂, sym, ◌∙◌, arith}
use Rattle.std.specs.Prelude.{slice_get, Option}
use Rattle.std.proofs.lemmas.Option.{slice_get_read}
use Rattle.sdh_circuits.specs.Provisioned.{Provisioned}
use Rattle.sdh_outage_cli.specs.Ports.{heard_lines, outage_port_lines}
use Rattle.sdh_outage_cli.specs.declared.ports.ListenerPair.{ListenerPair}
use Rattle.sdh_outage_cli.proofs.lines.put_listed.Goals as goal

pub returns-clause-bytes : goal.returns-clause-bytes
returns-clause-bytes c =
    let cs = c.args.circuits.now.circuits in
    let items = c.args.items.now.items in
    let i = c.args.port.circuit in
    let end = c.args.port.end in
    let named = c.get-named.result.now in
    let both = c.index-both.result.now in
    let at : slice_get items i ≡ Some both =
    slice_get_read items _ i both refl (omega (arith, c.requires.many, c.requires.port)) c.index-both.ensures in
    let is = ap₂ (λ (x : Option Provisioned) (y : Option ListenerPair). outage_port_lines cs x y end) c.get-named.ensures at in
    c.put_heard.ensures.bytes ∙ ap (λ l. c.args.text.now.bytes ++ l) (ap (heard_lines cs named.name end) c.at.ensures ∙ sym is)
