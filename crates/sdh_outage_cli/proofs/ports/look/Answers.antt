use Rattle.std.proofs.Common.{◌≡◌, ◌∷◌, ap, sym, ◌∙◌}
use Rattle.sdh_circuits.specs.Ends.{other_end}
use Rattle.sdh_circuits.specs.Provisioned.{customer_at}
use Rattle.sdh_outage.specs.Kinds.{kind_of}
use Rattle.sdh_outage.specs.Kept.{Heard, heard}
use Rattle.sdh_outage_cli.specs.Streams.{holder_of}
use Rattle.sdh_outage_cli.proofs.ports.look.Goals as goal

pub returns-clause-hears : goal.returns-clause-hears
returns-clause-hears c = λ circuits x near there first last past is.
    let far = customer_at x (other_end c.args.port.end) in
    let whose = holder_of circuits c.args.port.circuit in
    let now = c.args.now.now in
    let then = c.kind_at-kind.new.listener in
    let kept = c.kind_at-kind.ensures.last in
    let came : now ≡ then.last = sym (ap (λ (h : Heard). h.last) kept) in
    let number = sym (ap (λ (h : Heard). h.round) kept) in
    let begun = kept ∙ (λ i. let h : Heard = record (is i) { last = came i } in h) in
    let before = ap (λ (h : Heard). h.last) is in
    let kind = c.kind_at-kind.ensures.kind circuits x near there ∙ (λ i. kind_of far whose (number i) (before i) (came i)) in
    c.hear.ensures.history far whose first last past begun kind
    ∙ ap (λ d. heard far whose first last (d ∷ past)) (sym came)
