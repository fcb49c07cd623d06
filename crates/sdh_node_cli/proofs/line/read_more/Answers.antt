use Rattle.std.proofs.Common.{◌≡◌, ◌+◌, ◌≤◌, ◌⊎◌, List, length, ap, subst, arith}
use Rattle.sdh_report.specs.Written.{Written}
use Rattle.sdh_ringmap.specs.declared.Pos.{Pos}
use Rattle.sdh_circuits.specs.Provisioned.{Provisioned}
use Rattle.sdh_node_cli.specs.Streams.{MayRead}
use Rattle.sdh_node_cli.proofs.Newlines.{rest_taken, at_most}
use Rattle.sdh_node_cli.proofs.line.read_more.Goals as goal

pub returns-in-Some-clause-took : goal.returns-in-Some-clause-took
returns-in-Some-clause-took g c =
    let r = c.in-Some.ensures.rest in
    let asked = c.asked_for.result in
    let bound = c.in_ok-count.ensures.bound in
    let few : c.in_ok-count.count ≤ asked = omega (arith, bound.0, bound.1, at_most _ _ _ c.read.auto.buf) in
    let lacking =
    subst (λ l. ((circuits : List Provisioned) (at : Pos) → MayRead circuits at l (asked + length l)) ⊎ (asked ≡ 1)) c.bytes.ensures
    c.asked_for.ensures.lacking in
    rest_taken c.in_ok-count.count c.in-Some.at asked c.read.new.buf _ c.args.line.now.bytes c.put_front.new.line.bytes c.first_of.result _ _
    r.0 r.1 (ap (λ (w : Written). w.bytes) r.2) c.in_ok-count.ensures.bytes.0 bound.0 few lacking c.first_of.ensures
