use Rattle.std.proofs.Common.{◌≡◌, ◌-◌, ◌*◌, true, false, ap, subst, ◌∙◌, arith}
use Rattle.sdh_payload.specs.Stream.{stream_from}
use Rattle.sdh_outage.specs.Near.{near, is_part}
use Rattle.sdh_outage.specs.Kinds.{jumps}
use Rattle.sdh_outage.specs.Kept.{Nearby, Stands}
use Rattle.sdh_outage.proofs.Windows.{follows_near}
use Rattle.sdh_outage.proofs.window.Window.comes_next.Goals as goal

pub returns-then-stands-clause-answer : goal.returns-then-stands-clause-answer
returns-then-stands-clause-answer c = λ found.
    let w = c.self.inside in
    let last = c.args.last.now in
    let chunk = c.args.chunk.now in
    let now = c.reach.new.self in
    let e = c.reach.ensures in
    let whose = e.port ∙ c.self.invariant.1 in
    let bytes = c.bytes.ensures ∙ ap (λ p. stream_from p (2349 * now.first) (2349 * (now.made - now.first))) whose in
    let stands = subst (Stands last chunk) bytes (c.stands_before-stands.ensures found) in
    let begins = c.saturating_sub-first.ensures in
    let follows = follows_near w.port w.round now.first now.made last chunk (omega (arith, begins, e.low)) (omega (arith, e.first, e.made))
    (omega (arith, begins, c.made.ensures, c.if-made-first.false)) stands in
    subst (λ (n : Nearby). (is_part chunk (near n.port n.round) ≡ true) × (jumps (near n.port n.round) last chunk ≡ false))
    c.self.view_is follows
