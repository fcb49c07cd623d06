use Rattle.std.proofs.Common.{◌≡◌, ◌-◌, true, false, refl, sym, ap, subst, ◌∙◌, arith}
use Rattle.sdh_payload.specs.declared.delivered.Delivered.{Delivered}
use Rattle.sdh_payload.specs.declared.delivered.Delivered.TheVariants.{Ais}
use Rattle.sdh_payload.specs.Stream.{chunk_of}
use Rattle.sdh_outage.specs.Near.{near, is_part}
use Rattle.sdh_outage.specs.Kinds.{jumps}
use Rattle.sdh_outage.specs.Kept.{Nearby}
use Rattle.sdh_outage.specs.Latest.{came}
use Rattle.sdh_outage.proofs.Windows.{later_follows}
use Rattle.sdh_outage.proofs.window.Window.comes_later.Goals as goal

pub returns-then-found-clause-answer : goal.returns-then-found-clause-answer
returns-then-found-clause-answer c = λ found.
    let w = c.self.inside in
    let last = c.args.last.now in
    let chunk = c.args.chunk.now in
    let now = c.seek-found.new.self in
    let begins = c.saturating_sub-first.ensures in
    let so = c.seek-found.ensures.found found in
    let known : came last ≡ Ais = c.if-not-is_ais.ensures refl in
    let sent : chunk ≡ chunk_of w.port (now.made - 1) = so.2 ∙ ap (λ p. chunk_of p (now.made - 1)) c.self.invariant.1 in
    let follows = later_follows w.port w.round (now.made - 1) chunk (omega (arith, begins, c.max.ensures, so.0)) (omega (arith, begins, so.1)) sent in
    subst (λ (n : Nearby). (is_part chunk (near n.port n.round) ≡ true) × (jumps (near n.port n.round) (came last) chunk ≡ false)) c.self.view_is
    (subst (λ (d : Delivered). (is_part chunk (near w.port w.round) ≡ true) × (jumps (near w.port w.round) d chunk ≡ false)) (sym known) follows)
