use Rattle.std.proofs.Common.{◌≡◌, ◌+◌, true, false, refl, sym, ap, subst, ◌∙◌, arith}
use Rattle.sdh_payload.specs.declared.delivered.Delivered.{Delivered}
use Rattle.sdh_payload.specs.declared.delivered.Delivered.TheVariants.{Chunk}
use Rattle.sdh_payload.specs.Stream.{chunk_of}
use Rattle.sdh_outage.specs.Near.{near, is_part}
use Rattle.sdh_outage.specs.Kinds.{jumps}
use Rattle.sdh_outage.specs.Kept.{Nearby}
use Rattle.sdh_outage.specs.Latest.{latest_of, came}
use Rattle.sdh_outage.proofs.Windows.{next_follows}
use Rattle.sdh_outage.proofs.window.Window.goes_on.Goals as goal

pub returns-then-follows-clause-answer : goal.returns-then-follows-clause-answer
returns-then-follows-clause-answer c = λ found.
    let w = c.self.inside in
    let last = c.args.last.now in
    let chunk = c.args.chunk.now in
    let begins = c.saturating_sub-first.ensures in
    let before = c.if-not-is_before.ensures refl in
    let known : came last ≡ Chunk (chunk_of w.port last.number) = ap (λ p. latest_of p last.number last.plain) before.0 in
    let sent : chunk ≡ chunk_of w.port (last.number + 1) =
    c.is_next-follows.ensures.answer found ∙ (λ i. chunk_of (c.self.invariant.1 i) ((sym c.made-number.ensures ∙ sym before.1) i)) in
    let follows = next_follows w.port w.round last.number chunk (omega (arith, begins, before.1, c.if-number-first.false))
    (omega (arith, begins, before.1, c.if-number-first-2.false)) sent in
    subst (λ (n : Nearby). (is_part chunk (near n.port n.round) ≡ true) × (jumps (near n.port n.round) (came last) chunk ≡ false)) c.self.view_is
    (subst (λ (d : Delivered). (is_part chunk (near w.port w.round) ≡ true) × (jumps (near w.port w.round) d chunk ≡ false)) (sym known) follows)
