use Rattle.std.proofs.Common.{sym, subst}
use Rattle.sdh_payload.specs.Feed.{Fed}
use Rattle.sdh_terminal.specs.Tributaries.{IsFed}
use Rattle.sdh_terminal.proofs.Ports.{fed_kept}
use Rattle.sdh_terminal.proofs.tributary.Tributary.feed.Goals as goal

pub invariant_of-self : goal.invariant_of-self
invariant_of-self c =
    let next = c.next_form-form in
    let laid = c.lay_chunk_in_place-self-inside in
    subst (λ (feed : Fed). IsFed feed laid.new.out laid.result) (sym next.ensures.next)
    (fed_kept c.self.inside.feed next.result next.new.out laid.new.out laid.result next.ensures.form next.ensures.chunk laid.ensures.payload laid.ensures.h3 laid.ensures.full)
