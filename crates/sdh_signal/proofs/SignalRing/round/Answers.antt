use Rattle.std.proofs.Common.{length, ap, sym, subst, ◌∙◌}
use Rattle.std.specs.Prelude.{[], IsTrue, nat_lt, if◌then◌else◌}
use Rattle.sdh_signal.specs.Signals.{Signals, round}
use Rattle.sdh_signal.specs.SignalRing.{Signalling, IsRing}
use Rattle.sdh_signal.proofs.Scenes.{all_silent}
use Rattle.sdh_signal.proofs.Rounds.{made_by, is_round, words_left, may_go, ring_after, is_settled}
use Rattle.sdh_signal.proofs.SignalRing.round.Goals as goal

pub step_all-stays-requires-clause-silent : goal.step_all-stays-requires-clause-silent
step_all-stays-requires-clause-silent c =
    all_silent c.on_their_way-words.result.now
    (length c.self.inside.map) c.args.needs.now c.self.inside.filters.items c.as_slice-filters.result.now
    (c.as_slice-filters.ensures.value ∙ c.hear_all.ensures.filters)

pub invariant_of-self : goal.invariant_of-self
invariant_of-self c =
    let made =
    made_by (c.on_their_way-words.ensures ∙ ap (λ ws. if nat_lt 0 c.self.inside.rounds
    then ws else []) c.as_slice.ensures.value) c.as_slice-filters.ensures.value c.hear_all.ensures.filters c.step_all-stays.ensures.states c.step_all-stays.ensures.sent c.saturating_add-self-inside.ensures in
    let goes_on = c.leaves_words-goes_on in
    let may =
    may_go c.args.needs.now c.self.invariant (c.requires.needs
    ∙ ap (λ (s : Signalling). length s.ring.ids) (sym c.self.view_is)) c.requires.may in
    let leave =
    λ (goes : IsTrue goes_on.result). (let g = goes_on.ensures.0 goes in words_left made
    (g.0, g.1, c.step_all-stays.ensures.same_words.0 g.2)) in
    subst (λ r. IsRing r c.saturating_add-self-inside.result c.counted-self-inside.result) (sym (is_round made))
    (subst (IsRing _ c.saturating_add-self-inside.result) (sym c.counted-self-inside.ensures)
    (ring_after c.args.needs.now c.args.held.now _ may goes_on.result c.self.inside.unchanged c.self.inside.rounds c.saturating_add-self-inside.result c.self.invariant c.saturating_add-self-inside.ensures (λ goes. (goes_on.ensures.0 goes).0) leave))

pub returns-clause-ring : goal.returns-clause-ring
returns-clause-ring c =
    let made =
    made_by (c.on_their_way-words.ensures ∙ ap (λ ws. if nat_lt 0 c.self.inside.rounds
    then ws else []) c.as_slice.ensures.value) c.as_slice-filters.ensures.value c.hear_all.ensures.filters c.step_all-stays.ensures.states c.step_all-stays.ensures.sent c.saturating_add-self-inside.ensures in
    is_round made ∙ ap (λ (s : Signalling). round c.args.needs.now c.args.held.now s.ring) c.self.view_is

pub returns-clause-settled : goal.returns-clause-settled
returns-clause-settled c = λ still.
    let made =
    made_by (c.on_their_way-words.ensures ∙ ap (λ ws. if nat_lt 0 c.self.inside.rounds
    then ws else []) c.as_slice.ensures.value) c.as_slice-filters.ensures.value c.hear_all.ensures.filters c.step_all-stays.ensures.states c.step_all-stays.ensures.sent c.saturating_add-self-inside.ensures in
    let goes_on = c.leaves_words-goes_on in
    let may =
    may_go c.args.needs.now c.self.invariant (c.requires.needs
    ∙ ap (λ (s : Signalling). length s.ring.ids) (sym c.self.view_is)) c.requires.may in
    let leave =
    λ (goes : IsTrue goes_on.result). (let g = goes_on.ensures.0 goes in words_left made
    (g.0, g.1, c.step_all-stays.ensures.same_words.0 g.2)) in
    ap (λ (s : Signals). s.states) (is_round made)
    ∙ is_settled c.args.needs.now c.args.held.now _ may goes_on.result c.self.inside.unchanged c.self.invariant.few leave c.self.invariant.were (sym c.counted-self-inside.ensures ∙ still.words)
