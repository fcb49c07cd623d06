-- A turn is the one of the definitions, and keeps the store bounded.
use Rattle.std.proofs.Common.{◌≡◌, ℕ, ◌+◌, ◌-◌, true, false, length, ap, sym, ◌∙◌, arith}
use Rattle.sdh_pointer.specs.declared.reading.Action.{Action}
use Rattle.sdh_pointer.specs.Reading.{action_on, after_word}
use Rattle.sdh_elastic.specs.contracts.store.Elastic.{the_view}
use Rattle.sdh_elastic.specs.Turns.{given, is_held, value_after, word_for}
use Rattle.sdh_elastic.specs.Lengths.{keeps_steady}
use Rattle.sdh_elastic.specs.Store.{Store, action_at, stage_action, stage_after, fill_after, reading_in}
use Rattle.sdh_elastic.proofs.Near.{not_held_below, not_held_above, bounded_after, no_drift, is_held_by}
use Rattle.sdh_elastic.proofs.Course.{goes_on, steady_now, drift_of_history}
use Rattle.sdh_elastic.proofs.Heard.{turn_is_heard}
use Rattle.sdh_elastic.proofs.Turning.{IsTurn, made}
use Rattle.sdh_elastic.proofs.store.Elastic.turn.Goals as goal
use Rattle.sdh_elastic.proofs.store.Elastic.turn.Goals.{then-fill-lt-LEAST-via-then-fill-lt-LEAST}
use Rattle.sdh_elastic.proofs.store.Elastic.turn.Goals.{then-fill-lt-LEAST-via-else-fill-lt-LEAST+then-fill-gt-MOST}

pub take_and_give-requires : goal.take_and_give-requires
take_and_give-requires c =
    record { least = omega arith; most = omega arith; there = omega arith; few = omega arith; left = omega arith }

-- what the turn does
acts : (c : goal.After-self-1) → c.action-action.result ≡ action_at (the_view c.self.inside)
acts c = c.action-action.ensures ∙ ap (stage_action c.self.inside.course.stage) c.len.ensures

turned : (c : goal.After-self-1)
    → IsTurn (the_view c.self.inside) c.args.input.now c.action-action.result c.take_and_give.new.out
    (the_view (record { held = c.take_and_give.new.self; course = c.after-self-inside.result }))
turned c =
    let r = c.after-self-inside.result in
    let e = c.after-self-inside.ensures in
    made (the_view c.self.inside) c.args.input.now c.action-action.result c.given-2.result c.take_and_give.new.out c.take_and_give.new.self r.stage r.value r.word.0 r.lengths r.steady
    (acts c) c.given-2.ensures.count c.take_and_give.ensures.given c.take_and_give.ensures.left e.stage e.value e.word e.lengths e.steady

-- the fill after it is within its bounds
fits : (c : goal.After-self-1) → is_held (fill_after (the_view c.self.inside) (length c.args.input.now)) ≡ true
fits c =
    let s : Store = the_view c.self.inside in
    let n = length c.args.input.now in
    let same : c.saturating_sub-fill.result ≡ fill_after s n =
    c.saturating_sub-fill.ensures ∙ ap (λ (k : ℕ). c.len-2.result + n - k) (c.given.ensures.count ∙ ap given (acts c))
    ∙ ap (λ (f : ℕ). f + n - given (action_at s)) c.len-2.ensures in
    is_held_by (fill_after s n) (omega (arith, same)) (omega (arith, same))

pub returns-clause-ok : goal.returns-clause-ok
returns-clause-ok c = let t = turned c in rw (← c.self.view_is) (t.action, t.given, t.store)

pub invariant_of-self : goal.invariant_of-self
invariant_of-self c =
    let t = turned c in
    rw t.store (bounded_after (the_view c.self.inside) c.args.input.now c.self.invariant c.requires (fits c))

pub returns-clause-history : goal.returns-clause-history
returns-clause-history c = λ first past came.
    let t = turned c in
    rw (t.action, t.given, t.store) (goes_on (the_view c.self.inside) c.args.input.now first past (fits c) (rw (← c.self.view_is) at came))

pub returns-clause-heard : goal.returns-clause-heard
returns-clause-heard c =
    let i = c.self.inside.course in
    let e = c.after-self-inside.ensures in
    let turn = turn_is_heard i.stage i.value (length c.self.inside.held) c.self.invariant.value in
    let word = e.word ∙ ap (λ (b : Action). word_for b i.value) (acts c) in
    let stage = e.stage ∙ ap (stage_after i.stage) (acts c) in
    let value = e.value ∙ ap (λ (b : Action). value_after b i.value) (acts c) in
    rw (← c.self.view_is) (
      ap (action_on (reading_in i.stage i.value)) word ∙ turn.action ∙ sym (acts c),
      ap (after_word (reading_in i.stage i.value)) word ∙ turn.next
          ∙ ap (λ (v : ℕ). reading_in (stage_after i.stage (action_at (the_view c.self.inside))) v) (sym value)
          ∙ ap (λ st. reading_in st c.after-self-inside.result.value) (sym stage),
    )

-- what it would have done, and the fill after that
would_act : (c : goal.Joined-then-fill-lt-LEAST) → c.action-action.result ≡ action_at (the_view c.self.inside)
would_act c = c.action-action.ensures ∙ ap (stage_action c.self.inside.course.stage) c.len.ensures

would_be : (c : goal.Joined-then-fill-lt-LEAST) → c.saturating_sub-fill.result
    ≡ fill_after (the_view c.self.inside) (length c.args.input.now)
would_be c =
    let s : Store = the_view c.self.inside in
    let n = length c.args.input.now in
    c.saturating_sub-fill.ensures ∙ ap (λ (k : ℕ). c.len-2.result + n - k) (c.given.ensures.count ∙ ap given (would_act c))
    ∙ ap (λ (f : ℕ). f + n - given (action_at s)) c.len-2.ensures

pub returns-then-fill-lt-LEAST-clause-steady_run : goal.returns-then-fill-lt-LEAST-clause-steady_run
returns-then-fill-lt-LEAST-clause-steady_run c = λ first past came h.
    let s : Store = the_view c.self.inside in
    let n = length c.args.input.now in
    let now = steady_now s n first past (rw (← c.self.view_is) at came) h in
    let bounds = no_drift s n c.self.invariant c.requires now.0 now.1 in
    elim c.then-fill-lt-LEAST.branch [
      | then-fill-lt-LEAST-via-then-fill-lt-LEAST w ↦ absurd (omega (arith, would_be c, bounds.0, w.if-fill-lt-LEAST.true))
      | then-fill-lt-LEAST-via-else-fill-lt-LEAST+then-fill-gt-MOST w ↦ absurd (omega (arith, would_be c, bounds.1, w.if-fill-gt-MOST.true))
    ]

pub returns-then-fill-lt-LEAST-clause-steady : goal.returns-then-fill-lt-LEAST-clause-steady
returns-then-fill-lt-LEAST-clause-steady c =
    let s : Store = the_view c.self.inside in
    let n = length c.args.input.now in
    let none : s.steady ≡ true → keeps_steady n s.lengths ≡ true → false ≡ true = λ steady four.
    let bounds = no_drift s n c.self.invariant c.requires steady four in
    elim c.then-fill-lt-LEAST.branch [
      | then-fill-lt-LEAST-via-then-fill-lt-LEAST w ↦ absurd (omega (arith, would_be c, bounds.0, w.if-fill-lt-LEAST.true))
      | then-fill-lt-LEAST-via-else-fill-lt-LEAST+then-fill-gt-MOST w ↦ absurd (omega (arith, would_be c, bounds.1, w.if-fill-gt-MOST.true))
    ] in
    rw (← c.self.view_is) none

pub returns-then-fill-lt-LEAST-clause-history_err : goal.returns-then-fill-lt-LEAST-clause-history_err
returns-then-fill-lt-LEAST-clause-history_err c = λ first past came.
    let s : Store = the_view c.self.inside in
    let n = length c.args.input.now in
    let not_held : is_held (fill_after s n) ≡ false =
    elim c.then-fill-lt-LEAST.branch [
      | then-fill-lt-LEAST-via-then-fill-lt-LEAST w ↦ not_held_below (fill_after s n) (omega (arith, would_be c, w.if-fill-lt-LEAST.true))
      | then-fill-lt-LEAST-via-else-fill-lt-LEAST+then-fill-gt-MOST w ↦ not_held_above (fill_after s n)
          (omega (arith, would_be c, w.if-fill-gt-MOST.true))
    ] in
    drift_of_history s c.args.input.now first past (rw (← c.self.view_is) at came) not_held
