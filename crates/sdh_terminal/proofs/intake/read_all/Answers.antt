use Rattle.std.proofs.Common.{◌+◌, ap, sym, ◌∙◌, arith, rules}
use Rattle.std.specs.Prelude.{not}
use Rattle.std.specs.List.{list_any}
use Rattle.sdh_basics.proofs.Indexing.{step_more, made_more, place_all, rest_more}
use Rattle.sdh_ringmap.specs.Rates.{n_of}
use Rattle.sdh_pointer.specs.Reading.{Interpreter, after_step, action_on}
use Rattle.sdh_terminal.specs.Same.{same_readings}
use Rattle.sdh_terminal.specs.Receiving.{pointer_word_at, readings_of, after_frame, actions_in}
use Rattle.sdh_terminal.proofs.Marks.{map_from-map, readings-stepped, unmoved-interpreters}
use Rattle.sdh_terminal.proofs.intake.read_all.Goals as goal

pub loop-k-preserved : goal.loop-k-preserved
loop-k-preserved c =
    let inv = c.loop-k.invariant in
    let w = pointer_word_at (n_of c.args.frame.now.rate) c.args.frame.now.bytes in
    let old = c.args.interps.now.items in
    let now = c.loop-k.interps.items in
    let i = c.loop-k.k in
    let x = c.index_mut-interp.result.now in
    let read = c.index_mut-interp.ensures.value in
    let word = c.word_at-word.ensures in
    record {
      read =
          step_more (λ k (i : Interpreter). after_step i (w (k + 1))) old now i x _ (omega arith) (omega arith) inv.rest read
          (c.step.ensures.next ∙ ap (after_step x) word) inv.read;
      acts =
          made_more (λ k (i : Interpreter). action_on i.reading (w (k + 1))) old now c.loop-k.actions.items i x _ (omega arith)
          (omega arith) inv.rest read (c.step.ensures.action ∙ ap (action_on x.reading) word) inv.acts;
      rest = rest_more now old i _ inv.rest;
      interps_len = search rules;
      actions_len = search rules;
    }

pub returns-clause-readings : goal.returns-clause-readings
unfolding after_frame
returns-clause-readings c =
    let w = pointer_word_at (n_of c.args.frame.now.rate) c.args.frame.now.bytes in
    ap readings_of (place_all _ _ _ c.loop-k.k (omega arith) (omega arith) c.loop-k.invariant.read)
    ∙ readings-stepped (λ k. w (k + 1)) c.args.interps.now.items

pub returns-clause-actions : goal.returns-clause-actions
unfolding actions_in
returns-clause-actions c =
    let w = pointer_word_at (n_of c.args.frame.now.rate) c.args.frame.now.bytes in
    place_all _ _ _ c.loop-k.k (omega arith) (omega arith) c.loop-k.invariant.acts
    ∙ sym (map_from-map (λ k r. action_on r (w (k + 1))) (λ (i : Interpreter). i.reading) 0 c.args.interps.now.items)

pub returns-clause-same : goal.returns-clause-same
returns-clause-same c =
    let w = pointer_word_at (n_of c.args.frame.now.rate) c.args.frame.now.bytes in
    let old = c.args.interps.now.items in
    let now = place_all _ _ _ c.loop-k.k (omega arith) (omega arith) c.loop-k.invariant.read in
    ap not (c.any_moved.ensures ∙ ap (λ is. list_any (λ (i : Interpreter). i.moved) is) (c.deref.ensures.value ∙ now))
    ∙ unmoved-interpreters (λ k. w (k + 1)) 0 old
    ∙ ap (λ is. same_readings (readings_of is) (readings_of old)) (sym now)
