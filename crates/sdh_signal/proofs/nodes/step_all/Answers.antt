use Rattle.std.proofs.Common.{arith, get_or, false, refl}
use Rattle.std.proofs.Math.ListN.{length-set}
use Rattle.std.proofs.lemmas.List.Elements.{All-get_or}
use Rattle.sdh_basics.proofs.Indexing.{place_more, rest_more}
use Rattle.sdh_nodestate.specs.declared.NodeState.TheVariants.{Idle}
use Rattle.sdh_nodestate.specs.Conditions.{MayNeed}
use Rattle.sdh_nodestate.specs.Rules.{state_after, sent_after}
use Rattle.sdh_signal.specs.Signals.{no_filters, no_needs, unsaid}
use Rattle.sdh_signal.specs.Nodes.{scene_through, next_state, next_sent}
use Rattle.sdh_signal.proofs.Lists.{same_more, was_at}
use Rattle.sdh_signal.proofs.Scenes.{may_step, heard_silent, turned}
use Rattle.sdh_signal.proofs.nodes.step_all.Goals as goal

pub turn_at-stays-requires : goal.turn_at-stays-requires
turn_at-stays-requires c =
    let i = c.loop-i.i in
    let filters = c.args.filters.now in
    let needs = c.args.needs.now in
    may_step c.args.map.now i (get_or needs i no_needs) c.index-filters-i.result (omega arith)
    (All-get_or MayNeed needs i no_needs (omega arith) c.requires.may)
    (heard_silent (get_or needs i no_needs) _ _ (was_at filters filters i _ no_filters (omega arith) refl c.index-filters-i.is)
    (c.requires.silent i (omega arith)))

pub loop-i-preserved : goal.loop-i-preserved
loop-i-preserved c =
    let map = c.args.map.now in
    let needs = c.args.needs.now in
    let filters = c.args.filters.now in
    let held = c.args.held.now in
    let states = c.args.states.now.items in
    let sent = c.args.sent.now.items in
    let i = c.loop-i.i in
    let x = get_or needs i no_needs in
    let inv = c.loop-i.invariant in
    let filter = was_at filters filters i _ no_filters (omega arith) refl c.index-filters-i.is in
    let state =
    was_at c.loop-i.states.items states i c.index_mut.result.now (Idle tt) (omega arith) inv.states_rest c.index_mut.ensures.value in
    let words =
    was_at c.loop-i.sent.items sent i c.index_mut-in-loop-i.result.now (record { west = unsaid; east = unsaid })
    (omega arith) inv.sent_rest c.index_mut-in-loop-i.ensures.value in
    record {
      states_len = simp length-set (omega arith);
      sent_len = simp length-set (omega arith);
      states = place_more (next_state map filters held states) needs c.loop-i.states.items i no_needs _ (omega arith) (omega arith)
          (turned (get_or held i false)
          (λ f. state_after (scene_through map i x f)) _ _ _ _ _ state filter c.turn_at-stays.ensures.state) inv.states;
      sent = place_more (next_sent map filters held sent) needs c.loop-i.sent.items i no_needs _ (omega arith) (omega arith)
          (turned (get_or held i false)
          (λ f. sent_after (scene_through map i x f)) _ _ _ _ _ words filter c.turn_at-stays.ensures.sent) inv.sent;
      states_rest = rest_more c.loop-i.states.items states i c.turn_at-stays.new.state inv.states_rest;
      sent_rest = rest_more c.loop-i.sent.items sent i c.turn_at-stays.new.sent inv.sent_rest;
      same_states =
          same_more c.loop-i.states.items states i _ c.turn_at-stays.new.state c.loop-i.all.states c.turn_at-stays.result.states
          (omega arith) (omega arith) inv.states_rest c.index_mut.ensures.value inv.same_states c.turn_at-stays.ensures.states;
      same_words =
          same_more c.loop-i.sent.items sent i _ c.turn_at-stays.new.sent c.loop-i.all.words c.turn_at-stays.result.words (omega arith)
          (omega arith) inv.sent_rest c.index_mut-in-loop-i.ensures.value inv.same_words c.turn_at-stays.ensures.words;
    }
