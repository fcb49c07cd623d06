use Rattle.std.proofs.Common.{get_or, ap, ◌∙◌, sym, arith}
use Rattle.std.specs.Prelude.{length}
use Rattle.std.proofs.Math.ListN.{length-set}
use Rattle.sdh_basics.proofs.Indexing.{place_more, rest_more}
use Rattle.sdh_signal.specs.Signals.{no_filters, no_needs}
use Rattle.sdh_signal.specs.Nodes.{filters_with}
use Rattle.sdh_signal.proofs.Lists.{was_at}
use Rattle.sdh_signal.proofs.nodes.hear_all.Goals as goal

pub loop-i-preserved : goal.loop-i-preserved
loop-i-preserved c =
    let words = c.args.words.now in
    let n = length c.args.map.now in
    let old = c.args.filters.now.items in
    let now = c.loop-i.filters.items in
    let i = c.loop-i.i in
    let inv = c.loop-i.invariant in
    record {
      len = simp length-set (omega arith);
      filters =
          place_more (λ p x. filters_with words n p x (get_or old p no_filters)) c.args.needs.now now i no_needs _ (omega arith)
          (omega arith)
          (c.take.ensures ∙ ap (filters_with words n i (get_or c.args.needs.now i no_needs))
          (sym (was_at now old i _ no_filters (omega arith) inv.rest c.index_mut.ensures.value))) inv.filters;
      rest = rest_more now old i c.take.new.self inv.rest;
    }
