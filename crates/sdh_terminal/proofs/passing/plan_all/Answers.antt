use Rattle.std.proofs.Common.{◌≡◌, ℕ, ◌+◌, None, get_or, refl, ap, sym, ◌∙◌, subst, arith, rules}
use Rattle.std.specs.Prelude.{not}
use Rattle.std.specs.List.{list_any}
use Rattle.std.proofs.lemmas.List.{get_or-map, length-map}
use Rattle.sdh_basics.proofs.Indexing.{step_more, rest_more, read_here, place_all}
use Rattle.sdh_frame.specs.Aus.{Au}
use Rattle.sdh_pointer.specs.Sending.{Generator, after_action}
use Rattle.sdh_terminal.specs.Same.{same_generators}
use Rattle.sdh_terminal.specs.Passing.{Input, au_sent, states_of}
use Rattle.sdh_terminal.specs.Tributaries.{added_last}
use Rattle.sdh_terminal.specs.Lines.{fed_by, all_fed_by}
use Rattle.sdh_terminal.proofs.Planned.{IsPlanned, planned_more, planned_sources, planned_all}
use Rattle.sdh_terminal.proofs.Marks.{states-sent, unmoved-generators}
use Rattle.sdh_terminal.proofs.passing.plan_all.Goals as goal

pub loop-k-init : goal.loop-k-init
loop-k-init g c = record {
  sent = refl;
  rest = refl;
  planned = λ j lt. absurd (omega arith);
  len = refl;
  sources_len = c.requires.sources;
  pointers_len = c.requires.pointers;
}

pub loop-k-preserved : goal.loop-k-preserved
loop-k-preserved g c =
    let inv = c.loop-k.invariant in
    let cross = g.X.Matrix.lines c.args.cross.now in
    let ports = c.args.ports.now in
    let input : ℕ → Input = all_fed_by cross (added_last ports) (g.X.Matrix.leads c.args.cross.now c.args.side) in
    let old = c.args.generators.now.items in
    let now = c.loop-k.generators.items in
    let i = c.loop-k.k in
    let x = c.index_mut-generator.result.now in
    let read = c.index_mut-generator.ensures.value in
    let one = c.send_one-source in
    let is : fed_by cross (added_last ports) c.leaving-feeder.result ≡ input (i + 1) =
    λ j. fed_by cross (added_last ports) (c.leaving-feeder.ensures.feeder j) in
    let state : get_or (states_of old) i None ≡ x.sending =
    get_or-map (λ (g : Generator). g.sending) old i x None (omega arith)
    ∙ ap (λ (g : Generator). g.sending) (sym (read_here now old i x inv.rest read)) in
    let au : au_sent x.sending (fed_by cross (added_last ports) c.leaving-feeder.result)
    ≡ au_sent (get_or (states_of old) i None) (input (i + 1)) = λ j. au_sent (sym state j) (is j) in
    record {
      sent =
          step_more (λ k (g : Generator). after_action g (input (k + 1)).action (input (k + 1)).value) old now i x _ (omega arith)
          (omega arith) inv.rest read
          (one.ensures.generator ∙ ap (λ (z : Input). after_action x z.action z.value) is) inv.sent;
      rest = rest_more now old i _ inv.rest;
      planned =
          planned_more cross c.loop-k.own one.new.own input (states_of old) c.loop-k.sources c.loop-k.pointers i one.result.0 one.result.1
          (omega arith) (omega arith) one.ensures.others inv.planned
          (subst (λ (a : Au). IsPlanned cross one.new.own (i + 1) one.result.0 one.result.1 a) au
          (record { source = one.ensures.source; pointers = one.ensures.pointers; payload = one.ensures.payload }));
      len = search rules;
      sources_len = search rules;
      pointers_len = search rules;
    }

pub returns-clause-generators : goal.returns-clause-generators
returns-clause-generators g c =
    let input : ℕ → Input =
    all_fed_by (g.X.Matrix.lines c.args.cross.now) (added_last c.args.ports.now) (g.X.Matrix.leads c.args.cross.now c.args.side) in
    ap states_of (place_all _ _ _ c.loop-k.k (omega arith) (omega arith) c.loop-k.invariant.sent)
    ∙ states-sent input c.args.generators.now.items

pub returns-clause-aus : goal.returns-clause-aus
returns-clause-aus g c =
    let input : ℕ → Input =
    all_fed_by (g.X.Matrix.lines c.args.cross.now) (added_last c.args.ports.now) (g.X.Matrix.leads c.args.cross.now c.args.side) in
    let states = states_of c.args.generators.now.items in
    let inv = c.loop-k.invariant in
    planned_all (g.X.Matrix.lines c.args.cross.now) c.loop-k.own input states c.loop-k.sources c.loop-k.pointers c.loop-k.k (omega arith)
    (omega arith) inv.planned (omega (arith, length-map c.args.generators.now.items (λ (g : Generator). g.sending)))

pub returns-clause-sources : goal.returns-clause-sources
returns-clause-sources g c =
    let input : ℕ → Input =
    all_fed_by (g.X.Matrix.lines c.args.cross.now) (added_last c.args.ports.now) (g.X.Matrix.leads c.args.cross.now c.args.side) in
    let states = states_of c.args.generators.now.items in
    let inv = c.loop-k.invariant in
    planned_sources (g.X.Matrix.lines c.args.cross.now) c.loop-k.own input states c.loop-k.sources c.loop-k.pointers c.loop-k.k
    (omega arith) (omega arith) inv.planned

pub returns-clause-same : goal.returns-clause-same
returns-clause-same g c =
    let input : ℕ → Input =
    all_fed_by (g.X.Matrix.lines c.args.cross.now) (added_last c.args.ports.now) (g.X.Matrix.leads c.args.cross.now c.args.side) in
    let old = c.args.generators.now.items in
    let now = place_all _ _ _ c.loop-k.k (omega arith) (omega arith) c.loop-k.invariant.sent in
    ap not (c.any_moved.ensures ∙ ap (λ gs. list_any (λ (g : Generator). g.moved) gs) (c.deref.ensures.value ∙ now))
    ∙ unmoved-generators input 0 old
    ∙ ap (λ gs. same_generators (states_of gs) (states_of old)) (sym now)
