use Rattle.std.proofs.Common.{◌≡◌, refl, ap, sym, ◌∙◌, arith, rules, subst, length}
use Rattle.std.proofs.lemmas.List.{length-set}
use Rattle.sdh_basics.proofs.Indexing.{rest_more, read_here}
use Rattle.sdh_plant.specs.Fibres.{Fibres}
use Rattle.sdh_rounds.proofs.Nodes.{on_err}
use Rattle.sdh_rounds.proofs.Receives.{hears_none, hears_more, hears_some, hears_all, nodes_taken, rate_taken}
use Rattle.sdh_rounds.proofs.receiving.receive_all.Goals as goal

pub receives-init : goal.receives-init
receives-init g c = record {
  done = hears_none g.S.Station.kind _ _;
  rest = refl;
  size = refl;
  rate = refl;
  later = omega arith;
  none = λ _. refl;
}

pub receive_both-requires-clause-at : goal.receive_both-requires-clause-at
receive_both-requires-clause-at g c =
    let same : (g.P.Plant.fibres c.receives.plant).nodes ≡ (g.P.Plant.fibres c.args.plant.now).nodes =
    ap (λ (f : Fibres). f.nodes) c.receives.invariant.done.fibres ∙ nodes_taken _ _ in
    let all = c.requires.prepared.nodes in
    let few = c.requires.prepared.few in
    let size = c.receives.invariant.size in
    omega arith

pub receive_both-requires-clause-rate : goal.receive_both-requires-clause-rate
receive_both-requires-clause-rate g c =
    c.receives.invariant.rate ∙ sym (ap (λ (f : Fibres). f.rate) c.receives.invariant.done.fibres ∙ rate_taken _ _
    ∙ c.requires.prepared.rate)

pub receive_both-requires-clause-node : goal.receive_both-requires-clause-node
receive_both-requires-clause-node g c =
    let x = c.index_mut-node.result.now in
    let size = c.receives.invariant.size in
    let may : g.S.Station.rate x ≡ c.args.inbox.now.rate =
    subst (λ z. g.S.Station.rate z ≡ c.args.inbox.now.rate)
    (sym (read_here _ c.args.nodes.now.items c.receives.i x c.receives.invariant.rest c.index_mut-node.ensures.value))
    (c.requires.nodes c.receives.i x (omega arith)) in
    may ∙ sym c.receives.invariant.rate

pub returns-in_err-receive_both-clause-err : goal.returns-in_err-receive_both-clause-err
returns-in_err-receive_both-clause-err g c =
    let inv = c.receives.invariant in
    let size = inv.size in
    on_err c.from_residual.result
    (hears_some g.S.Station.kind c.receives.i _ _ _ _ c.args.nodes.now.items c.receives.nodes.items c.index_mut-node.result.now c.receive_both.new.node (omega arith) (omega arith) (omega arith) inv.rest c.index_mut-node.ensures.value inv.done c.in_err-receive_both.ensures.kept)

pub returns-clause-ok : goal.returns-clause-ok
returns-clause-ok g c =
    let inv = c.receives.invariant in
    let size = inv.size in
    hears_all g.S.Station.kind c.receives.i _ _ c.args.nodes.now.items c.receives.nodes.items
    (let e : c.receives.i ≡ length c.args.nodes.now.items = omega arith in e) size inv.done

pub receives-preserved : goal.receives-preserved
receives-preserved g c =
    let means = g.P.Plant.fibres in
    let inv = c.receives.invariant in
    let old = c.args.nodes.now.items in
    let now = c.receives.nodes.items in
    let i = c.receives.i in
    let x = c.index_mut-node.result.now in
    let y = c.receive_both.new.node in
    let size = inv.size in
    record {
      done =
          hears_more g.S.Station.kind i (means c.args.plant.now) (means c.receives.plant) _ old now x y (omega arith)
          (omega arith) inv.rest c.index_mut-node.ensures.value inv.done
          c.in_ok-receive_both.ensures.node c.in_ok-receive_both.ensures.fibres;
      rest = rest_more now old i y inv.rest;
      size = length-set now i y ∙ size;
      rate = c.receive_both.ensures.rate ∙ inv.rate;
      later = omega (arith, c.receive_both.ensures.cause.later);
      none = search rules;
    }
