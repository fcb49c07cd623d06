use Rattle.std.proofs.Common.{◌≡◌, refl, ap, sym, ◌∙◌, arith, rules, subst, take}
use Rattle.std.proofs.lemmas.List.{take_all, length-set}
use Rattle.sdh_basics.proofs.Indexing.{rest_more, read_here}
use Rattle.sdh_plant.specs.Fibres.{Fibres}
use Rattle.sdh_rounds.specs.Rounds.{frames_of, sent_some}
use Rattle.sdh_rounds.specs.Calls.{sent_now}
use Rattle.sdh_rounds.proofs.Runs.{length-frames}
use Rattle.sdh_rounds.proofs.Nodes.{on_err}
use Rattle.sdh_rounds.proofs.Sends.{step_map, step_first, some_none, both_more, sends_some, some_all, nodes_some, rate_some}
use Rattle.sdh_rounds.proofs.sending.send_all.Goals as goal

pub sends-init : goal.sends-init
sends-init g c = record {
  fibres = some_none _;
  done = refl;
  rest = refl;
  size = refl;
  west = refl;
  east = refl;
  later = omega arith;
  none = λ _. refl;
}

pub send_both-requires-clause-at : goal.send_both-requires-clause-at
send_both-requires-clause-at g c =
    let same : (g.P.Plant.fibres c.sends.plant).nodes ≡ (g.P.Plant.fibres c.args.plant.now).nodes =
    ap (λ (f : Fibres). f.nodes) c.sends.invariant.fibres ∙ nodes_some _ _ in
    let all = c.requires.prepared.nodes in
    let few = c.requires.prepared.few in
    let size = c.sends.invariant.size in
    omega arith

pub send_both-requires-clause-west : goal.send_both-requires-clause-west
send_both-requires-clause-west g c =
    c.sends.invariant.west ∙ sym (ap (λ (f : Fibres). f.rate) c.sends.invariant.fibres ∙ rate_some _ _ ∙ c.requires.prepared.rate)

pub send_both-requires-clause-east : goal.send_both-requires-clause-east
send_both-requires-clause-east g c =
    c.sends.invariant.east ∙ c.requires.east ∙ sym (ap (λ (f : Fibres). f.rate) c.sends.invariant.fibres ∙ rate_some _ _
    ∙ c.requires.prepared.rate)

pub send_both-requires-clause-rate : goal.send_both-requires-clause-rate
send_both-requires-clause-rate g c =
    let ns = c.args.nodes.now.items in
    let i = c.sends.i in
    let x = c.index_mut-node.result.now in
    let size = c.sends.invariant.size in
    subst (λ z. g.S.Station.rate z ≡ c.args.west.now.rate) (sym (read_here _ ns i x c.sends.invariant.rest c.index_mut-node.ensures.value))
    (c.requires.rate i x (omega arith))
    ∙ sym (ap (λ (f : Fibres). f.rate) c.sends.invariant.fibres ∙ rate_some _ _ ∙ c.requires.prepared.rate)

pub send_both-requires-clause-may : goal.send_both-requires-clause-may
send_both-requires-clause-may g c =
    let ns = c.args.nodes.now.items in
    let i = c.sends.i in
    let x = c.index_mut-node.result.now in
    let size = c.sends.invariant.size in
    subst (λ z. g.S.Station.MayRun c.args.now.0 z) (sym (read_here _ ns i x c.sends.invariant.rest c.index_mut-node.ensures.value))
    (c.requires.may i x (omega arith))

pub returns-in_err-send_both-clause-err : goal.returns-in_err-send_both-clause-err
returns-in_err-send_both-clause-err g c =
    let kind = g.S.Station.kind in
    let ns = c.args.nodes.now.items in
    let i = c.sends.i in
    let x = c.index_mut-node.result.now in
    let room = c.requires.prepared.carried in
    let inv = c.sends.invariant in
    let size = inv.size in
    let had =
    step_first kind c.args.now.0 c.sends.nodes.items ns i x c.send_both.new.node (omega arith)
    (omega arith) inv.rest c.index_mut-node.ensures.value c.send_both.ensures.node inv.done in
    on_err c.from_residual.result (sends_some kind c.args.now.0 ns _ _ _ _ i x (omega arith)
    (read_here _ ns i x inv.rest c.index_mut-node.ensures.value) (omega arith) had inv.fibres c.in_err-send_both.ensures.kept)

pub sends-preserved : goal.sends-preserved
sends-preserved g c =
    let kind = g.S.Station.kind in
    let inv = c.sends.invariant in
    let old = g.P.Plant.fibres c.args.plant.now in
    let ns = c.args.nodes.now.items in
    let now = c.args.now.0 in
    let i = c.sends.i in
    let x = c.index_mut-node.result.now in
    let size = inv.size in
    record {
      fibres = c.in_ok-send_both.ensures.fibres
          ∙ ap (λ f. sent_now kind now i x f) inv.fibres
          ∙ both_more kind now ns old i x (omega arith) (read_here _ ns i x inv.rest c.index_mut-node.ensures.value)
          (let room = c.requires.prepared.carried in omega arith);
      done =
          step_map (kind.after now) _ _ _ _ _ (omega arith)
          (omega arith) inv.rest c.index_mut-node.ensures.value c.send_both.ensures.node inv.done;
      rest = rest_more c.sends.nodes.items ns i c.send_both.new.node inv.rest;
      size = length-set c.sends.nodes.items i c.send_both.new.node ∙ size;
      west = c.send_both.ensures.west ∙ inv.west;
      east = c.send_both.ensures.east ∙ inv.east;
      later = omega (arith, c.send_both.ensures.cause.later);
      none = search rules;
    }

pub returns-clause-fibres : goal.returns-clause-fibres
returns-clause-fibres g c =
    let kind = g.S.Station.kind in
    let old = g.P.Plant.fibres c.args.plant.now in
    let ns = c.args.nodes.now.items in
    let now = c.args.now.0 in
    let size = c.sends.invariant.size in
    let all : take c.sends.i ns ≡ ns = take_all c.sends.i ns (omega arith) in
    let room = c.requires.prepared.carried in
    let frames = length-frames kind now ns in
    c.sends.invariant.fibres ∙ ap (λ xs. sent_some (frames_of kind now xs) old) all ∙ some_all old (frames_of kind now ns) (omega arith)
