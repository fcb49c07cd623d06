use Rattle.std.proofs.Common.{◌+◌, ◌/◌, ◌<◌, ◌≤◌, length, get_or, ap, refl, sym, subst, arith, ◌∙◌}
use Rattle.std.specs.Prelude.{All, ◌^◌, ◌&&◌, not, nat_le}
use Rattle.sdh_ringmap.specs.Rates.{n_of}
use Rattle.sdh_ringmap.specs.declared.terms.Rate.{Rate}
use Rattle.sdh_terminal.specs.Tributaries.{IsTributary}
use Rattle.sdh_node.specs.Receiving.{Receiving}
use Rattle.sdh_terminal.specs.Sending.{Sending}
use Rattle.sdh_ringmap.specs.declared.Side.TheVariants.{West, East}
use Rattle.sdh_node.specs.Crossing.{after_decision, next_word, all_delivered}
use Rattle.sdh_node.specs.Node.{Node, node_round, GoesOn}
use Rattle.sdh_terminal.proofs.Ports.{few_rounds, fed_are}
use Rattle.sdh_node.proofs.Kept.{fed_many}
use Rattle.sdh_node.proofs.Rounds.{round_goes_on}
use Rattle.sdh_node.proofs.Turning.{node_of, west_frame_is, east_frame_is, calm_is, node_is}
use Rattle.sdh_node.proofs.adm.Adm.send_through.Goals as goal

pub feed-requires : goal.feed-requires
feed-requires g c =
    let i = c.self.inside in
    let slots = n_of i.settings.rate / 2 in
    let few : i.rounds < 2 ^ 32 = subst (λ (n : Node). n.rounds < 2 ^ 32) (sym c.self.view_is) c.requires.few in
    few_rounds slots i.rounds i.ports few c.self.invariant.node.ports

pub take_out-requires-clause-ports : goal.take_out-requires-clause-ports
take_out-requires-clause-ports g c = λ k d lt.
    let i = c.self.inside in
    let inv = c.self.invariant.node in
    let slots = n_of i.settings.rate / 2 in
    let rate = ap (λ (r : Receiving). r.section.rate) c.decide-decided.ensures.west_in ∙ c.take-taken.ensures.rate ∙ inv.west_rate in
    let is = subst (All (IsTributary slots (i.rounds + 1))) (sym c.feed.ensures) (fed_are slots i.rounds i.ports inv.ports) k d lt in
    (is.first, subst (λ (r : Rate). (get_or c.feed.new.self k d).slot.0 ≤ n_of r / 2) (sym rate) is.last)

pub take_out-requires-clause-many : goal.take_out-requires-clause-many
take_out-requires-clause-many g c = c.self.invariant.room ∙ sym (ap length c.feed.ensures ∙ fed_many c.self.inside.ports)

pub invariant_of-self : goal.invariant_of-self
invariant_of-self g c =
    let i = c.self.inside in
    let inv = c.self.invariant.node in
    let slots = n_of i.settings.rate / 2 in
    let west = c.decide-decided.ensures.west_in in
    let east = c.decide-decided.ensures.east_in in
    record {
      node = record {
        west_rate = ap (λ (r : Receiving). r.section.rate) west ∙ c.take-taken.ensures.rate ∙ inv.west_rate;
        west_out_rate =
            c.send_both-west_made.ensures.rates.0 ∙ ap (λ (s : Sending). s.section.rate) c.say-west_said.ensures.sender ∙ inv.west_out_rate;
        east_out_rate =
            c.send_both-west_made.ensures.rates.1 ∙ ap (λ (s : Sending). s.section.rate) c.say-east_said.ensures.sender ∙ inv.east_out_rate;
        moments =
            ap (λ (r : Receiving). r.local.moment) east ∙ c.take-taken.ensures.east ∙ sym c.take-taken.ensures.west
            ∙ sym (ap (λ (r : Receiving). r.local.moment) west);
        held = (let was = inv.held in let now = c.one_less-self-inside.ensures in omega arith);
        ports = subst (All (IsTributary slots (i.rounds + 1))) (sym c.feed.ensures)
            (fed_are slots i.rounds i.ports inv.ports);
      };
      room = c.take_out.ensures.room;
      taken = c.take_out.ensures.taken;
    }

pub returns-clause-west : goal.returns-clause-west
returns-clause-west g c =
    let i = c.self.inside in
    let held = c.is_held-held.ensures in
    let tk = c.take-taken.new.self in
    let decided = c.decide-decided.ensures.cross ∙ (λ j. after_decision (held j) tk) in
    let west_said = c.decide-decided.ensures.west ∙ (λ j. next_word (held j) tk West (c.words_of-before.ensures.west j)) in
    let east_said = c.decide-decided.ensures.east ∙ (λ j. next_word (held j) tk East (c.words_of-before.ensures.east j)) in
    west_frame_is c.args.now.0 i.settings i.rounds i.held i.cross i.ports i.west_out i.east_out i.calm
    c.take-taken.new.self c.decide-decided.new.self c.feed.new.self c.take-taken.ensures.cross decided c.feed.ensures
    c.decide-decided.result.0.west c.decide-decided.result.0.east c.say-west_said.new.self c.say-east_said.new.self c.send_both-west_made.new.west c.send_both-west_made.new.east c.feed.new.self c.feed.new.self
    west_said east_said c.say-west_said.ensures.sender c.say-east_said.ensures.sender refl refl
    (g.E.Exit.sent West c.send_both-west_made.new.exit c.send_both-west_made.new.west_out) c.send_both-west_made.ensures.west_frame
    ∙ ap (λ (n : Node). (node_round c.args.now.0 n).1.west) c.self.view_is

pub returns-clause-east : goal.returns-clause-east
returns-clause-east g c =
    let i = c.self.inside in
    let held = c.is_held-held.ensures in
    let tk = c.take-taken.new.self in
    let decided = c.decide-decided.ensures.cross ∙ (λ j. after_decision (held j) tk) in
    let west_said = c.decide-decided.ensures.west ∙ (λ j. next_word (held j) tk West (c.words_of-before.ensures.west j)) in
    let east_said = c.decide-decided.ensures.east ∙ (λ j. next_word (held j) tk East (c.words_of-before.ensures.east j)) in
    east_frame_is c.args.now.0 i.settings i.rounds i.held i.cross i.ports i.west_out i.east_out i.calm
    c.take-taken.new.self c.decide-decided.new.self c.feed.new.self c.take-taken.ensures.cross decided c.feed.ensures
    c.decide-decided.result.0.west c.decide-decided.result.0.east c.say-west_said.new.self c.say-east_said.new.self c.send_both-west_made.new.west c.send_both-west_made.new.east c.feed.new.self c.feed.new.self
    west_said east_said c.say-west_said.ensures.sender c.say-east_said.ensures.sender refl refl
    (g.E.Exit.sent East c.send_both-west_made.new.exit c.send_both-west_made.new.east_out) c.send_both-west_made.ensures.east_frame
    ∙ ap (λ (n : Node). (node_round c.args.now.0 n).1.east) c.self.view_is

pub returns-clause-node : goal.returns-clause-node
returns-clause-node g c =
    let i = c.self.inside in
    let held = c.is_held-held.ensures in
    let tk = c.take-taken.new.self in
    let decided = c.decide-decided.ensures.cross ∙ (λ j. after_decision (held j) tk) in
    let west_said = c.decide-decided.ensures.west ∙ (λ j. next_word (held j) tk West (c.words_of-before.ensures.west j)) in
    let east_said = c.decide-decided.ensures.east ∙ (λ j. next_word (held j) tk East (c.words_of-before.ensures.east j)) in
    let counted = c.may_be_calm-counts.ensures ∙ (λ j. nat_le 1 i.rounds && not (held j)) in
    let told =
    c.is_calm-calm.ensures
    ∙ calm_is c.args.now.0 i.settings i.rounds i.held i.cross i.ports i.west_out i.east_out i.calm
    c.take-taken.new.self c.decide-decided.new.self c.feed.new.self c.take-taken.ensures.cross decided c.feed.ensures
    c.decide-decided.result.0.west c.decide-decided.result.0.east c.say-west_said.new.self c.say-east_said.new.self c.send_both-west_made.new.west c.send_both-west_made.new.east c.feed.new.self c.feed.new.self
    west_said east_said c.say-west_said.ensures.sender c.say-east_said.ensures.sender refl refl
    c.send_both-west_made.ensures.west c.send_both-west_made.ensures.east
    c.may_be_calm-counts.result c.take-taken.result c.decide-decided.result.1 c.say-west_said.result c.send_both-west_made.result.0 c.say-east_said.result c.send_both-west_made.result.1
    counted c.take-taken.ensures.same c.decide-decided.ensures.same c.say-west_said.ensures.same c.send_both-west_made.ensures.west_same c.say-east_said.ensures.same c.send_both-west_made.ensures.east_same in
    (λ j. node_of i.settings (i.rounds + 1)
    (c.one_less-self-inside.ensures j) c.decide-decided.new.self (all_delivered c.decide-decided.new.self c.feed.new.self) c.send_both-west_made.new.west c.send_both-west_made.new.east c.is_calm-calm.result)
    ∙ node_is c.args.now.0 i.settings i.rounds i.held i.cross i.ports i.west_out i.east_out i.calm
    c.take-taken.new.self c.decide-decided.new.self c.feed.new.self c.take-taken.ensures.cross decided c.feed.ensures
    c.decide-decided.result.0.west c.decide-decided.result.0.east c.say-west_said.new.self c.say-east_said.new.self c.send_both-west_made.new.west c.send_both-west_made.new.east c.feed.new.self c.feed.new.self
    west_said east_said c.say-west_said.ensures.sender c.say-east_said.ensures.sender refl refl
    c.send_both-west_made.ensures.west c.send_both-west_made.ensures.east
    c.is_calm-calm.result told
    ∙ ap (λ (n : Node). (node_round c.args.now.0 n).0) c.self.view_is

pub returns-clause-goes_on : goal.returns-clause-goes_on
returns-clause-goes_on g c =
    subst (GoesOn c.args.now.0 c.args.self.now) (sym (returns-clause-node g c)) (round_goes_on c.args.now.0 c.args.self.now)
