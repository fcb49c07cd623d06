use Rattle.std.proofs.Common.{◌≡◌, ℕ, List, ap, sym, ◌∙◌}
use Rattle.sdh_ringmap.specs.Rates.{n_of}
use Rattle.sdh_frame.specs.Sizes.{Frame}
use Rattle.sdh_frame.specs.Aus.{Au}
use Rattle.sdh_interchange.specs.Assembled.{assembled}
use Rattle.sdh_terminal.specs.Passing.{Input, states_of, aus_sent}
use Rattle.sdh_terminal.specs.Tributaries.{added_last}
use Rattle.sdh_terminal.specs.Lines.{all_fed_by}
use Rattle.sdh_terminal.specs.Sending.{Sending, frame_from, after_sending}
use Rattle.sdh_terminal.proofs.Frames.{sent-is, kept-is}
use Rattle.sdh_terminal.proofs.sender.send_side.Given as given
use Rattle.sdh_terminal.proofs.sender.send_side.Goals as goal

-- what is sent on the side: the AU-4s, as they were put together
module _ (g : given.Over) (c : goal.After-write_frame g) where
  abbrev input : ℕ → Input
  input =
      all_fed_by (g.X.Matrix.lines c.args.cross.now) (added_last c.args.ports.now) (g.X.Matrix.leads c.args.cross.now c.args.side)

  abbrev s : Sending
  s = record {
    section = c.sender.inside.section;
    generators = states_of c.sender.inside.generators.items;
    word = c.sender.inside.word;
  }

  is : s ≡ c.args.sender.now
  is = c.sender.view_is

  at : c.args.out.now.rate ≡ s.section.rate
  at = sym (ap (λ (x : Sending). x.section.rate) is ∙ c.requires.section)

  abbrev frame : Frame
  frame = g.E.Exit.sent c.args.side c.write_frame.new.exit c.write_frame.new.out

  abbrev aus : List Au
  aus =
      let content = c.content_of-content.result in
      assembled (n_of c.args.out.now.rate) content.first.now.bytes content.second.now.bytes content.own
      content.choice.sources content.pointers.now

  same : aus ≡ aus_sent input s.generators
  same =
      let content = c.content_of-content.ensures in
      (λ i. assembled (n_of (sym c.requires.rate i)) (content.first i).bytes (content.second i).bytes (content.own i)
      (content.choice i).sources (content.pointers i)) ∙ c.plan-same.ensures.aus

pub returns-clause-frame : goal.returns-clause-frame
returns-clause-frame g c =
    let content = c.content_of-content in
    sent-is (input g c) (s g c) c.args.out.now (frame g c) (aus g c) content.result.k1 content.result.k2 c.rate.ensures.len
    (at g c) c.sender.invariant.side.generators (same g c) content.ensures.k1 content.ensures.k2 c.write_frame.ensures.frame
    ∙ ap (frame_from (input g c)) (is g c)

pub returns-clause-sender : goal.returns-clause-sender
unfolding after_sending
returns-clause-sender g c =
    let content = c.content_of-content in
    let kept =
    kept-is (input g c) (s g c) c.args.out.now (frame g c) (aus g c) content.result.k1 content.result.k2 c.rate.ensures.len
    (at g c) c.sender.invariant.side.generators (same g c) content.ensures.k1 content.ensures.k2 c.write_frame.ensures.frame
    c.write_frame.new.section c.write_frame.ensures.section in
    (λ i. record { section = kept i; generators = c.plan-same.ensures.generators i; word = (s g c).word })
    ∙ ap (after_sending (input g c)) (is g c)
