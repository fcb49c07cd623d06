use Rattle.std.proofs.Common.{◌≡◌, None, ap, sym, ◌∙◌}
use Rattle.sdh_frame.specs.Sizes.{Frame}
use Rattle.sdh_ringmap.specs.Rates.{n_of}
use Rattle.sdh_terminal.specs.Receiving.{Reception, Intake}
use Rattle.sdh_terminal.proofs.Landing.{by_landing}
use Rattle.sdh_terminal.proofs.intake.Intake.find.Goals as goal

pub invariant_of-self : goal.invariant_of-self
invariant_of-self c =
    c.self.invariant ∙ ap n_of (sym (ap (λ (f : Frame). f.rate) (c.find_frame.ensures.frame None) ∙ c.swap_frame.ensures.rate))

pub returns-clause-intake : goal.returns-clause-intake
returns-clause-intake c =
    let rate =
    ap (λ (f : Frame). f.rate) (c.find_frame.ensures.frame None) ∙ c.swap_frame.ensures.rate
    ∙ ap (λ (i : Intake). i.frame.rate) c.self.view_is in
    let bytes =
    by_landing _ _ c.args.threshold c.args.section.now.last c.args.inbox.now.landed c.read_landed-received.result c.swap_frame.new.frame
    (c.requires.section ∙ sym c.requires.rate) c.requires.here c.read_landed-received.ensures.result c.swap_frame.ensures.frame
    (λ (r : Reception). c.find_frame.new.frame.bytes ≡ r.bytes)
    (λ k. ap (λ (f : Frame). f.bytes) (c.find_frame.ensures.frame k)) in
    let actions = ap (λ (i : Intake). i.actions) c.self.view_is in
    (λ j. record { frame = record { rate = rate j; bytes = bytes j }; actions = actions j })

pub returns-clause-defect : goal.returns-clause-defect
returns-clause-defect c =
    by_landing _ _ c.args.threshold c.args.section.now.last c.args.inbox.now.landed c.read_landed-received.result c.swap_frame.new.frame
    (c.requires.section ∙ sym c.requires.rate) c.requires.here c.read_landed-received.ensures.result c.swap_frame.ensures.frame
    (λ (r : Reception). c.find_frame.result.0 ≡ r.defect) c.find_frame.ensures.defect

pub returns-clause-word : goal.returns-clause-word
returns-clause-word c =
    by_landing _ _ c.args.threshold c.args.section.now.last c.args.inbox.now.landed c.read_landed-received.result c.swap_frame.new.frame
    (c.requires.section ∙ sym c.requires.rate) c.requires.here c.read_landed-received.ensures.result c.swap_frame.ensures.frame
    (λ (r : Reception). c.find_frame.result.1 ≡ r.word) c.find_frame.ensures.word
