use Rattle.std.proofs.Common.{◌≡◌, ◌∙◌, ap, sym, ℕ, ◌%◌, ◌==◌, Option, List, true, refl}
use Rattle.std.proofs.lemmas.Bool.{eq-eqb}
use Rattle.sdh_ringmap.specs.declared.terms.Rate.{Rate}
use Rattle.sdh_overhead.specs.Sections.{Parities}
use Rattle.sdh_terminal.specs.Receiving.{Reception, failure, framed_reception, frame_reception}
use Rattle.sdh_terminal.proofs.intake.find_frame.Goals as goal

-- K2 says AIS of the multiplex section, and the side fails
fails : (rate : Rate) (threshold : ℕ) (clear : List ℕ) (last : Option Parities) (k1 k2 b2 : ℕ) → k2 % 8 ≡ 7
    → framed_reception rate threshold clear last k1 k2 b2 ≡ failure rate last
fails rate threshold clear last k1 k2 b2 ais = let is : (k2 % 8 == 7) ≡ true = eq-eqb _ _ ais in rw is refl

-- a framed frame by which the side fails
by_ais : (c : goal.After-fill-in-Framed) (last : Option Parities)
    → frame_reception c.args.frame.now.rate c.args.threshold c.args.frame.now.bytes last c.args.received ≡ failure c.args.frame.now.rate last
by_ais c last = ap (frame_reception c.args.frame.now.rate c.args.threshold c.args.frame.now.bytes last) c.in-Framed.is
    ∙ fails c.args.frame.now.rate c.args.threshold c.args.frame.now.bytes last c.in-Framed.k1 c.in-Framed.k2 c.in-Framed.b2 c.if-k2-eq7.true

pub returns-in-Framed-clause-frame : goal.returns-in-Framed-clause-frame
returns-in-Framed-clause-frame c =
    λ last. c.fill-in-Framed.ensures ∙ sym (ap (λ (r : Reception). record { rate = c.args.frame.now.rate; bytes = r.bytes }) (by_ais c last))

pub returns-in-Framed-clause-defect : goal.returns-in-Framed-clause-defect
returns-in-Framed-clause-defect c = λ last. sym (ap (λ (r : Reception). r.defect) (by_ais c last))

pub returns-in-Framed-clause-word : goal.returns-in-Framed-clause-word
returns-in-Framed-clause-word c = λ last. sym (ap (λ (r : Reception). r.word) (by_ais c last))
