use Rattle.std.proofs.Common.{◌≡◌, ap, sym, ◌∙◌, subst}
use Rattle.sdh_ringmap.specs.declared.terms.Rate.TheVariants.{Four, Sixteen}
use Rattle.sdh_ringmap.specs.Rates.{n_of}
use Rattle.sdh_interchange.specs.Assembled.{Origins}
use Rattle.sdh_interchange.specs.Choosing.{AreSources}
use Rattle.sdh_interchange.proofs.ByBytes.{PickedAt, picked-same, chosen-all}
use Rattle.sdh_interchange.proofs.choice.Choice.choose.Goals as goal

pub returns-in-Four-clause-chosen : goal.returns-in-Four-clause-chosen
returns-in-Four-clause-chosen c =
    let choice = c.args.self.now in
    let from = c.args.inputs.now in
    let pass = c.pass-pass.result in
    let rate : Four ≡ choice.rate = sym c.in-Four.is ∙ ap (λ (o : Origins). o.rate) c.self.view_is in
    chosen-all choice.rate choice.sources from.first.now from.second.now from.own.now c.args.bytes.now c.choose.new.bytes c.requires.size
    (subst (λ (o : Origins). AreSources (n_of o.rate) o.sources) c.self.view_is c.self.invariant.sources)
    (subst (λ m. PickedAt m choice.sources from.first.now from.second.now from.own.now c.args.bytes.now c.choose.new.bytes) rate
    (picked-same Four pass.sources.now choice.sources pass.inputs.now from c.args.bytes.now c.choose.new.bytes
    c.pass-pass.ensures.sources c.pass-pass.ensures.inputs c.choose.ensures))

pub returns-in-Sixteen-clause-chosen : goal.returns-in-Sixteen-clause-chosen
returns-in-Sixteen-clause-chosen c =
    let choice = c.args.self.now in
    let from = c.args.inputs.now in
    let pass = c.pass-pass-in-Sixteen.result in
    let rate : Sixteen ≡ choice.rate = sym c.in-Sixteen.is ∙ ap (λ (o : Origins). o.rate) c.self.view_is in
    chosen-all choice.rate choice.sources from.first.now from.second.now from.own.now c.args.bytes.now c.choose-in-Sixteen.new.bytes
    c.requires.size
    (subst (λ (o : Origins). AreSources (n_of o.rate) o.sources) c.self.view_is c.self.invariant.sources)
    (subst (λ m. PickedAt m choice.sources from.first.now from.second.now from.own.now c.args.bytes.now c.choose-in-Sixteen.new.bytes) rate
    (picked-same Sixteen pass.sources.now choice.sources pass.inputs.now from c.args.bytes.now c.choose-in-Sixteen.new.bytes
    c.pass-pass-in-Sixteen.ensures.sources c.pass-pass-in-Sixteen.ensures.inputs c.choose-in-Sixteen.ensures))
