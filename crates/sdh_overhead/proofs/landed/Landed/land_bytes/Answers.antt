use Rattle.std.proofs.Common.{rules, Some, length, ap, ◌∙◌}
use Rattle.sdh_ringmap.specs.Rates.{n_of}
use Rattle.sdh_overhead.proofs.Opening.{lent-whole, lands, lands-summed}
use Rattle.sdh_overhead.proofs.landed.Landed.land_bytes.Goals as goal

pub invariant_of-self : goal.invariant_of-self
invariant_of-self c = record {
  wide = search rules;
  size =
      ap length (lent-whole c.self.inside.frame.bytes c.open_frame-parities.new.to
      (c.open_frame-parities.auto.to ∙ ap length c.bytes_mut.ensures.bytes)) ∙ c.open_frame-parities.auto.to
      ∙ ap length c.bytes_mut.ensures.bytes ∙ c.self.invariant.size;
  summed =
      lands-summed (n_of c.self.inside.frame.rate) c.n-n.result c.open_frame-parities.result.line c.open_frame-parities.result.clear
      c.self.inside.frame.bytes c.open_frame-parities.new.to c.args.bytes.now
      (c.n-n.ensures ∙ ap n_of c.rate.ensures.rate) c.open_frame-parities.ensures.bytes
      (c.open_frame-parities.auto.to ∙ ap length c.bytes_mut.ensures.bytes)
      c.open_frame-parities.ensures.line c.open_frame-parities.ensures.clear;
}

pub returns-clause-landed : goal.returns-clause-landed
returns-clause-landed c =
    ap Some
    (lands (n_of c.self.inside.frame.rate) c.n-n.result c.open_frame-parities.result.line c.open_frame-parities.result.clear
    c.self.inside.frame.bytes c.open_frame-parities.new.to c.args.bytes.now
    (c.n-n.ensures ∙ ap n_of c.rate.ensures.rate) c.open_frame-parities.ensures.bytes
    (c.open_frame-parities.auto.to ∙ ap length c.bytes_mut.ensures.bytes)
    c.open_frame-parities.ensures.line c.open_frame-parities.ensures.clear)
