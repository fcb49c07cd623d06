use Rattle.std.proofs.Common.{◌≡◌, ◌+◌, ◌≤◌, refl, ap, sym, ◌∙◌, subst, arith, set}
use Rattle.sdh_ringmap.specs.Rates.{n_of}
use Rattle.sdh_frame.specs.Aus.{payload_of, with_payload}
use Rattle.sdh_frame.proofs.Across.{AreCopied, none_copied, one_copied, all_copied, long}
use Rattle.sdh_frame.proofs.view.copy_across.Goals as goal

pub loop-index-init : goal.loop-index-init
loop-index-init c = (refl, none_copied c.args.frame.now.rate c.args.to _ c.args.frame.now.bytes c.rate.ensures.len)

pub loop-index-preserved : goal.loop-index-preserved
loop-index-preserved c =
    let rate = c.args.frame.now.rate in
    let payload = payload_of (n_of c.args.from.now.rate) c.args.au c.args.from.now.bytes in
    let now = c.loop-index.frame.bytes in
    let j = c.loop-index.index in
    let v = c.payload_at-value.result in
    let same : c.loop-index.frame.rate ≡ rate = c.loop-index.invariant.0 in
    let bytes : c.set_payload_at.new.self.bytes ≡ with_payload (n_of rate) c.args.to (set (payload_of (n_of rate) c.args.to now) j v) now =
    ap (λ f. f.bytes) c.set_payload_at.ensures
    ∙ ap (λ r. with_payload (n_of r) c.args.to (set (payload_of (n_of r) c.args.to now) j v) now) same in (
      ap (λ f. f.rate) c.set_payload_at.ensures ∙ same,
      subst (λ b. AreCopied rate c.args.to payload c.args.frame.now.bytes b (j + 1)) (sym bytes)
          (one_copied rate c.args.to c.requires.to_first c.requires.to_last payload c.args.frame.now.bytes now j v c.loop-index-test.true
          c.payload_at-value.ensures c.loop-index.invariant.1),
    )

pub returns : goal.returns
returns c =
    let payload = payload_of (n_of c.args.from.now.rate) c.args.au c.args.from.now.bytes in
    let end : c.loop-index.index ≡ 2349 = omega arith in
    let bytes =
    all_copied c.args.frame.now.rate c.args.to c.requires.to_first c.requires.to_last payload c.args.frame.now.bytes c.loop-index.frame.bytes
    (long (n_of c.args.from.now.rate) c.args.au c.args.from.now.bytes)
    (subst (AreCopied c.args.frame.now.rate c.args.to payload c.args.frame.now.bytes c.loop-index.frame.bytes) end c.loop-index.invariant.1) in
    λ i. record { rate = c.loop-index.invariant.0 i; bytes = bytes i }
