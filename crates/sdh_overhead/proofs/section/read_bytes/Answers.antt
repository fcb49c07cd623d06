use Rattle.std.proofs.Common.{◌≡◌, ◌*◌, ap, take, Option, Some, None, true, false, ◌∙◌, sym}
use Rattle.sdh_ringmap.specs.Rates.{n_of}
use Rattle.sdh_parity.specs.Parity.{section_parity}
use Rattle.sdh_parity.specs.Scrambling.{scrambled}
use Rattle.sdh_overhead.specs.Sections.{SectionKept, Parities, is_framed, found_in}
use Rattle.sdh_overhead.proofs.Reading.{is-unframed, kept-unframed, kept-framed}
use Rattle.sdh_overhead.proofs.Opening.{summed-is, found-framed, opened-framed, opened-unframed}
use Rattle.sdh_overhead.proofs.section.read_bytes.Goals as goal

module _ (c : goal.After-forget) where
  not-framed : is_framed (n_of c.args.section.now.rate) c.args.bytes.now ≡ false
  not-framed =
      ap (λ m. is_framed m c.args.bytes.now) (sym (c.n-n.ensures ∙ ap (λ (s : SectionKept). n_of s.rate) c.section.view_is))
      ∙ sym c.is_framed.ensures ∙ c.if-not-is_framed.true

pub returns-then-not-is_framed-clause-result : goal.returns-then-not-is_framed-clause-result
returns-then-not-is_framed-clause-result c = is-unframed (n_of c.args.section.now.rate) c.args.section.now.last c.args.bytes.now (not-framed c)

pub returns-then-not-is_framed-clause-section : goal.returns-then-not-is_framed-clause-section
returns-then-not-is_framed-clause-section c =
    c.forget.ensures ∙ ap (λ (k : Option Parities). record { rate = c.args.section.now.rate; last = k; under_way = None })
    (kept-unframed (n_of c.args.section.now.rate) c.args.bytes.now (not-framed c))

pub returns-then-not-is_framed-clause-bytes : goal.returns-then-not-is_framed-clause-bytes
returns-then-not-is_framed-clause-bytes c = opened-unframed (n_of c.args.section.now.rate) c.args.bytes.now (not-framed c)

module _ (c : goal.After-keep) where
  same : c.n-n.result ≡ n_of c.args.section.now.rate
  same = c.n-n.ensures ∙ ap (λ (s : SectionKept). n_of s.rate) c.section.view_is

  framed : is_framed (n_of c.args.section.now.rate) c.args.bytes.now ≡ true
  framed = ap (λ m. is_framed m c.args.bytes.now) (sym same) ∙ sym c.is_framed.ensures ∙ c.if-not-is_framed.false

  clear : c.receive_frame-parities.new.bytes ≡ scrambled (9 * n_of c.args.section.now.rate) c.args.bytes.now
  clear = c.receive_frame-parities.ensures.bytes ∙ ap (λ m. scrambled (9 * m) c.args.bytes.now) same

pub returns-clause-bytes : goal.returns-clause-bytes
returns-clause-bytes c = clear c ∙ opened-framed (n_of c.args.section.now.rate) c.args.bytes.now (framed c)

pub returns-clause-result : goal.returns-clause-result
returns-clause-result c =
    let n = n_of c.args.section.now.rate in
    let last = c.args.section.now.last in
    c.find-received.ensures ∙ ap (found_in n last) (clear c) ∙ found-framed n last c.args.bytes.now (framed c)

pub returns-clause-section : goal.returns-clause-section
returns-clause-section c =
    let n = n_of c.args.section.now.rate in
    let kept = c.receive_frame-parities.result in
    let two : take (3 * n) kept.clear ≡ section_parity n (scrambled (9 * n) c.args.bytes.now) =
    ap (λ m. take (3 * m) kept.clear) (sym (same c)) ∙ c.receive_frame-parities.ensures.clear
    ∙ ap (λ m. section_parity m c.receive_frame-parities.new.bytes) (same c) ∙ ap (section_parity n) (clear c) in
    c.keep.ensures ∙ ap (λ (k : Option Parities). record { rate = c.args.section.now.rate; last = k; under_way = None })
    (ap Some (summed-is n kept.line kept.clear (scrambled (9 * n) c.args.bytes.now) c.args.bytes.now c.receive_frame-parities.ensures.line two)
    ∙ kept-framed n c.args.bytes.now (framed c))
