use Rattle.std.proofs.Common.{◌≡◌, ◌*◌, ap, take, Some, None, ◌∙◌, sym}
use Rattle.sdh_ringmap.specs.Rates.{n_of}
use Rattle.sdh_parity.specs.Parity.{section_parity}
use Rattle.sdh_overhead.specs.Sections.{SectionKept, Parities, clear_frame}
use Rattle.sdh_overhead.proofs.Opening.{summed-is}
use Rattle.sdh_overhead.proofs.section.write_bytes_to.Goals as goal

pub returns-clause-section : goal.returns-clause-section
returns-clause-section c =
    let n = n_of c.args.section.now.rate in
    let same : c.n.result ≡ n = c.n.ensures ∙ ap (λ (s : SectionKept). n_of s.rate) c.section.view_is in
    let kept = c.send_frame_to-parities.result in
    let clear = clear_frame n c.args.section.now.last c.args.k1 c.args.k2 c.args.bytes.now in
    let two : take (3 * n) kept.clear ≡ section_parity n clear =
    ap (λ m. take (3 * m) kept.clear) (sym same) ∙ c.send_frame_to-parities.ensures.clear
    ∙ ap (λ m. section_parity m c.place_all.new.bytes) same ∙ ap (section_parity n) c.place_all.ensures in
    c.keep.ensures ∙ ap (λ (p : Parities). record { rate = c.args.section.now.rate; last = Some p; under_way = None })
    (summed-is n kept.line kept.clear clear c.send_frame_to-parities.new.to c.send_frame_to-parities.ensures.line two)
