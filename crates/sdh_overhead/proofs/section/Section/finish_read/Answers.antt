use Rattle.std.proofs.Common.{◌≡◌, ◌+◌, ◌*◌, true, false, None, ap, sym, subst, ◌∙◌, arith}
use Rattle.sdh_ringmap.specs.Rates.{n_of}
use Rattle.sdh_parity.specs.Scrambling.{scrambled}
use Rattle.sdh_overhead.specs.Sections.{SectionKept, UnderWay, next_of, is_framed, last_of, under_way_in}
use Rattle.sdh_overhead.specs.Rows.{ArePassed, AreRead}
use Rattle.sdh_overhead.proofs.Passing.{rows-next}
use Rattle.sdh_overhead.proofs.Reading.{some-read, passed-framed, kept-framed, is-unframed, kept-unframed}
use Rattle.sdh_overhead.proofs.section.Section.finish_read.Goals as goal

pub returns-then-not-self-clause-read : goal.returns-then-not-self-clause-read
returns-then-not-self-clause-read c = λ line are.
    let s = c.self.inside in
    let r = s.rows in
    let u : UnderWay = under_way_in r in
    let was = subst (λ (k : SectionKept). AreRead (n_of k.rate) k.last line k.under_way) (sym c.self.view_is) are in
    let nine : u.rows + 1 ≡ 10 = sym (rows-next u) ∙ ap (λ (k : SectionKept). next_of k.under_way) c.self.view_is ∙ c.requires in
    let read = some-read (n_of s.rate) (last_of (n_of s.rate) s.known s.b1 s.b2) line u (omega arith) was in
    let is : is_framed (n_of c.args.self.now.rate) line ≡ false =
    sym (ap (λ (k : SectionKept). is_framed (n_of k.rate) line) c.self.view_is) ∙ sym read.framed ∙ c.if-not-self.true in
    let kept = kept-unframed (n_of c.args.self.now.rate) line is in (
      is-unframed (n_of c.args.self.now.rate) c.args.self.now.last line is,
      c.forget.ensures
          ∙ (λ i. record { rate = c.args.self.now.rate; last = kept i; under_way = None }),
    )

pub returns-clause-read : goal.returns-clause-read
returns-clause-read c = λ line are.
    let s = c.self.inside in
    let r = s.rows in
    let n = n_of c.args.self.now.rate in
    let u : UnderWay = under_way_in r in
    let was = subst (λ (k : SectionKept). AreRead (n_of k.rate) k.last line k.under_way) (sym c.self.view_is) are in
    let nine : u.rows + 1 ≡ 10 = sym (rows-next u) ∙ ap (λ (k : SectionKept). next_of k.under_way) c.self.view_is ∙ c.requires in
    let read = some-read (n_of s.rate) (last_of (n_of s.rate) s.known s.b1 s.b2) line u (omega arith) was in
    let here : is_framed (n_of s.rate) line ≡ true = sym read.framed ∙ c.if-not-self.false in
    let is : is_framed n line ≡ true = sym (ap (λ (k : SectionKept). is_framed (n_of k.rate) line) c.self.view_is) ∙ here in
    let passed =
    subst (λ (k : SectionKept). ArePassed (n_of k.rate) (scrambled (9 * n_of k.rate) line) line k.under_way) c.self.view_is
    (passed-framed (n_of s.rate) (last_of (n_of s.rate) s.known s.b1 s.b2) line u nine was here) in
    let kept = kept-framed n line is in (
      c.found-received.ensures line are is,
      c.end.ensures.last (scrambled (9 * n) line) line passed
          ∙ (λ i. record { rate = c.args.self.now.rate; last = kept i; under_way = None }),
    )
