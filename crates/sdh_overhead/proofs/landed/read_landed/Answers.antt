use Rattle.std.proofs.Common.{◌≡◌, ◌*◌, ◌≤◌, length, ap, sym, ◌∙◌, arith, Option, None}
use Rattle.sdh_ringmap.specs.Rates.{n_of}
use Rattle.sdh_overhead.specs.Sections.{Parities, found_in}
use Rattle.sdh_overhead.specs.Landing.{LandedFrame}
use Rattle.sdh_overhead.proofs.Opening.{unframed-result, unframed-kept, landed-found, landed-kept}
use Rattle.sdh_overhead.proofs.landed.read_landed.Goals as goal

pub returns-then-not-is_framed-clause-result : goal.returns-then-not-is_framed-clause-result
returns-then-not-is_framed-clause-result c = λ bytes e.
    let s = c.landed.inside in
    let n = n_of c.args.section.now.rate in
    let two : n_of s.frame.rate ≡ n = ap n_of (ap (λ (l : LandedFrame). l.rate) c.landed.view_is ∙ c.requires.rate) in
    let one : c.n.result ≡ n = c.n.ensures ∙ ap n_of c.rate.ensures.rate ∙ two in
    let long : 9 * n ≤ length s.frame.bytes = omega (arith, c.landed.invariant.size, two) in
    unframed-result c.n.result
    (n_of s.frame.rate) n s.here s.line s.clear s.frame.bytes c.bytes.result.now bytes c.args.section.now.last one two c.bytes.ensures.bytes long
    (ap (λ (l : LandedFrame). l.landed) c.landed.view_is ∙ e) c.landed.invariant.summed (sym c.is_framed.ensures ∙ c.if-not-is_framed.true)

pub returns-then-not-is_framed-clause-section : goal.returns-then-not-is_framed-clause-section
returns-then-not-is_framed-clause-section c = λ bytes e.
    let s = c.landed.inside in
    let n = n_of c.args.section.now.rate in
    let two : n_of s.frame.rate ≡ n = ap n_of (ap (λ (l : LandedFrame). l.rate) c.landed.view_is ∙ c.requires.rate) in
    let one : c.n.result ≡ n = c.n.ensures ∙ ap n_of c.rate.ensures.rate ∙ two in
    let long : 9 * n ≤ length s.frame.bytes = omega (arith, c.landed.invariant.size, two) in
    c.forget.ensures ∙ ap (λ (k : Option Parities). record { rate = c.args.section.now.rate; last = k; under_way = None })
    (unframed-kept c.n.result
    (n_of s.frame.rate) n s.here s.line s.clear s.frame.bytes c.bytes.result.now bytes c.args.section.now.last one two c.bytes.ensures.bytes long
    (ap (λ (l : LandedFrame). l.landed) c.landed.view_is ∙ e) c.landed.invariant.summed (sym c.is_framed.ensures ∙ c.if-not-is_framed.true))

pub returns-clause-result : goal.returns-clause-result
returns-clause-result c = λ bytes e.
    let s = c.landed.inside in
    let n = n_of c.args.section.now.rate in
    let two : n_of s.frame.rate ≡ n = ap n_of (ap (λ (l : LandedFrame). l.rate) c.landed.view_is ∙ c.requires.rate) in
    let one : c.n.result ≡ n = c.n.ensures ∙ ap n_of c.rate.ensures.rate ∙ two in
    let long : 9 * n ≤ length s.frame.bytes = omega (arith, c.landed.invariant.size, two) in
    c.find-received.ensures ∙ ap (found_in n c.args.section.now.last) c.bytes-2.ensures.bytes
    ∙ landed-found c.n.result
    (n_of s.frame.rate) n s.here s.line s.clear s.frame.bytes c.bytes.result.now bytes c.args.section.now.last one two c.bytes.ensures.bytes long
    (ap (λ (l : LandedFrame). l.landed) c.landed.view_is ∙ e) c.landed.invariant.summed (sym c.is_framed.ensures ∙ c.if-not-is_framed.false)

pub returns-clause-section : goal.returns-clause-section
returns-clause-section c = λ bytes e.
    let s = c.landed.inside in
    let n = n_of c.args.section.now.rate in
    let two : n_of s.frame.rate ≡ n = ap n_of (ap (λ (l : LandedFrame). l.rate) c.landed.view_is ∙ c.requires.rate) in
    let one : c.n.result ≡ n = c.n.ensures ∙ ap n_of c.rate.ensures.rate ∙ two in
    let long : 9 * n ≤ length s.frame.bytes = omega (arith, c.landed.invariant.size, two) in
    c.keep.ensures ∙ ap (λ (k : Option Parities). record { rate = c.args.section.now.rate; last = k; under_way = None })
    (landed-kept c.n.result
    (n_of s.frame.rate) n s.here s.line s.clear s.frame.bytes c.bytes.result.now bytes c.args.section.now.last one two c.bytes.ensures.bytes long
    (ap (λ (l : LandedFrame). l.landed) c.landed.view_is ∙ e) c.landed.invariant.summed
    (sym c.is_framed.ensures ∙ c.if-not-is_framed.false))
