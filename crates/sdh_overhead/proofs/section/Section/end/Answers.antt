use Rattle.std.proofs.Common.{◌≡◌, ℕ, List, ◌*◌, take, ap, sym, subst, ◌∙◌, Some, None}
use Rattle.sdh_ringmap.specs.Rates.{n_of}
use Rattle.sdh_overhead.specs.Sections.{SectionKept, UnderWay, under_way_of, parities_of, under_way_in}
use Rattle.sdh_overhead.specs.Rows.{ArePassed}
use Rattle.sdh_overhead.proofs.Passing.{as-passed, none-under-way, rows-kept}
use Rattle.sdh_overhead.proofs.section.Section.end.Goals as goal

pub returns-clause-last : goal.returns-clause-last
returns-clause-last c = λ clear line are.
    let s = c.self.inside in
    let r = s.rows in
    let t = c.new-self-inside.result in
    let u : UnderWay = under_way_in r in
    let v : UnderWay = under_way_in t in
    let n = n_of s.rate in
    let rate : n_of s.rate ≡ n_of c.args.self.now.rate = ap (λ (k : SectionKept). n_of k.rate) c.self.view_is in
    let was : ArePassed n clear line (under_way_of u) =
    subst (λ m. ArePassed m clear line (under_way_of u)) (sym rate)
    (subst (ArePassed (n_of c.args.self.now.rate) clear line) (sym (ap (λ (k : SectionKept). k.under_way) c.self.view_is)) are) in
    let all = as-passed n r.scrambler clear line u c.self.invariant.placed was in
    let b2 : List ℕ = take (3 * n) c.parity_of_rows-self-inside.result in
    let sums : b2 ≡ r.clear.sums =
    ap (λ m. take (3 * m) c.parity_of_rows-self-inside.result) (sym c.n-n.ensures) ∙ c.parity_of_rows-self-inside.ensures in
    let kept = rows-kept n c.value-self-inside.result b2 clear line r.clear (c.value-self-inside.ensures ∙ all.b1) sums all.b2 in
    let none = none-under-way v c.new-self-inside.ensures.passed in
    (λ i. record { rate = s.rate; last = Some (kept i); under_way = none i })
    ∙ ap (λ (k : SectionKept). record {
      rate = k.rate;
      last = Some (parities_of (n_of k.rate) clear line);
      under_way = None;
    }) c.self.view_is
