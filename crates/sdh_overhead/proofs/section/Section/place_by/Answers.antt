use Rattle.std.proofs.Common.{◌≡◌, ◌+◌, ◌*◌, ◌-◌, ◌≤◌, length, take, ap, sym, ◌∙◌, arith}
use Rattle.std.proofs.lemmas.List.{length-take-le, get_or-take}
use Rattle.sdh_ringmap.specs.Rates.{n_of}
use Rattle.sdh_frame.specs.Fields.{field_at}
use Rattle.sdh_overhead.specs.Overhead.{Added, written}
use Rattle.sdh_overhead.specs.Sections.{Parities, SectionKept, last_of}
use Rattle.sdh_overhead.specs.Rows.{clear_row}
use Rattle.sdh_overhead.proofs.Trips.{placed_blank}
use Rattle.sdh_overhead.proofs.Passing.{rate_few, row-written}
use Rattle.sdh_overhead.proofs.section.Section.place_by.Goals as goal

pub returns : goal.returns
returns c =
    let s = c.self.inside in
    let n = c.args.n in
    let rate : n ≡ n_of s.rate = c.requires.rate ∙ ap (λ (k : SectionKept). n_of k.rate) (sym c.self.view_is) in
    let row = c.args.row in
    let bytes = c.args.bytes.now in
    let p : Parities = record { b1 = s.b1; b2 = take (3 * n) s.b2 } in
    let a : Added = record { k1 = c.args.k1; k2 = c.args.k2; b1 = s.b1; b2 = take (3 * n) s.b2 } in
    let few : 3 * n ≤ 48 = omega (arith, rate_few s.rate, rate) in
    let long : length bytes ≡ 270 * n =
    c.requires.bytes ∙ ap (λ (k : SectionKept). 270 * n_of k.rate) (sym c.self.view_is) ∙ ap (λ k. 270 * k) (sym rate) in
    row-written n row c.args.k1 c.args.k2 p (last_of n s.known s.b1 s.b2) bytes c.write_head.new.head c.requires.first long
    (c.write_head.auto.head ∙ length-take-le (9 * n) bytes (omega arith)) (placed_blank n s.known s.b1 s.b2 few c.self.invariant.blank)
    (λ k h. c.write_head.ensures k h ∙ ap (written a (field_at n row (k + 1))) (get_or-take (9 * n) bytes k 0 h))
    ∙ ap (λ m. clear_row m (last_of m s.known s.b1 s.b2) c.args.k1 c.args.k2 ((row - 1) * (270 * m)) bytes) rate
    ∙ ap (λ (k : SectionKept). clear_row (n_of k.rate) k.last c.args.k1 c.args.k2 ((row - 1) * (270 * n_of k.rate)) bytes) c.self.view_is
