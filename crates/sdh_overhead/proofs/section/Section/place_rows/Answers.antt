use Rattle.std.proofs.Common.{◌≡◌, ℕ, ◌+◌, ◌*◌, ◌-◌, ◌≤◌, length, take, drop, refl, ap, subst, sym, ◌∙◌, arith}
use Rattle.sdh_basics.proofs.Parts.{length-part}
use Rattle.sdh_overhead.specs.Sections.{clear_frame}
use Rattle.sdh_overhead.specs.Rows.{clear_row}
use Rattle.sdh_overhead.proofs.Nine.{PlacedTo, none-placed, placed-next, all-placed, row-within}
use Rattle.sdh_overhead.proofs.section.Section.place_rows.Goals as goal

pub loop-row-init : goal.loop-row-init
loop-row-init c = none-placed c.args.n c.args.self.now.last c.args.k1 c.args.k2 c.args.bytes.now c.requires.bytes

pub loop-row-preserved : goal.loop-row-preserved
loop-row-preserved c =
    let n = c.args.n in
    let last = c.args.self.now.last in
    let row = c.loop-row.row in
    let a : ℕ = (row - 1) * (270 * n) in
    let k : ℕ = a + 270 * n - a in
    let many : k ≡ 270 * n = omega arith in
    let room : a + k ≤ length c.loop-row.bytes = omega (arith, row-within n row (omega arith), c.loop-row.invariant.long) in
    placed-next n last c.args.k1 c.args.k2 row a k c.args.bytes.now c.loop-row.bytes c.place_by.new.bytes c.requires.bytes (omega arith)
    (omega arith) refl many c.loop-row.invariant (c.place_by.auto.bytes ∙ length-part a k c.loop-row.bytes room)
    (c.place_by.ensures ∙ ap (λ m. clear_row m last c.args.k1 c.args.k2 ((row - 1) * (270 * m)) (take k (drop a c.loop-row.bytes)))
    (sym c.requires.rate))

pub returns : goal.returns
returns c =
    let last = c.args.self.now.last in
    all-placed c.args.n last c.args.k1 c.args.k2 c.args.bytes.now c.loop-row.bytes c.requires.bytes
    (subst (λ (r : ℕ). PlacedTo c.args.n last c.args.k1 c.args.k2 c.args.bytes.now r c.loop-row.bytes) (omega arith) c.loop-row.invariant)
    ∙ ap (λ m. clear_frame m last c.args.k1 c.args.k2 c.args.bytes.now) c.requires.rate
