use Rattle.std.proofs.Common.{◌≡◌, ℕ, ◌*◌, ◌%◌, ◌++◌, length, ap, sym, subst, ◌∙◌, arith}
use Rattle.sdh_parity.specs.Pieces.{HasLanes}
use Rattle.sdh_parity.proofs.Running.{folded-in, lanes-in}
use Rattle.sdh_parity.proofs.adding.add_lanes.Goals as goal

pub returns-then-n-eq4 : goal.returns-then-n-eq4
returns-then-n-eq4 c = λ before bytes at has lanes small.
    let w : 12 ≡ 3 * c.args.n = omega arith in
    subst (λ (m : ℕ). HasLanes m (before ++ bytes) c.add_folded.new.sums) w
    (folded-in before bytes c.args.sums.now c.add_folded.new.sums c.args.lanes.now (at ∙ ap (λ m. length before % m) (sym w))
    (subst (λ (m : ℕ). HasLanes m before c.args.sums.now) (sym w) has) lanes small c.add_folded.ensures)

pub returns-else-n-eq4 : goal.returns-else-n-eq4
returns-else-n-eq4 c = λ before bytes at has lanes small.
    let w : 48 ≡ 3 * c.args.n = omega arith in
    subst (λ (m : ℕ). HasLanes m (before ++ bytes) c.add_to.new.sums) w
    (lanes-in before bytes c.args.sums.now c.add_to.new.sums c.args.lanes.now (at ∙ ap (λ m. length before % m) (sym w))
    (subst (λ (m : ℕ). HasLanes m before c.args.sums.now) (sym w) has) lanes c.add_to.ensures.front)
