-- The last end of a defect, round by round.
use Rattle.std.proofs.Common.{◌≡◌, ℕ, zero, suc, ◌+◌, ◌-◌, ◌<◌, Bool, true, false, Some, None, refl, sym, ap, ◌∙◌, arith}
use Rattle.std.specs.Prelude.{if◌then◌else◌}
use Rattle.sdh_restoration.specs.History.{SideHistory, ends_at, last_end}

step : (threshold : ℕ) (h : SideHistory) (u : ℕ) (b : Bool) → ends_at threshold h (suc u) ≡ b
    → last_end threshold h (suc u) ≡ (if b then Some (suc u) else last_end threshold h u)
unfolding last_end
step threshold h u b e = ap (λ x. if x then Some (suc u) else last_end threshold h u) e

-- a defect ends in round u, which is here written as u - 1 + 1
pub last_end-here : (threshold : ℕ) (h : SideHistory) (u : ℕ) → 0 < u → ends_at threshold h (u - 1 + 1) ≡ true
    → last_end threshold h u ≡ Some (u - 1 + 1)
last_end-here threshold h zero some e = absurd (omega arith)
last_end-here threshold h (suc u) some e =
    let same : suc u - 1 + 1 ≡ suc u = omega arith in
    step threshold h u true (ap (ends_at threshold h) (sym same) ∙ e) ∙ ap Some (sym same)

pub last_end-before : (threshold : ℕ) (h : SideHistory) (u : ℕ) → 0 < u → ends_at threshold h (u - 1 + 1) ≡ false
    → last_end threshold h u ≡ last_end threshold h (u - 1)
last_end-before threshold h zero some e = absurd (omega arith)
last_end-before threshold h (suc u) some e =
    let same : suc u - 1 + 1 ≡ suc u = omega arith in
    let less : u ≡ suc u - 1 = omega arith in
    step threshold h u false (ap (ends_at threshold h) (sym same) ∙ e) ∙ ap (last_end threshold h) less

pub last_end-none : (threshold : ℕ) (h : SideHistory) (u : ℕ) → u ≡ 0 → last_end threshold h u ≡ None
unfolding last_end
last_end-none threshold h zero e = refl
last_end-none threshold h (suc u) e = absurd (omega arith)
