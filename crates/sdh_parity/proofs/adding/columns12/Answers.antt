use Rattle.std.proofs.Common.{ℕ, ◌+◌, ◌*◌, ◌^◌, ◌<◌, ◌≤◌, get_or, length, refl, ◌∙◌, arith}
use Rattle.std.proofs.lemmas.List.{get_or-replicate}
use Rattle.sdh_parity.proofs.Lanes.{next-lane, next-length, first-lane}
use Rattle.sdh_parity.proofs.adding.columns12.Goals as goal

pub loop-r-init : goal.loop-r-init
loop-r-init c = record { len = refl; each = λ k h. get_or-replicate 16 k 0 0 h ∙ first-lane c.args.bytes.now c.args.at 12 k }

pub loop-r-preserved : goal.loop-r-preserved
loop-r-preserved c =
    let bytes = c.args.bytes.now in
    let at = c.args.at in
    let r = c.loop-r.r in
    let room : at + r * 12 + 16 ≤ length bytes = omega arith in
    let small : (k : ℕ) → get_or bytes k 0 < 2 ^ 8 = λ k. omega (arith, c.type_inv.bytes k) in
    record {
      len = next-length bytes c.loop-r.all (at + r * 12) room c.loop-r.invariant.len;
      each = next-lane bytes c.loop-r.all at 12 r room c.loop-r.invariant.len small c.loop-r.invariant.each;
    }
