use Rattle.std.proofs.Common.{◌≡◌, ◌++◌, ◌+◌, ◌*◌, ◌/◌, ◌%◌, length, ap, sym, ◌∙◌, arith, append_assoc}
use Rattle.std.proofs.Math.Nat.{add-mul-mod_self_left}
use Rattle.std.proofs.lemmas.List.{length-append}
use Rattle.sdh_basics.specs.Parity.{bip8}
use Rattle.sdh_parity.specs.Parity.{lane}
use Rattle.sdh_parity.proofs.Running.{whole-rows}
use Rattle.sdh_parity.proofs.adding.add_piece.Goals as goal

pub returns-clause-each : goal.returns-clause-each
returns-clause-each c = λ before at has.
    let w = 3 * c.args.n in
    let rows = length c.args.bytes.now / w in
    let whole = c.split_at.result.0.now in
    let rest = c.split_at.result.1.now in
    let cut : whole ++ rest ≡ c.args.bytes.now = sym c.split_at.ensures.by_index.0 in
    let none : 0 ≡ length before % w = omega arith in
    let long : length whole ≡ w * rows = c.split_at.ensures.front_len in
    let lanes = whole-rows w rows before whole c.args.sums.now c.add_rows.new.sums none long has c.add_rows.ensures in
    let still : 0 ≡ length (before ++ whole) % w =
    none ∙ sym (add-mul-mod_self_left (length before) w rows)
    ∙ ap (λ k. k % w) (ap (λ k. length before + k) (sym long) ∙ sym (length-append before whole)) in
    let so = c.add_bytes-2.ensures.each (before ++ whole) still lanes in
    let all : (before ++ whole) ++ rest ≡ before ++ c.args.bytes.now = append_assoc before whole rest ∙ ap (λ l. before ++ l) cut in
    (so.0 ∙ ap (λ l. length l % w) all, λ j h. so.1 j h ∙ ap (λ l. bip8 (lane w j l)) all)
