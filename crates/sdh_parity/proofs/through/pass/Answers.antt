use Rattle.std.proofs.Common.{◌≡◌, ℕ, ◌+◌, ◌/◌, ◌^◌, ◌<◌, List, ◌++◌, length, get_or, arith, bit_xor}
use Rattle.std.proofs.lemmas.List.{length-append}
use Rattle.std.specs.Prelude.{if◌then◌else◌}
use Rattle.sdh_parity.specs.Scrambling.{scrambling_byte}
use Rattle.sdh_parity.proofs.Mixing.{all-small}
use Rattle.sdh_parity.proofs.Behind.{in-thirds, clear-lanes, key-behind}
use Rattle.sdh_parity.proofs.Sums.{parity-of-line}
use Rattle.sdh_parity.proofs.through.pass.Goals as goal

pub returns-clause-bytes : goal.returns-clause-bytes
returns-clause-bytes c = λ i h.
    let split = c.split_at_mut-whole in
    let rows : ℕ = length c.args.bytes.now / 48 in
    key-behind c.args.bytes.now split.result.0.now split.result.1.now c.mix-sums.new.bytes c.pass_rest.new.bytes c.args.at rows split.ensures.value split.ensures.front_len c.mix-sums.auto.bytes c.mix-sums.ensures.bytes c.pass_rest.ensures.bytes i
    (omega (arith, split.ensures.front_len, split.ensures.back_len))

module _ (c : goal.After-sequence_parity) where
  abbrev old : List ℕ
  old = c.args.bytes.now

  abbrev new : List ℕ
  new = c.mix-sums.new.bytes ++ c.pass_rest.new.bytes

  each : (i : ℕ) → i < length old → get_or new i 0 ≡ bit_xor (get_or old i 0) (scrambling_byte (c.args.at + i))
  each = returns-clause-bytes c

  small_new : (i : ℕ) → get_or new i 0 < 2 ^ 8
  small_new i = omega (arith, c.type_inv.bytes i)

  small_old : (i : ℕ) → get_or old i 0 < 2 ^ 8
  small_old = all-small old new c.args.at each small_new

pub returns-clause-lanes : goal.returns-clause-lanes
returns-clause-lanes c =
    let split = c.split_at_mut-whole in
    let rows : ℕ = length c.args.bytes.now / 48 in
    clear-lanes c.args.clear_after c.args.bytes.now split.result.0.now split.result.1.now c.mix-sums.new.bytes c.pass_rest.new.bytes c.join.new.all c.pass_rest.new.lanes rows split.ensures.value split.ensures.front_len
    (omega (arith, split.ensures.back_len)) c.mix-sums.auto.bytes c.pass_rest.auto.bytes (small_old c) (small_new c)
    (in-thirds c.join.new.all c.mix-sums.result.a c.mix-sums.result.b c.mix-sums.result.c
    (if c.args.clear_after then c.mix-sums.new.bytes else split.result.0.now) rows
    c.join.ensures.first c.join.ensures.second c.join.ensures.third c.mix-sums.ensures.a c.mix-sums.ensures.b c.mix-sums.ensures.c)
    c.pass_rest.ensures.lanes c.pass_rest.ensures.rest

pub returns-clause-line : goal.returns-clause-line
returns-clause-line c =
    let split = c.split_at_mut-whole in
    let long : length (c.mix-sums.new.bytes ++ c.pass_rest.new.bytes) ≡ length c.args.bytes.now =
    omega (
      arith,
      length-append c.mix-sums.new.bytes c.pass_rest.new.bytes,
      c.mix-sums.auto.bytes,
      c.pass_rest.auto.bytes,
      split.ensures.front_len,
      split.ensures.back_len,
    ) in
    parity-of-line c.args.clear_after c.args.bytes.now (c.mix-sums.new.bytes
    ++ c.pass_rest.new.bytes) c.pass_rest.new.lanes c.args.at _ _ long (each c) (small_old c) (small_new c)
    (omega (arith, c.pass_rest.auto.lanes, c.join.auto.all)) (returns-clause-lanes c) c.bip8.ensures c.sequence_parity.ensures

pub returns-clause-small : goal.returns-clause-small
returns-clause-small c = λ i. omega (arith, c.type_inv.bytes i)
