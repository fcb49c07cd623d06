use Rattle.std.proofs.Common.{◌≡◌, ℕ, ◌+◌, ◌*◌, ◌/◌, ◌^◌, ◌<◌, List, ◌++◌, length, get_or, drop, ap, sym, ◌∙◌, arith, bit_xor}
use Rattle.std.proofs.lemmas.List.{length-append, take-append-drop}
use Rattle.std.specs.Prelude.{if◌then◌else◌}
use Rattle.sdh_parity.specs.Scrambling.{scrambling_byte}
use Rattle.sdh_parity.specs.Pieces.{HasLanes}
use Rattle.sdh_parity.proofs.Behind.{in-thirds, clear-lanes, key-behind}
use Rattle.sdh_parity.proofs.Sums.{parity-of-line}
use Rattle.sdh_parity.proofs.through.pass_to.Goals as goal

module _ (c : goal.After-sequence_parity) where
  abbrev from : List ℕ
  from = c.args.from.now

  abbrev to : List ℕ
  to = c.mix_to-sums.new.to ++ c.pass_rest.new.bytes

  abbrev rows : ℕ
  rows = length from / 48

  -- the bytes copied after the whole rows
  abbrev copied : List ℕ
  copied = c.copy_from_slice.new.self

  cut : from ≡ c.split_at.result.0.now ++ copied
  cut =
      sym (take-append-drop (48 * rows) from) ∙ ap (λ l. l ++ drop (48 * rows) from) (sym c.split_at.ensures.front)
      ∙ ap (λ l. c.split_at.result.0.now ++ l) (sym (c.copy_from_slice.ensures.after ∙ c.split_at.ensures.back))

  behind : length copied ≡ length c.split_at.result.1.now
  behind = ap length c.copy_from_slice.ensures.after

  each : (i : ℕ) → i < length from → get_or to i 0 ≡ bit_xor (get_or from i 0) (scrambling_byte (c.args.at + i))
  each i h =
      key-behind from c.split_at.result.0.now copied c.mix_to-sums.new.to c.pass_rest.new.bytes c.args.at rows cut c.split_at.ensures.front_len
      (omega (
        arith,
        c.mix_to-sums.auto.to,
        c.split_at_mut-whole.ensures.front_len,
        c.split_at.ensures.front_len,
      )) c.mix_to-sums.ensures.bytes c.pass_rest.ensures.bytes i
      (omega (arith, behind, c.split_at.ensures.front_len, c.split_at.ensures.back_len))

  small_to : (i : ℕ) → get_or to i 0 < 2 ^ 8
  small_to i = omega (arith, c.type_inv.to i)

  small_from : (i : ℕ) → get_or from i 0 < 2 ^ 8
  small_from i = omega (arith, c.type_inv.from i)

  lanes : HasLanes 48 (if c.args.clear_after then to else from) c.pass_rest.new.lanes
  lanes =
      clear-lanes c.args.clear_after from c.split_at.result.0.now copied c.mix_to-sums.new.to c.pass_rest.new.bytes c.join.new.all c.pass_rest.new.lanes rows cut c.split_at.ensures.front_len
      (omega (arith, behind, c.split_at.ensures.back_len)) (omega (
        arith,
        c.mix_to-sums.auto.to,
        c.split_at_mut-whole.ensures.front_len,
        c.split_at.ensures.front_len,
      )) c.pass_rest.auto.bytes small_from small_to
      (in-thirds c.join.new.all c.mix_to-sums.result.a c.mix_to-sums.result.b c.mix_to-sums.result.c
      (if c.args.clear_after then c.mix_to-sums.new.to else c.split_at.result.0.now) rows
      c.join.ensures.first c.join.ensures.second c.join.ensures.third c.mix_to-sums.ensures.a c.mix_to-sums.ensures.b c.mix_to-sums.ensures.c)
      c.pass_rest.ensures.lanes c.pass_rest.ensures.rest

pub returns-clause-bytes : goal.returns-clause-bytes
returns-clause-bytes c = each c

pub returns-clause-lanes : goal.returns-clause-lanes
returns-clause-lanes c = lanes c

pub returns-clause-line : goal.returns-clause-line
returns-clause-line c =
    let long : length (c.mix_to-sums.new.to ++ c.pass_rest.new.bytes) ≡ length c.args.from.now =
    omega (
      arith,
      length-append c.mix_to-sums.new.to c.pass_rest.new.bytes,
      c.mix_to-sums.auto.to,
      c.pass_rest.auto.bytes,
      behind c,
      c.split_at_mut-whole.ensures.front_len,
      c.split_at.ensures.back_len,
    ) in
    parity-of-line c.args.clear_after c.args.from.now (c.mix_to-sums.new.to ++ c.pass_rest.new.bytes) c.pass_rest.new.lanes c.args.at _ _ long (each c)
    (small_from c) (small_to c)
    (omega (arith, c.pass_rest.auto.lanes, c.join.auto.all)) (lanes c) c.bip8.ensures c.sequence_parity.ensures

pub returns-clause-small : goal.returns-clause-small
returns-clause-small c = small_to c
