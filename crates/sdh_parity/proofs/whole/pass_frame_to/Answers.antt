use Rattle.std.proofs.Common.{◌≡◌, ℕ, ◌++◌, ◌*◌, ◌^◌, ◌<◌, Bool, true, false, List, ◌∙◌, arith, sym, ap, bit_xor, length, get_or, drop}
use Rattle.std.specs.Prelude.{if◌then◌else◌}
use Rattle.std.proofs.lemmas.List.{drop_at, length-append}
use Rattle.sdh_basics.specs.Parity.{bip8}
use Rattle.sdh_basics.proofs.ParityLaws.{bip8-append}
use Rattle.sdh_parity.specs.Parity.{lane}
use Rattle.sdh_parity.specs.Pieces.{HasLanes}
use Rattle.sdh_parity.proofs.Mixing.{all-small}
use Rattle.sdh_parity.proofs.Frames.{heads, covered-by, scrambled-behind}
use Rattle.sdh_parity.proofs.whole.pass_frame_to.Goals as goal
use Rattle.sdh_parity.proofs.whole.pass_frame_to.Goals.{then-clear_after, else-clear_after}

-- what holds of both lists holds of the one that is taken
either-way : (after : Bool) (P : List ℕ → Type 0) (xs ys : List ℕ) → P xs → P ys → P (if after then xs else ys)
either-way true P xs ys h k = h
either-way false P xs ys h k = k

-- the head and the rest, which are those of either frame
parity-with : (after : Bool) (head back rest : List ℕ) → bit_xor (bip8 head) (bip8 (if after then back else rest))
    ≡ bip8 (if after then head ++ back else head ++ rest)
parity-with true head back rest = sym (bip8-append head back)
parity-with false head back rest = sym (bip8-append head rest)

rest-of : (after : Bool) (k : ℕ) (to from rest back : List ℕ) → rest ≡ drop k to → back ≡ drop k from
    → (if after then rest else back) ≡ drop k (if after then to else from)
rest-of true k to from rest back e f = e
rest-of false k to from rest back e f = f

module _ (c : goal.After-bip8) where
  abbrev from : List ℕ
  from = c.args.from.now

  abbrev front : List ℕ
  front = c.split_at.result.0.now

  abbrev back : List ℕ
  back = c.split_at.result.1.now

  abbrev head : List ℕ
  head = c.copy_from_slice.new.self

  abbrev rest : List ℕ
  rest = c.pass_to-passed.new.to

  same : head ≡ front
  same = c.copy_from_slice.ensures.after

  cut : from ≡ front ++ back
  cut = c.split_at.ensures.by_index.0

  behind : length rest ≡ length back
  behind =
      omega (arith, c.pass_to-passed.auto.to, c.split_at_mut-head.ensures.back_len, c.split_at.ensures.back_len, c.requires.from, c.requires.to)

  long : length (head ++ rest) ≡ 2430 * c.args.n
  long =
      omega (
        arith,
        length-append head rest,
        ap length same,
        c.split_at.ensures.front_len,
        c.pass_to-passed.auto.to,
        c.split_at_mut-head.ensures.back_len,
        c.requires.to,
      )

  has : HasLanes (3 * c.args.n) (heads c.args.n (if c.args.clear_after then head ++ rest else from)) c.if-clear_after.clear
  has j h =
      let lane-of : Bool → ℕ = λ b. bip8 (lane (3 * c.args.n) j (heads c.args.n (if b then head ++ rest else from))) in
      elim c.if-clear_after.branch [
        | then-clear_after w ↦ ap (λ l. get_or l j 0) w.clear-is ∙ w.heads_of-clear.ensures.lanes j h ∙ sym (ap lane-of w.if-clear_after.true)
        | else-clear_after w ↦ ap (λ l. get_or l j 0) w.clear-is ∙ w.heads_of-clear-else-clear_after.ensures.lanes j h
            ∙ sym (ap lane-of w.if-clear_after.false)
      ]

pub returns-clause-bytes : goal.returns-clause-bytes
returns-clause-bytes c =
    ap (λ l. l ++ rest c) (same c)
    ∙ scrambled-behind c.args.n (from c) (front c) (rest c) (back c) (cut c) c.split_at.ensures.front_len (behind c) c.pass_to-passed.ensures.bytes

pub returns-clause-line : goal.returns-clause-line
returns-clause-line c =
    (λ i. bit_xor (c.bip8.ensures i) (c.pass_to-passed.ensures.line i))
    ∙ parity-with c.args.clear_after (front c) (back c) (rest c)
    ∙ ap (λ l. bip8 (if c.args.clear_after then l else front c ++ rest c)) (sym (cut c))
    ∙ ap (λ l. bip8 (if c.args.clear_after then from c else l ++ rest c)) (sym (same c))

pub returns-clause-clear : goal.returns-clause-clear
returns-clause-clear c =
    let after = c.args.clear_after in
    covered-by c.args.n (if after then head c ++ rest c else from c) (if after then rest c else back c) c.pass_to-passed.result.lanes
    c.if-clear_after.clear c.add_lanes.new.sums
    (either-way after (λ l. length l ≡ 2430 * c.args.n) (head c ++ rest c) (from c) (long c) c.requires.from)
    (omega (arith, c.requires.rate)) (omega (arith, c.requires.rate, c.add_lanes.auto.sums, c.if-clear_after.array_long))
    (rest-of after (9 * c.args.n) (head c ++ rest c) (from c) (rest c) (back c)
    (sym (drop_at (head c) (rest c) _ (ap length (same c) ∙ c.split_at.ensures.front_len))) c.split_at.ensures.back)
    (either-way after (λ l. (i : ℕ) → get_or l i 0 < 2 ^ 8) (rest c) (back c) c.pass_to-passed.ensures.small
    (all-small (back c) (rest c) 0 c.pass_to-passed.ensures.bytes c.pass_to-passed.ensures.small))
    (has c) c.pass_to-passed.ensures.lanes c.add_lanes.ensures
