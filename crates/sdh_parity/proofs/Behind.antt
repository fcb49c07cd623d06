-- The bytes of a piece after its whole rows of 48.
use Rattle.std.proofs.Common.{◌≡◌, ℕ, ◌+◌, ◌*◌, ◌-◌, ◌/◌, ◌%◌, ◌^◌, ◌<◌, ◌≤◌, Bool, true, false, List, [], ◌∷◌, ◌++◌, length, get_or, refl}
use Rattle.std.proofs.Common.{ap, sym, ◌∙◌, arith, bit_xor, inl, inr}
use Rattle.std.specs.Prelude.{if◌then◌else◌}
use Rattle.std.specs.Int.Bits.{xor_zero_l, xor_zero_r}
use Rattle.std.proofs.lemmas.Bool.{cases_lt}
use Rattle.std.proofs.lemmas.List.{take_all, get_or_append_left, get_or-append_right}
use Rattle.sdh_basics.specs.Parity.{bip8}
use Rattle.sdh_basics.proofs.ParityLaws.{bip8-nil, bip8-push, bip8-append}
use Rattle.sdh_parity.specs.Parity.{lane, every}
use Rattle.sdh_parity.specs.Scrambling.{scrambling_byte}
use Rattle.sdh_parity.specs.Pieces.{HasLanes}
use Rattle.sdh_parity.proofs.Lanes.{lane-append, lane-rows, lane-short, lane-past}
use Rattle.sdh_parity.proofs.Table.{byte-repeats}

-- three thirds of 48 sums
pub in-thirds : (all a b c whole : List ℕ) (rows : ℕ)
    → ((j : ℕ) → j < 16 → get_or all j 0 ≡ get_or a j 0) → ((j : ℕ) → j < 16 → get_or all (16 + j) 0 ≡ get_or b j 0)
    → ((j : ℕ) → j < 16 → get_or all (32 + j) 0 ≡ get_or c j 0)
    → ((j : ℕ) → j < 16 → get_or a j 0 ≡ bip8 (every j 48 rows whole))
    → ((j : ℕ) → j < 16 → get_or b j 0 ≡ bip8 (every (16 + j) 48 rows whole))
    → ((j : ℕ) → j < 16 → get_or c j 0 ≡ bip8 (every (32 + j) 48 rows whole))
    → (j : ℕ) → j < 48 → get_or all j 0 ≡ bip8 (every j 48 rows whole)
in-thirds all a b c whole rows first second third ia ib ic j h =
    elim (cases_lt j 16) [
      | inl low ↦ first j low ∙ ia j low
      | inr ge ↦ elim (cases_lt j 32) [
        | inl mid ↦ (let k : ℕ = j - 16 in let e : 16 + k ≡ j = omega arith in let lt : k < 16 = omega arith in ap (λ i. get_or all i 0)
            (sym e) ∙ second k lt ∙ ib k lt ∙ ap (λ i. bip8 (every i 48 rows whole)) e)
        | inr high ↦ (let k : ℕ = j - 32 in let e : 32 + k ≡ j = omega arith in let lt : k < 16 = omega arith in ap (λ i. get_or all i 0)
            (sym e) ∙ third k lt ∙ ic k lt ∙ ap (λ i. bip8 (every i 48 rows whole)) e)
      ]
    ]

single : (x : ℕ) → x < 2 ^ 8 → bip8 (x ∷ []) ≡ x
single x h = bip8-push [] x h ∙ ap (λ z. bit_xor z x) bip8-nil ∙ xor_zero_l x

-- the lanes of whole rows and of the bytes after them
lanes-behind : (s whole rest mid out : List ℕ) (rows : ℕ) → s ≡ whole ++ rest → length whole ≡ 48 * rows → length rest ≤ 48
    → ((k : ℕ) → get_or rest k 0 < 2 ^ 8)
    → ((j : ℕ) → j < 48 → get_or mid j 0 ≡ bip8 (every j 48 rows whole))
    → ((j : ℕ) → j < length rest → get_or out j 0 ≡ bit_xor (get_or mid j 0) (get_or rest j 0))
    → ((j : ℕ) → length rest ≤ j → get_or out j 0 ≡ get_or mid j 0) → HasLanes 48 s out
lanes-behind s whole rest mid out rows cut long few small rows_are front back j h =
    let lane_is : bip8 (lane 48 j s) ≡ bit_xor (bip8 (every j 48 rows whole)) (bip8 (lane 48 j rest)) =
    ap (λ l. bip8 (lane 48 j l)) cut ∙ ap bip8 (lane-append 48 j rows whole rest (omega arith))
    ∙ bip8-append (lane 48 j whole) (lane 48 j rest)
    ∙ ap (λ z. bit_xor z (bip8 (lane 48 j rest))) (ap bip8 (ap (lane 48 j) (sym (take_all (rows * 48) whole (omega arith)))
    ∙ lane-rows 48 j whole rows h (omega arith))) in
    elim (cases_lt j (length rest)) [
      | inl inside ↦ front j inside ∙ ap (λ z. bit_xor z (get_or rest j 0)) (rows_are j h)
          ∙ sym (lane_is ∙ ap (bit_xor (bip8 (every j 48 rows whole)))
          (ap bip8 (lane-short 48 j rest inside few) ∙ single (get_or rest j 0) (small j)))
      | inr past ↦ back j past ∙ rows_are j h ∙ sym (lane_is
          ∙ ap (bit_xor (bip8 (every j 48 rows whole))) (ap bip8 (lane-past 48 j rest past h) ∙ bip8-nil)
          ∙ xor_zero_r (bip8 (every j 48 rows whole)))
    ]

-- the sequence over whole rows and over the bytes after them
pub key-behind : (old front back whole rest : List ℕ) (at rows : ℕ) → old ≡ front ++ back → length front ≡ 48 * rows
    → length whole ≡ length front
    → ((i : ℕ) → i < 48 * rows → get_or whole i 0 ≡ bit_xor (get_or front i 0) (scrambling_byte (at + i)))
    → ((i : ℕ) → i < length back → get_or rest i 0 ≡ bit_xor (get_or back i 0) (scrambling_byte ((at + 48 * rows) % 1016 + i)))
    → (i : ℕ) → i < length front + length back → get_or (whole ++ rest) i 0 ≡ bit_xor (get_or old i 0) (scrambling_byte (at + i))
key-behind old front back whole rest at rows cut long same first second i h =
    elim (cases_lt i (48 * rows)) [
      | inl low ↦ get_or_append_left whole rest 0 i (omega arith) ∙ first i low
          ∙ ap (λ z. bit_xor z (scrambling_byte (at + i))) (sym
          (ap (λ l. get_or l i 0) cut ∙ get_or_append_left front back 0 i (omega arith)))
      | inr high ↦
          let k : ℕ = i - 48 * rows in
          let e : 48 * rows + k ≡ i = omega arith in
          let lt : k < length back = omega arith in
          let f : (at + 48 * rows) / 1016 * 1016 + ((at + 48 * rows) % 1016 + k) ≡ at + i = omega arith in
          let wide : length whole ≡ 48 * rows = same ∙ long in
          get_or-append_right whole rest (48 * rows) i 0 wide high ∙ second k lt
          ∙ ap (λ z. bit_xor z (scrambling_byte ((at + 48 * rows) % 1016 + k)))
          (sym (ap (λ l. get_or l i 0) cut ∙ get_or-append_right front back (48 * rows) i 0 long high))
          ∙ ap (bit_xor (get_or old i 0)) (sym (byte-repeats ((at + 48 * rows) / 1016) ((at + 48 * rows) % 1016 + k))
          ∙ ap scrambling_byte f)
    ]

small-behind : (s front back : List ℕ) → s ≡ front ++ back → ((i : ℕ) → get_or s i 0 < 2 ^ 8) → (k : ℕ) → get_or back k 0 < 2 ^ 8
small-behind s front back cut small k =
    let at : get_or s (length front + k) 0 ≡ get_or back k 0 =
    ap (λ l. get_or l (length front + k) 0) cut ∙ get_or-append_right front back (length front) (length front + k) 0 refl (omega arith)
    ∙ ap (λ i. get_or back i 0) (omega arith) in
    omega (arith, small (length front + k), at)

-- the lanes of the clear bytes: those after the sequence was added where `after` holds, and those before it otherwise
pub clear-lanes : (after : Bool) (old whole rest whole_new rest_new mid out : List ℕ) (rows : ℕ) → old ≡ whole ++ rest
    → length whole ≡ 48 * rows → length rest ≤ 48 → length whole_new ≡ length whole → length rest_new ≡ length rest
    → ((k : ℕ) → get_or old k 0 < 2 ^ 8) → ((k : ℕ) → get_or (whole_new ++ rest_new) k 0 < 2 ^ 8)
    → ((j : ℕ) → j < 48 → get_or mid j 0 ≡ bip8 (every j 48 rows (if after then whole_new else whole)))
    → ((j : ℕ) → j < length rest → get_or out j 0 ≡ bit_xor (get_or mid j 0) (get_or (if after then rest_new else rest) j 0))
    → ((j : ℕ) → length rest ≤ j → get_or out j 0 ≡ get_or mid j 0)
    → HasLanes 48 (if after then whole_new ++ rest_new else old) out
clear-lanes true old whole rest whole_new rest_new mid out rows cut long few same_whole same_rest small_old small_new rows_are front back =
    lanes-behind (whole_new ++ rest_new) whole_new rest_new mid out rows refl (same_whole ∙ long) (omega arith)
    (small-behind (whole_new ++ rest_new) whole_new rest_new refl small_new) rows_are
    (λ j h. front j (omega arith)) (λ j h. back j (omega arith))
clear-lanes false old whole rest whole_new rest_new mid out rows cut long few same_whole same_rest small_old small_new rows_are front back =
    lanes-behind old whole rest mid out rows cut long few (small-behind old whole rest cut small_old) rows_are front back
