-- Vectors that are added, and sums that grow by a row.
use Rattle.std.proofs.Common.{◌≡◌, ℕ, ◌+◌, ◌*◌, ◌-◌, ◌/◌, ◌%◌, ◌^◌, ◌<◌, ◌≤◌, Bool, true, false, List, length, get_or, ap, sym, ◌∙◌, arith}
use Rattle.std.proofs.Common.{bit_xor, inl, inr, subst, refl, replicate}
use Rattle.std.specs.Prelude.{if◌then◌else◌}
use Rattle.std.specs.Int.Bits.{xor_assoc, xor_self, xor_zero_r}
use Rattle.std.proofs.lemmas.Bool.{cases_lt}
use Rattle.std.proofs.lemmas.List.{get_or-replicate}
use Rattle.std.specs.Simd.Lanes.{zip2}
use Rattle.std.proofs.lemmas.Nat.{xor_lt}
use Rattle.std.proofs.lemmas.Simd.{length-zip2, get_or-zip2}
use Rattle.std.proofs.Math.ListN.{get_or-eq_default}
use Rattle.sdh_basics.specs.Parity.{bip8}
use Rattle.sdh_basics.proofs.ParityLaws.{bip8-nil, bip8-push, from_bits-lt}
use Rattle.sdh_basics.proofs.CellsLaws.{cells-zero, cells-more, cells-same}
use Rattle.sdh_parity.specs.Parity.{every}
use Rattle.sdh_parity.specs.Scrambling.{scrambling_bit, scrambling_byte}
use Rattle.sdh_parity.proofs.Registers.{bit-lt}
use Rattle.sdh_parity.proofs.Table.{byte-repeats}

pub added_long : (xs ys : List ℕ) → length xs ≡ 16 → length ys ≡ 16 → length (zip2 bit_xor xs ys) ≡ 16
added_long xs ys lx ly = length-zip2 bit_xor xs ys (lx ∙ sym ly) ∙ lx

pub added_at : (xs ys : List ℕ) (j : ℕ) → length xs ≡ 16 → length ys ≡ 16 → j < 16
    → get_or (zip2 bit_xor xs ys) j 0 ≡ bit_xor (get_or xs j 0) (get_or ys j 0)
added_at xs ys j lx ly h = get_or-zip2 bit_xor xs ys j 0 0 0 (omega arith) (omega arith)

-- the sequence at a place that is the same modulo 1016
pub key-at : (at r k j : ℕ) → k % 1016 ≡ (at + 48 * r) % 1016 → scrambling_byte (k + j) ≡ scrambling_byte (at + (48 * r + j))
key-at at r k j e =
    let left : k / 1016 * 1016 + (k % 1016 + j) ≡ k + j = omega arith in
    let right : (at + 48 * r) / 1016 * 1016 + (k % 1016 + j) ≡ at + (48 * r + j) = omega arith in
    ap scrambling_byte (sym left) ∙ byte-repeats (k / 1016) (k % 1016 + j)
    ∙ sym (byte-repeats ((at + 48 * r) / 1016) (k % 1016 + j)) ∙ ap scrambling_byte right

-- one row more
pub one-more : (s : List ℕ) (at r x : ℕ) → get_or s (at + r * 48) 0 < 2 ^ 8
    → bit_xor (bip8 (every at 48 r s)) (get_or s (at + r * 48) 0) ≡ bip8 (every at 48 (r + 1) s)
one-more s at r x small =
    sym (bip8-push (every at 48 r s) (get_or s (at + r * 48) 0) small) ∙ ap bip8 (sym (cells-more (λ i. get_or s (at + i * 48) 0) r))

pub no-rows : (s : List ℕ) (at : ℕ) → 0 ≡ bip8 (every at 48 0 s)
no-rows s at = sym (ap bip8 (cells-zero (λ i. get_or s (at + i * 48) 0)) ∙ bip8-nil)

-- the rows before stay
pub same-rows : (s t : List ℕ) (at r : ℕ) → at < 48 → ((i : ℕ) → i < 48 * r → get_or s i 0 ≡ get_or t i 0)
    → every at 48 r s ≡ every at 48 r t
same-rows s t at r h same = cells-same _ _ r 0 (λ q lt. same (at + q * 48) (omega arith))

pub byte-lt : (k : ℕ) → scrambling_byte k < 2 ^ 8
unfolding scrambling_byte
byte-lt k = from_bits-lt (λ j. scrambling_bit (8 * k + (7 - j))) 8 (λ j. bit-lt (8 * k + (7 - j)))

-- a byte is below 256 where it is with the sequence added
pub small-back : (x y k : ℕ) → y ≡ bit_xor x (scrambling_byte k) → y < 2 ^ 8 → x < 2 ^ 8
small-back x y k e h =
    let back : bit_xor y (scrambling_byte k) ≡ x =
    ap (λ z. bit_xor z (scrambling_byte k)) e ∙ xor_assoc x (scrambling_byte k) (scrambling_byte k)
    ∙ ap (bit_xor x) (xor_self (scrambling_byte k)) ∙ xor_zero_r x in
    subst (λ z. z < 2 ^ 8) back (xor_lt 8 y (scrambling_byte k) h (byte-lt k))

-- what holds of each third of 48
pub thirds : (P : ℕ → Type 0) → ((j : ℕ) → j < 16 → P j) → ((j : ℕ) → j < 16 → P (16 + j)) → ((j : ℕ) → j < 16 → P (32 + j)) → (j : ℕ)
    → j < 48 → P j
thirds P first second third j h =
    elim (cases_lt j 16) [
      | inl low ↦ first j low
      | inr ge ↦ elim (cases_lt j 32) [
        | inl mid ↦ (let e : 16 + (j - 16) ≡ j = omega arith in subst P e (second (j - 16) (omega arith)))
        | inr high ↦ (let e : 32 + (j - 32) ≡ j = omega arith in subst P e (third (j - 32) (omega arith)))
      ]
    ]

-- ---- a row in three steps

-- each step adds the sequence to its third of the row, and the other steps leave that third
module _ (old b1 b2 b3 : List ℕ) (i k : ℕ)
    (inside1 : (j : ℕ) → j < 16 → get_or b1 (i + j) 0 ≡ bit_xor (get_or old (i + j) 0) (scrambling_byte (k + j)))
    (below2 : (m : ℕ) → m < i + 16 → get_or b2 m 0 ≡ get_or b1 m 0)
    (inside2 : (j : ℕ) → j < 16 → get_or b2 (i + 16 + j) 0 ≡ bit_xor (get_or old (i + 16 + j) 0) (scrambling_byte (k + 16 + j)))
    (below3 : (m : ℕ) → m < i + 32 → get_or b3 m 0 ≡ get_or b2 m 0)
    (inside3 : (j : ℕ) → j < 16 → get_or b3 (i + 32 + j) 0 ≡ bit_xor (get_or old (i + 32 + j) 0) (scrambling_byte (k + 32 + j))) where
  pub stays1 : (j : ℕ) → j < 16 → get_or b3 (i + j) 0 ≡ get_or b1 (i + j) 0
  stays1 j h = below3 (i + j) (omega arith) ∙ below2 (i + j) (omega arith)

  pub stays2 : (j : ℕ) → j < 16 → get_or b3 (i + (16 + j)) 0 ≡ get_or b2 (i + 16 + j) 0
  stays2 j h = below3 (i + (16 + j)) (omega arith) ∙ ap (λ m. get_or b2 m 0) (omega arith)

  pub stays3 : (j : ℕ) → get_or b3 (i + (32 + j)) 0 ≡ get_or b3 (i + 32 + j) 0
  stays3 j = ap (λ m. get_or b3 m 0) (omega arith)

  pub row-inside : (j : ℕ) → j < 48 → get_or b3 (i + j) 0 ≡ bit_xor (get_or old (i + j) 0) (scrambling_byte (k + j))
  row-inside =
      let at : (n j : ℕ) → bit_xor (get_or old (i + n + j) 0) (scrambling_byte (k + n + j))
      ≡ bit_xor (get_or old (i + (n + j)) 0) (scrambling_byte (k + (n + j))) =
      λ n j. (let e : i + n + j ≡ i + (n + j) = omega arith in let f : k + n + j ≡ k + (n + j) = omega arith in
      λ t. bit_xor (get_or old (e t) 0) (scrambling_byte (f t))) in
      thirds (λ j. get_or b3 (i + j) 0 ≡ bit_xor (get_or old (i + j) 0) (scrambling_byte (k + j)))
      (λ j h. stays1 j h ∙ inside1 j h) (λ j h. stays2 j h ∙ inside2 j h ∙ at 16 j) (λ j h. stays3 j ∙ inside3 j h ∙ at 32 j)

-- the same in place: each step leaves what lies above it
module _ (old b1 b2 b3 : List ℕ) (i k : ℕ)
    (above1 : (m : ℕ) → i + 16 ≤ m → get_or b1 m 0 ≡ get_or old m 0)
    (above2 : (m : ℕ) → i + 16 + 16 ≤ m → get_or b2 m 0 ≡ get_or b1 m 0)
    (inside2 : (j : ℕ) → j < 16 → get_or b2 (i + 16 + j) 0 ≡ bit_xor (get_or b1 (i + 16 + j) 0) (scrambling_byte (k + 16 + j)))
    (inside3 : (j : ℕ) → j < 16 → get_or b3 (i + 32 + j) 0 ≡ bit_xor (get_or b2 (i + 32 + j) 0) (scrambling_byte (k + 32 + j))) where
  pub was2 : (j : ℕ) → get_or b1 (i + 16 + j) 0 ≡ get_or old (i + 16 + j) 0
  was2 j = above1 (i + 16 + j) (omega arith)

  pub was3 : (j : ℕ) → get_or b2 (i + 32 + j) 0 ≡ get_or old (i + 32 + j) 0
  was3 j = above2 (i + 32 + j) (omega arith) ∙ above1 (i + 32 + j) (omega arith)

  pub from2 : (j : ℕ) → j < 16 → get_or b2 (i + 16 + j) 0 ≡ bit_xor (get_or old (i + 16 + j) 0) (scrambling_byte (k + 16 + j))
  from2 j h = inside2 j h ∙ ap (λ z. bit_xor z (scrambling_byte (k + 16 + j))) (was2 j)

  pub from3 : (j : ℕ) → j < 16 → get_or b3 (i + 32 + j) 0 ≡ bit_xor (get_or old (i + 32 + j) 0) (scrambling_byte (k + 32 + j))
  from3 j h = inside3 j h ∙ ap (λ z. bit_xor z (scrambling_byte (k + 32 + j))) (was3 j)

-- a place of the clear bytes
pub clear-at : (after : Bool) (to from to' from' : List ℕ) (m n : ℕ) → get_or to m 0 ≡ get_or to' n 0 → get_or from m 0 ≡ get_or from' n 0
    → get_or (if after then to else from) m 0 ≡ get_or (if after then to' else from') n 0
clear-at true to from to' from' m n e f = e
clear-at false to from to' from' m n e f = f

-- ---- row after row

-- rows to which the sequence was added, and its place at the next one
pub record KeyedTo (at : ℕ) (old new : List ℕ) (r k : ℕ) : Type 0 where
  pub key : k % 1016 ≡ (at + 48 * r) % 1016
  pub done : (i : ℕ) → i < 48 * r → get_or new i 0 ≡ bit_xor (get_or old i 0) (scrambling_byte (at + i))

-- the sums of the columns of these rows
pub record SummedTo (clear a b c : List ℕ) (r : ℕ) : Type 0 where
  pub longs : (length a ≡ 16) × (length b ≡ 16) × (length c ≡ 16)
  pub first : (j : ℕ) → j < 16 → get_or a j 0 ≡ bip8 (every j 48 r clear)
  pub second : (j : ℕ) → j < 16 → get_or b j 0 ≡ bip8 (every (16 + j) 48 r clear)
  pub third : (j : ℕ) → j < 16 → get_or c j 0 ≡ bip8 (every (32 + j) 48 r clear)

pub none-summed : (clear a b c : List ℕ) → a ≡ replicate 16 0 → b ≡ replicate 16 0 → c ≡ replicate 16 0 → SummedTo clear a b c 0
none-summed clear a b c ea eb ec =
    let none : (l : List ℕ) (at j : ℕ) → j < 16 → l ≡ replicate 16 0 → get_or l j 0 ≡ bip8 (every at 48 0 clear) =
    λ l at j h e. ap (λ m. get_or m j 0) e ∙ get_or-replicate 16 j 0 0 h ∙ no-rows clear at in record {
      longs = (ap length ea, ap length eb, ap length ec);
      first = λ j h. none a j j h ea;
      second = λ j h. none b (16 + j) j h eb;
      third = λ j h. none c (32 + j) j h ec;
    }

pub keyed-next : (at : ℕ) (old now new : List ℕ) (r k i : ℕ) → i ≡ 48 * r → KeyedTo at old now r k
    → ((m : ℕ) → m < i → get_or new m 0 ≡ get_or now m 0)
    → ((j : ℕ) → j < 48 → get_or new (i + j) 0 ≡ bit_xor (get_or old (i + j) 0) (scrambling_byte (k + j)))
    → KeyedTo at old new (r + 1) (k + 48)
keyed-next at old now new r k i is so below inside = record {
  key = omega (arith, so.key);
  done = λ m h.
      elim (cases_lt m (48 * r)) [
        | inl before ↦ below m (omega arith) ∙ so.done m before
        | inr row ↦ (
            let j : ℕ = m - i in
            let e : i + j ≡ m = omega arith in
            let f : at + (48 * r + j) ≡ at + m = omega arith in
            ap (λ n. get_or new n 0) (sym e) ∙ inside j (omega arith) ∙ ap (λ n. bit_xor (get_or old n 0) (scrambling_byte (k + j))) e
            ∙ ap (bit_xor (get_or old m 0)) (key-at at r k j so.key ∙ ap scrambling_byte f))
      ];
}

pub summed-next : (clear clear' a b c a' b' c' : List ℕ) (r i : ℕ) → i ≡ 48 * r → SummedTo clear a b c r
    → ((m : ℕ) → m < i → get_or clear' m 0 ≡ get_or clear m 0) → ((m : ℕ) → m < i + 48 → get_or clear' m 0 < 2 ^ 8)
    → (length a' ≡ 16) × (length b' ≡ 16) × (length c' ≡ 16)
    → ((j : ℕ) → j < 16 → get_or a' j 0 ≡ bit_xor (get_or a j 0) (get_or clear' (i + j) 0))
    → ((j : ℕ) → j < 16 → get_or b' j 0 ≡ bit_xor (get_or b j 0) (get_or clear' (i + (16 + j)) 0))
    → ((j : ℕ) → j < 16 → get_or c' j 0 ≡ bit_xor (get_or c j 0) (get_or clear' (i + (32 + j)) 0))
    → SummedTo clear' a' b' c' (r + 1)
summed-next clear clear' a b c a' b' c' r i is so below small longs fa fb fc =
    let more : (m s v : ℕ) → m < 48 → s ≡ bip8 (every m 48 r clear) → v ≡ bit_xor s (get_or clear' (i + m) 0)
    → v ≡ bip8 (every m 48 (r + 1) clear') =
    λ m s v h e f. (let at : i + m ≡ m + r * 48 = omega arith in
    f ∙ ap (λ z. bit_xor z (get_or clear' (i + m) 0)) (e ∙ ap bip8 (same-rows clear clear' m r h (λ n lt. sym (below n (omega arith)))))
    ∙ ap (λ n. bit_xor (bip8 (every m 48 r clear')) (get_or clear' n 0)) at
    ∙ one-more clear' m r 0 (subst (λ n. get_or clear' n 0 < 2 ^ 8) at (small (i + m) (omega arith)))) in record {
      longs = longs;
      first = λ j h. more j _ _ (omega arith) (so.first j h) (fa j h);
      second = λ j h. more (16 + j) _ _ (omega arith) (so.second j h) (fb j h);
      third = λ j h. more (32 + j) _ _ (omega arith) (so.third j h) (fc j h);
    }

-- rows that were copied
pub record CopiedTo (after : Bool) (at : ℕ) (from to a b c : List ℕ) (r k : ℕ) : Type 0 where
  pub keyed : KeyedTo at from to r k
  pub summed : SummedTo (if after then to else from) a b c r

pub none-copied : (after : Bool) (at k : ℕ) (from to a b c : List ℕ) → k ≡ at % 1016 → a ≡ replicate 16 0 → b ≡ replicate 16 0
    → c ≡ replicate 16 0 → CopiedTo after at from to a b c 0 k
none-copied after at k from to a b c is ea eb ec = record {
  keyed = record { key = omega (arith, is); done = λ i h. absurd (omega arith) };
  summed = none-summed (if after then to else from) a b c ea eb ec;
}

-- the place in the sequence may be another one that is the same modulo 1016
pub copied-at : (after : Bool) (at : ℕ) (from to a b c : List ℕ) (r r' k k' : ℕ) → r ≡ r' → k % 1016 ≡ k' % 1016
    → CopiedTo after at from to a b c r k → CopiedTo after at from to a b c r' k'
copied-at after at from to a b c r r' k k' e same so =
    subst (λ n. CopiedTo after at from to a b c n k') e (record {
      keyed = record { key = sym same ∙ so.keyed.key; done = so.keyed.done };
      summed = so.summed;
    })

module _ (after : Bool) (at : ℕ) (from to new a b c a' b' c' : List ℕ) (r k i : ℕ) (is : i ≡ 48 * r)
    (so : CopiedTo after at from to a b c r k)
    (below : (m : ℕ) → m < i → get_or new m 0 ≡ get_or to m 0)
    (inside : (j : ℕ) → j < 48 → get_or new (i + j) 0 ≡ bit_xor (get_or from (i + j) 0) (scrambling_byte (k + j)))
    (small : (m : ℕ) → get_or new m 0 < 2 ^ 8)
    (longs : (length a' ≡ 16) × (length b' ≡ 16) × (length c' ≡ 16)) where
  keyed' : KeyedTo at from new (r + 1) (k + 48)
  keyed' = keyed-next at from to new r k i is so.keyed below inside

  pub copied-next : ((j : ℕ) → j < 16 → get_or a' j 0 ≡ bit_xor (get_or a j 0) (get_or (if after then new else from) (i + j) 0))
      → ((j : ℕ) → j < 16 → get_or b' j 0 ≡ bit_xor (get_or b j 0) (get_or (if after then new else from) (i + (16 + j)) 0))
      → ((j : ℕ) → j < 16 → get_or c' j 0 ≡ bit_xor (get_or c j 0) (get_or (if after then new else from) (i + (32 + j)) 0))
      → CopiedTo after at from new a' b' c' (r + 1) (k + 48)
  copied-next fa fb fc = record {
    keyed = keyed';
    summed =
        summed-next (if after then to else from) (if after then new else from) a b c a' b' c' r i is so.summed (stay after) (clear-small after)
        longs fa fb fc;
  }
    where
      stay : (t : Bool) (m : ℕ) → m < i → get_or (if t then new else from) m 0 ≡ get_or (if t then to else from) m 0
      stay t m h = clear-at t new from to from m m (below m h) refl

      clear-small : (t : Bool) (m : ℕ) → m < i + 48 → get_or (if t then new else from) m 0 < 2 ^ 8
      clear-small true m h = small m
      clear-small false m h = small-back (get_or from m 0) (get_or new m 0) (at + m) (keyed'.done m (omega arith)) (small m)

  -- by the parities d, e and f of the columns of this row alone
  pub copied-row : (d e f : List ℕ) → ((j : ℕ) → j < 16 → get_or a' j 0 ≡ bit_xor (get_or a j 0) (get_or d j 0))
      → ((j : ℕ) → j < 16 → get_or b' j 0 ≡ bit_xor (get_or b j 0) (get_or e j 0))
      → ((j : ℕ) → j < 16 → get_or c' j 0 ≡ bit_xor (get_or c j 0) (get_or f j 0))
      → ((j : ℕ) → j < 16 → get_or d j 0 ≡ get_or (if after then new else from) (i + j) 0)
      → ((j : ℕ) → j < 16 → get_or e j 0 ≡ get_or (if after then new else from) (i + (16 + j)) 0)
      → ((j : ℕ) → j < 16 → get_or f j 0 ≡ get_or (if after then new else from) (i + (32 + j)) 0)
      → CopiedTo after at from new a' b' c' (r + 1) (k + 48)
  copied-row d e f fa fb fc ga gb gc =
      copied-next (λ j h. fa j h ∙ ap (bit_xor (get_or a j 0)) (ga j h)) (λ j h. fb j h ∙ ap (bit_xor (get_or b j 0)) (gb j h))
      (λ j h. fc j h ∙ ap (bit_xor (get_or c j 0)) (gc j h))

-- rows that were passed in place: those that come stay as they were
pub record MixedTo (after : Bool) (at : ℕ) (old now a b c : List ℕ) (r k : ℕ) : Type 0 where
  pub copied : CopiedTo after at old now a b c r k
  pub rest : (i : ℕ) → 48 * r ≤ i → get_or now i 0 ≡ get_or old i 0

pub none-mixed : (after : Bool) (at k : ℕ) (old a b c : List ℕ) → k ≡ at % 1016 → a ≡ replicate 16 0 → b ≡ replicate 16 0
    → c ≡ replicate 16 0 → MixedTo after at old old a b c 0 k
none-mixed after at k old a b c is ea eb ec = record {
  copied = none-copied after at k old old a b c is ea eb ec;
  rest = λ i h. refl;
}

pub mixed-at : (after : Bool) (at : ℕ) (old now a b c : List ℕ) (r r' k k' : ℕ) → r ≡ r' → k % 1016 ≡ k' % 1016
    → MixedTo after at old now a b c r k → MixedTo after at old now a b c r' k'
mixed-at after at old now a b c r r' k k' e same so = record {
  copied = copied-at after at old now a b c r r' k k' e same so.copied;
  rest = subst (λ n. (i : ℕ) → 48 * n ≤ i → get_or now i 0 ≡ get_or old i 0) e so.rest;
}

module _ (after : Bool) (at : ℕ) (old now new a b c a' b' c' : List ℕ) (r k i : ℕ) (is : i ≡ 48 * r)
    (so : MixedTo after at old now a b c r k)
    (below : (m : ℕ) → m < i → get_or new m 0 ≡ get_or now m 0)
    (inside : (j : ℕ) → j < 48 → get_or new (i + j) 0 ≡ bit_xor (get_or now (i + j) 0) (scrambling_byte (k + j)))
    (above : (m : ℕ) → i + 48 ≤ m → get_or new m 0 ≡ get_or now m 0)
    (small : (m : ℕ) → get_or new m 0 < 2 ^ 8)
    (longs : (length a' ≡ 16) × (length b' ≡ 16) × (length c' ≡ 16)) where
  was : (m : ℕ) → get_or now (i + m) 0 ≡ get_or old (i + m) 0
  was m = so.rest (i + m) (omega arith)

  clear-was : (m : ℕ) → get_or (if after then new else now) (i + m) 0 ≡ get_or (if after then new else old) (i + m) 0
  clear-was m = clear-at after new now new old (i + m) (i + m) refl (was m)

  pub mixed-next : ((j : ℕ) → j < 16 → get_or a' j 0 ≡ bit_xor (get_or a j 0) (get_or (if after then new else now) (i + j) 0))
      → ((j : ℕ) → j < 16 → get_or b' j 0 ≡ bit_xor (get_or b j 0) (get_or (if after then new else now) (i + (16 + j)) 0))
      → ((j : ℕ) → j < 16 → get_or c' j 0 ≡ bit_xor (get_or c j 0) (get_or (if after then new else now) (i + (32 + j)) 0))
      → MixedTo after at old new a' b' c' (r + 1) (k + 48)
  mixed-next fa fb fc = record {
    copied =
        copied-next after at old now new a b c a' b' c' r k i is so.copied below
        (λ j h. inside j h ∙ ap (λ z. bit_xor z (scrambling_byte (k + j))) (was j)) small longs
        (λ j h. fa j h ∙ ap (bit_xor (get_or a j 0)) (clear-was j)) (λ j h. fb j h ∙ ap (bit_xor (get_or b j 0)) (clear-was (16 + j)))
        (λ j h. fc j h ∙ ap (bit_xor (get_or c j 0)) (clear-was (32 + j)));
    rest = λ m h. above m (omega arith) ∙ so.rest m (omega arith);
  }

-- bytes are below 256 where the bytes with the sequence added are
pub all-small : (old new : List ℕ) (at : ℕ) → ((i : ℕ) → i < length old
    → get_or new i 0 ≡ bit_xor (get_or old i 0) (scrambling_byte (at + i))) → ((i : ℕ) → get_or new i 0 < 2 ^ 8) → (i : ℕ)
    → get_or old i 0 < 2 ^ 8
all-small old new at each small i =
    elim (cases_lt i (length old)) [
      | inl below ↦ small-back (get_or old i 0) (get_or new i 0) (at + i) (each i below) (small i)
      | inr above ↦ omega (arith, get_or-eq_default old 0 {n = i} above)
    ]
