-- The bytes of BIP-24N while pieces are added.
use Rattle.std.proofs.Common.{◌≡◌, ℕ, ◌+◌, ◌*◌, ◌/◌, ◌%◌, ◌^◌, ◌<◌, ◌≤◌, ◌≢◌, ◌⊎◌, true, false, List, [], ◌∷◌, ◌++◌, length, take}
use Rattle.std.proofs.Common.{replicate, set, get_or, refl, ap, sym, ◌∙◌, arith, bit_xor, inl, inr}
use Rattle.std.specs.Prelude.{◌==◌}
use Rattle.std.proofs.Math.Nat.{mod-eq_of_lt, mod-add-div', mod-add-mod}
use Rattle.std.proofs.lemmas.Bool.{cases_eq, eq-eqb, ne_eqb}
use Rattle.std.proofs.lemmas.List.{length-append, length-take-le, length-replicate, get_or-replicate, take_all, append-nil, get_or-take}
use Rattle.std.proofs.lemmas.List.{get_or-set_same, get_or-set_other}
use Rattle.sdh_basics.specs.Parity.{bip8}
use Rattle.sdh_basics.proofs.ParityLaws.{bip8-nil, bip8-push, bip8-append}
use Rattle.sdh_basics.proofs.CellsLaws.{cells-from, get_or-cells}
use Rattle.sdh_parity.specs.Parity.{lane, lane_from, every, bip_lanes}
use Rattle.sdh_parity.specs.Pieces.{Running, after_bytes, HasLanes}
use Rattle.sdh_parity.proofs.Lanes.{lane_from-append, lane-append, lane-rows}
use Rattle.sdh_parity.proofs.Folding.{four-lanes}

-- a lane with one more byte, in the lane or outside it
pushed : (m j : ℕ) (before : List ℕ) (x : ℕ) → length before % m ≡ j → lane m j (before ++ x ∷ []) ≡ lane m j before ++ x ∷ []
pushed m j before x at =
    let hit : ((length before % m) == j) ≡ true = eq-eqb _ _ at in
    let start : 0 + length before ≡ length before = omega arith in
    lane_from-append m j 0 before (x ∷ []) ∙ ap (λ zs. lane m j before ++ zs) (ap (λ k. lane_from m j k (x ∷ [])) start ∙ rw hit refl)

passed : (m j : ℕ) (before : List ℕ) (x : ℕ) → length before % m ≢ j → lane m j (before ++ x ∷ []) ≡ lane m j before
passed m j before x at =
    let miss : ((length before % m) == j) ≡ false = ne_eqb _ _ at in
    let start : 0 + length before ≡ length before = omega arith in
    lane_from-append m j 0 before (x ∷ []) ∙ ap (λ zs. lane m j before ++ zs) (ap (λ k. lane_from m j k (x ∷ [])) start ∙ rw miss refl)
    ∙ append-nil (lane m j before)

pub one-byte : (m next x : ℕ) (before sums : List ℕ) → next < m → m ≤ length sums → x < 2 ^ 8 → next ≡ length before % m
    → HasLanes m before sums → HasLanes m (before ++ x ∷ []) (set sums next (bit_xor (get_or sums next 0) x))
one-byte m next x before sums small room byte at has j h =
    elim (cases_eq j next) [
      | inl same ↦ (
          ap (λ k. get_or (set sums next (bit_xor (get_or sums next 0) x)) k 0) same
          ∙ get_or-set_same sums next (bit_xor (get_or sums next 0) x) 0 (omega arith)
          ∙ ap (λ k. bit_xor (get_or sums k 0) x) (sym same) ∙ ap (λ z. bit_xor z x) (has j h)
          ∙ sym (ap bip8 (pushed m j before x (sym at ∙ sym same)) ∙ bip8-push (lane m j before) x byte))
      | inr other ↦ get_or-set_other sums next j (bit_xor (get_or sums next 0) x) 0 other ∙ has j h
          ∙ sym (ap bip8 (passed m j before x (λ e. other (sym e ∙ sym at))))
    ]

pub next-lane-is : (m next : ℕ) (before : List ℕ) (x : ℕ) → next ≡ length before % m → (next + 1) % m ≡ length (before ++ x ∷ []) % m
next-lane-is m next before x at =
    ap (λ k. (k + 1) % m) at ∙ mod-add-mod (length before) m 1 ∙ ap (λ k. k % m) (sym (length-append before (x ∷ [])))

-- whole rows after a whole number of rows
pub whole-rows : (m rows : ℕ) (before bytes old new : List ℕ) → 0 ≡ length before % m → length bytes ≡ m * rows → HasLanes m before old
    → ((j : ℕ) → j < m → get_or new j 0 ≡ bit_xor (get_or old j 0) (bip8 (every j m rows bytes))) → HasLanes m (before ++ bytes) new
whole-rows m rows before bytes old new at long has each j h =
    let whole : length before ≡ length before / m * m = omega (arith, mod-add-div' (length before) m) in
    each j h ∙ ap (λ z. bit_xor z (bip8 (every j m rows bytes))) (has j h)
    ∙ ap (bit_xor (bip8 (lane m j before))) (ap bip8 (sym (lane-rows m j bytes rows h (omega arith))
    ∙ ap (lane m j) (take_all (rows * m) bytes (omega arith))))
    ∙ sym (ap bip8 (lane-append m j (length before / m) before bytes whole) ∙ bip8-append (lane m j before) (lane m j bytes))

-- ---- what a running parity keeps

abbrev pub kept : ℕ → ℕ → List ℕ → Running
kept n next sums = record { n = n; next = next; sums = take (3 * n) sums }

pub lanes-are : (m : ℕ) (sums before : List ℕ) → m ≤ length sums → HasLanes m before sums → take m sums ≡ bip_lanes m before
unfolding bip_lanes
lanes-are m sums before room has =
    sym (cells-from (λ i. bip8 (lane m i before)) m 0 (take m sums) (length-take-le m sums room)
    (λ k h. sym (get_or-take m sums k 0 h ∙ has k h)))

pub kept-is : (n next : ℕ) (sums before : List ℕ) → 3 * n ≤ length sums → next ≡ length before % (3 * n) → HasLanes (3 * n) before sums
    → kept n next sums ≡ after_bytes n before
unfolding after_bytes
kept-is n next sums before room at has =
    ap (λ k. record { n = n; next = k; sums = take (3 * n) sums }) at
    ∙ ap (λ l. record { n = n; next = length before % (3 * n); sums = l }) (lanes-are (3 * n) sums before room has)

pub kept-next : (n next : ℕ) (sums before : List ℕ) → kept n next sums ≡ after_bytes n before → next ≡ length before % (3 * n)
unfolding after_bytes
kept-next n next sums before e = ap (λ (r : Running). r.next) e

pub kept-lanes : (n next : ℕ) (sums before : List ℕ) → kept n next sums ≡ after_bytes n before → HasLanes (3 * n) before sums
unfolding after_bytes bip_lanes
kept-lanes n next sums before e j h =
    sym (get_or-take (3 * n) sums j 0 h) ∙ ap (λ (r : Running). get_or r.sums j 0) e
    ∙ get_or-cells (λ i. bip8 (lane (3 * n) i before)) (3 * n) j 0 h

pub no-lanes : (m : ℕ) → m ≤ 48 → HasLanes m [] (replicate 48 0)
no-lanes m room j h = get_or-replicate 48 j 0 0 (omega arith) ∙ sym bip8-nil

pub fresh : (n : ℕ) → (n ≡ 4) ⊎ (n ≡ 16) → kept n 0 (replicate 48 0) ≡ after_bytes n []
fresh n (inl e) =
    kept-is n 0 (replicate 48 0) [] (omega (arith, length-replicate {A = ℕ} 48 0)) (sym (mod-eq_of_lt (omega arith)))
    (no-lanes (3 * n) (omega arith))
fresh n (inr e) =
    kept-is n 0 (replicate 48 0) [] (omega (arith, length-replicate {A = ℕ} 48 0)) (sym (mod-eq_of_lt (omega arith)))
    (no-lanes (3 * n) (omega arith))

pub rate-is : (n : ℕ) (s : Running) (before : List ℕ) → s ≡ after_bytes n before → s.n ≡ n
unfolding after_bytes
rate-is n s before e = ap (λ (r : Running). r.n) e

-- one more piece
pub goes-on : (n : ℕ) (old new : Running) (before bytes : List ℕ) → old ≡ after_bytes n before
    → ((b : List ℕ) → old ≡ after_bytes old.n b → new ≡ after_bytes old.n (b ++ bytes)) → new ≡ after_bytes n (before ++ bytes)
goes-on n old new before bytes is each =
    let e = rate-is n old before is in
    each before (is ∙ ap (λ k. after_bytes k before) (sym e)) ∙ ap (λ k. after_bytes k (before ++ bytes)) e

pub sums-are : (n : ℕ) (s : Running) (bytes : List ℕ) → s ≡ after_bytes n bytes → s.sums ≡ bip_lanes (3 * n) bytes
unfolding after_bytes
sums-are n s bytes e = ap (λ (r : Running). r.sums) e

-- ---- a piece by its BIP of 48 bytes

pub folded-in : (before bytes old new lanes : List ℕ) → 0 ≡ length before % 12 → HasLanes 12 before old → HasLanes 48 bytes lanes
    → ((i : ℕ) → get_or bytes i 0 < 2 ^ 8)
    → ((j : ℕ) → j < 12 → get_or new j 0 ≡ bit_xor (get_or old j 0)
    (bit_xor (bit_xor (bit_xor (get_or lanes j 0) (get_or lanes (12 + j) 0)) (get_or lanes (24 + j) 0)) (get_or lanes (36 + j) 0)))
    → HasLanes 12 (before ++ bytes) new
folded-in before bytes old new lanes at has lanes_are small each j h =
    let whole : length before ≡ length before / 12 * 12 = omega (arith, at) in
    each j h ∙ ap (bit_xor (get_or old j 0)) (four-lanes j bytes lanes h small lanes_are)
    ∙ ap (λ z. bit_xor z (bip8 (lane 12 j bytes))) (has j h)
    ∙ sym (ap bip8 (lane-append 12 j (length before / 12) before bytes whole) ∙ bip8-append (lane 12 j before) (lane 12 j bytes))

pub lanes-in : (before bytes old new lanes : List ℕ) → 0 ≡ length before % 48 → HasLanes 48 before old → HasLanes 48 bytes lanes
    → ((j : ℕ) → j < 48 → get_or new j 0 ≡ bit_xor (get_or old j 0) (get_or lanes j 0)) → HasLanes 48 (before ++ bytes) new
lanes-in before bytes old new lanes at has lanes_are each j h =
    let whole : length before ≡ length before / 48 * 48 = omega (arith, at) in
    each j h ∙ ap (bit_xor (get_or old j 0)) (lanes_are j h) ∙ ap (λ z. bit_xor z (bip8 (lane 48 j bytes))) (has j h)
    ∙ sym (ap bip8 (lane-append 48 j (length before / 48) before bytes whole) ∙ bip8-append (lane 48 j before) (lane 48 j bytes))

pub length-behind : (m : ℕ) (before bytes : List ℕ) → 0 ≡ length before % m → length bytes % m ≡ length (before ++ bytes) % m
length-behind m before bytes at = let start : length bytes ≡ 0 + length bytes =
    omega arith in ap (λ k. k % m) start ∙ ap (λ k. (k + length bytes) % m) at ∙ mod-add-mod (length before) m (length bytes)
    ∙ ap (λ k. k % m) (sym (length-append before bytes))
