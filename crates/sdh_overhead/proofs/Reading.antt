-- Rows of a received frame, one after the other.
use Rattle.std.proofs.Common.{◌≡◌, ℕ, ◌+◌, ◌*◌, ◌-◌, ◌<◌, ◌≤◌, Bool, true, false, List, [], ◌++◌, length, get_or, take, drop, Option, Some}
use Rattle.std.proofs.Common.{None, refl, ap, sym, subst, ◌∙◌, arith, inl, inr}
use Rattle.std.specs.Prelude.{slice_range, ◌==◌, ◌&&◌, if◌then◌else◌}
use Rattle.std.specs.List.{list_all}
use Rattle.std.proofs.lemmas.Bool.{cases_eq, ne_eqb, eq-eqb}
use Rattle.std.proofs.lemmas.Nat.{mul-le}
use Rattle.std.proofs.Math.Nat.{zero-mul}
use Rattle.std.proofs.Math.Seq.{drop-append-add}
use Rattle.std.proofs.lemmas.List.{get_or_append_left, get_or-append_right, take-append-le}
use Rattle.sdh_basics.specs.Parity.{bip8}
use Rattle.sdh_basics.specs.Indexed.{map_from}
use Rattle.sdh_basics.proofs.Indexing.{map_from-append}
use Rattle.sdh_parity.specs.Parity.{section_bytes}
use Rattle.sdh_parity.specs.Scrambling.{scrambled_byte, scrambled}
use Rattle.sdh_parity.specs.Pieces.{Position, after_bytes, scrambled_from}
use Rattle.sdh_parity.specs.Violations.{differing_bits, violations_of}
use Rattle.sdh_parity.proofs.Scrambled.{length-scrambled}
use Rattle.sdh_overhead.specs.declared.Received.TheVariants.{Framed, Unframed}
use Rattle.sdh_overhead.specs.Sections.{Parities, UnderWay, last_of, under_way_of, parities_of, is_framed, byte_in, b2_in, b1_violations}
use Rattle.sdh_overhead.specs.Sections.{b2_violations, found_in, received_in, kept_after}
use Rattle.sdh_overhead.specs.Rows.{skipped, HavePassed, ArePassed, IsPlaced, HasFound, HaveRead, AreRead}
use Rattle.sdh_overhead.proofs.Passing.{some-under-way, none-under-way, range-before, section-none, row-more}

-- ---- framing

pub framed-front : (n : ℕ) (line bytes : List ℕ) → 6 * n ≤ length line → is_framed n (line ++ bytes) ≡ is_framed n line
unfolding is_framed
framed-front n line bytes room =
    ap (λ l. list_all (λ x. x == 0xF6) l && list_all (λ x. x == 0x28) (slice_range (line ++ bytes) (3 * n) (6 * n)))
    (take-append-le (3 * n) line bytes (omega arith))
    ∙ ap (λ l. list_all (λ x. x == 0xF6) (take (3 * n) line) && list_all (λ x. x == 0x28) l)
    (range-before (3 * n) (6 * n) line bytes (omega arith) room)

-- the rows that were read, after the first
pub some-read : (n : ℕ) (last : Option Parities) (line : List ℕ) (u : UnderWay) → 1 ≤ u.rows → AreRead n last line (under_way_of u)
    → HaveRead n last line u
some-read n last line u some are = subst (AreRead n last line) (some-under-way u some) are

room-in : (n : ℕ) (last : Option Parities) (line : List ℕ) (u : UnderWay) → 1 ≤ u.rows → HaveRead n last line u → 6 * n ≤ length line
room-in n last line u some read = let least : 1 * (270 * n) ≤ u.rows * (270 * n) =
    mul-le 1 (270 * n) u.rows (270 * n) some (omega arith) in omega (arith, read.rows)

pub still-framed : (n : ℕ) (last : Option Parities) (line bytes : List ℕ) (u : UnderWay) → 1 ≤ u.rows → AreRead n last line (under_way_of u)
    → u.framed ≡ is_framed n (line ++ bytes)
still-framed n last line bytes u some are =
    let read = some-read n last line u some are in
    read.framed ∙ sym (framed-front n line bytes (room-in n last line u some read))

-- ---- what a row says

pieces : (n : ℕ) (line bytes : List ℕ) → scrambled (9 * n) (line ++ bytes)
    ≡ scrambled (9 * n) line ++ scrambled_from (9 * n) (length line) bytes
unfolding scrambled scrambled_from
pieces n line bytes =
    map_from-append (scrambled_byte (9 * n)) 0 line bytes ∙ ap
    (λ k. map_from (scrambled_byte (9 * n)) 0 line ++ map_from (scrambled_byte (9 * n)) k bytes) (omega arith)

pub by-b1 : (n : ℕ) (known : Bool) (b1 : ℕ) (b2 clear : List ℕ)
    → b1_violations n (last_of n known b1 b2) clear ≡ (if known then differing_bits b1 (byte_in n clear 2 1) else 0)
by-b1 n true b1 b2 clear = refl
by-b1 n false b1 b2 clear = refl

pub by-b2 : (n : ℕ) (known : Bool) (b1 : ℕ) (b2 clear : List ℕ)
    → b2_violations n (last_of n known b1 b2) clear ≡ (if known then violations_of (take (3 * n) b2) (b2_in n clear) else 0)
by-b2 n true b1 b2 clear = refl
by-b2 n false b1 b2 clear = refl

-- a byte at a place by its index, in rows that have passed and in the next row
kept-byte : (n i : ℕ) (clear new : List ℕ) (row column : ℕ) → (row - 1) * (270 * n) + (column - 1) ≡ i → i < length clear
    → byte_in n (clear ++ new) row column ≡ byte_in n clear row column
kept-byte n i clear new row column at h = get_or_append_left clear new 0 ((row - 1) * (270 * n) + (column - 1)) (omega arith)

next-byte : (n l k : ℕ) (clear new : List ℕ) (row column : ℕ) → (row - 1) * (270 * n) + (column - 1) ≡ l + k → length clear ≡ l
    → byte_in n (clear ++ new) row column ≡ get_or new k 0
next-byte n l k clear new row column at long =
    ap (λ i. get_or (clear ++ new) i 0) at ∙ get_or-append_right clear new l (l + k) 0 long (omega arith)
    ∙ ap (λ i. get_or new i 0) (omega arith)

next-b2 : (n : ℕ) (clear new : List ℕ) → length clear ≡ 1080 * n → b2_in n (clear ++ new) ≡ take (3 * n) new
next-b2 n clear new long =
    let at : length clear + 0 ≡ 1080 * n = omega arith in
    let many : 1083 * n - 1080 * n ≡ 3 * n = omega arith in
    ap (λ k. take (1083 * n - 1080 * n) (drop k (clear ++ new))) (sym at) ∙ ap (take (1083 * n - 1080 * n)) (drop-append-add clear new 0)
    ∙ ap (λ k. take k new) many

no-bytes : (n : ℕ) → scrambled (9 * n) [] ≡ []
unfolding scrambled
no-bytes n = refl

-- what was found in the rows before, which may be none
found-before : (n : ℕ) (last : Option Parities) (place : Position) (line : List ℕ) (u : UnderWay) → IsPlaced n u.rows place u.line u.clear
    → AreRead n last line (under_way_of u) → (1 ≤ u.rows → is_framed n line ≡ true) → HasFound n last (scrambled (9 * n) line) line u
found-before n last place line u placed are framed =
    elim (cases_eq u.rows 0) [
      | inl e ↦ (
          let none = subst (AreRead n last line) (none-under-way u e) are in
          let fresh = placed.fresh e in record {
            passed = record {
              rows = ap length none ∙ sym (zero-mul (270 * n)) ∙ sym (ap (λ k. k * (270 * n)) e);
              whole = length-scrambled (9 * n) line;
              b1 = fresh.0 ∙ ap bip8 (sym none);
              b2 =
                  fresh.1 ∙ ap (after_bytes n) (sym (section-none n)
                  ∙ ap (section_bytes n) (sym (ap (scrambled (9 * n)) none ∙ no-bytes n)));
            };
            b1 = λ h. absurd (omega arith);
            b2 = λ h. absurd (omega arith);
            k1 = λ h. absurd (omega arith);
            k2 = λ h. absurd (omega arith);
          })
      | inr some ↦ (some-read n last line u (omega arith) are).found (framed (omega arith))
    ]

module _ (n row : ℕ) (known : Bool) (kept : ℕ) (b2 line old new : List ℕ) (place : Position) (u v : UnderWay)
    (some : 1 ≤ n) (placed : IsPlaced n u.rows place u.line u.clear) (are : AreRead n (last_of n known kept b2) line (under_way_of u))
    (framed : is_framed n (line ++ old) ≡ true)
    (next : row ≡ u.rows + 1) (rows : v.rows ≡ row) (is : v.framed ≡ true) (long : length old ≡ 270 * n)
    (opens : new ≡ scrambled_from (9 * n) ((row - 1) * (270 * n)) old) (same : length old ≡ length new)
    (sum : (before : List ℕ) → u.line ≡ bip8 before → v.line ≡ bip8 (before ++ old))
    (sums : (before : List ℕ) → u.clear ≡ after_bytes n before → v.clear ≡ after_bytes n (before ++ drop (skipped n row) new))
    (k1 : v.k1 ≡ (if row == 5 then get_or new (3 * n) 0 else u.k1)) (k2 : v.k2 ≡ (if row == 5 then get_or new (6 * n) 0 else u.k2))
    (b1 : v.b1 ≡ (if row == 2 then (if known then differing_bits kept (get_or new 0 0) else 0) else u.b1))
    (b2s : v.b2 ≡ (if row == 5 then (if known then violations_of (take (3 * n) b2) (take (3 * n) new) else 0) else u.b2)) where
  was : HasFound n (last_of n known kept b2) (scrambled (9 * n) line) line u
  was =
      found-before n (last_of n known kept b2) place line u placed are
      (λ h. sym (framed-front n line old (room-in n (last_of n known kept b2) line u h
      (some-read n (last_of n known kept b2) line u h are))) ∙ framed)

  at : length (scrambled (9 * n) line) ≡ (row - 1) * (270 * n)
  at = was.passed.whole ∙ was.passed.rows ∙ ap (λ k. k * (270 * n)) (omega arith)

  whole : scrambled (9 * n) (line ++ old) ≡ scrambled (9 * n) line ++ new
  whole =
      pieces n line old ∙ ap (λ k. scrambled (9 * n) line ++ scrambled_from (9 * n) k old) (sym was.passed.whole ∙ at)
      ∙ ap (λ l. scrambled (9 * n) line ++ l) (sym opens)

  passed : HavePassed n (scrambled (9 * n) line ++ new) (line ++ old) v
  passed = row-more n row (scrambled (9 * n) line) line new old u v was.passed next rows (sym same ∙ long) same sum sums

  at-row : (r : ℕ) → row ≡ r → length (scrambled (9 * n) line) ≡ (r - 1) * (270 * n)
  at-row r e = at ∙ ap (λ k. (k - 1) * (270 * n)) e

  past : (r : ℕ) → r ≤ row - 1 → r * (270 * n) ≤ length (scrambled (9 * n) line)
  past r h = let least : r * (270 * n) ≤ (row - 1) * (270 * n) = mul-le r (270 * n) (row - 1) (270 * n) h (omega arith) in omega (arith, at)

  -- a K byte: column 3 N + 1 or 6 N + 1 of row 5
  k-found : (c x y : ℕ) → c ≤ 6 * n → y ≡ (if row == 5 then get_or new c 0 else x)
      → (5 ≤ u.rows → x ≡ byte_in n (scrambled (9 * n) line) 5 (c + 1)) → 5 ≤ v.rows
      → y ≡ byte_in n (scrambled (9 * n) line ++ new) 5 (c + 1)
  k-found c x y room here before h =
      elim (cases_eq row 5) [
        | inl e ↦ (
            let hit : (row == 5) ≡ true = eq-eqb _ _ e in
            here ∙ ap (λ t. if t then get_or new c 0 else x) hit
            ∙ sym (next-byte n (1080 * n) c (scrambled (9 * n) line) new 5 (c + 1) (omega arith) (at-row 5 e ∙ omega arith)))
        | inr other ↦ (
            let miss : (row == 5) ≡ false = ne_eqb _ _ other in
            let far : 5 * (270 * n) ≤ length (scrambled (9 * n) line) = past 5 (omega arith) in
            here ∙ ap (λ t. if t then get_or new c 0 else x) miss ∙ before (omega arith)
            ∙ sym (kept-byte n (1080 * n + c) (scrambled (9 * n) line) new 5 (c + 1) (omega arith) (omega arith)))
      ]

  b1-found : 2 ≤ v.rows → v.b1 ≡ b1_violations n (last_of n known kept b2) (scrambled (9 * n) line ++ new)
  b1-found h =
      let clear = scrambled (9 * n) line in
      elim (cases_eq row 2) [
        | inl e ↦ (
            let hit : (row == 2) ≡ true = eq-eqb _ _ e in
            b1 ∙ ap (λ t. if t then (if known then differing_bits kept (get_or new 0 0) else 0) else u.b1) hit
            ∙ ap (λ x. if known then differing_bits kept x else 0)
            (sym (next-byte n (270 * n) 0 clear new 2 1 (omega arith) (at-row 2 e ∙ omega arith)))
            ∙ sym (by-b1 n known kept b2 (clear ++ new)))
        | inr other ↦ (
            let miss : (row == 2) ≡ false = ne_eqb _ _ other in
            let far : 2 * (270 * n) ≤ length clear = past 2 (omega arith) in
            b1 ∙ ap (λ t. if t then (if known then differing_bits kept (get_or new 0 0) else 0) else u.b1) miss ∙ was.b1 (omega arith)
            ∙ by-b1 n known kept b2 clear
            ∙ ap (λ x. if known then differing_bits kept x else 0) (sym (kept-byte n (270 * n) clear new 2 1 (omega arith) (omega arith)))
            ∙ sym (by-b1 n known kept b2 (clear ++ new)))
      ]

  b2-found : 5 ≤ v.rows → v.b2 ≡ b2_violations n (last_of n known kept b2) (scrambled (9 * n) line ++ new)
  b2-found h =
      let clear = scrambled (9 * n) line in
      elim (cases_eq row 5) [
        | inl e ↦ (
            let hit : (row == 5) ≡ true = eq-eqb _ _ e in
            b2s ∙ ap (λ t. if t then (if known then violations_of (take (3 * n) b2) (take (3 * n) new) else 0) else u.b2) hit
            ∙ ap (λ l. if known then violations_of (take (3 * n) b2) l else 0) (sym (next-b2 n clear new (at-row 5 e ∙ omega arith)))
            ∙ sym (by-b2 n known kept b2 (clear ++ new)))
        | inr other ↦ (
            let miss : (row == 5) ≡ false = ne_eqb _ _ other in
            let far : 5 * (270 * n) ≤ length clear = past 5 (omega arith) in
            b2s ∙ ap (λ t. if t then (if known then violations_of (take (3 * n) b2) (take (3 * n) new) else 0) else u.b2) miss
            ∙ was.b2 (omega arith) ∙ by-b2 n known kept b2 clear
            ∙ ap (λ l. if known then violations_of (take (3 * n) b2) l else 0)
            (sym (range-before (1080 * n) (1083 * n) clear new (omega arith) (omega arith))) ∙ sym (by-b2 n known kept b2 (clear ++ new)))
      ]

  pub read-more : AreRead n (last_of n known kept b2) (line ++ old) (under_way_of v)
  read-more =
      subst (AreRead n (last_of n known kept b2) (line ++ old)) (sym (some-under-way v (omega arith))) (record {
        rows = passed.rows;
        framed = is ∙ sym framed;
        found = λ e. subst (λ l. HasFound n (last_of n known kept b2) l (line ++ old) v) (sym whole) (record {
          passed = passed;
          b1 = b1-found;
          b2 = b2-found;
          k1 = k-found (3 * n) u.k1 v.k1 (omega arith) k1 was.k1;
          k2 = k-found (6 * n) u.k2 v.k2 (omega arith) k2 was.k2;
        });
      })

-- ---- after the ninth row

pub found-is : (n : ℕ) (last : Option Parities) (line : List ℕ) (u : UnderWay) → u.rows + 1 ≡ 10 → AreRead n last line (under_way_of u)
    → is_framed n line ≡ true → Framed u.k1 u.k2 u.b1 u.b2 ≡ received_in n last line
unfolding received_in found_in
found-is n last line u nine are framed =
    let f = (some-read n last line u (omega arith) are).found framed in
    let k1 = f.k1 (omega arith) in
    let k2 = f.k2 (omega arith) in
    let b1 = f.b1 (omega arith) in
    let b2 = f.b2 (omega arith) in
    (λ i. Framed (k1 i) (k2 i) (b1 i) (b2 i)) ∙ sym (ap (λ (t : Bool). if t
    then found_in n last (scrambled (9 * n) line) else Unframed) framed)

pub kept-framed : (n : ℕ) (line : List ℕ) → is_framed n line ≡ true → Some (parities_of n (scrambled (9 * n) line) line) ≡ kept_after n line
unfolding kept_after
kept-framed n line framed = sym (ap (λ (t : Bool). if t then Some (parities_of n (scrambled (9 * n) line) line) else None) framed)

pub passed-framed : (n : ℕ) (last : Option Parities) (line : List ℕ) (u : UnderWay) → u.rows + 1 ≡ 10 → AreRead n last line (under_way_of u)
    → is_framed n line ≡ true → ArePassed n (scrambled (9 * n) line) line (under_way_of u)
passed-framed n last line u nine are framed =
    subst (ArePassed n (scrambled (9 * n) line) line) (sym (some-under-way u (omega arith)))
    ((some-read n last line u (omega arith) are).found framed).passed

pub is-unframed : (n : ℕ) (last : Option Parities) (line : List ℕ) → is_framed n line ≡ false → Unframed ≡ received_in n last line
unfolding received_in
is-unframed n last line framed = sym (ap (λ (t : Bool). if t then found_in n last (scrambled (9 * n) line) else Unframed) framed)

pub kept-unframed : (n : ℕ) (line : List ℕ) → is_framed n line ≡ false → None ≡ kept_after n line
unfolding kept_after
kept-unframed n line framed = sym (ap (λ (t : Bool). if t then Some (parities_of n (scrambled (9 * n) line) line) else None) framed)
