-- Rows of a frame, one after the other.
use Rattle.std.proofs.Common.{◌≡◌, ℕ, zero, suc, ◌+◌, ◌*◌, ◌-◌, ◌<◌, ◌≤◌, true, false, List, [], ◌∷◌, ◌++◌, length, get_or, take, drop}
use Rattle.std.proofs.Common.{Option, Some, None, refl, ap, sym, subst, ◌∙◌, arith, inl, inr, append_assoc}
use Rattle.std.specs.Prelude.{slice_range, nat_le, ◌==◌, if◌then◌else◌}
use Rattle.std.proofs.lemmas.Bool.{cases_lt, cases_eq, ne_eqb, eq-eqb, lt-leb}
use Rattle.std.proofs.lemmas.List.{ext_get_or, take_all, length-append, length-take, length-drop, get_or-drop, get_or_append_left}
use Rattle.std.proofs.lemmas.List.{get_or-append_right, append-nil, take-append-le, drop-append-le}
use Rattle.std.proofs.lemmas.Nat.{mul-le}
use Rattle.std.proofs.Math.Nat.{add-mul, zero-mul}
use Rattle.std.proofs.Math.Seq.{drop-append-add}
use Rattle.sdh_basics.proofs.CellsLaws.{length-map_from, get_or-map_from}
use Rattle.sdh_ringmap.specs.declared.terms.Rate.{Rate}
use Rattle.sdh_ringmap.specs.declared.terms.Rate.TheVariants.{Four, Sixteen}
use Rattle.sdh_frame.specs.declared.Field as field
use Rattle.sdh_ringmap.specs.Rates.{n_of}
use Rattle.sdh_frame.specs.Fields.{field_at}
use Rattle.sdh_frame.proofs.PlaceProofs.{field-payload}
use Rattle.sdh_parity.specs.Parity.{section_bytes}
use Rattle.sdh_overhead.specs.Overhead.{Added, written, byte_at}
use Rattle.sdh_parity.specs.Parity.{bip_lanes, section_parity}
use Rattle.sdh_parity.specs.Pieces.{Position, Running, after_bytes, scrambled_from}
use Rattle.sdh_parity.proofs.Cutting.{in-pieces}
use Rattle.sdh_parity.proofs.Running.{sums-are}
use Rattle.sdh_basics.specs.Parity.{bip8}
use Rattle.sdh_overhead.specs.Sections.{Parities, UnderWay, SectionKept, placed_after, added_after, parities_of, under_way_of, next_of}
use Rattle.sdh_overhead.specs.Sections.{MayWrite, MayRead}
use Rattle.sdh_overhead.specs.Rows.{clear_row, skipped, HavePassed, ArePassed, IsPlaced, HasSent}
use Rattle.sdh_overhead.proofs.Heads.{byte_at-row}

pub rate_few : (r : Rate) → 3 * n_of r ≤ 48
rate_few Four = omega arith
rate_few Sixteen = omega arith

pub rate_some : (r : Rate) → 1 ≤ n_of r
rate_some Four = omega arith
rate_some Sixteen = omega arith

-- ---- the overhead of a row

added : ℕ → ℕ → Parities → Added
added k1 k2 p = record { k1 = k1; k2 = k2; b1 = p.b1; b2 = p.b2 }

-- a row whose first 9 N bytes were written
pub row-written : (n row k1 k2 : ℕ) (p : Parities) (last : Option Parities) (bytes head : List ℕ) → 1 ≤ row → length bytes ≡ 270 * n
    → length head ≡ 9 * n → placed_after n last ≡ p
    → ((c : ℕ) → c < 9 * n → get_or head c 0 ≡ written (record { k1 = k1; k2 = k2; b1 = p.b1; b2 = p.b2 }) (field_at n row (c + 1))
    (get_or bytes c 0))
    → head ++ drop (9 * n) bytes ≡ clear_row n last k1 k2 ((row - 1) * (270 * n)) bytes
unfolding clear_row added
row-written n row k1 k2 p last bytes head first long len same each =
    let a = added_after n last k1 k2 in
    let at : ℕ = (row - 1) * (270 * n) in
    let whole : length (head ++ drop (9 * n) bytes) ≡ length bytes =
    length-append head (drop (9 * n) bytes) ∙ ap (λ k. k + length (drop (9 * n) bytes)) len
    ∙ ap (λ k. 9 * n + k) (length-drop (9 * n) bytes) ∙ omega arith in
    let back : row - 1 + 1 ≡ row = omega arith in
    ext_get_or 0 (head ++ drop (9 * n) bytes) _ (whole ∙ sym (length-map_from (byte_at n a) at bytes)) (λ c lt.
    (let h : c < length bytes = omega arith in
    let wide : c < 270 * n = omega arith in
    let right =
    get_or-map_from (byte_at n a) at bytes c 0 0 h ∙ byte_at-row n a (row - 1) c (at + c) (get_or bytes c 0) wide refl
    ∙ ap (λ r. written a (field_at n r (c + 1)) (get_or bytes c 0)) back in
    elim (cases_lt c (9 * n)) [
      | inl below ↦ get_or_append_left head (drop (9 * n) bytes) 0 c (omega arith) ∙ each c below
          ∙ sym (ap (λ (q : Parities). written (added k1 k2 q) (field_at n row (c + 1)) (get_or bytes c 0)) same) ∙ sym right
      | inr above ↦
          let e : 9 * n + (c - 9 * n) ≡ c = omega arith in
          get_or-append_right head (drop (9 * n) bytes) (9 * n) c 0 len above ∙ get_or-drop (9 * n) bytes (c - 9 * n) 0
          ∙ ap (λ k. get_or bytes k 0) e
          ∙ sym (right ∙ ap (λ (f : field.Field). written a f (get_or bytes c 0)) (field-payload n row (c + 1) (omega arith)))
    ]))

-- ---- the bytes that B2 covers, with more rows

-- the bytes from one place to another of two lists in a row: within the first list, past its end, within the second
-- list, and up to the end of the second
pub range-before : (a b : ℕ) (xs ys : List ℕ) → a ≤ b → b ≤ length xs → slice_range (xs ++ ys) a b ≡ slice_range xs a b
range-before a b xs ys order room =
    ap (take (b - a)) (drop-append-le a xs ys (omega arith)) ∙ take-append-le (b - a) (drop a xs) ys (omega (arith, length-drop a xs))

nothing : (zs : List ℕ) → length zs ≡ 0 → zs ≡ []
nothing [] e = refl
nothing (z ∷ zs) e = absurd (omega arith)

drop-past : (a : ℕ) (xs : List ℕ) → length xs ≤ a → drop a xs ≡ []
drop-past a xs past = nothing (drop a xs) (omega (arith, length-drop a xs))

range-past : (a b : ℕ) (xs : List ℕ) → length xs ≤ a → slice_range xs a b ≡ []
range-past a b xs past = nothing (slice_range xs a b) (omega (arith, length-take (b - a) (drop a xs), length-drop a xs))

range-in : (a b l : ℕ) (xs ys : List ℕ) → length xs ≡ l → l + length ys ≡ b → slice_range (xs ++ ys) (l + a) b ≡ drop a ys
range-in a b l xs ys at end =
    let past : drop (l + a) (xs ++ ys) ≡ drop a ys = ap (λ k. drop (k + a) (xs ++ ys)) (sym at) ∙ drop-append-add xs ys a in
    ap (take (b - (l + a))) past ∙ take_all (b - (l + a)) (drop a ys) (omega (arith, length-drop a ys))

four : (p q r s p' q' r' s' : List ℕ) → p ≡ p' → q ≡ q' → r ≡ r' → s ≡ s' → p ++ q ++ r ++ s ≡ p' ++ q' ++ r' ++ s'
four p q r s p' q' r' s' a b c d = cc

module _ (n : ℕ) (clear bytes : List ℕ) (long : length bytes ≡ 270 * n) where
  first : length clear ≡ 0 → section_bytes n (clear ++ bytes) ≡ section_bytes n clear ++ drop (9 * n) bytes
  unfolding section_bytes
  first at =
      let all = clear ++ bytes in
      let size : length all ≡ 270 * n = length-append clear bytes ∙ omega arith in
      let d = drop (9 * n) bytes in
      let head : slice_range all (9 * n) (270 * n) ≡ d =
      ap (λ a. slice_range all a (270 * n)) (omega arith) ∙ range-in (9 * n) (270 * n) 0 clear bytes at (omega arith) in
      four _ _ _ _ d [] [] [] head (range-past (279 * n) (540 * n) all (omega arith)) (range-past (549 * n) (810 * n) all (omega arith))
      (drop-past (810 * n) all (omega arith))
      ∙ append-nil (d ++ [] ++ []) ∙ append-nil (d ++ []) ∙ append-nil d
      ∙ sym (ap (λ l. l ++ d) (four _ _ _ _ [] [] [] [] (range-past (9 * n) (270 * n) clear (omega arith))
      (range-past (279 * n) (540 * n) clear (omega arith)) (range-past (549 * n) (810 * n) clear (omega arith))
      (drop-past (810 * n) clear (omega arith))))

  second : length clear ≡ 270 * n → section_bytes n (clear ++ bytes) ≡ section_bytes n clear ++ drop (9 * n) bytes
  unfolding section_bytes
  second at =
      let all = clear ++ bytes in
      let size : length all ≡ 540 * n = length-append clear bytes ∙ omega arith in
      let d = drop (9 * n) bytes in
      let a = slice_range clear (9 * n) (270 * n) in
      let here : slice_range all (279 * n) (540 * n) ≡ d =
      ap (λ k. slice_range all k (540 * n)) (omega arith) ∙ range-in (9 * n) (540 * n) (270 * n) clear bytes at (omega arith) in
      four _ _ _ _ a d [] [] (range-before (9 * n) (270 * n) clear bytes (omega arith) (omega arith)) here
      (range-past (549 * n) (810 * n) all (omega arith)) (drop-past (810 * n) all (omega arith))
      ∙ append-nil (a ++ d ++ []) ∙ append-nil (a ++ d)
      ∙ sym (ap (λ l. l ++ d) (four _ _ _ _ a [] [] [] refl (range-past (279 * n) (540 * n) clear (omega arith))
      (range-past (549 * n) (810 * n) clear (omega arith)) (drop-past (810 * n) clear (omega arith))
      ∙ append-nil (a ++ [] ++ []) ∙ append-nil (a ++ []) ∙ append-nil a))

  third : length clear ≡ 540 * n → section_bytes n (clear ++ bytes) ≡ section_bytes n clear ++ drop (9 * n) bytes
  unfolding section_bytes
  third at =
      let all = clear ++ bytes in
      let size : length all ≡ 810 * n = length-append clear bytes ∙ omega arith in
      let d = drop (9 * n) bytes in
      let a = slice_range clear (9 * n) (270 * n) in
      let b = slice_range clear (279 * n) (540 * n) in
      let here : slice_range all (549 * n) (810 * n) ≡ d =
      ap (λ k. slice_range all k (810 * n)) (omega arith) ∙ range-in (9 * n) (810 * n) (540 * n) clear bytes at (omega arith) in
      four _ _ _ _ a b d [] (range-before (9 * n) (270 * n) clear bytes (omega arith) (omega arith))
      (range-before (279 * n) (540 * n) clear bytes (omega arith) (omega arith)) here (drop-past (810 * n) all (omega arith))
      ∙ append-nil (a ++ b ++ d)
      ∙ sym (ap (λ l. l ++ d) (four _ _ _ _ a b [] [] refl refl (range-past (549 * n) (810 * n) clear (omega arith))
      (drop-past (810 * n) clear (omega arith)) ∙ append-nil (a ++ b ++ []) ∙ append-nil (a ++ b)))

later : (n : ℕ) (clear bytes : List ℕ) → 810 * n ≤ length clear → section_bytes n (clear ++ bytes) ≡ section_bytes n clear ++ bytes
unfolding section_bytes
later n clear bytes at =
    let a = slice_range clear (9 * n) (270 * n) in
    let b = slice_range clear (279 * n) (540 * n) in
    let c = slice_range clear (549 * n) (810 * n) in
    let e = drop (810 * n) clear in
    four _ _ _ _ a b c (e ++ bytes) (range-before (9 * n) (270 * n) clear bytes (omega arith) (omega arith))
    (range-before (279 * n) (540 * n) clear bytes (omega arith) (omega arith))
    (range-before (549 * n) (810 * n) clear bytes (omega arith) (omega arith))
    (drop-append-le (810 * n) clear bytes at) ∙ sym (append_assoc (a ++ b ++ c) e bytes)

-- from row 4 on, however many rows
section-late : (n row : ℕ) (clear bytes : List ℕ) → 4 ≤ row → length clear ≡ (row - 1) * (270 * n)
    → section_bytes n (clear ++ bytes) ≡ section_bytes n clear ++ drop (skipped n row) bytes
section-late n row clear bytes late at =
    let least : 3 * (270 * n) ≤ (row - 1) * (270 * n) = mul-le 3 (270 * n) (row - 1) (270 * n) (omega arith) (omega arith) in
    let past : nat_le row 3 ≡ false = lt-leb _ _ (omega arith) in
    later n clear bytes (omega (arith, least, at)) ∙ ap (λ t. section_bytes n clear ++ drop (if t then 9 * n else 0) bytes) (sym past)

section-one : (n row : ℕ) (clear bytes : List ℕ) → 1 ≤ row → length clear ≡ (row - 1) * (270 * n) → length bytes ≡ 270 * n
    → section_bytes n (clear ++ bytes) ≡ section_bytes n clear ++ drop (skipped n row) bytes
section-one n zero clear bytes some at long = absurd (omega arith)
section-one n (suc zero) clear bytes some at long = first n clear bytes long (omega arith)
section-one n (suc (suc zero)) clear bytes some at long = second n clear bytes long (omega arith)
section-one n (suc (suc (suc zero))) clear bytes some at long = third n clear bytes long (omega arith)
section-one n (suc (suc (suc (suc r)))) clear bytes some at long = section-late n (suc (suc (suc (suc r)))) clear bytes (omega arith) at

-- ---- what is kept of the rows that have passed

pub some-under-way : (u : UnderWay) → 1 ≤ u.rows → under_way_of u ≡ Some u
some-under-way u h = let some : (u.rows == 0) ≡ false = ne_eqb _ _ (λ (e : u.rows ≡ 0). omega arith) in rw some refl

pub none-under-way : (u : UnderWay) → u.rows ≡ 0 → under_way_of u ≡ None
none-under-way u e = let none : (u.rows == 0) ≡ true = eq-eqb _ _ e in rw none refl

-- a row may be written before the first row, and after rows that were written
pub may-write : (u : UnderWay) → u.written ≡ true → MayWrite (under_way_of u)
may-write u e =
    elim (cases_eq u.rows 0) [
      | inl none ↦ subst MayWrite (sym (none-under-way u none)) tt
      | inr some ↦ subst MayWrite (sym (some-under-way u (omega arith))) e
    ]

pub may-read : (u : UnderWay) → u.written ≡ false → MayRead (under_way_of u)
may-read u e =
    elim (cases_eq u.rows 0) [
      | inl none ↦ subst MayRead (sym (none-under-way u none)) tt
      | inr some ↦ subst MayRead (sym (some-under-way u (omega arith))) e
    ]

pub section-none : (n : ℕ) → section_bytes n [] ≡ []
unfolding section_bytes
section-none n =
    four _ _ _ _ [] [] [] [] (range-past (9 * n) (270 * n) [] (omega arith)) (range-past (279 * n) (540 * n) [] (omega arith))
    (range-past (549 * n) (810 * n) [] (omega arith)) (drop-past (810 * n) [] (omega arith))

-- the rows that have passed, which may be none
pub as-passed : (n : ℕ) (place : Position) (clear line : List ℕ) (u : UnderWay) → IsPlaced n u.rows place u.line u.clear
    → ArePassed n clear line (under_way_of u) → HavePassed n clear line u
as-passed n place clear line u placed are =
    elim (cases_eq u.rows 0) [
      | inl e ↦ (
          let none = subst (ArePassed n clear line) (none-under-way u e) are in
          let fresh = placed.fresh e in record {
            rows = ap length none.1 ∙ sym (zero-mul (270 * n)) ∙ sym (ap (λ k. k * (270 * n)) e);
            whole = ap length none.0 ∙ sym (ap length none.1);
            b1 = fresh.0 ∙ ap bip8 (sym none.1);
            b2 = fresh.1 ∙ ap (after_bytes n) (sym (section-none n) ∙ ap (section_bytes n) (sym none.0));
          })
      | inr some ↦ subst (ArePassed n clear line) (some-under-way u (omega arith)) are
    ]

-- one row more
pub row-more : (n row : ℕ) (clear line old new : List ℕ) (u v : UnderWay) → HavePassed n clear line u → row ≡ u.rows + 1 → v.rows ≡ row
    → length old ≡ 270 * n → length new ≡ length old
    → ((before : List ℕ) → u.line ≡ bip8 before → v.line ≡ bip8 (before ++ new))
    → ((before : List ℕ) → u.clear ≡ after_bytes n before → v.clear ≡ after_bytes n (before ++ drop (skipped n row) old))
    → HavePassed n (clear ++ old) (line ++ new) v
row-more n row clear line old new u v passed next rows long same sum sums =
    let at : length clear ≡ (row - 1) * (270 * n) = passed.whole ∙ passed.rows ∙ ap (λ k. k * (270 * n)) (omega arith) in
    let wide : u.rows * (270 * n) + 270 * n ≡ (u.rows + 1) * (270 * n) =
    sym (add-mul u.rows 1 (270 * n) ∙ ap (λ k. u.rows * (270 * n) + k) (omega arith)) in record {
      rows =
          length-append line new ∙ ap (λ k. length line + k) (same ∙ long) ∙ ap (λ k. k + 270 * n) passed.rows ∙ wide
          ∙ ap (λ k. k * (270 * n)) (sym (rows ∙ next));
      whole =
          length-append clear old ∙ ap (λ k. length clear + k) (sym same) ∙ ap (λ k. k + length new) passed.whole
          ∙ sym (length-append line new);
      b1 = sum line passed.b1;
      b2 = sums (section_bytes n clear) passed.b2 ∙ ap (after_bytes n) (sym (section-one n row clear old (omega arith) at long));
    }

pub one-more : (n row : ℕ) (clear line old new : List ℕ) (u v : UnderWay) → HavePassed n clear line u → row ≡ u.rows + 1 → v.rows ≡ row
    → length old ≡ 270 * n → length new ≡ length old
    → ((before : List ℕ) → u.line ≡ bip8 before → v.line ≡ bip8 (before ++ new))
    → ((before : List ℕ) → u.clear ≡ after_bytes n before → v.clear ≡ after_bytes n (before ++ drop (skipped n row) old))
    → ArePassed n (clear ++ old) (line ++ new) (under_way_of v)
one-more n row clear line old new u v passed next rows long same sum sums =
    subst (ArePassed n (clear ++ old) (line ++ new)) (sym (some-under-way v (omega arith)))
    (row-more n row clear line old new u v passed next rows long same sum sums)

pub rows-next : (u : UnderWay) → next_of (under_way_of u) ≡ u.rows + 1
rows-next u =
    elim (cases_eq u.rows 0) [
      | inl e ↦ ap next_of (none-under-way u e) ∙ sym (ap (λ k. k + 1) e)
      | inr some ↦ ap next_of (some-under-way u (omega arith))
    ]

-- the parities of all rows are those of the frame
pub rows-kept : (n b1 : ℕ) (b2 clear line : List ℕ) (s : Running) → b1 ≡ bip8 line → b2 ≡ s.sums → s ≡ after_bytes n (section_bytes n clear)
    → record { b1 = b1; b2 = b2 } ≡ parities_of n clear line
unfolding parities_of section_parity
rows-kept n b1 b2 clear line s one two sums = let all : b2 ≡ bip_lanes (3 * n) (section_bytes n clear) =
    two ∙ sums-are n s (section_bytes n clear) sums in λ i. record { b1 = one i; b2 = all i }

-- ---- rows one after the other

passed-length : (n : ℕ) (clear line : List ℕ) (o : Option UnderWay) → ArePassed n clear line o → length line ≡ (next_of o - 1) * (270 * n)
passed-length n clear line None are = ap length are.1 ∙ sym (zero-mul (270 * n))
passed-length n clear line (Some u) are = are.rows ∙ ap (λ k. k * (270 * n)) (omega arith)

module _ (first old mid : SectionKept) (row : ℕ) (clear line more new : List ℕ) (h : HasSent first clear line old)
    (some : 1 ≤ n_of first.rate) (next : row ≡ next_of old.under_way) (long : length new ≡ 270 * n_of first.rate)
    (rate : mid.rate ≡ old.rate) (last : mid.last ≡ old.last)
    (passed : ArePassed (n_of old.rate) clear line old.under_way
    → ArePassed (n_of old.rate) (clear ++ more) (line ++ new) mid.under_way) where
  at : length line < 2430 * n_of first.rate → length line ≡ (row - 1) * (270 * n_of first.rate)
  at below =
      passed-length (n_of first.rate) clear line old.under_way (h.under_way below).1
      ∙ ap (λ k. (k - 1) * (270 * n_of first.rate)) (sym next)

  after : length line < 2430 * n_of first.rate → ArePassed (n_of first.rate) (clear ++ more) (line ++ new) mid.under_way
  after below =
      subst (λ (r : Rate). ArePassed (n_of r) (clear ++ more) (line ++ new) mid.under_way) h.rate
      (passed (subst (λ (r : Rate). ArePassed (n_of r) clear line old.under_way) (sym h.rate) (h.under_way below).1))

  longer : length (line ++ new) ≡ length line + 270 * n_of first.rate
  longer = length-append line new ∙ ap (λ k. length line + k) long

  -- a row before the ninth
  pub sent-more : row < 9 → HasSent first (clear ++ more) (line ++ new) mid
  sent-more early = record {
    rate = rate ∙ h.rate;
    fresh = h.fresh;
    under_way = λ below. let less : length line < 2430 * n_of first.rate =
        omega (arith, longer) in (last ∙ (h.under_way less).0, after less);
    ended = λ end.
        let less : length line < 2430 * n_of first.rate = omega (arith, longer) in
        let few : (row - 1) * (270 * n_of first.rate) ≤ 7 * (270 * n_of first.rate) =
        mul-le (row - 1) (270 * n_of first.rate) 7 (270 * n_of first.rate) (omega arith) (omega arith) in
        absurd (omega (arith, at less, longer));
  }

  -- the ninth
  pub sent-all : row ≡ 9 → (now : SectionKept) → ((c l : List ℕ) → ArePassed (n_of mid.rate) c l mid.under_way
      → now ≡ record { rate = mid.rate; last = Some (parities_of (n_of mid.rate) c l); under_way = None })
      → now.rate ≡ mid.rate → HasSent first (clear ++ more) (line ++ new) now
  sent-all ninth now ends same = record {
    rate = same ∙ rate ∙ h.rate;
    fresh = h.fresh;
    under_way = λ below.
        let less : length line < 2430 * n_of first.rate = omega (arith, longer) in
        let eighth : (row - 1) * (270 * n_of first.rate) ≡ 8 * (270 * n_of first.rate) =
        ap (λ k. (k - 1) * (270 * n_of first.rate)) ninth in
        absurd (omega (arith, at less, longer, eighth));
    ended = λ end.
        let less : length line < 2430 * n_of first.rate = omega (arith, longer) in
        let here : mid.rate ≡ first.rate = rate ∙ h.rate in
        ends (clear ++ more) (line ++ new) (subst (λ (r : Rate). ArePassed (n_of r) (clear ++ more) (line ++ new) mid.under_way) (sym here)
        (after less))
        ∙ ap (λ (r : Rate). record { rate = r; last = Some (parities_of (n_of r) (clear ++ more) (line ++ new)); under_way = None }) here;
  }

-- ---- rows that are cut after the head of the first

pub cut-row : (n at a : ℕ) (old head rest head' rest' : List ℕ) → old ≡ head ++ rest → a ≡ at + length head
    → head' ≡ scrambled_from (9 * n) at head → rest' ≡ scrambled_from (9 * n) a rest → head' ++ rest' ≡ scrambled_from (9 * n) at old
cut-row n at a old head rest head' rest' cut place one two =
    ap (λ l. l ++ rest') one ∙ ap (λ l. scrambled_from (9 * n) at head ++ l) (two ∙ ap (λ k. scrambled_from (9 * n) k rest) place)
    ∙ sym (in-pieces.cut (9 * n) at head rest) ∙ ap (scrambled_from (9 * n) at) (sym cut)

pub row-end : (row w : ℕ) → 1 ≤ row → (row - 1) * w + w ≡ row * w
row-end row w some =
    let one : w ≡ 1 * w = omega arith in
    let back : row - 1 + 1 ≡ row = omega arith in
    ap (λ k. (row - 1) * w + k) one ∙ sym (add-mul (row - 1) 1 w) ∙ ap (λ k. k * w) back

pub sum-up : (a h r w : ℕ) → h + r ≡ w → a + h + r ≡ a + w
sum-up a h r w e = omega arith
