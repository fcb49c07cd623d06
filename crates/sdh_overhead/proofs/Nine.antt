-- The nine rows of a frame make the frame.
use Rattle.std.proofs.Common.{◌≡◌, ℕ, ◌+◌, ◌*◌, ◌-◌, ◌<◌, ◌≤◌, List, [], ◌++◌, length, take, drop, Option}
use Rattle.std.proofs.Common.{refl, ap, sym, ◌∙◌, arith}
use Rattle.std.proofs.Math.Seq.{take-add}
use Rattle.std.proofs.Math.Nat.{add-mul}
use Rattle.std.proofs.lemmas.Nat.{mul-le}
use Rattle.std.proofs.lemmas.List.{length-take-le, take_all, drop-drop}
use Rattle.std.proofs.lemmas.Slice.{take-put_mid, drop-put_mid}
use Rattle.std.proofs.lemmas.Grind.{common_steps}
use borrow.Rule.Slice.PartMut.{put_mid}
use Rattle.sdh_basics.specs.Indexed.{map_from}
use Rattle.sdh_basics.proofs.Indexing.{map_from-append}
use Rattle.sdh_parity.specs.Scrambling.{scrambled_byte, scrambled}
use Rattle.sdh_parity.specs.Pieces.{scrambled_from}
use Rattle.sdh_overhead.specs.Overhead.{byte_at, with_overhead}
use Rattle.sdh_overhead.specs.Sections.{Parities, added_after, clear_frame}
use Rattle.sdh_overhead.specs.Rows.{clear_row}

clear-more : (n : ℕ) (last : Option Parities) (k1 k2 : ℕ) (xs ys : List ℕ)
    → clear_frame n last k1 k2 (xs ++ ys) ≡ clear_frame n last k1 k2 xs ++ clear_row n last k1 k2 (length xs) ys
unfolding clear_frame clear_row with_overhead
clear-more n last k1 k2 xs ys =
    let f = byte_at n (added_after n last k1 k2) in
    let at : 0 + length xs ≡ length xs = omega arith in
    map_from-append f 0 xs ys ∙ ap (λ i. map_from f 0 xs ++ map_from f i ys) at

pub pieces : (clear : ℕ) (xs ys : List ℕ) → scrambled clear (xs ++ ys) ≡ scrambled clear xs ++ scrambled_from clear (length xs) ys
unfolding scrambled scrambled_from
pieces clear xs ys = let at : 0 + length xs ≡ length xs =
    omega arith in map_from-append (scrambled_byte clear) 0 xs ys
    ∙ ap (λ k. map_from (scrambled_byte clear) 0 xs ++ map_from (scrambled_byte clear) k ys) at

pub put-length : (a k : ℕ) (s part : List ℕ) → a + k ≤ length s → length part ≡ k → length (put_mid a k s part) ≡ length s
put-length a k s part room len = grind (arith, common_steps)

pub drop-more : (a w : ℕ) (xs ys : List ℕ) → drop a xs ≡ drop a ys → drop (a + w) xs ≡ drop (a + w) ys
drop-more a w xs ys e = sym (drop-drop w a xs) ∙ ap (drop w) e ∙ drop-drop w a ys

pub next-row : (row w : ℕ) → 1 ≤ row → (row + 1 - 1) * w ≡ (row - 1) * w + w
next-row row w some = ap (λ k. k * w) (omega arith) ∙ add-mul (row - 1) 1 w ∙ ap (λ k. (row - 1) * w + k) (omega arith)

-- a frame whose rows below this one have their overhead
pub record PlacedTo (n : ℕ) (last : Option Parities) (k1 k2 : ℕ) (old : List ℕ) (row : ℕ) (now : List ℕ) : Type 0 where
  pub done : take ((row - 1) * (270 * n)) now ≡ clear_frame n last k1 k2 (take ((row - 1) * (270 * n)) old)
  pub rest : drop ((row - 1) * (270 * n)) now ≡ drop ((row - 1) * (270 * n)) old
  pub long : length now ≡ 2430 * n

no-clear : (n : ℕ) (last : Option Parities) (k1 k2 : ℕ) → clear_frame n last k1 k2 [] ≡ []
unfolding clear_frame with_overhead
no-clear n last k1 k2 = refl

pub none-placed : (n : ℕ) (last : Option Parities) (k1 k2 : ℕ) (old : List ℕ) → length old ≡ 2430 * n → PlacedTo n last k1 k2 old 1 old
none-placed n last k1 k2 old long =
    let zero_at : (1 - 1) * (270 * n) ≡ 0 = omega arith in
    let start : take ((1 - 1) * (270 * n)) old ≡ [] = ap (λ k. take k old) zero_at in record {
      done = start ∙ sym (ap (clear_frame n last k1 k2) start ∙ no-clear n last k1 k2);
      rest = refl;
      long = long;
    }

pub row-within : (n row : ℕ) → row < 10 → (row - 1) * (270 * n) + 270 * n ≤ 2430 * n
row-within n row few =
    let h : (row - 1) * (270 * n) ≤ 8 * (270 * n) = mul-le (row - 1) (270 * n) 8 (270 * n) (omega arith) (omega arith) in omega arith

module _ (n : ℕ) (last : Option Parities) (k1 k2 row a k : ℕ) (old now part : List ℕ) (size : length old ≡ 2430 * n)
    (some : 1 ≤ row) (few : row < 10) (at : a ≡ (row - 1) * (270 * n)) (many : k ≡ 270 * n) (so : PlacedTo n last k1 k2 old row now)
    (len : length part ≡ k) (bytes : part ≡ clear_row n last k1 k2 ((row - 1) * (270 * n)) (take k (drop a now))) where
  within : (row - 1) * (270 * n) + 270 * n ≤ 2430 * n
  within = row-within n row few

  front : length (take ((row - 1) * (270 * n)) old) ≡ (row - 1) * (270 * n)
  front = length-take-le ((row - 1) * (270 * n)) old (omega (arith, within))

  -- the row as it was, and the rows up to its end
  row-was : take k (drop a now) ≡ take (270 * n) (drop ((row - 1) * (270 * n)) old)
  row-was = ap (λ m. take m (drop a now)) many ∙ ap (λ m. take (270 * n) (drop m now)) at ∙ ap (take (270 * n)) so.rest

  up : take ((row + 1 - 1) * (270 * n)) old ≡ take ((row - 1) * (270 * n)) old ++ take (270 * n) (drop ((row - 1) * (270 * n)) old)
  up = ap (λ m. take m old) (next-row row (270 * n) some) ∙ take-add ((row - 1) * (270 * n)) (270 * n) old

  clear-up : clear_frame n last k1 k2 (take ((row - 1) * (270 * n)) old) ++ part
      ≡ clear_frame n last k1 k2 (take ((row + 1 - 1) * (270 * n)) old)
  clear-up =
      ap (λ l. clear_frame n last k1 k2 (take ((row - 1) * (270 * n)) old) ++ l)
      (bytes ∙ ap (λ i. clear_row n last k1 k2 i (take k (drop a now))) (sym front)
      ∙ ap (clear_row n last k1 k2 (length (take ((row - 1) * (270 * n)) old))) row-was)
      ∙ sym (clear-more n last k1 k2 (take ((row - 1) * (270 * n)) old) (take (270 * n) (drop ((row - 1) * (270 * n)) old)))
      ∙ ap (clear_frame n last k1 k2) (sym up)

  pub placed-next : PlacedTo n last k1 k2 old (row + 1) (put_mid a k now part)
  placed-next =
      let end : (row + 1 - 1) * (270 * n) ≡ a + k =
      next-row row (270 * n) some ∙ ap (λ m. m + 270 * n) (sym at) ∙ ap (λ m. a + m) (sym many) in
      let room : a + k ≤ length now = omega (arith, within, at, many, so.long) in record {
        done =
            take-put_mid a k now part ((row + 1 - 1) * (270 * n)) (end ∙ ap (λ m. a + m) (sym len)) (omega arith)
            ∙ ap (λ m. take m now ++ part) at ∙ ap (λ l. l ++ part) so.done ∙ clear-up;
        rest =
            drop-put_mid a k now part ((row + 1 - 1) * (270 * n)) (omega (arith, end)) (omega arith) len
            ∙ ap (λ m. drop m now) (next-row row (270 * n) some)
            ∙ drop-more ((row - 1) * (270 * n)) (270 * n) now old so.rest ∙ ap (λ m. drop m old) (sym (next-row row (270 * n) some));
        long = put-length a k now part room len ∙ so.long;
      }

-- all rows have their overhead
pub all-placed : (n : ℕ) (last : Option Parities) (k1 k2 : ℕ) (old now : List ℕ) → length old ≡ 2430 * n
    → PlacedTo n last k1 k2 old 10 now → now ≡ clear_frame n last k1 k2 old
all-placed n last k1 k2 old now size so =
    let end : (10 - 1) * (270 * n) ≡ 2430 * n = omega arith in
    sym (take_all ((10 - 1) * (270 * n)) now (omega (arith, end, so.long))) ∙ so.done
    ∙ ap (clear_frame n last k1 k2) (take_all ((10 - 1) * (270 * n)) old (omega (arith, end)))
