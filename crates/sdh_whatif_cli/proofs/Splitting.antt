-- Texts that are cut at a byte, and the digits of small numbers.
use Rattle.std.proofs.Common.{◌≡◌, ℕ, ◌+◌, ◌<◌, ◌≤◌, Bool, true, false, not, ◌&&◌, cond, ◌==◌, nat_le, List, [], ◌∷◌, ◌++◌, length, get_or}
use Rattle.std.proofs.Common.{decimal, Some, None, refl, sym, ap, ◌∙◌, arith, eq-eqb, le-leb}
use Rattle.std.specs.Fmt.{digits}
use Rattle.std.specs.List.{slice_split, onto_first, list_all, range_with_len}
use Rattle.std.proofs.lemmas.Bool.{and_parts, eqb-true, and_from, true_from_ne_false, true≢false}
use Rattle.std.proofs.lemmas.List.FromFn.{length-range_with_len, get_or-range_with_len}
use Rattle.std.proofs.lemmas.List.Folds.{list_all_at}
use Rattle.std.proofs.lemmas.List.Splits.{slice_split-cons_yes, slice_split-cons_no}
use Rattle.sdh_plan.specs.Words.{is_number, is_empty, decimal_from, numeral_in}

pub turned : (b : Bool) → not b ≡ true → b ≡ false
turned true h = cc
turned false h = refl

-- ---- cutting

-- no byte of the text is this one
abbrev pub lacks : ℕ → List ℕ → Bool
lacks b [] = true
lacks b (x ∷ xs) = not (x == b) && lacks b xs

pub lacks_both : (b : ℕ) (xs ys : List ℕ) → lacks b xs ≡ true → lacks b ys ≡ true → lacks b (xs ++ ys) ≡ true
lacks_both b [] ys h k = k
lacks_both b (x ∷ xs) ys h k =
    let parts = and_parts (not (x == b)) (lacks b xs) h in
    and_from (not (x == b)) (lacks b (xs ++ ys)) parts.0 (lacks_both b xs ys parts.1 k)

pub split_at : (b : ℕ) (xs ys : List ℕ) → lacks b xs ≡ true
    → slice_split (λ byte. byte == b) (xs ++ b ∷ ys) ≡ xs ∷ slice_split (λ byte. byte == b) ys
split_at b [] ys h = slice_split-cons_yes (λ byte. byte == b) b ys (eq-eqb b b refl)
split_at b (x ∷ xs) ys h =
    let parts = and_parts (not (x == b)) (lacks b xs) h in
    slice_split-cons_no (λ byte. byte == b) x (xs ++ b ∷ ys) (turned (x == b) parts.0) ∙ ap (onto_first x) (split_at b xs ys parts.1)

pub split_none : (b : ℕ) (xs : List ℕ) → lacks b xs ≡ true → slice_split (λ byte. byte == b) xs ≡ xs ∷ []
split_none b [] h = refl
split_none b (x ∷ xs) h =
    let parts = and_parts (not (x == b)) (lacks b xs) h in
    slice_split-cons_no (λ byte. byte == b) x xs (turned (x == b) parts.0) ∙ ap (onto_first x) (split_none b xs parts.1)

-- ---- small numbers

-- a test that all numbers below n pass is passed by each of them
ranged : (p : ℕ → Bool) (n i : ℕ) → list_all p (range_with_len 0 n) ≡ true → i < n → p i ≡ true
ranged p n i all low =
    let place : 0 + i ≡ i = omega arith in
    let here : get_or (range_with_len 0 n) i 0 ≡ i = get_or-range_with_len 0 n i 0 low ∙ place in
    let inside : i < length (range_with_len 0 n) = omega (arith, length-range_with_len 0 n, low) in
    true_from_ne_false (p i) (λ no. true≢false (sym all ∙ list_all_at p (range_with_len 0 n) i 0 inside (ap p here ∙ no)))

abbrev is_read : ℕ → Bool
is_read k =
    is_number (decimal k) && ((decimal_from 0 (decimal k) == k) && (not (is_empty (decimal k)) && (lacks 32 (decimal k) && lacks 34 (decimal k))))

all_read : list_all is_read (range_with_len 0 49) ≡ true
unfolding digits
all_read = refl

-- the digits of a number are a word, without spaces and quotes, that gives the number
pub record IsRead (k : ℕ) : Type 0 where
  pub number : is_number (decimal k) ≡ true
  pub value : decimal_from 0 (decimal k) ≡ k
  pub some : is_empty (decimal k) ≡ false
  pub spaces : lacks 32 (decimal k) ≡ true
  pub quotes : lacks 34 (decimal k) ≡ true

pub read : (k : ℕ) → k < 49 → IsRead k
read k low =
    let w = decimal k in
    let one = and_parts (is_number w) ((decimal_from 0 w == k) && (not (is_empty w) && (lacks 32 w && lacks 34 w))) (ranged is_read 49 k all_read low) in
    let two = and_parts (decimal_from 0 w == k) (not (is_empty w) && (lacks 32 w && lacks 34 w)) one.1 in
    let three = and_parts (not (is_empty w)) (lacks 32 w && lacks 34 w) two.1 in
    let four = and_parts (lacks 32 w) (lacks 34 w) three.1 in
    record {
      number = one.0;
      value = eqb-true (decimal_from 0 w) k two.0;
      some = turned (is_empty w) three.0;
      spaces = four.0;
      quotes = four.1;
    }

pub numeral_is : (low high k : ℕ) → IsRead k → low ≤ k → k ≤ high → numeral_in low high (decimal k) ≡ Some k
unfolding numeral_in
numeral_is low high k r from to =
    let v = decimal_from 0 (decimal k) in
    ap (λ b. cond (b && nat_le low v && nat_le v high) (Some v) None) r.number
    ∙ ap (λ n. cond (nat_le low n && nat_le n high) (Some n) None) r.value
    ∙ ap (λ b. cond (b && nat_le k high) (Some k) None) (le-leb low k from)
    ∙ ap (λ b. cond b (Some k) None) (le-leb k high to)
