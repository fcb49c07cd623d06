-- A part of a list to which the sequence was added, from a place that is a multiple of 1016.
use Rattle.std.proofs.Common.{◌≡◌, ℕ, ◌+◌, ◌-◌, ◌*◌, ◌<◌, ◌≤◌, length, get_or, arith, List, take, drop, sym, ap, ◌∙◌, inl, inr}
use Rattle.std.proofs.lemmas.Bool.{cases_lt}
use borrow.Rule.Slice.PartMut.{put_mid}
use Rattle.std.specs.Int.Bits.{bit_xor}
use Rattle.sdh_basics.proofs.Parts.{length-part, get_or-part, put_below, put_in, put_above}
use Rattle.sdh_parity.specs.Scrambling.{scrambling_byte}
use Rattle.sdh_parity.proofs.Table.{byte-repeats}

pub added : (old s part : List ℕ) (a n b : ℕ) → a ≡ b * 1016 → a + n ≤ length s → length part ≡ n →
    ((k : ℕ) → k < length (take n (drop a s)) → get_or part k 0 ≡ bit_xor (get_or (take n (drop a s)) k 0) (scrambling_byte k)) →
    ((k : ℕ) → k < a → get_or s k 0 ≡ bit_xor (get_or old k 0) (scrambling_byte k)) →
    ((k : ℕ) → a ≤ k → get_or s k 0 ≡ get_or old k 0) →
    (k : ℕ) → k < a + n → get_or (put_mid a n s part) k 0 ≡ bit_xor (get_or old k 0) (scrambling_byte k)
added old s part a n b at room len each done rest k h =
    let r : a ≤ length s = omega arith in
    elim (cases_lt k a) [
      | inl lt ↦ put_below a n s part k lt r ∙ done k lt
      | inr ge ↦
          let j : ℕ = k - a in
          let e : a + j ≡ k = omega arith in
          let jn : j < n = omega arith in
          let jp : j < length part = omega arith in
          let lm : length (take n (drop a s)) ≡ n = length-part a n s room in
          let jm : j < length (take n (drop a s)) = omega arith in
          let at_j : b * 1016 + j ≡ k = omega arith in
          let key : scrambling_byte j ≡ scrambling_byte k = sym (byte-repeats b j) ∙ ap scrambling_byte at_j in
          let was : get_or (take n (drop a s)) j 0 ≡ get_or old k 0 = get_or-part a n s j jn ∙ (ap (λ i. get_or s i 0) e ∙ rest k ge) in
          ap (λ i. get_or (put_mid a n s part) i 0) (sym e)
          ∙ (put_in a n s part j jp r ∙ (each j jm ∙ (ap (λ x. bit_xor x (scrambling_byte j)) was
          ∙ ap (λ y. bit_xor (get_or old k 0) y) key)))
    ]

pub left : (old s part : List ℕ) (a n : ℕ) → a + n ≤ length s → length part ≡ n →
    ((k : ℕ) → a ≤ k → get_or s k 0 ≡ get_or old k 0) →
    (k : ℕ) → a + n ≤ k → get_or (put_mid a n s part) k 0 ≡ get_or old k 0
left old s part a n room len rest k h =
    let r : a ≤ length s = omega arith in
    let ge : a ≤ k = omega arith in
    put_above a n s part k h len r ∙ rest k ge
