-- Frames that are descrambled as they land, and what a section reads of them.
use Rattle.std.proofs.Common.{◌≡◌, ℕ, ◌+◌, ◌*◌, ◌≤◌, Bool, true, false, List, ◌++◌, length, get_or, take, drop, Option, Some, None}
use Rattle.std.proofs.Common.{refl, ap, sym, subst, ◌∙◌, arith}
use Rattle.std.specs.Prelude.{slice_range, if◌then◌else◌}
use Rattle.std.proofs.lemmas.List.{length-take-le, take_all, take-append-drop, take-append-le}
use Rattle.std.proofs.lemmas.Option.{same_Some, none-some}
use Rattle.sdh_basics.specs.Parity.{bip8}
use Rattle.sdh_ringmap.specs.declared.terms.Rate.{Rate}
use Rattle.sdh_frame.specs.Sizes.{Frame}
use Rattle.sdh_ringmap.specs.Rates.{n_of}
use Rattle.sdh_parity.specs.Parity.{section_parity}
use Rattle.sdh_parity.specs.Scrambling.{scrambled}
use Rattle.sdh_parity.specs.Violations.{differing_bits, violations_of}
use Rattle.sdh_parity.proofs.Scrambled.{length-scrambled, scrambled-twice, take-scrambled}
use Rattle.sdh_overhead.specs.declared.Received.TheVariants.{Framed, Unframed}
use Rattle.sdh_overhead.specs.Sections.{Parities, last_of, parities_of, is_framed, byte_in, b2_in, found_in, received_in, kept_after, opened}
use Rattle.sdh_overhead.specs.Landing.{LandedFrame, landed_of, AreSummed}
use Rattle.sdh_overhead.proofs.Reading.{framed-front, by-b1, by-b2, is-unframed, kept-unframed, kept-framed}

-- ---- what a frame says

-- the framing is not scrambled
framed-scrambled : (n : ℕ) (bytes : List ℕ) → 9 * n ≤ length bytes → is_framed n (scrambled (9 * n) bytes) ≡ is_framed n bytes
framed-scrambled n bytes long =
    let line = scrambled (9 * n) bytes in
    let wide : length line ≡ length bytes = length-scrambled (9 * n) bytes in
    let room : 6 * n ≤ length (take (9 * n) line) = omega (arith, length-take-le (9 * n) line (omega (arith, wide))) in
    let near : 6 * n ≤ length (take (9 * n) bytes) = omega (arith, length-take-le (9 * n) bytes long) in
    ap (is_framed n) (sym (take-append-drop (9 * n) line)) ∙ framed-front n (take (9 * n) line) (drop (9 * n) line) room
    ∙ ap (is_framed n) (take-scrambled (9 * n) bytes)
    ∙ sym (framed-front n (take (9 * n) bytes) (drop (9 * n) bytes) near) ∙ ap (is_framed n) (take-append-drop (9 * n) bytes)

pub found-framed : (n : ℕ) (last : Option Parities) (line : List ℕ) → is_framed n line ≡ true
    → found_in n last (scrambled (9 * n) line) ≡ received_in n last line
unfolding received_in
found-framed n last line framed = sym (ap (λ (t : Bool). if t then found_in n last (scrambled (9 * n) line) else Unframed) framed)

pub finds : (n m k1 k2 x y : ℕ) (known : Bool) (b1 : ℕ) (b2 bytes : List ℕ) → m ≡ n → k1 ≡ get_or bytes (1083 * m) 0
    → k2 ≡ get_or bytes (1086 * m) 0
    → x ≡ (if known then differing_bits b1 (get_or bytes (270 * m) 0) else 0)
    → y ≡ (if known then violations_of (take (3 * m) b2) (slice_range bytes (1080 * m) (1083 * m)) else 0)
    → Framed k1 k2 x y ≡ found_in n (last_of n known b1 b2) bytes
unfolding found_in
finds n m k1 k2 x y known b1 b2 bytes same one two three four =
    let at1 : k1 ≡ byte_in n bytes 5 (3 * n + 1) = one ∙ ap (λ i. get_or bytes i 0) (omega arith) in
    let at2 : k2 ≡ byte_in n bytes 5 (6 * n + 1) = two ∙ ap (λ i. get_or bytes i 0) (omega arith) in
    let at3 = three ∙ ap (λ i. if known then differing_bits b1 (get_or bytes i 0) else 0) (omega arith) ∙ sym (by-b1 n known b1 b2 bytes) in
    let at4 =
    four ∙ ap (λ k. if known then violations_of (take (3 * k) b2) (b2_in k bytes) else 0) same ∙ sym (by-b2 n known b1 b2 bytes) in
    λ i. Framed (at1 i) (at2 i) (at3 i) (at4 i)

-- ---- what landed

pub landed-is : (n : ℕ) (here : Bool) (clear bytes : List ℕ) → landed_of n here clear ≡ Some bytes
    → (here ≡ true) × (scrambled (9 * n) clear ≡ bytes)
landed-is n true clear bytes e = (refl, same_Some _ _ e)
landed-is n false clear bytes e = absurd (none-some bytes e)

-- the frame that is exchanged for another one is the descrambled one
pub given-is : (frame : Frame) (here : Bool) (kept : LandedFrame) (bytes : List ℕ)
    → record { rate = frame.rate; landed = landed_of (n_of frame.rate) here frame.bytes; buffer = frame.bytes } ≡ kept
    → kept.landed ≡ Some bytes
    → frame ≡ record { rate = kept.rate; bytes = scrambled (9 * n_of kept.rate) bytes }
given-is frame here kept bytes view e =
    let n = n_of frame.rate in
    let is = (landed-is n here frame.bytes bytes (ap (λ (l : LandedFrame). l.landed) view ∙ e)).1 in
    let back : frame.bytes ≡ scrambled (9 * n) bytes = sym (scrambled-twice (9 * n) frame.bytes) ∙ ap (scrambled (9 * n)) is in
    (λ i. record { rate = frame.rate; bytes = back i }) ∙ ap (λ (r : Rate). record { rate = r; bytes = scrambled (9 * n_of r) bytes })
    (ap (λ (l : LandedFrame). l.rate) view)

-- a buffer that was borrowed whole and came back
abbrev pub lent : List ℕ → List ℕ → List ℕ
lent old to = take (length old) (to ++ drop (length to) old)

pub lent-whole : (old to : List ℕ) → length to ≡ length old → lent old to ≡ to
lent-whole old to same = take-append-le (length old) to (drop (length to) old) (omega arith) ∙ take_all (length old) to (omega arith)

-- a frame after it was read
pub opened-framed : (n : ℕ) (line : List ℕ) → is_framed n line ≡ true → scrambled (9 * n) line ≡ opened n line
unfolding opened
opened-framed n line framed = sym (ap (λ (t : Bool). if t then scrambled (9 * n) line else line) framed)

pub opened-unframed : (n : ℕ) (line : List ℕ) → is_framed n line ≡ false → line ≡ opened n line
unfolding opened
opened-unframed n line framed = sym (ap (λ (t : Bool). if t then scrambled (9 * n) line else line) framed)

-- the parities of a frame, as they are kept
pub summed-is : (n b1 : ℕ) (b2 clear line : List ℕ) → b1 ≡ bip8 line → take (3 * n) b2 ≡ section_parity n clear
    → record { b1 = b1; b2 = take (3 * n) b2 } ≡ parities_of n clear line
unfolding parities_of
summed-is n b1 b2 clear line one two = λ i. record { b1 = one i; b2 = two i }

module _ (n m b1 : ℕ) (b2 old to from : List ℕ) (same : m ≡ n) (opens : to ≡ scrambled (9 * m) from) (long : length to ≡ length old)
    (one : b1 ≡ bip8 from) (two : take (3 * m) b2 ≡ section_parity m to) where
  pub lands : scrambled (9 * n) (lent old to) ≡ from
  lands = ap (scrambled (9 * n)) (lent-whole old to long ∙ opens ∙ ap (λ x. scrambled (9 * x) from) same) ∙ scrambled-twice (9 * n) from

  pub lands-summed : record { b1 = b1; b2 = take (3 * n) b2 } ≡ parities_of n (lent old to) (scrambled (9 * n) (lent old to))
  lands-summed =
      summed-is n b1 b2 to from one (ap (λ x. take (3 * x) b2) (sym same) ∙ two ∙ ap (λ x. section_parity x to) same)
      ∙ (λ i. parities_of n (sym (lent-whole old to long) i) (sym lands i))

-- what a section reads of a frame that landed
module _ (m k n : ℕ) (here : Bool) (b1 : ℕ) (b2 clear seen bytes : List ℕ) (last : Option Parities) (one : m ≡ n) (two : k ≡ n)
    (is : seen ≡ clear) (long : 9 * n ≤ length clear)
    (landed : landed_of k here clear ≡ Some bytes) (summed : AreSummed k here b1 b2 clear) where
  line : scrambled (9 * n) clear ≡ bytes
  line = ap (λ x. scrambled (9 * x) clear) (sym two) ∙ (landed-is k here clear bytes landed).1

  framing : is_framed n bytes ≡ is_framed m seen
  framing = ap (is_framed n) (sym line) ∙ framed-scrambled n clear long ∙ ap (is_framed n) (sym is) ∙ ap (λ x. is_framed x seen) (sym one)

  back : clear ≡ scrambled (9 * n) bytes
  back = sym (scrambled-twice (9 * n) clear) ∙ ap (scrambled (9 * n)) line

  parities : record { b1 = b1; b2 = take (3 * n) b2 } ≡ parities_of n (scrambled (9 * n) bytes) bytes
  parities =
      subst (λ x. record { b1 = b1; b2 = take (3 * x) b2 } ≡ parities_of x clear (scrambled (9 * x) clear)) two
      (subst (λ (t : Bool). AreSummed k t b1 b2 clear) (landed-is k here clear bytes landed).0 summed)
      ∙ (λ i. parities_of n (back i) (line i))

  pub unframed-result : is_framed m seen ≡ false → Unframed ≡ received_in n last bytes
  unframed-result e = is-unframed n last bytes (framing ∙ e)

  pub unframed-kept : is_framed m seen ≡ false → None ≡ kept_after n bytes
  unframed-kept e = kept-unframed n bytes (framing ∙ e)

  pub landed-found : is_framed m seen ≡ true → found_in n last clear ≡ received_in n last bytes
  landed-found e = ap (found_in n last) back ∙ found-framed n last bytes (framing ∙ e)

  pub landed-kept : is_framed m seen ≡ true → Some (record { b1 = b1; b2 = take (3 * n) b2 }) ≡ kept_after n bytes
  landed-kept e = ap Some parities ∙ kept-framed n bytes (framing ∙ e)
