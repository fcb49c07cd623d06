-- What a receiving section finds in what a sending section wrote.
use Rattle.std.proofs.Common.{◌≡◌, ℕ, zero, suc, ◌+◌, ◌*◌, ◌-◌, ◌<◌, ◌≤◌, Bool, true, false, List, [], ◌∷◌, length, get_or, take, drop}
use Rattle.std.proofs.Common.{replicate, Option, Some, None, refl, ap, sym, ◌∙◌, arith, ◌⊎◌, inl, inr}
use Rattle.std.specs.Prelude.{◌==◌, slice_range, if◌then◌else◌}
use Rattle.std.specs.List.{list_all}
use Rattle.std.proofs.lemmas.Bool.{eq-eqb}
use Rattle.std.proofs.lemmas.List.{ext_get_or, get_or-take, get_or-drop, length-take-le, length-replicate}
use Rattle.sdh_basics.proofs.CellsLaws.{cells-same, length-map_from, get_or-placed}
use Rattle.sdh_basics.proofs.Parts.{length-range}
use Rattle.sdh_ringmap.specs.declared.terms.Rate.{Rate}
use Rattle.sdh_ringmap.specs.declared.terms.Rate.TheVariants.{Four, Sixteen}
use Rattle.sdh_frame.specs.declared.Field as field
use Rattle.sdh_frame.specs.declared.Field.TheVariants.{A1, A2, B1, B2, K1, K2}
use Rattle.sdh_frame.specs.Sizes.{size_of}
use Rattle.sdh_ringmap.specs.Rates.{n_of}
use Rattle.sdh_frame.specs.Fields.{field_at}
use Rattle.sdh_frame.specs.Aus.{payload_of, pointers_of, Au, au_of}
use Rattle.sdh_frame.proofs.PlaceProofs.{payload_in, pointer_in}
use Rattle.sdh_parity.specs.Scrambling.{scrambled}
use Rattle.sdh_parity.specs.Violations.{differing_bits, violations_of}
use Rattle.sdh_parity.proofs.Scrambled.{length-scrambled, get_or-scrambled, byte-clear, scrambled-twice}
use Rattle.sdh_parity.proofs.Differing.{differing_bits-same, violations_of-same}
use Rattle.sdh_overhead.specs.declared.Received.TheVariants.{Framed, Unframed}
use Rattle.sdh_overhead.specs.Overhead.{Added, written, byte_at, with_overhead}
use Rattle.sdh_overhead.specs.Sections.{Parities, last_of, IsBlank, placed_after, added_after, clear_frame, parities_of, is_framed, byte_in}
use Rattle.sdh_overhead.specs.Sections.{b2_in, b1_violations, b2_violations, found_in, received_in, kept_after, opened}
use Rattle.sdh_overhead.specs.Laws.{AreParities, ComesBack}
use Rattle.sdh_overhead.proofs.Heads.{field-a1, field-a2, field-b1, field-b2, field-k1, field-k2, byte_at-row, byte_at-payload}
use Rattle.sdh_overhead.proofs.Heads.{byte_at-pointer}

abbrev zeros : ℕ → List ℕ
zeros n = replicate n 0

take-zeros : (n m : ℕ) → n ≤ m → take n (zeros m) ≡ zeros n
take-zeros zero m h = refl
take-zeros (suc n) zero h = absurd (omega arith)
take-zeros (suc n) (suc m) h = ap (λ xs. 0 ∷ xs) (take-zeros n m (omega arith))

-- the fields of a section, known or not, are the bytes B1 and B2 of the next frame
pub placed_blank : (n : ℕ) (known : Bool) (b1 : ℕ) (b2 : List ℕ) → 3 * n ≤ 48 → IsBlank known b1 b2
    → placed_after n (last_of n known b1 b2) ≡ record { b1 = b1; b2 = take (3 * n) b2 }
placed_blank n true b1 b2 h is = refl
placed_blank n false b1 b2 h is =
    same 0 b1 (zeros (3 * n)) (take (3 * n) b2) (sym is.0) (sym (ap (take (3 * n)) is.1 ∙ take-zeros (3 * n) 48 h))
  where
    parities : ℕ → List ℕ → Parities
    parities x xs = record { b1 = x; b2 = xs }

    same : (x y : ℕ) (xs ys : List ℕ) → x ≡ y → xs ≡ ys → parities x xs ≡ parities y ys
    same x y xs ys p q = λ i. parities (p i) (q i)

pub all-from : (v : ℕ) (xs : List ℕ) → ((k : ℕ) → k < length xs → get_or xs k 0 ≡ v) → list_all (λ x. x == v) xs ≡ true
all-from v [] h = refl
all-from v (x ∷ xs) h =
    let first : (x == v) ≡ true = eq-eqb x v (h 0 (omega arith)) in
    let rest : list_all (λ y. y == v) xs ≡ true = all-from v xs (λ k lt. h (suc k) (omega arith)) in
    rw (first, rest) refl

-- ---- the overhead of a sent frame

module _ (rate : Rate) (a : Added) (bytes : List ℕ) (whole : length bytes ≡ size_of rate) where
  length-overhead : length (with_overhead (n_of rate) a bytes) ≡ 2430 * n_of rate
  unfolding with_overhead
  length-overhead = length-map_from (byte_at (n_of rate) a) 0 bytes ∙ whole

  pub at_overhead : (i : ℕ) → i < 2430 * n_of rate → get_or (with_overhead (n_of rate) a bytes) i 0
      ≡ byte_at (n_of rate) a i (get_or bytes i 0)
  unfolding with_overhead
  at_overhead i h = get_or-placed (byte_at (n_of rate) a) bytes i 0 0 (omega arith)

  -- byte c of row r, counted from 0, where it is overhead of this field
  pub field-there : (r c i : ℕ) (f : field.Field) → r < 9 → c < 9 * n_of rate → i ≡ r * (270 * n_of rate) + c → i < 2430 * n_of rate
      → field_at (n_of rate) (r + 1) (c + 1) ≡ f
      → get_or (with_overhead (n_of rate) a bytes) i 0 ≡ written a f (get_or bytes i 0)
  field-there r c i f small h e within is =
      at_overhead i within ∙ byte_at-row (n_of rate) a r c i (get_or bytes i 0) (omega arith) (sym e)
      ∙ ap (λ (g : field.Field). written a g (get_or bytes i 0)) is

  payload-with_overhead : (au : ℕ) → 1 ≤ au → au ≤ n_of rate
      → payload_of (n_of rate) au (with_overhead (n_of rate) a bytes) ≡ payload_of (n_of rate) au bytes
  unfolding payload_of
  payload-with_overhead au low high =
      cells-same _ _ 2349 0 (λ j lt. (let at = payload_in rate au j low high lt in at_overhead _ at.within
      ∙ byte_at-payload (n_of rate) a _ _ at.behind))

  pointers-with_overhead : (au : ℕ) → 1 ≤ au → au ≤ n_of rate
      → pointers_of (n_of rate) au (with_overhead (n_of rate) a bytes) ≡ pointers_of (n_of rate) au bytes
  unfolding pointers_of
  pointers-with_overhead au low high =
      cells-same _ _ 9 0 (λ j lt. (let at = pointer_in rate au j low high lt in at_overhead _ at.within
      ∙ byte_at-pointer (n_of rate) a _ _ at.row at.before))

  pub au-with_overhead : (au : ℕ) → 1 ≤ au → au ≤ n_of rate
      → au_of (n_of rate) au (with_overhead (n_of rate) a bytes) ≡ au_of (n_of rate) au bytes
  au-with_overhead au low high = same_au _ _ (pointers-with_overhead au low high) (payload-with_overhead au low high)
    where
      same_au : (x y : Au) → x.pointers ≡ y.pointers → x.payload ≡ y.payload → x ≡ y
      same_au x y p q = λ i. record { pointers = p i; payload = q i }

  some : 1 ≤ n_of rate
  some = positive rate
    where
      positive : (r : Rate) → 1 ≤ n_of r
      positive Four = omega arith
      positive Sixteen = omega arith

  k1-there : byte_in (n_of rate) (with_overhead (n_of rate) a bytes) 5 (3 * n_of rate + 1) ≡ a.k1
  k1-there = let n = n_of rate in let s =
      some in field-there 4 (3 * n) _ K1 (omega arith) (omega arith) (omega arith) (omega arith) (field-k1 n (3 * n) (omega arith) refl)

  k2-there : byte_in (n_of rate) (with_overhead (n_of rate) a bytes) 5 (6 * n_of rate + 1) ≡ a.k2
  k2-there = let n = n_of rate in let s =
      some in field-there 4 (6 * n) _ K2 (omega arith) (omega arith) (omega arith) (omega arith) (field-k2 n (6 * n) (omega arith) refl s)

  b1-there : byte_in (n_of rate) (with_overhead (n_of rate) a bytes) 2 1 ≡ a.b1
  b1-there = let n = n_of rate in let s =
      some in field-there 1 0 _ B1 (omega arith) (omega arith) (omega arith) (omega arith) (field-b1 n 0 (omega arith) refl)

  pub b2-there : length a.b2 ≡ 3 * n_of rate → b2_in (n_of rate) (with_overhead (n_of rate) a bytes) ≡ a.b2
  b2-there len =
      let n = n_of rate in
      let clear = with_overhead n a bytes in
      let size : length (b2_in n clear) ≡ 3 * n =
      length-range (1080 * n) (1083 * n) (3 * n) clear (omega arith) (omega (arith, length-overhead)) in
      ext_get_or 0 (b2_in n clear) a.b2 (size ∙ sym len) (λ i lt.
      (let h : i < 3 * n = omega arith in
      let back : i + 1 - 1 ≡ i = omega arith in
      get_or-take (1083 * n - 1080 * n) (drop (1080 * n) clear) i 0 (omega arith) ∙ get_or-drop (1080 * n) clear i 0
      ∙ field-there 4 i (1080 * n + i) (B2 (i + 1 - 1)) (omega arith) (omega arith) (omega arith) (omega arith)
      (field-b2 n i (omega arith) h) ∙ ap (λ k. get_or a.b2 k 0) back))

  -- scrambling leaves the framing
  framing-there : (i v : ℕ) (f : field.Field) → i < 9 * n_of rate → field_at (n_of rate) 1 (i + 1) ≡ f → ((x : ℕ) → written a f x ≡ v)
      → get_or (scrambled (9 * n_of rate) (with_overhead (n_of rate) a bytes)) i 0 ≡ v
  framing-there i v f h is value =
      let n = n_of rate in
      let clear = with_overhead n a bytes in
      get_or-scrambled (9 * n) clear i (omega (arith, length-overhead)) ∙ byte-clear (9 * n) i (get_or clear i 0) h
      ∙ field-there 0 i i f (omega arith) h (omega arith) (omega arith) is ∙ value (get_or bytes i 0)

  is-framed : is_framed (n_of rate) (scrambled (9 * n_of rate) (with_overhead (n_of rate) a bytes)) ≡ true
  unfolding is_framed
  is-framed =
      let n = n_of rate in
      let line = scrambled (9 * n) (with_overhead n a bytes) in
      let long : length line ≡ 2430 * n = length-scrambled (9 * n) (with_overhead n a bytes) ∙ length-overhead in
      let l1 : length (take (3 * n) line) ≡ 3 * n = length-take-le (3 * n) line (omega arith) in
      let l2 : length (slice_range line (3 * n) (6 * n)) ≡ 3 * n = length-range (3 * n) (6 * n) (3 * n) line (omega arith) (omega arith) in
      let first = all-from 0xF6 (take (3 * n) line) (λ k lt.
      (let h : k < 3 * n = omega arith in
      get_or-take (3 * n) line k 0 h ∙ framing-there k 0xF6 A1 (omega arith) (field-a1 n k (omega arith) h) (λ x. refl))) in
      let second = all-from 0x28 (slice_range line (3 * n) (6 * n)) (λ k lt.
      (let h : k < 3 * n = omega arith in
      get_or-take (6 * n - 3 * n) (drop (3 * n) line) k 0 (omega arith) ∙ get_or-drop (3 * n) line k 0
      ∙ framing-there (3 * n + k) 0x28 A2 (omega arith) (field-a2 n (3 * n + k) (omega arith) (omega arith) (omega arith)) (λ x. refl))) in
      rw (first, second) refl

-- ---- the round trip

pub kept_whole : (n : ℕ) (known : Bool) (b1 : ℕ) (b2 : List ℕ) → 3 * n ≤ 48 → length b2 ≡ 48 → AreParities n (last_of n known b1 b2)
kept_whole n true b1 b2 h len = length-take-le (3 * n) b2 (omega arith)
kept_whole n false b1 b2 h len = tt

pub placed-length : (n : ℕ) (last : Option Parities) → AreParities n last → length (placed_after n last).b2 ≡ 3 * n
placed-length n None are = length-replicate (3 * n) 0
placed-length n (Some last) are = are

-- parities that were placed show no violation
no-b1 : (n : ℕ) (sending receiving : Option Parities) (clear : List ℕ) → (receiving ≡ sending) ⊎ (receiving ≡ None)
    → byte_in n clear 2 1 ≡ (placed_after n sending).b1 → b1_violations n receiving clear ≡ 0
no-b1 n sending receiving clear (inr none) there = ap (λ (r : Option Parities). b1_violations n r clear) none
no-b1 n None receiving clear (inl same) there = ap (λ (r : Option Parities). b1_violations n r clear) same
no-b1 n (Some last) receiving clear (inl same) there =
    ap (λ (r : Option Parities). b1_violations n r clear) same ∙ ap (differing_bits last.b1) there ∙ differing_bits-same last.b1

no-b2 : (n : ℕ) (sending receiving : Option Parities) (clear : List ℕ) → (receiving ≡ sending) ⊎ (receiving ≡ None)
    → b2_in n clear ≡ (placed_after n sending).b2 → b2_violations n receiving clear ≡ 0
no-b2 n sending receiving clear (inr none) there = ap (λ (r : Option Parities). b2_violations n r clear) none
no-b2 n None receiving clear (inl same) there = ap (λ (r : Option Parities). b2_violations n r clear) same
no-b2 n (Some last) receiving clear (inl same) there =
    ap (λ (r : Option Parities). b2_violations n r clear) same ∙ ap (violations_of last.b2) there ∙ violations_of-same last.b2

same-framed : (a b c d x y z w : ℕ) → a ≡ x → b ≡ y → c ≡ z → d ≡ w → Framed a b c d ≡ Framed x y z w
same-framed a b c d x y z w p q r s = cc

pub round-trip : (rate : Rate) (sending receiving : Option Parities) (k1 k2 : ℕ) (bytes : List ℕ) → length bytes ≡ size_of rate
    → AreParities (n_of rate) sending
    → (receiving ≡ sending) ⊎ (receiving ≡ None) → ComesBack rate sending receiving k1 k2 bytes
unfolding clear_frame received_in kept_after opened found_in
round-trip rate sending receiving k1 k2 bytes whole are held =
    let n = n_of rate in
    let a = added_after n sending k1 k2 in
    let clear = with_overhead n a bytes in
    let framed = is-framed rate a bytes whole in
    let back = scrambled-twice (9 * n) clear in
    record {
      framed = ap (λ (t : Bool). if t then found_in n receiving (scrambled (9 * n) (scrambled (9 * n) clear)) else Unframed) framed
          ∙ ap (found_in n receiving) back
          ∙ same-framed _ _ _ _ _ _ _ _ (k1-there rate a bytes whole) (k2-there rate a bytes whole)
          (no-b1 n sending receiving clear held (b1-there rate a bytes whole))
          (no-b2 n sending receiving clear held (b2-there rate a bytes whole (placed-length n sending are)));
      parities =
          ap (λ (t : Bool). if t then Some (parities_of n (scrambled (9 * n) (scrambled (9 * n) clear)) (scrambled (9 * n) clear))
          else None) framed
          ∙ ap (λ z. Some (parities_of n z (scrambled (9 * n) clear))) back;
      frame = ap (λ (t : Bool). if t then scrambled (9 * n) (scrambled (9 * n) clear) else scrambled (9 * n) clear) framed ∙ back;
      aus = λ au low high. au-with_overhead rate a bytes whole au low high;
    }
