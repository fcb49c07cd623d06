-- A text that is repeated.
use Rattle.std.proofs.Common.{◌≡◌, ℕ, suc, ◌+◌, ◌-◌, ◌%◌, ◌<◌, ◌≤◌, ◌^◌, List, length, get_or, set, take, drop, ap, ◌∙◌, sym, arith}
use Rattle.std.proofs.Common.{bit_xor, inl, inr}
use Rattle.std.proofs.lemmas.Bool.{cases_eq}
use Rattle.std.specs.Int.Bits.{xor_assoc, xor_self, xor_zero_l}
use Rattle.std.proofs.Math.Nat.{mod-lt, mod-eq_of_lt, mod-add-mod, add-mod_right}
use Rattle.std.proofs.Math.Seq.{take-add, take-length, take-suc}
use Rattle.sdh_basics.specs.Parity.{bip8}
use Rattle.sdh_basics.proofs.ParityLaws.{bip8-append, bip8-push}
use Rattle.std.proofs.lemmas.List.{ext_get_or, get_or-set_same, get_or-set_other, get_or-drop, get_or-take, length-take-le, length-drop}
use Rattle.sdh_basics.proofs.CellsLaws.{cells-from}
use Rattle.sdh_payload.specs.Walk.{Repeats, repeated_from, AreFrontParities}

pub text_back : (text bytes : List ℕ) → 0 < length text → length text ≤ 64 → length bytes ≡ 324
    → ((k : ℕ) → k < 324 → get_or bytes k 0 ≡ get_or text (k % length text) 0) → take (length text) bytes ≡ text
text_back text bytes some few enough same =
    let len : length (take (length text) bytes) ≡ length text = length-take-le (length text) bytes (omega arith) in
    ext_get_or 0 (take (length text) bytes) text len
    (λ k h. let below : k < length text = omega (arith, len) in get_or-take (length text) bytes k 0 below ∙ same k (omega arith)
    ∙ ap (λ i. get_or text i 0) (mod-eq_of_lt below))

pub repeats_made : (text bytes : List ℕ) → 0 < length text → length text ≤ 64 → length bytes ≡ 324
    → ((k : ℕ) → k < 324 → get_or bytes k 0 ≡ get_or text (k % length text) 0) → Repeats (length text) bytes
repeats_made text bytes some few enough same = record {
  some = some;
  few = few;
  enough = enough;
  same = λ k h.
      let below : k % length text < length text = mod-lt k some in
      same k h ∙ sym (same (k % length text) (omega arith) ∙ ap (λ i. get_or text i 0) (mod-eq_of_lt below));
}

-- the bytes in one piece from a place on
pub repeated_piece : (bytes : List ℕ) (len place rest count : ℕ) → Repeats len bytes → place < length (take len bytes) → rest ≡ 324 - place
    → count ≤ 260 → take count (take rest (drop place bytes)) ≡ repeated_from (take len bytes) place count
unfolding repeated_from
repeated_piece bytes len place rest count r here rest_is few =
    let text = take len bytes in
    let text_len : length text ≡ len = length-take-le len bytes (omega (arith, r.few, r.enough)) in
    let rest_len : length (take rest (drop place bytes)) ≡ rest =
    length-take-le rest (drop place bytes) (omega (arith, r.few, r.enough, length-drop place bytes)) in
    let piece_len : length (take count (take rest (drop place bytes))) ≡ count =
    length-take-le count (take rest (drop place bytes)) (omega (arith, r.few, text_len)) in
    sym (cells-from (λ k. get_or text ((place + k) % length text) 0) count 0 (take count (take rest (drop place bytes))) piece_len
    (λ k h.
    let wrapped : (place + k) % len < len = mod-lt (place + k) r.some in
    ap (λ n. get_or text ((place + k) % n) 0) text_len ∙ get_or-take len bytes ((place + k) % len) 0 wrapped
    ∙ sym (r.same (place + k) (omega (arith, r.few, text_len))) ∙ sym (get_or-drop place bytes k 0)
    ∙ sym (get_or-take rest (drop place bytes) k 0 (omega (arith, r.few, text_len)))
    ∙ sym (get_or-take count (take rest (drop place bytes)) k 0 h)))

-- ---- parities

xor_back : (x y : ℕ) → bit_xor x (bit_xor x y) ≡ y
xor_back x y = sym (xor_assoc x x y) ∙ ap (λ z. bit_xor z y) (xor_self x) ∙ xor_zero_l y

-- the parity of a piece, from the parities of the bytes before it and of those up to its end
pub piece_parity : (bytes sums : List ℕ) (len place count : ℕ) → Repeats len bytes → AreFrontParities bytes sums
    → place < length (take len bytes) → count ≤ 260 → bit_xor (get_or sums place 0) (get_or sums (place + count) 0)
    ≡ bip8 (repeated_from (take len bytes) place count)
piece_parity bytes sums len place count r are here few =
    let text_len : length (take len bytes) ≡ len = length-take-le len bytes (omega (arith, r.few, r.enough)) in
    let rest : length (drop place bytes) ≡ 324 - place = length-drop place bytes ∙ ap (λ n. n - place) r.enough in
    let whole : take (324 - place) (drop place bytes) ≡ drop place bytes =
    ap (λ n. take n (drop place bytes)) (sym rest) ∙ take-length (drop place bytes) in
    let piece : take count (drop place bytes) ≡ repeated_from (take len bytes) place count =
    ap (take count) (sym whole) ∙ repeated_piece bytes len place (324 - place) count r here (omega arith) few in
    ap (λ z. bit_xor z (get_or sums (place + count) 0)) (are.each place (omega (arith, r.few, r.enough, text_len)))
    ∙ ap (bit_xor (bip8 (take place bytes))) (are.each (place + count) (omega (arith, r.few, r.enough, text_len))
    ∙ ap bip8 (take-add place count bytes) ∙ bip8-append (take place bytes) (take count (drop place bytes)))
    ∙ xor_back (bip8 (take place bytes)) (bip8 (take count (drop place bytes))) ∙ ap bip8 piece

-- ---- places

pub text_len : (bytes : List ℕ) (len : ℕ) → Repeats len bytes → length (take len bytes) ≡ len
text_len bytes len r = length-take-le len bytes (omega (arith, r.few, r.enough))

-- the place after a row
behind_row : (place len step : ℕ) → 0 < len → step ≡ 260 % len → (place + step) % len ≡ (place + 260) % len
behind_row place len step some is = let swap : place + step ≡ 260 % len + place =
    omega (arith, is) in let back : 260 + place ≡ place + 260 =
    omega arith in ap (λ n. n % len) swap ∙ mod-add-mod 260 len place ∙ ap (λ n. n % len) back

pub row_short : (place len step : ℕ) → place < len → step ≡ 260 % len → place + step < len → place + step ≡ (place + 260) % len
row_short place len step here is h = sym (mod-eq_of_lt h) ∙ behind_row place len step (omega arith) is

pub row_long : (place len step : ℕ) → place < len → step ≡ 260 % len → len ≤ place + step → place + step - len ≡ (place + 260) % len
row_long place len step here is h =
    let few : step < len = omega (arith, is, mod-lt 260 (let some : 0 < len = omega arith in some)) in
    let below : place + step - len < len = omega arith in
    let back : place + step - len + len ≡ place + step = omega arith in
    sym (mod-eq_of_lt below) ∙ sym (add-mod_right (place + step - len) len) ∙ ap (λ n. n % len) back
    ∙ behind_row place len step (omega arith) is

-- the parities of the first bytes, with one byte more
pub front_more : (bytes parities : List ℕ) (i : ℕ) → i < length bytes → i + 1 < length parities → get_or bytes i 0 < 2 ^ 8
    → ((k : ℕ) → k ≤ i → get_or parities k 0 ≡ bip8 (take k bytes))
    → (k : ℕ) → k ≤ i + 1 → get_or (set parities (i + 1) (bit_xor (get_or parities i 0) (get_or bytes i 0))) k 0 ≡ bip8 (take k bytes)
front_more bytes parities i h room small each k few =
    let next : i + 1 ≡ suc i = omega arith in
    let x : ℕ = bit_xor (get_or parities i 0) (get_or bytes i 0) in
    elim (cases_eq k (i + 1)) [
      | inl e ↦ (
          ap (λ n. get_or (set parities (i + 1) x) n 0) e ∙ get_or-set_same parities (i + 1) x 0 room
          ∙ ap (λ z. bit_xor z (get_or bytes i 0)) (each i (omega arith)) ∙ sym (bip8-push (take i bytes) (get_or bytes i 0) small)
          ∙ ap bip8 (sym (ap (λ n. take n bytes) next ∙ take-suc bytes i 0 h)) ∙ ap (λ n. bip8 (take n bytes)) (sym e))
      | inr d ↦ (get_or-set_other parities (i + 1) k x 0 d ∙ each k (omega arith))
    ]
