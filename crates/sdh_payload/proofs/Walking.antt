-- Steps of a walk along VC-4s.
use Rattle.std.proofs.Common.{◌≡◌, ℕ, ◌+◌, ◌*◌, ◌/◌, ◌%◌, ◌^◌, ◌<◌, ◌≤◌, List, [], ◌∷◌, ◌++◌, length, get_or, refl, sym, ap, ◌∙◌, arith}
use Rattle.std.proofs.Common.{bit_xor}
use Rattle.std.proofs.Math.Nat.{mod-add-mod}
use Rattle.sdh_basics.specs.Parity.{bip8}
use Rattle.sdh_basics.specs.Cells.{cells}
use Rattle.sdh_basics.proofs.CellsLaws.{cells-zero, cells-more}
use Rattle.sdh_basics.proofs.ParityLaws.{bip8-nil}
use Rattle.sdh_payload.specs.Customer.{Customer}
use Rattle.sdh_payload.specs.Stream.{path_overhead, vc4_byte, vc4_front, b3_of}
use Rattle.sdh_payload.specs.Walk.{IsAt, text_before, containers_from, repeated_from}
use Rattle.sdh_payload.proofs.Containers.{vc4_byte-overhead, text_run, b3_of-more, containers_inside, parity_more, parity_push}

-- bytes of the VC-4 at this place are bytes of all VC-4s
pub containers_here : (port : Customer) (v i b3 parity place n at : ℕ) (run : List ℕ) → IsAt port v i b3 parity place
    → run ≡ cells (λ k. vc4_byte port b3 v (i + k)) n → i + n ≤ 2349 → 2349 * v + i ≡ at → run ≡ containers_from port at n
containers_here port v i b3 parity place n at run here is fits there =
    is ∙ ap (λ b. cells (λ k. vc4_byte port b v (i + k)) n) here.b3_is ∙ sym (containers_inside port v i n fits)
    ∙ ap (λ q. containers_from port q n) there

-- the byte of the first column
pub overhead_is : (port : Customer) (v i b3 byte : ℕ) → i % 261 ≡ 0 → byte ≡ get_or (path_overhead port.trace b3 v) (i / 261) 0
    → byte ∷ [] ≡ cells (λ k. vc4_byte port b3 v (i + k)) 1
overhead_is port v i b3 byte first is =
    let f : ℕ → ℕ = λ k. vc4_byte port b3 v (i + k) in
    ap (λ b. b ∷ []) (is ∙ sym (vc4_byte-overhead port b3 v i first) ∙ ap (vc4_byte port b3 v) (omega arith))
    ∙ sym (cells-more f 0 ∙ ap (λ l. l ++ f 0 ∷ []) (cells-zero f))

pub IsAt-overhead : (port : Customer) (v i b3 parity place byte : ℕ) → IsAt port v i b3 parity place → i % 261 ≡ 0
    → byte ≡ get_or (path_overhead port.trace b3 v) (i / 261) 0 → byte < 2 ^ 8 → IsAt port v (i + 1) b3 (bit_xor parity byte) place
IsAt-overhead port v i b3 parity place byte here first is small =
    let same : text_before v i ≡ text_before v (i + 1) = omega arith in
    record {
      some = here.some;
      index_within = omega (arith, here.index_within);
      b3_is = here.b3_is;
      parity_is = parity_push (vc4_byte port b3 v) i parity byte here.parity_is (is ∙ sym (vc4_byte-overhead port b3 v i first)) small;
      place_is = here.place_is ∙ ap (λ t. t % length port.text) same;
    }

-- the bytes of the other columns
pub text_is : (port : Customer) (v i b3 parity place n : ℕ) (text run : List ℕ) → IsAt port v i b3 parity place → 0 < i % 261
    → i % 261 + n ≤ 261 → text ≡ port.text → run ≡ repeated_from text place n → run ≡ cells (λ k. vc4_byte port b3 v (i + k)) n
text_is port v i b3 parity place n text run here some fits text_same is =
    is ∙ ap (λ t. repeated_from t place n) text_same ∙ ap (λ p. repeated_from port.text p n) here.place_is
    ∙ sym (text_run port b3 v i n some fits)

place_more : (port : Customer) (v i b3 parity place n len : ℕ) (text : List ℕ) → IsAt port v i b3 parity place → 0 < i % 261
    → i % 261 + n ≤ 261 → text ≡ port.text → len ≡ length text → (place + n) % len ≡ text_before v (i + n) % length port.text
place_more port v i b3 parity place n len text here some fits text_same len_is =
    let before : text_before v i + n ≡ text_before v (i + n) = omega arith in
    ap (λ m. (place + n) % m) (len_is ∙ ap length text_same) ∙ ap (λ p. (p + n) % length port.text) here.place_is
    ∙ mod-add-mod (text_before v i) (length port.text) n ∙ ap (λ t. t % length port.text) before

-- further on in the VC-4
pub IsAt-text : (port : Customer) (v i b3 parity place n len sum : ℕ) (text run : List ℕ) → IsAt port v i b3 parity place → 0 < i % 261
    → i % 261 + n ≤ 261 → text ≡ port.text → len ≡ length text → run ≡ repeated_from text place n
    → sum ≡ bip8 run → i + n < 2349 → IsAt port v (i + n) b3 (bit_xor parity sum) ((place + n) % len)
IsAt-text port v i b3 parity place n len sum text run here some fits text_same len_is is sum_is inside = record {
  some = here.some;
  index_within = inside;
  b3_is = here.b3_is;
  parity_is =
      ap (λ b. bit_xor parity b) sum_is ∙ ap (λ l. bit_xor parity (bip8 l))
      (text_is port v i b3 parity place n text run here some fits text_same is) ∙ parity_more port b3 v i n parity here.parity_is;
  place_is = place_more port v i b3 parity place n len text here some fits text_same len_is;
}

-- at the start of the next VC-4
pub IsAt-next : (port : Customer) (v i b3 parity place n len sum : ℕ) (text run : List ℕ) → IsAt port v i b3 parity place → 0 < i % 261
    → i % 261 + n ≤ 261 → text ≡ port.text → len ≡ length text → run ≡ repeated_from text place n
    → sum ≡ bip8 run → i + n ≡ 2349 → IsAt port (v + 1) 0 (bit_xor parity sum) 0 ((place + n) % len)
IsAt-next port v i b3 parity place n len sum text run here some fits text_same len_is is sum_is end =
    let all =
    ap (λ b. bit_xor parity b) sum_is ∙ ap (λ l. bit_xor parity (bip8 l))
    (text_is port v i b3 parity place n text run here some fits text_same is) ∙ parity_more port b3 v i n parity here.parity_is in
    let start : text_before v (i + n) ≡ text_before (v + 1) 0 = omega arith in
    record {
      some = here.some;
      index_within = omega arith;
      b3_is =
          all ∙ ap (λ m. bip8 (vc4_front port b3 v m)) end ∙ ap (λ b. bip8 (vc4_front port b v 2349)) here.b3_is ∙ sym (b3_of-more port v);
      parity_is = sym (ap bip8 (cells-zero (vc4_byte port (bit_xor parity sum) (v + 1))) ∙ bip8-nil);
      place_is = place_more port v i b3 parity place n len text here some fits text_same len_is ∙ ap (λ t. t % length port.text) start;
    }

-- at a byte of VC-4 number 0
pub IsAt-first : (port : Customer) (i parity len place : ℕ) → 0 < length port.text → i < 2349 → parity ≡ bip8 (vc4_front port 0 0 i)
    → len ≡ length port.text → place ≡ text_before 0 i % len → IsAt port 0 i 0 parity place
unfolding b3_of
IsAt-first port i parity len place some within sum len_is is = record {
  some = some;
  index_within = within;
  b3_is = refl;
  parity_is = sum;
  place_is = is ∙ ap (λ n. text_before 0 i % n) len_is;
}
