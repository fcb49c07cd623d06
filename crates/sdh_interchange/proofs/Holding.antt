-- Cells, each in its place; some of them are written.
use Rattle.std.proofs.Common.{◌≡◌, ℕ, true, ◌+◌, ◌-◌, ◌<◌, ◌≤◌, ◌⊎◌, inl, inr, List, [], length, get_or, set, refl, ap, sym, ◌∙◌, arith}
use Rattle.std.proofs.lemmas.Bool.{cases_eq}
use Rattle.std.proofs.lemmas.List.{length-set, get_or-set_same, get_or-set_other}
use Rattle.sdh_payload.specs.Room.{written}
use Rattle.sdh_payload.proofs.Splicing.{written_whole}
use Rattle.sdh_basics.proofs.CellsLaws.{length-cells}
use Rattle.sdh_frame.specs.Sizes.{Frame}
use Rattle.sdh_ringmap.specs.Rates.{n_of}
use Rattle.sdh_frame.specs.Fields.{index_of, payload_place}
use Rattle.sdh_frame.specs.Aus.{payload_of}
use Rattle.sdh_frame.proofs.Moves.{taken}
use Rattle.sdh_interchange.specs.Tables.{cell}
use Rattle.sdh_interchange.specs.Taking.{HaveRoom, KeepsOthers, Held, IsOf, has}

-- ---- one cell is written

module _ (out : List (List ℕ)) (a : ℕ) (room put : List ℕ) (there : a < length out) (is : room ≡ get_or out a [])
    (len : length put ≡ length room) where
  new_here : get_or (set out a (written room put)) a [] ≡ put
  new_here = get_or-set_same out a (written room put) [] there ∙ written_whole room put len

  pub written_before : (at : ℕ) → ((i : ℕ) → i < at → get_or put i 0 ≡ get_or room i 0) → (i : ℕ) → i < at
      → cell (set out a (written room put)) a i ≡ cell out a i
  written_before at same i h = ap (λ l. get_or l i 0) new_here ∙ same i h ∙ ap (λ l. get_or l i 0) is

  pub written_inside : (at : ℕ) (lanes : List ℕ) → ((k : ℕ) → k < 16 → get_or put (at + k) 0 ≡ get_or lanes k 0) → (k : ℕ) → k < 16
      → cell (set out a (written room put)) a (at + k) ≡ get_or lanes k 0
  written_inside at lanes inside k h = ap (λ l. get_or l (at + k) 0) new_here ∙ inside k h

  pub written_keeps : KeepsOthers a 1 out (set out a (written room put))
  written_keeps = record {
    many = length-set out a (written room put);
    lengths = λ b. elim (cases_eq b a) [
      | inl e ↦ (ap (λ m. length (get_or (set out a (written room put)) m [])) e ∙ ap length new_here ∙ len ∙ ap length is
          ∙ ap (λ m. length (get_or out m [])) (sym e))
      | inr d ↦ ap length (get_or-set_other out a b (written room put) [] d)
    ];
    others =
        λ b away. get_or-set_other out a b (written room put) [] (λ e. elim away [ inl below ↦ omega arith | inr above ↦ omega arith ]);
  }

-- ---- some of them

pub keeps_none : (from count : ℕ) (old : List (List ℕ)) → KeepsOthers from count old old
keeps_none from count old = record { many = refl; lengths = λ a. refl; others = λ a away. refl }

pub keeps_more : (from count at few : ℕ) (old now new : List (List ℕ)) → from ≤ at → at + few ≤ from + count
    → KeepsOthers from count old now → KeepsOthers at few now new → KeepsOthers from count old new
keeps_more from count at few old now new low high first then = record {
  many = then.many ∙ first.many;
  lengths = λ a. then.lengths a ∙ first.lengths a;
  others = λ a away. then.others a (elim away [ inl below ↦ inl (omega arith) | inr above ↦ inr (omega arith) ]) ∙ first.others a away;
}

pub room_kept : (from count at few : ℕ) (old new : List (List ℕ)) → HaveRoom from count old → KeepsOthers at few old new
    → HaveRoom from count new
room_kept from count at few old new room keeps = record {
  many = omega (arith, room.many, keeps.many);
  each = λ a h. keeps.lengths (from + a) ∙ room.each a h;
}

-- a byte of a cell that isn't written
pub cell_kept : (at few : ℕ) (old new : List (List ℕ)) (a j : ℕ) → (a < at) ⊎ (at + few ≤ a) → KeepsOthers at few old new
    → cell new a j ≡ cell old a j
cell_kept at few old new a j away keeps = ap (λ l. get_or l j 0) (keeps.others a away)

-- a payload that is held has 2349 bytes
pub given_long : (frame : Frame) (held : Held) (au : ℕ) → IsOf frame held → 1 ≤ au → au ≤ n_of frame.rate → has held au ≡ true
    → length (get_or held.payloads (au - 1) []) ≡ 2349
unfolding payload_of
given_long frame held au is low high here = ap length (is.each au low (omega (arith, is.rate)) here) ∙ length-cells _ 2349

-- the payload of one AU-4 among those of half of them
pub half_taken : (n h base au : ℕ) (bytes : List ℕ) (old new : List (List ℕ)) → base < au → au ≤ base + h → HaveRoom base h old
    → KeepsOthers base h old new
    → ((a j : ℕ) → a < h → j < 2349 → cell new (base + a) j ≡ get_or bytes (index_of n (payload_place n (base + a + 1) j)) 0)
    → get_or new (au - 1) [] ≡ payload_of n au bytes
half_taken n h base au bytes old new low high room keeps each =
    let a : ℕ = au - 1 - base in
    let e : base + a ≡ au - 1 = omega arith in
    let number : base + a + 1 ≡ au = omega arith in
    let small : a < h = omega arith in
    taken n au bytes (get_or new (au - 1) []) (ap (λ m. length (get_or new m [])) (sym e) ∙ keeps.lengths (base + a) ∙ room.each a small)
    (λ j lt.
    ap (λ m. cell new m j) (sym e) ∙ each a j small lt ∙ ap (λ m. get_or bytes (index_of n (payload_place n m j)) 0) number)
