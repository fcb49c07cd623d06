-- The kinds and the events of words, as an interpreter reads them.
use Rattle.std.proofs.Common.{◌≡◌, ◌≢◌, ℕ, ◌+◌, ◌/◌, ◌%◌, ◌<◌, ◌≤◌, true, false, eqb, leb, refl, ap, sym, ◌∙◌, arith, inl, inr}
use Rattle.std.specs.Prelude.{bit_xor}
use Rattle.std.specs.Int.{bit_at}
use Rattle.std.specs.Int.Bits.{xor_lt}
use Rattle.std.proofs.lemmas.Nat.Bits.{bit_at_xor, bit_at-lt}
use Rattle.std.proofs.lemmas.Bool.{ne_eqb, eq-eqb, le-leb, lt-leb, leb-true, cases_Bool}
use Rattle.sdh_pointer.specs.declared.reading.Reading.{Reading}
use Rattle.sdh_pointer.specs.declared.reading.Mode.TheVariants as mode
use Rattle.sdh_pointer.specs.declared.reading.Event.TheVariants as event
use Rattle.sdh_pointer.specs.declared.word.Form.TheVariants as form
use Rattle.sdh_pointer.specs.Words.{differing, i_bits, d_bits, is_normal, is_enabled, value_in, word_of}
use Rattle.sdh_pointer.specs.Reading.{event_of, normal_event, is_norm, goes_up, goes_down}

-- ---- kinds of words

-- all ones are neither normal nor enabled
ones_not_normal : is_normal 65535 ≡ false
unfolding is_normal differing
ones_not_normal = refl

ones_not_enabled : is_enabled 65535 ≡ false
unfolding is_enabled differing
ones_not_enabled = refl

-- the N bits of a normal word differ from 1001 in three bits at least
normal-not_enabled : (w : ℕ) → is_normal w ≡ true → is_enabled w ≡ false
unfolding is_normal is_enabled differing
normal-not_enabled w h =
    let few = leb-true _ _ h in
    let n = w / 4096 in
    lt-leb _ _ (omega (arith, few, bit_at-lt n 0, bit_at-lt n 1, bit_at-lt n 2, bit_at-lt n 3))

pub of_normal_word : (r : Reading) (w : ℕ) → is_normal w ≡ true → event_of r w ≡ normal_event r (value_in w)
unfolding event_of
of_normal_word r w h =
    let ones : eqb w 65535 ≡ false = ne_eqb _ _ (λ e. (let f : is_normal w ≡ false = ap is_normal e ∙ ones_not_normal in cc)) in
    rw (ones, normal-not_enabled w h, h) refl

pub of_enabled_word : (r : Reading) (w : ℕ) → is_enabled w ≡ true → value_in w ≤ 782 → event_of r w ≡ event.Ndf (value_in w)
unfolding event_of
of_enabled_word r w h small =
    let ones : eqb w 65535 ≡ false = ne_eqb _ _ (λ e. (let f : is_enabled w ≡ false = ap is_enabled e ∙ ones_not_enabled in cc)) in
    let fits : leb (value_in w) 782 ≡ true = le-leb _ _ small in
    rw (ones, h, fits) refl

pub of_ones : (r : Reading) → event_of r 65535 ≡ event.Ais
unfolding event_of
of_ones r = refl

-- ---- words that are sent

-- a word with the N bits 0110
sent_normal : (x : ℕ) → x < 1024 → is_normal (0x6800 + x) ≡ true
unfolding is_normal differing
sent_normal x h = let nibble : (0x6800 + x) / 4096 ≡ 6 = omega arith in rw nibble refl

from_normal : (r : Reading) (x : ℕ) → x < 1024 → event_of r (0x6800 + x) ≡ normal_event r x
from_normal r x h =
    let value : value_in (0x6800 + x) ≡ x = omega arith in
    of_normal_word r (0x6800 + x) (sent_normal x h) ∙ ap (normal_event r) value

pub normal_word : (v : ℕ) → v ≤ 782 → is_normal (word_of form.Normal v) ≡ true
unfolding word_of
normal_word v h = sent_normal v (omega arith)

pub normal_value : (v : ℕ) → v ≤ 782 → value_in (word_of form.Normal v) ≡ v
unfolding word_of
normal_value v h = omega arith

pub enabled_word : (v : ℕ) → v ≤ 782 → is_enabled (word_of form.Enabled v) ≡ true
unfolding word_of is_enabled differing
enabled_word v h = let nibble : (0x9800 + v) / 4096 ≡ 9 = omega arith in rw nibble refl

pub enabled_value : (v : ℕ) → v ≤ 782 → value_in (word_of form.Enabled v) ≡ v
unfolding word_of
enabled_value v h = omega arith

pub of_normal : (r : Reading) (v : ℕ) → v ≤ 782 → event_of r (word_of form.Normal v) ≡ normal_event r v
of_normal r v h = of_normal_word r _ (normal_word v h) ∙ ap (normal_event r) (normal_value v h)

pub of_enabled : (r : Reading) (v : ℕ) → v ≤ 782 → event_of r (word_of form.Enabled v) ≡ event.Ndf v
of_enabled r v h =
    let value = normal_small v h in
    of_enabled_word r _ (enabled_word v h) value ∙ ap event.Ndf (enabled_value v h)
  where
    normal_small : (v : ℕ) → v ≤ 782 → value_in (word_of form.Enabled v) ≤ 782
    normal_small v h = omega (arith, enabled_value v h)

pub of_ais : (r : Reading) (v : ℕ) → event_of r (word_of form.Ais v) ≡ event.Ais
unfolding word_of
of_ais r v = of_ones r

-- ---- bits of a value under a mask

inverted : (v m j : ℕ) → bit_at m j ≡ 1 → (bit_at (bit_xor v m) j + bit_at v j) % 2 ≡ 1
inverted v m j h = let x = bit_at_xor v m j in let small = bit_at-lt v j in omega arith

kept : (v m j : ℕ) → bit_at m j ≡ 0 → (bit_at (bit_xor v m) j + bit_at v j) % 2 ≡ 0
kept v m j h = let x = bit_at_xor v m j in let small = bit_at-lt v j in omega arith

-- with the I bits inverted
i_all : (v : ℕ) → differing i_bits (bit_xor v 682) v ≡ 5
unfolding differing
i_all v = omega (arith, inverted v 682 1 refl, inverted v 682 3 refl, inverted v 682 5 refl, inverted v 682 7 refl, inverted v 682 9 refl)

d_none : (v : ℕ) → differing d_bits (bit_xor v 682) v ≡ 0
unfolding differing
d_none v = omega (arith, kept v 682 0 refl, kept v 682 2 refl, kept v 682 4 refl, kept v 682 6 refl, kept v 682 8 refl)

-- with the D bits inverted
i_none : (v : ℕ) → differing i_bits (bit_xor v 341) v ≡ 0
unfolding differing
i_none v = omega (arith, kept v 341 1 refl, kept v 341 3 refl, kept v 341 5 refl, kept v 341 7 refl, kept v 341 9 refl)

d_all : (v : ℕ) → differing d_bits (bit_xor v 341) v ≡ 5
unfolding differing
d_all v = omega (arith, inverted v 341 0 refl, inverted v 341 2 refl, inverted v 341 4 refl, inverted v 341 6 refl, inverted v 341 8 refl)

-- the value as it is inverts no bits either
self_none : (v j : ℕ) → (bit_at v j + bit_at v j) % 2 ≡ 0
self_none v j = omega arith

i_self : (v : ℕ) → differing i_bits v v ≡ 0
unfolding differing
i_self v = omega (arith, self_none v 1, self_none v 3, self_none v 5, self_none v 7, self_none v 9)

d_self : (v : ℕ) → differing d_bits v v ≡ 0
unfolding differing
d_self v = omega (arith, self_none v 0, self_none v 2, self_none v 4, self_none v 6, self_none v 8)

up_differs : (v : ℕ) → bit_xor v 682 ≢ v
up_differs v =
    λ e. (let h : differing i_bits (bit_xor v 682) v ≡ 0 = ap (λ x. differing i_bits x v) e ∙ i_self v in absurd (omega (arith, i_all v)))

down_differs : (v : ℕ) → bit_xor v 341 ≢ v
down_differs v =
    λ e. (let h : differing d_bits (bit_xor v 341) v ≡ 0 = ap (λ x. differing d_bits x v) e ∙ d_self v in absurd (omega (arith, d_all v)))

-- ---- events of normal words

pub same_event : (r : Reading) (v : ℕ) → r.mode ≡ mode.Norm → r.value ≡ v → normal_event r v ≡ event.Same
unfolding normal_event
same_event r v norm is = let e : eqb v r.value ≡ true = eq-eqb _ _ (sym is) in rw (norm, e) refl

-- outside mode Norm each normal word is a new value
pub new_outside : (r : Reading) (v : ℕ) → is_norm r.mode ≡ false → v ≤ 782 → normal_event r v ≡ event.New v
unfolding normal_event
new_outside r v out h = let e : leb v 782 ≡ true = le-leb _ _ h in rw (out, e) refl

-- in mode Norm another value is new where `since` is below 3
pub new_early : (r : Reading) (v : ℕ) → r.mode ≡ mode.Norm → r.value ≢ v → r.since < 3 → v ≤ 782 → normal_event r v ≡ event.New v
unfolding normal_event
new_early r v norm other early h =
    let e : leb v 782 ≡ true = le-leb _ _ h in
    let ne : eqb v r.value ≡ false = ne_eqb _ _ (λ q. other (sym q)) in
    let before : leb 3 r.since ≡ false = lt-leb _ _ early in
    rw (norm, ne, before, e) refl

-- in mode Norm another value is new where it justifies nothing
pub new_neither : (r : Reading) (v : ℕ) → r.mode ≡ mode.Norm → r.value ≢ v → goes_up v r.value ≡ false → goes_down v r.value ≡ false
    → v ≤ 782 → normal_event r v ≡ event.New v
unfolding normal_event
new_neither r v norm other up down h =
    let e : leb v 782 ≡ true = le-leb _ _ h in
    let ne : eqb v r.value ≡ false = ne_eqb _ _ (λ q. other (sym q)) in
    elim (cases_Bool (leb 3 r.since)) [ inl t ↦ rw (norm, ne, t, up, down, e) refl | inr f ↦ rw (norm, ne, f, e) refl ]

pub up_event : (r : Reading) (v : ℕ) → r.mode ≡ mode.Norm → r.value ≢ v → 3 ≤ r.since → goes_up v r.value ≡ true
    → normal_event r v ≡ event.Up
unfolding normal_event
up_event r v norm other full up =
    let ne : eqb v r.value ≡ false = ne_eqb _ _ (λ q. other (sym q)) in
    let late : leb 3 r.since ≡ true = le-leb _ _ full in
    rw (norm, ne, late, up) refl

pub down_event : (r : Reading) (v : ℕ) → r.mode ≡ mode.Norm → r.value ≢ v → 3 ≤ r.since → goes_up v r.value ≡ false
    → goes_down v r.value ≡ true → normal_event r v ≡ event.Down
unfolding normal_event
down_event r v norm other full up down =
    let ne : eqb v r.value ≡ false = ne_eqb _ _ (λ q. other (sym q)) in
    let late : leb 3 r.since ≡ true = le-leb _ _ full in
    rw (norm, ne, late, up, down) refl

-- the Up word of the kept value, and its Down word, read with `since` 3
pub of_up : (r : Reading) → r.mode ≡ mode.Norm → 3 ≤ r.since → r.value ≤ 782 → event_of r (word_of form.Up r.value) ≡ event.Up
unfolding word_of goes_up
of_up r norm full h =
    let up : goes_up (bit_xor r.value 682) r.value ≡ true = rw (i_all r.value, d_none r.value) refl in
    from_normal r (bit_xor r.value 682) (xor_lt 10 r.value 682 (omega arith) (omega arith))
    ∙ up_event r (bit_xor r.value 682) norm (λ e. up_differs r.value (sym e)) full up

pub of_down : (r : Reading) → r.mode ≡ mode.Norm → 3 ≤ r.since → r.value ≤ 782 → event_of r (word_of form.Down r.value) ≡ event.Down
unfolding word_of goes_up goes_down
of_down r norm full h =
    let up : goes_up (bit_xor r.value 341) r.value ≡ false = rw (i_none r.value) refl in
    let down : goes_down (bit_xor r.value 341) r.value ≡ true = rw (d_all r.value, i_none r.value) refl in
    from_normal r (bit_xor r.value 341) (xor_lt 10 r.value 341 (omega arith) (omega arith))
    ∙ down_event r (bit_xor r.value 341) norm (λ e. down_differs r.value (sym e)) full up down
