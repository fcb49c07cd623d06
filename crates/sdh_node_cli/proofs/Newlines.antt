-- Bytes cut at their first newline byte.
use Rattle.std.proofs.Common.{◌≡◌, ◌≢◌, ℕ, suc, ◌+◌, ◌<◌, ◌≤◌, ◌⊎◌, inl, inr, List, [], ◌∷◌, ◌++◌, length, take, drop, get_or, ◌==◌, refl, ap, sym, subst, ◌∙◌, arith, ◌-◌}
use Rattle.std.proofs.Common.{Bool, true, false, cond, not, nat_lt, position, append_assoc, take-append-drop, take_all, length-drop}
use Rattle.std.specs.Prelude.{Option, Some, None, slice_get}
use Rattle.std.specs.Io.KnownBytes.{Consumes}
use Rattle.std.specs.List.{position_or_len}
use Rattle.std.proofs.lemmas.Bool.{eqb-true, eqb-false}
use Rattle.std.proofs.lemmas.List.{length-append, length-take, get_or-take, take-append-le}
use Rattle.std.proofs.lemmas.List.Elements.{All-nil, All-cons, All-from_get_or}
use Rattle.std.proofs.lemmas.List.Quantifiers.{position-Some}
use Rattle.std.proofs.Math.Seq.{drop-cons}
use Rattle.sdh_ringmap.specs.declared.Pos.{Pos}
use Rattle.sdh_circuits.specs.Provisioned.{Provisioned}
use Rattle.sdh_node_cli.specs.Lines.{IsOneLine, whole_line}
use Rattle.sdh_node_cli.specs.declared.line.Got.TheVariants as got
use Rattle.sdh_node_cli.specs.Streams.{MayRead, IsBehind}
use Rattle.sdh_node_cli.specs.Turns.{TakesMore}

abbrev is_newline : ℕ → Bool
is_newline byte = byte == 10

clash : (b : Bool) → b ≡ false → b ≡ true → ⊥
clash true e f = cc
clash false e f = cc

-- the bytes have no newline byte
one_more : (x : ℕ) (xs : List ℕ) (b : Bool) → (x == 10) ≡ b → (nat_lt (position_or_len is_newline xs) (length xs) ≡ false → IsOneLine xs)
    → nat_lt (cond (not b) (1 + position_or_len is_newline xs) 0) (suc (length xs)) ≡ false → IsOneLine (x ∷ xs)
one_more x xs true e more h = absurd (grind arith)
one_more x xs false e more h = All-cons (λ byte. byte ≢ 10) x xs (eqb-false x 10 e) (more (grind arith))

uncut : (xs : List ℕ) → nat_lt (position_or_len is_newline xs) (length xs) ≡ false → IsOneLine xs
uncut [] h = All-nil (λ byte. byte ≢ 10)
uncut (x ∷ xs) h = one_more x xs (x == 10) refl (uncut xs) h

missing : (b : Bool) (n : ℕ) → cond b (Some n) None ≡ None → b ≡ false
missing true n e = cc
missing false n e = refl

pub one_line : (xs : List ℕ) → position (λ byte. byte == 10) xs ≡ None → IsOneLine xs
one_line xs e = uncut xs (missing _ _ e)

-- the bytes have a newline byte
pub front_line : (xs : List ℕ) (i : ℕ) → position (λ byte. byte == 10) xs ≡ Some i → IsOneLine (take i xs)
front_line xs i e =
    let h = position-Some is_newline xs i 0 e in
    All-from_get_or (λ byte. byte ≢ 10) (take i xs) 0 (λ k small is.
    let below : k < i = omega (arith, small, length-take i xs) in
    clash (get_or xs k 0 == 10) (h.2 k below) (ap (λ x. x == 10) (sym (get_or-take i xs k 0 below) ∙ is)))

pub front_cut : (xs : List ℕ) (i : ℕ) → position (λ byte. byte == 10) xs ≡ Some i → xs ≡ whole_line (take i xs) ++ drop (i + 1) xs
front_cut xs i e =
    let h = position-Some is_newline xs i 0 e in
    let next : suc i ≡ i + 1 = omega arith in
    let behind : drop i xs ≡ 10 ∷ drop (i + 1) xs =
    drop-cons xs i 0 h.0 ∙ ap (λ n. get_or xs i 0 ∷ drop n xs) next ∙ ap (λ x. x ∷ drop (i + 1) xs) (eqb-true (get_or xs i 0) 10 h.1) in
    sym (take-append-drop i xs) ∙ ap (λ l. take i xs ++ l) behind ∙ sym (append_assoc (take i xs) (10 ∷ []) (drop (i + 1) xs))

-- ---- what was read after a line that came in parts

-- At most `count` bytes were asked for once the first part of a line had come, so few bytes come after the line.
pub few_behind : (before part more : List ℕ) (count : ℕ) → length (whole_line part ++ more) ≤ count
    → ((circuits : List Provisioned) (at : Pos) → MayRead circuits at before (count + length before)) ⊎ (count ≡ 1)
    → (circuits : List Provisioned) (at : Pos) → IsBehind circuits at (before ++ part) more
few_behind before part more count all (inl may) circuits at =
    let m = may circuits at in
    let size = length-append (whole_line (before ++ part)) more in
    let ended = length-append (before ++ part) (10 ∷ []) in
    let both = length-append before part in
    let part_ended = length-append part (10 ∷ []) in
    let part_size = length-append (whole_line part) more in
    inr (record {
      front = m.front;
      rest = m.rest ++ part;
      line_is = ap (λ l. l ++ part) m.line_is ∙ append_assoc m.front m.rest part;
      begins = m.begins;
      each = λ rest r e. (let has = m.each rest r e in omega (arith, has, all, size, ended, both, part_ended, part_size));
    })
few_behind before part more count all (inr one) circuits at =
    inl (none more (omega (arith, one, all, length-append (whole_line part) more, length-append part (10 ∷ []))))
  where
    none : (l : List ℕ) → length l ≤ 0 → l ≡ []
    none [] low = refl
    none (x ∷ l) low = absurd (omega (arith, low))

-- ---- what was read into a buffer that has more room

pub of_read : (count : ℕ) (buf more : List ℕ) {bytes : List ℕ} → count ≤ length buf → take count (buf ++ more) ≡ bytes → take count buf ≡ bytes
of_read count buf more within is = sym (take-append-le count buf more within) ∙ is

pub at_most : (n m : ℕ) (room : List ℕ) → m ≡ length (take n room) → m ≤ n
at_most n m room is = omega (arith, length-take n room)

-- ---- the rest of a line

first_behind : (xs : List ℕ) (n : ℕ) (first : Option ℕ) → first ≡ slice_get (take (length xs - n) (drop n xs)) 0
    → first ≡ slice_get (drop n xs) 0
first_behind xs n first e = e ∙ ap (λ l. slice_get l 0) (take_all _ _ (omega (arith, length-drop {A = ℕ})))

-- one read gave `count` bytes of a buffer, and there is a newline byte among them
pub rest_taken : (count at asked : ℕ) (buf room before new : List ℕ) (first : Option ℕ) (left now : Option (List ℕ))
    → take count (buf ++ room) ≡ whole_line (take at (take count (buf ++ room))) ++ drop (at + 1) (take count (buf ++ room))
    → IsOneLine (take at (take count (buf ++ room))) → new ≡ before ++ take at (take count (buf ++ room)) → Consumes left now (take count buf)
    → count ≤ length buf → count ≤ asked
    → ((circuits : List Provisioned) (at : Pos) → MayRead circuits at before (asked + length before)) ⊎ (asked ≡ 1)
    → first ≡ slice_get (take (length (take count (buf ++ room)) - (at + 1)) (drop (at + 1) (take count (buf ++ room)))) 0
    → TakesMore left now before new (got.Rest first)
rest_taken count at asked buf room before new first left now cut one is read within few lacking first_is =
    let xs = take count (buf ++ room) in
    let part = take at xs in
    let more = drop (at + 1) xs in
    let whole : take count buf ≡ whole_line part ++ more = of_read count buf room within cut in
    let all : length (whole_line part ++ more) ≤ asked = omega (arith, few, length-take count buf, ap length whole) in (
      part,
      more,
      one,
      subst (Consumes left now) whole read,
      is,
      λ circuits place. subst (λ l. IsBehind circuits place l more) (sym is) (few_behind before part more asked all lacking circuits place),
      first_behind xs (at + 1) first first_is,
    )
