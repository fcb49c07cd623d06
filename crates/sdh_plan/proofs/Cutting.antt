-- A text cut at its first space.
use Rattle.std.proofs.Common.{◌≡◌, ℕ, zero, suc, ◌+◌, ◌-◌, ◌<◌, ◌≤◌, List, [], ◌∷◌, ◌++◌, map, length, take, drop, Bool, true, false, ◌==◌}
use Rattle.std.proofs.Common.{◌||◌, not, nat_lt, cond, Option, Some, None, position, ap, sym, subst, ◌∙◌, arith, refl, append_assoc}
use Rattle.std.proofs.Common.{length-append}
use Rattle.std.specs.Option.{option_map_or}
use Rattle.std.specs.List.{position_or_len, slice_split, onto_first, list_any}
use Rattle.std.proofs.lemmas.List.{take_rest, map-append}
use Rattle.std.proofs.lemmas.List.Splits.{slice_split_first}
use Rattle.std.proofs.lemmas.Bool.{ltb-true}
use Rattle.sdh_plan.specs.Words.{words, is_empty}

abbrev is_space : ℕ → Bool
is_space byte = byte == 32

whole : (x : ℕ) (xs : List ℕ) (b : Bool) → (nat_lt (position_or_len is_space xs) (length xs) ≡ false → slice_split is_space xs ≡ xs ∷ [])
    → nat_lt (cond (not b) (1 + position_or_len is_space xs) 0) (suc (length xs)) ≡ false
    → cond b ([] ∷ slice_split is_space xs) (onto_first x (slice_split is_space xs)) ≡ (x ∷ xs) ∷ []
whole x xs true more h = absurd (grind arith)
whole x xs false more h = ap (λ ws. onto_first x ws) (more (grind arith))

pub uncut : (xs : List ℕ) → nat_lt (position_or_len is_space xs) (length xs) ≡ false → slice_split is_space xs ≡ xs ∷ []
uncut [] h = refl
uncut (x ∷ xs) h = whole x xs (x == 32) (uncut xs) h

found : (b : Bool) (n i : ℕ) → cond b (Some n) None ≡ Some i → (b ≡ true) × (n ≡ i)
found true n i e = (refl, cc)
found false n i e = cc

missing : (b : Bool) (n : ℕ) → cond b (Some n) None ≡ None → b ≡ false
missing true n e = cc
missing false n e = refl

pub cut_at : (text : List ℕ) (i : ℕ) → position (λ byte. byte == 32) text ≡ Some i
    → words text ≡ take i text ∷ words (take (length text - (i + 1)) (drop (i + 1) text))
cut_at text i e =
    let parts : (nat_lt (position_or_len is_space text) (length text) ≡ true) × (position_or_len is_space text ≡ i) = found _ _ _ e in
    let within : position_or_len is_space text < length text = ltb-true _ _ parts.0 in
    slice_split_first is_space text 0 within
    ∙ ap (λ k. take k text ∷ slice_split is_space (drop (k + 1) text)) parts.1
    ∙ ap (λ l. take i text ∷ slice_split is_space l) (sym (take_rest text (i + 1)))

pub cut_none : (text : List ℕ) → position (λ byte. byte == 32) text ≡ None → words text ≡ text ∷ []
cut_none text e = uncut text (missing _ _ e)

-- the words that are kept and those of what is left are those of the whole text
module _ {X : Type 0} (f : X → List ℕ) where
  -- the words of what is left
  abbrev pub left : Option X → List (List ℕ)
  left rest = option_map_or (λ text. words (f text)) rest []

  -- of the words of the whole text at most k are kept so far, and none of those that were cut off is empty
  pub record Said (k : ℕ) (all : List (List ℕ)) (xs : List X) (rest : Option X) : Type 0 where
    pub firsts : take k all ≡ map f xs ++ take (k - length xs) (left rest)
    pub empties : list_any is_empty all ≡ list_any is_empty (left rest)

  one_less : (all : List (List ℕ)) (w : X) (now rest : Option X) → left now ≡ f w ∷ left rest → is_empty (f w) ≡ false
      → list_any is_empty all ≡ list_any is_empty (left now) → list_any is_empty all ≡ list_any is_empty (left rest)
  one_less all w now rest is full e = e ∙ ap (λ l. list_any is_empty l) is ∙ ap (λ b. b || list_any is_empty (left rest)) full

  -- the next word is kept
  said_more : (k : ℕ) (all : List (List ℕ)) (xs : List X) (w : X) (now rest : Option X) → length xs < k → left now ≡ f w ∷ left rest
      → is_empty (f w) ≡ false
      → Said k all xs now → Said k all (xs ++ w ∷ []) rest
  said_more k all xs w now rest room is full before =
      let less : k - length xs ≡ suc (k - length (xs ++ w ∷ [])) = omega (arith, length-append xs (w ∷ [])) in
      record {
        firsts = before.firsts
            ∙ ap (λ l. map f xs ++ take (k - length xs) l) is
            ∙ ap (λ n. map f xs ++ take n (f w ∷ left rest)) less
            ∙ sym (append_assoc (map f xs) (f w ∷ []) (take (k - length (xs ++ w ∷ [])) (left rest)))
            ∙ ap (λ l. l ++ take (k - length (xs ++ w ∷ [])) (left rest)) (sym (map-append f xs (w ∷ [])));
        empties = one_less all w now rest is full before.empties;
      }

  pub said_push : (k : ℕ) (all : List (List ℕ)) (xs ys : List X) (w : X) (now rest : Option X) → Said k all xs now → ys ≡ xs ++ w ∷ []
      → length xs < k → left now ≡ f w ∷ left rest → is_empty (f w) ≡ false
      → Said k all ys rest
  said_push k all xs ys w now rest before e room is full =
      subst (λ (zs : List X). Said k all zs rest) (sym e) (said_more k all xs w now rest room is full before)

  -- enough words are kept
  pub said_full : (k : ℕ) (all : List (List ℕ)) (xs : List X) (w : X) (now rest : Option X) → Said k all xs now → k ≤ length xs
      → left now ≡ f w ∷ left rest → is_empty (f w) ≡ false
      → Said k all xs rest
  said_full k all xs w now rest before room is full =
      let none : k - length xs ≡ 0 = omega arith in
      record {
        firsts = before.firsts ∙ ap (λ n. map f xs ++ take n (left now)) none ∙ sym (ap (λ n. map f xs ++ take n (left rest)) none);
        empties = one_less all w now rest is full before.empties;
      }

  nothing : (n : ℕ) → take {A = List ℕ} n [] ≡ []
  nothing zero = refl
  nothing (suc n) = refl
