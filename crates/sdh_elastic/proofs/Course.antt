-- What a store keeps is enough of its history: a turn by what is kept is the next turn of the history.
use Rattle.std.proofs.Common.{◌≡◌, ℕ, ◌+◌, ◌-◌, ◌≤◌, Bool, true, false, List, [], ◌∷◌, ◌++◌, length, take, drop, refl, ap, sym, ◌∙◌, inl}
use Rattle.std.proofs.Common.{inr, arith}
use Rattle.std.specs.Prelude.{◌&&◌, sum}
use Rattle.std.proofs.lemmas.Bool.{cases_Bool, and_parts, and_from, and_right}
use Rattle.std.proofs.lemmas.List.{length-append, length-drop, drop-append-le, drop-drop}
use Rattle.std.proofs.lemmas.List.Sums.{sum_by-cons}
use Rattle.sdh_pointer.specs.declared.reading.Action.{Action}
use Rattle.sdh_elastic.specs.declared.stage.Stage.{Stage}
use Rattle.sdh_elastic.specs.declared.lengths.Lengths.{Lengths}
use Rattle.sdh_elastic.specs.Turns.{given, moves, next_action, is_held, value_after, word_for}
use Rattle.sdh_elastic.specs.Lengths.{is_steady, is_last_steady, last_lengths, with_length, keeps_steady}
use Rattle.sdh_elastic.specs.History.{actions, fill, lasts, lengths, bytes_taken, count_given, bytes_held, last_action, last_given, value_of}
use Rattle.sdh_elastic.specs.History.{last_word}
use Rattle.sdh_elastic.specs.Store.{Store, empty, stage_of, stage_action, stage_after, action_at, fill_after, given_at, after_turn, store_of}
use Rattle.sdh_elastic.specs.Store.{StoreCameBy, GoesOn}
use Rattle.sdh_elastic.proofs.Near.{held_bounds}

-- ---- stages

pub same_action : (acts : List Action) (f : ℕ) → stage_action (stage_of acts) f ≡ next_action acts f
same_action [] f = refl
same_action (a ∷ []) f = refl
same_action (a ∷ b ∷ []) f =
    elim (cases_Bool (moves a)) [
      | inl p ↦ rw p refl
      | inr p ↦ elim (cases_Bool (moves b)) [ inl q ↦ rw (p, q) refl | inr q ↦ rw (p, q) refl ]
    ]
same_action (a ∷ b ∷ c ∷ earlier) f =
    elim (cases_Bool (moves a)) [
      | inl p ↦ rw p refl
      | inr p ↦ elim (cases_Bool (moves b)) [
        | inl q ↦ rw (p, q) refl
        | inr q ↦ elim (cases_Bool (moves c)) [ inl r ↦ rw (p, q, r) refl | inr r ↦ rw (p, q, r) refl ]
      ]
    ]

pub next_stage : (acts : List Action) (f : ℕ) → stage_of (next_action acts f ∷ acts) ≡ stage_after (stage_of acts) (next_action acts f)
next_stage [] f = refl
next_stage (a ∷ []) f = refl
next_stage (a ∷ b ∷ []) f =
    elim (cases_Bool (moves a)) [
      | inl p ↦ rw p refl
      | inr p ↦ elim (cases_Bool (moves b)) [ inl q ↦ rw (p, q) refl | inr q ↦ rw (p, q) refl ]
    ]
next_stage (a ∷ b ∷ c ∷ earlier) f =
    elim (cases_Bool (moves a)) [
      | inl p ↦ rw p refl
      | inr p ↦ elim (cases_Bool (moves b)) [
        | inl q ↦ rw (p, q) refl
        | inr q ↦ elim (cases_Bool (moves c)) [ inl r ↦ rw (p, q, r) refl | inr r ↦ rw (p, q, r) refl ]
      ]
    ]

-- ---- lengths

pub next_lengths : (n : ℕ) (ls : List ℕ) → last_lengths (n ∷ ls) ≡ with_length n (last_lengths ls)
next_lengths n [] = refl
next_lengths n (a ∷ []) = refl
next_lengths n (a ∷ b ∷ []) = refl
next_lengths n (a ∷ b ∷ c ∷ earlier) = refl

pub same_steady : (n : ℕ) (ls : List ℕ) → keeps_steady n (last_lengths ls) ≡ is_last_steady (n ∷ ls)
same_steady n [] = refl
same_steady n (a ∷ []) = refl
same_steady n (a ∷ b ∷ []) = refl
same_steady n (a ∷ b ∷ c ∷ earlier) = refl

-- ---- bytes

pub swapped : (a b : ℕ) → a + b ≡ b + a
swapped a b = omega arith

pub length-taken_in : (past : List (List ℕ)) → length (bytes_taken past) ≡ sum (lengths past)
length-taken_in [] = refl
length-taken_in (x ∷ past) =
    length-append (bytes_taken past) x ∙ ap (λ (n : ℕ). n + length x) (length-taken_in past) ∙ swapped (sum (lengths past)) (length x)
    ∙ sym (sum_by-cons (λ (n : ℕ). n) (length x) (lengths past))

-- no more was given than was taken in
pub enough : (past : List (List ℕ)) → lasts (lengths past) ≡ true → count_given past ≤ length (bytes_taken past)
unfolding actions
enough [] h = omega arith
enough (x ∷ past) h =
    let bound = held_bounds (fill (lengths (x ∷ past))) (and_parts (lasts (lengths past)) (is_held (fill (lengths (x ∷ past)))) h).1 in
    omega (arith, bound.0, length-taken_in (x ∷ past))

pub length-held : (past : List (List ℕ)) → length (bytes_held past) ≡ fill (lengths past)
length-held past = length-drop (count_given past) (bytes_taken past) ∙ ap (λ n. n - count_given past) (length-taken_in past)

-- what was given before a turn, and by it
pub count_after : (x : List ℕ) (past : List (List ℕ)) → count_given (x ∷ past) ≡ given (last_action (x ∷ past)) + count_given past
unfolding actions
count_after x past = sum_by-cons given (last_action (x ∷ past)) (actions (lengths past))

fill_sum : (S G n g : ℕ) → G ≤ S → n + S - (g + G) ≡ S - G + n - g
fill_sum S G n g h = omega arith

-- the fill after a turn that takes in n bytes
pub fill_step : (x : List ℕ) (past : List (List ℕ)) → lasts (lengths past) ≡ true
    → fill (lengths (x ∷ past)) ≡ fill (lengths past) + length x - given (last_action (x ∷ past))
fill_step x past h =
    ap (λ (n : ℕ). n - count_given (x ∷ past)) (sum_by-cons (λ (n : ℕ). n) (length x) (lengths past))
    ∙ ap (λ (n : ℕ). length x + sum (lengths past) - n) (count_after x past)
    ∙ fill_sum (sum (lengths past)) (count_given past) (length x) (given (last_action (x ∷ past)))
    (omega (arith, enough past h, length-taken_in past))

-- ---- a turn

-- what the next turn does
pub action_of_turn : (first : ℕ) (x : List ℕ) (past : List (List ℕ)) → action_at (store_of first past) ≡ last_action (x ∷ past)
unfolding store_of
action_of_turn first x past =
    ap (stage_action (stage_of (actions (lengths past)))) (length-held past) ∙ same_action (actions (lengths past)) (fill (lengths past))

-- the bytes held and one more chunk
pub held_and : (x : List ℕ) (past : List (List ℕ)) → lasts (lengths past) ≡ true
    → bytes_held past ++ x ≡ drop (count_given past) (bytes_taken past ++ x)
held_and x past h = sym (drop-append-le (count_given past) (bytes_taken past) x (enough past h))

same_fields : (h h' : List ℕ) (st st' : Stage) (v v' w w' : ℕ) (ls ls' : Lengths) (b b' : Bool) → h ≡ h' → st ≡ st' → v ≡ v' → w ≡ w'
    → ls ≡ ls' → b ≡ b'
    → ◌≡◌ {A = Store} (record { held = h; stage = st; value = v; word = w; lengths = ls; steady = b })
    (record { held = h'; stage = st'; value = v'; word = w'; lengths = ls'; steady = b' })
same_fields h h' st st' v v' w w' ls ls' b b' e1 e2 e3 e4 e5 e6 = cc

pub store_after : (first : ℕ) (x : List ℕ) (past : List (List ℕ)) → lasts (lengths past) ≡ true
    → after_turn (store_of first past) x ≡ store_of first (x ∷ past)
unfolding store_of after_turn actions
store_after first x past h =
    let a : Action = action_at (store_of first past) in
    let is : a ≡ last_action (x ∷ past) = action_of_turn first x past in
    let bytes : drop (given a) (bytes_held past ++ x) ≡ bytes_held (x ∷ past) =
    ap (drop (given a)) (held_and x past h) ∙ drop-drop (given a) (count_given past) (bytes_taken past ++ x)
    ∙ ap (λ (n : ℕ). drop n (bytes_taken past ++ x)) (swapped (count_given past) (given a)
    ∙ ap (λ (b : Action). given b + count_given past) is ∙ sym (count_after x past)) in
    same_fields _ _ _ _ _ _ _ _ _ _ _ _ bytes
    (ap (stage_after (stage_of (actions (lengths past)))) is ∙ sym (next_stage (actions (lengths past)) (fill (lengths past))))
    (ap (λ (b : Action). value_after b (value_of first (actions (lengths past)))) is)
    (ap (λ (b : Action). word_for b (value_of first (actions (lengths past)))) is)
    (sym (next_lengths (length x) (lengths past)))
    (ap (λ (b : Bool). is_steady (lengths past) && b) (same_steady (length x) (lengths past)))

-- the fill after the next turn
pub same_fill : (first : ℕ) (x : List ℕ) (past : List (List ℕ)) → lasts (lengths past) ≡ true
    → fill_after (store_of first past) (length x) ≡ fill (lengths (x ∷ past))
unfolding store_of
same_fill first x past h =
    ap (λ (n : ℕ). n + length x - given (action_at (store_of first past))) (length-held past)
    ∙ ap (λ (b : Action). fill (lengths past) + length x - given b) (action_of_turn first x past) ∙ sym (fill_step x past h)

-- the bytes that the next turn gives
pub same_given : (first : ℕ) (x : List ℕ) (past : List (List ℕ)) → lasts (lengths past) ≡ true
    → given_at (store_of first past) x ≡ last_given (x ∷ past)
unfolding store_of
same_given first x past h =
    ap (λ (b : Action). take (given b) (bytes_held past ++ x)) (action_of_turn first x past)
    ∙ ap (take (given (last_action (x ∷ past)))) (held_and x past h)

goes_on_from : (first : ℕ) (x : List ℕ) (past : List (List ℕ)) → lasts (lengths past) ≡ true
    → is_held (fill_after (store_of first past) (length x)) ≡ true
    → GoesOn first past x (given_at (store_of first past) x) (action_at (store_of first past)) (after_turn (store_of first past) x)
goes_on_from first x past h fits = record {
  store = record {
    lasts = and_from (lasts (lengths past)) (is_held (fill (lengths (x ∷ past)))) h (sym (ap is_held (same_fill first x past h)) ∙ fits);
    kept = store_after first x past h;
  };
  bytes = same_given first x past h;
  action = action_of_turn first x past;
}

pub goes_on : (s : Store) (x : List ℕ) (first : ℕ) (past : List (List ℕ)) → is_held (fill_after s (length x)) ≡ true → StoreCameBy first past s
    → GoesOn first past x (given_at s x) (action_at s) (after_turn s x)
goes_on s x first past fits came = rw came.kept (goes_on_from first x past came.lasts (rw came.kept at fits))

-- a steady history keeps its store steady
pub steady_now : (s : Store) (n first : ℕ) (past : List (List ℕ)) → StoreCameBy first past s → is_steady (n ∷ lengths past) ≡ true
    → (s.steady ≡ true) × (keeps_steady n s.lengths ≡ true)
unfolding store_of
steady_now s n first past came h =
    let parts = and_parts (is_steady (lengths past)) (is_last_steady (n ∷ lengths past)) h in (
      ap (λ (t : Store). t.steady) came.kept ∙ parts.0,
      ap (λ (t : Store). keeps_steady n t.lengths) came.kept ∙ same_steady n (lengths past)
          ∙ parts.1,
    )

-- a new store has taken nothing in
pub new_store : (first : ℕ) → StoreCameBy first [] (empty first)
unfolding store_of actions
new_store first = record { lasts = refl; kept = refl }

-- ---- what a store shows of its history

pub word_of_history : (s : Store) (first : ℕ) (past : List (List ℕ)) → StoreCameBy first past s
    → s.word ≡ last_word first (actions (lengths past))
unfolding store_of
word_of_history s first past came = ap (λ (t : Store). t.word) came.kept

pub fill_of_history : (s : Store) (first : ℕ) (past : List (List ℕ)) → StoreCameBy first past s → length s.held ≡ fill (lengths past)
unfolding store_of
fill_of_history s first past came = ap (λ (t : Store). length t.held) came.kept ∙ length-held past

pub steady_of_history : (s : Store) (first : ℕ) (past : List (List ℕ)) → StoreCameBy first past s → s.steady ≡ is_steady (lengths past)
unfolding store_of
steady_of_history s first past came = ap (λ (t : Store). t.steady) came.kept

-- a drift of a store is one of its history
pub drift_of_history : (s : Store) (x : List ℕ) (first : ℕ) (past : List (List ℕ)) → StoreCameBy first past s
    → is_held (fill_after s (length x)) ≡ false → lasts (lengths (x ∷ past)) ≡ false
drift_of_history s x first past came h =
    let same = same_fill first x past came.lasts in
    let here : is_held (fill_after (store_of first past) (length x)) ≡ false = rw came.kept at h in
    and_right (lasts (lengths past)) (is_held (fill (lengths (x ∷ past)))) (sym (ap is_held same) ∙ here)
