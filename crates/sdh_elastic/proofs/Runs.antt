-- The laws of runs.
use Rattle.std.proofs.Common.{◌≡◌, ℕ, suc, ◌+◌, ◌≤◌, true, List, [], ◌∷◌, ◌++◌, length, take, drop, refl, ap, sym, ◌∙◌, subst, arith}
use Rattle.std.specs.List.{All}
use Rattle.std.proofs.lemmas.List.{take-append-drop, drop-drop, append_assoc}
use Rattle.std.proofs.lemmas.Bool.{and_parts, and_from}
use Rattle.sdh_pointer.specs.declared.reading.Action.{Action}
use Rattle.sdh_pointer.specs.Reading.{action_on, after_word}
use Rattle.sdh_elastic.specs.Turns.{given, next_action, is_held, value_after, word_for, IsChunk}
use Rattle.sdh_elastic.specs.Lengths.{is_steady, is_last_steady}
use Rattle.sdh_elastic.specs.History.{actions, fill, lasts, lengths, bytes_taken, count_given, bytes_held, last_action, last_given, given_in_all}
use Rattle.sdh_elastic.specs.History.{value_of, last_word, heard_actions}
use Rattle.sdh_elastic.specs.Store.{Store, empty, stage_of, stage_after, fill_after, store_of, reading_in, StoreIsBounded}
use Rattle.sdh_elastic.proofs.Near.{bounded_after, no_drift, is_held_by, small_value}
use Rattle.sdh_elastic.proofs.Course.{count_after, held_and, store_after, same_fill, same_action, next_stage, steady_now, new_store}
use Rattle.sdh_elastic.proofs.Course.{swapped}
use Rattle.sdh_elastic.proofs.Heard.{turn_is_heard}

-- ---- bytes

cut : (g G : ℕ) (xs : List ℕ) → take g (drop G xs) ++ drop (g + G) xs ≡ drop G xs
cut g G xs =
    ap (λ (l : List ℕ). take g (drop G xs) ++ l) (ap (λ (n : ℕ). drop n xs) (swapped g G) ∙ sym (drop-drop g G xs))
    ∙ take-append-drop g (drop G xs)

pub given_is_a_front : (past : List (List ℕ)) → lasts (lengths past) ≡ true → given_in_all past ++ bytes_held past ≡ bytes_taken past
unfolding actions
given_is_a_front [] h = refl
given_is_a_front (x ∷ past) h =
    let before = (and_parts (lasts (lengths past)) (is_held (fill (lengths (x ∷ past)))) h).0 in
    let g = given (last_action (x ∷ past)) in
    let G = count_given past in
    let bytes = bytes_taken past ++ x in
    append_assoc (given_in_all past) (last_given (x ∷ past)) (bytes_held (x ∷ past))
    ∙ ap (λ (n : ℕ). given_in_all past ++ (take g (drop G bytes) ++ drop n bytes)) (count_after x past)
    ∙ ap (λ (l : List ℕ). given_in_all past ++ l) (cut g G bytes ∙ sym (held_and x past before))
    ∙ sym (append_assoc (given_in_all past) (bytes_held past) x)
    ∙ ap (λ (l : List ℕ). l ++ x) (given_is_a_front past before)

-- ---- steady runs

empty_is_bounded : (first : ℕ) → first ≤ 782 → StoreIsBounded (empty first)
empty_is_bounded first small = record { at = refl; chunks = tt; value = small; near = λ _. refl }

record IsGood (past : List (List ℕ)) : Type 0 where
  lasts : lasts (lengths past) ≡ true
  bounded : StoreIsBounded (store_of 0 past)

good : (past : List (List ℕ)) → All (λ (chunk : List ℕ). IsChunk (length chunk)) past → is_steady (lengths past) ≡ true → IsGood past
good [] all h = record { lasts = refl; bounded = rw (sym (new_store 0).kept) (empty_is_bounded 0 (omega arith)) }
good (x ∷ past) all h =
    let before =
    good past (λ k d less. all (suc k) d (omega arith)) (and_parts (is_steady (lengths past)) (is_last_steady (lengths (x ∷ past))) h).0 in
    let s : Store = store_of 0 past in
    let chunk : IsChunk (length x) = all 0 x (omega arith) in
    let now = steady_now s (length x) 0 past (record { lasts = before.lasts; kept = refl }) h in
    let bounds = no_drift s (length x) before.bounded chunk now.0 now.1 in
    let fits = is_held_by (fill_after s (length x)) bounds.0 bounds.1 in
    record {
      lasts =
          and_from (lasts (lengths past)) (is_held (fill (lengths (x ∷ past)))) before.lasts
          (sym (ap is_held (same_fill 0 x past before.lasts)) ∙ fits);
      bounded = subst StoreIsBounded (store_after 0 x past before.lasts) (bounded_after s x before.bounded chunk fits);
    }

pub steady_runs_last : (past : List (List ℕ)) → All (λ (chunk : List ℕ). IsChunk (length chunk)) past → is_steady (lengths past) ≡ true
    → lasts (lengths past) ≡ true
steady_runs_last past all h = (good past all h).lasts

-- ---- words

pub small_of : (first : ℕ) (acts : List Action) → first ≤ 782 → value_of first acts ≤ 782
small_of first [] h = h
small_of first (a ∷ acts) h = small_value a (value_of first acts) (small_of first acts h)

-- an interpreter that has read all words is where the store's stage and value say
pub heard_so_far : (first : ℕ) (ls : List ℕ) → first ≤ 782 → heard_actions first (actions ls)
    ≡ reading_in (stage_of (actions ls)) (value_of first (actions ls))
unfolding actions reading_in
heard_so_far first [] h = refl
heard_so_far first (n ∷ ls) h =
    let acts = actions ls in
    let v = value_of first acts in
    let a = next_action acts (fill ls) in
    let turn = turn_is_heard (stage_of acts) v (fill ls) (small_of first acts h) in
    let same = same_action acts (fill ls) in
    ap (λ r. after_word r (word_for a v)) (heard_so_far first ls h)
    ∙ ap (λ (b : Action). after_word (reading_in (stage_of acts) v) (word_for b v)) (sym same)
    ∙ turn.next
    ∙ ap (λ (b : Action). reading_in (stage_after (stage_of acts) b) (value_after b v)) same
    ∙ ap (λ st. reading_in st (value_after a v)) (sym (next_stage acts (fill ls)))

pub words_tell_actions : (first n : ℕ) (earlier : List ℕ) → first ≤ 782
    → action_on (heard_actions first (actions earlier)) (last_word first (actions (n ∷ earlier))) ≡ next_action (actions earlier) (fill earlier)
unfolding actions
words_tell_actions first n earlier h =
    let acts = actions earlier in
    let v = value_of first acts in
    let same = same_action acts (fill earlier) in
    ap (λ r. action_on r (word_for (next_action acts (fill earlier)) v)) (heard_so_far first earlier h)
    ∙ ap (λ (b : Action). action_on (reading_in (stage_of acts) v) (word_for b v)) (sym same)
    ∙ (turn_is_heard (stage_of acts) v (fill earlier) (small_of first acts h)).action ∙ same
