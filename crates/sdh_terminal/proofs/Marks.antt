-- Interpreters and generators report after each step whether it changed their state. None reports a change exactly
-- where all keep what they kept.
use Rattle.std.proofs.Common.{◌≡◌, ℕ, ◌+◌, Bool, true, false, List, [], ◌∷◌, map, refl, ap, sym, ◌∙◌}
use Rattle.std.specs.Prelude.{◌&&◌, ◌||◌, not}
use Rattle.std.specs.List.{list_any}
use Rattle.sdh_basics.specs.Indexed.{map_from}
use Rattle.sdh_pointer.specs.declared.reading.Reading.{Reading}
use Rattle.sdh_pointer.specs.Reading.{Interpreter, after_word, after_step, same_reading}
use Rattle.sdh_pointer.specs.Sending.{Generator, next_sending, after_action, same_sending}
use Rattle.sdh_pointer.proofs.Unmoved.{reading_itself}
use Rattle.sdh_terminal.specs.Same.{same_readings, same_generators}
use Rattle.sdh_terminal.specs.Receiving.{readings_of}
use Rattle.sdh_terminal.specs.Passing.{Input, states_of, generators_after}

-- ---- lists

pub map-map_from : {X Y Z : Type 0} (g : Y → Z) (f : ℕ → X → Y) (i : ℕ) (xs : List X)
    → map g (map_from f i xs) ≡ map_from (λ k x. g (f k x)) i xs
map-map_from g f i [] = refl
map-map_from g f i (x ∷ xs) = ap (λ r. g (f i x) ∷ r) (map-map_from g f (i + 1) xs)

pub map_from-map : {X Y Z : Type 0} (f : ℕ → Y → Z) (g : X → Y) (i : ℕ) (xs : List X)
    → map_from f i (map g xs) ≡ map_from (λ k x. f k (g x)) i xs
map_from-map f g i [] = refl
map_from-map f g i (x ∷ xs) = ap (λ r. f i (g x) ∷ r) (map_from-map f g (i + 1) xs)

-- ---- marks

none-or : (a b : Bool) → not (not a || b) ≡ (a && not b)
none-or true b = refl
none-or false b = refl

-- ---- interpreters

module _ (w : ℕ → ℕ) where
  abbrev stepped : ℕ → List Interpreter → List Interpreter
  stepped i xs = map_from (λ k (x : Interpreter). after_step x (w k)) i xs

  pub unmoved-interpreters : (i : ℕ) (xs : List Interpreter)
      → not (list_any (λ (x : Interpreter). x.moved) (stepped i xs)) ≡ same_readings (readings_of (stepped i xs)) (readings_of xs)
  unfolding after_step
  unmoved-interpreters i [] = refl
  unmoved-interpreters i (x ∷ xs) =
      none-or (same_reading (after_word x.reading (w i)) x.reading) (list_any (λ (x : Interpreter). x.moved) (stepped (i + 1) xs))
      ∙ ap (λ b. same_reading (after_word x.reading (w i)) x.reading && b) (unmoved-interpreters (i + 1) xs)

  pub readings-stepped : (xs : List Interpreter) → readings_of (stepped 0 xs) ≡ map_from (λ k r. after_word r (w k)) 0 (readings_of xs)
  unfolding after_step
  readings-stepped xs =
      map-map_from (λ (x : Interpreter). x.reading) (λ k (x : Interpreter). after_step x (w k)) 0 xs
      ∙ sym (map_from-map (λ k r. after_word r (w k)) (λ (x : Interpreter). x.reading) 0 xs)

-- ---- generators

module _ (input : ℕ → Input) where
  abbrev sent : ℕ → List Generator → List Generator
  sent i xs = map_from (λ k (g : Generator). after_action g (input (k + 1)).action (input (k + 1)).value) i xs

  pub unmoved-generators : (i : ℕ) (xs : List Generator) → not (list_any (λ (x : Generator). x.moved) (sent i xs))
      ≡ same_generators (states_of (sent i xs)) (states_of xs)
  unfolding after_action
  unmoved-generators i [] = refl
  unmoved-generators i (x ∷ xs) =
      let next = next_sending x.sending (input (i + 1)).action (input (i + 1)).value in
      none-or (same_sending next x.sending) (list_any (λ (x : Generator). x.moved) (sent (i + 1) xs))
      ∙ ap (λ b. same_sending next x.sending && b) (unmoved-generators (i + 1) xs)

  pub states-sent : (xs : List Generator) → states_of (sent 0 xs) ≡ generators_after input (states_of xs)
  unfolding after_action generators_after
  states-sent xs =
      map-map_from (λ (g : Generator). g.sending) (λ k (g : Generator). after_action g (input (k + 1)).action (input (k + 1)).value) 0 xs
      ∙ sym (map_from-map (λ k s. next_sending s (input (k + 1)).action (input (k + 1)).value) (λ (g : Generator). g.sending) 0 xs)

-- ---- an interpreter or a generator that doesn't step keeps what it kept

pub same-readings : (rs : List Reading) → same_readings rs rs ≡ true
same-readings [] = refl
same-readings (r ∷ rs) = rw (reading_itself r) (same-readings rs)
