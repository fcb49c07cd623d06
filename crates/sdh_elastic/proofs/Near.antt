-- The fill of a steady run stays near a frame's bytes, so a steady run has no drift.
use Rattle.std.proofs.Common.{◌≡◌, ℕ, ◌+◌, ◌-◌, ◌<◌, ◌≤◌, true, false, ◌⊎◌, inl, inr, List, ◌++◌, length, drop, arith}
use Rattle.std.proofs.lemmas.Bool.{cases_lt, and_parts}
use Rattle.std.proofs.lemmas.List.{length-drop, length-append}
use Rattle.std.proofs.lemmas.Grind.{common_steps}
use Rattle.sdh_pointer.specs.declared.reading.Action.{Action}
use Rattle.sdh_pointer.specs.declared.reading.Action.TheVariants as action
use Rattle.sdh_elastic.specs.declared.stage.Stage.{Stage}
use Rattle.sdh_elastic.specs.declared.stage.Stage.TheVariants.{First, Second, Moved, OneLater, TwoLater, Free}
use Rattle.sdh_elastic.specs.declared.lengths.Lengths.{Lengths}
use Rattle.sdh_elastic.specs.declared.lengths.Lengths.TheVariants.{Empty, One, Two, Three}
use Rattle.sdh_elastic.specs.Turns.{given, justified, is_held, value_after, IsChunk}
use Rattle.sdh_elastic.specs.Lengths.{are_four, with_length, keeps_steady}
use Rattle.sdh_elastic.specs.Store.{Store, stage_action, action_at, fill_after, after_turn, stage_after, AreChunks, LengthsAreNear, IsAt, StoreIsBounded}

-- what a turn that may justify does, by cases on the fill
pub record Justifies (fill : ℕ) : Type 0 where
  pub cases : ((2352 ≤ fill) × (justified fill ≡ action.Down))
      ⊎ (((fill ≤ 2346) × (justified fill ≡ action.Up)) ⊎ ((2346 < fill) × (fill < 2352) × (justified fill ≡ action.Normal)))

pub justifies : (fill : ℕ) → Justifies fill
justifies fill =
    elim (cases_lt fill 2352) [
      | inl less ↦ elim (cases_lt 2346 fill) [
        | inl between ↦ record { cases = inr (inr (between, less, grind (arith, common_steps))) }
        | inr few ↦ record { cases = inr (inl (few, grind (arith, common_steps))) }
      ]
      | inr many ↦ record { cases = inl (many, grind (arith, common_steps)) }
    ]

-- the bounds of a fill that is held
pub held_bounds : (fill : ℕ) → is_held fill ≡ true → (2340 ≤ fill) × (fill ≤ 2358)
unfolding is_held
held_bounds fill h = (grind (arith, common_steps), grind (arith, common_steps))

pub is_held_by : (fill : ℕ) → 2340 ≤ fill → fill ≤ 2358 → is_held fill ≡ true
unfolding is_held
is_held_by fill a b = grind (arith, common_steps)

pub not_held_below : (fill : ℕ) → fill < 2340 → is_held fill ≡ false
unfolding is_held
not_held_below fill h = grind (arith, common_steps)

pub not_held_above : (fill : ℕ) → 2358 < fill → is_held fill ≡ false
unfolding is_held
not_held_above fill h = grind (arith, common_steps)

four_bounds : (a b c d : ℕ) → are_four a b c d ≡ true → (9393 ≤ a + b + c + d) × (a + b + c + d ≤ 9399)
four_bounds a b c d h = (grind (arith, common_steps), grind (arith, common_steps))

-- where a store is after a turn that isn't a drift
pub at_after : (st : Stage) (ls : Lengths) (f n : ℕ) → IsAt st ls f → is_held (f + n - given (stage_action st f)) ≡ true
    → IsAt (stage_after st (stage_action st f)) (with_length n ls) (f + n - given (stage_action st f))
at_after First Empty f n at held = omega arith
at_after Second (One a) f n at held = held_bounds _ held
at_after Moved (Two a b) f n at held = held_bounds _ held
at_after Moved (Three a b c) f n at held = held_bounds _ held
at_after OneLater (Three a b c) f n at held = held_bounds _ held
at_after TwoLater (Three a b c) f n at held = held_bounds _ held
at_after Free (Three a b c) f n at held =
    elim (justifies f).cases [
      | inl p ↦ rw p.1 (held_bounds _ (rw p.1 at held))
      | inr q ↦ elim q [ inl p ↦ rw p.1 (held_bounds _ (rw p.1 at held)) | inr p ↦ rw p.2 (held_bounds _ (rw p.2 at held)) ]
    ]
at_after _ _ f n at held = absurd at

-- how far from a frame's bytes the fill of a steady run is after one more turn
pub near_after : (st : Stage) (ls : Lengths) (f n : ℕ) → IsAt st ls f → LengthsAreNear st ls f → AreChunks ls → IsChunk n → keeps_steady n ls ≡ true
    → LengthsAreNear (stage_after st (stage_action st f)) (with_length n ls) (f + n - given (stage_action st f))
near_after First Empty f n at near chunks chunk four = omega arith
near_after Second (One a) f n at near chunks chunk four = (omega arith, omega arith)
near_after Moved (Two a b) f n at near chunks chunk four = (omega arith, omega arith)
near_after Moved (Three a b c) f n at near chunks chunk four = (omega arith, omega arith)
near_after OneLater (Three a b c) f n at near chunks chunk four = (omega arith, omega arith)
near_after TwoLater (Three a b c) f n at near chunks chunk four =
    let sum = four_bounds n a b c four in (omega (arith, sum.0), omega (arith, sum.1))
near_after Free (Three a b c) f n at near chunks chunk four =
    elim (justifies f).cases [
      | inl p ↦ rw p.1 (omega arith, omega arith)
      | inr q ↦ elim q [ inl p ↦ rw p.1 (omega arith, omega arith) | inr p ↦ rw p.2 (omega arith, omega arith) ]
    ]
near_after _ _ f n at near chunks chunk four = absurd at

-- the fill of a steady run is within its bounds after one more turn
pub held_after : (st : Stage) (ls : Lengths) (f n : ℕ) → IsAt st ls f → LengthsAreNear st ls f → AreChunks ls → IsChunk n → keeps_steady n ls ≡ true
    → (2340 ≤ f + n - given (stage_action st f)) × (f + n - given (stage_action st f) ≤ 2358)
held_after First Empty f n at near chunks chunk four = (omega arith, omega arith)
held_after Second (One a) f n at near chunks chunk four = (omega arith, omega arith)
held_after Moved (Two a b) f n at near chunks chunk four = (omega arith, omega arith)
held_after Moved (Three a b c) f n at near chunks chunk four = (omega arith, omega arith)
held_after OneLater (Three a b c) f n at near chunks chunk four =
    let sum = four_bounds n a b c four in (omega (arith, sum.0, sum.1), omega (arith, sum.0, sum.1))
held_after TwoLater (Three a b c) f n at near chunks chunk four =
    let sum = four_bounds n a b c four in (omega (arith, sum.0, sum.1), omega (arith, sum.0, sum.1))
held_after Free (Three a b c) f n at near chunks chunk four =
    elim (justifies f).cases [
      | inl p ↦ rw p.1 (omega arith, omega arith)
      | inr q ↦ elim q [ inl p ↦ rw p.1 (omega arith, omega arith) | inr p ↦ rw p.2 (omega arith, omega arith) ]
    ]
held_after _ _ f n at near chunks chunk four = absurd at

chunks_after : (ls : Lengths) (n : ℕ) → AreChunks ls → IsChunk n → AreChunks (with_length n ls)
chunks_after Empty n chunks chunk = chunk
chunks_after (One a) n chunks chunk = (chunk, chunks)
chunks_after (Two a b) n chunks chunk = (chunk, chunks.0, chunks.1)
chunks_after (Three a b c) n chunks chunk = (chunk, chunks.0, chunks.1)

-- ---- a turn

pub small_value : (a : Action) (v : ℕ) → v ≤ 782 → value_after a v ≤ 782
unfolding value_after
small_value action.Up v h = omega arith
small_value action.Down v h = omega arith
small_value action.Normal v h = h
small_value action.New v h = h
small_value action.Ais v h = h

left_over : (k : ℕ) (xs ys : List ℕ) → length (drop k (xs ++ ys)) ≡ length xs + length ys - k
left_over k xs ys = omega (arith, length-drop k (xs ++ ys), length-append xs ys)

-- a turn keeps a store bounded
pub bounded_after : (s : Store) (input : List ℕ) → StoreIsBounded s → IsChunk (length input) → is_held (fill_after s (length input)) ≡ true
    → StoreIsBounded (after_turn s input)
unfolding after_turn
bounded_after s input b chunk held =
    let len : length (drop (given (action_at s)) (s.held ++ input)) ≡ fill_after s (length input) =
    left_over (given (action_at s)) s.held input in
    record {
      at = rw len (at_after s.stage s.lengths (length s.held) (length input) b.at held);
      chunks = chunks_after s.lengths (length input) b.chunks chunk;
      value = small_value (action_at s) s.value b.value;
      near = λ steady.
          let both = and_parts s.steady (keeps_steady (length input) s.lengths) steady in
          rw len (near_after s.stage s.lengths (length s.held) (length input) b.at (b.near both.0) b.chunks chunk both.1);
    }

-- a steady turn isn't a drift
pub no_drift : (s : Store) (n : ℕ) → StoreIsBounded s → IsChunk n → s.steady ≡ true → keeps_steady n s.lengths ≡ true
    → (2340 ≤ fill_after s n) × (fill_after s n ≤ 2358)
no_drift s n b chunk steady four = held_after s.stage s.lengths (length s.held) n b.at (b.near steady) b.chunks chunk four
