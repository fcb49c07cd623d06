-- The two ends of a span at the level agree on it: the end with the larger local request says so on the span in each
-- round, and the other end hears it, three rounds later at the latest. So from round n + 4 on both know the span's
-- request, answer on it with a constant short word and announce it the other way round with a constant long word.
use Rattle.std.proofs.Common.{◌≡◌, ℕ, ◌+◌, ◌-◌, ◌<◌, ◌≤◌, suc, Bool, true, false, Some, None, refl, ap, sym, subst, ◌∙◌, arith, inl}
use Rattle.std.proofs.Common.{inr}
use Rattle.std.specs.Prelude.{nat_le, nat_lt, not, ◌&&◌, if◌then◌else◌}
use Rattle.std.proofs.lemmas.Bool.{and_right, cases_lt, cond-true, cond-false, le-leb, lt-leb, lt-ltb, le-ltb}
use Rattle.sdh_kbytes.specs.declared.K.{K}
use Rattle.sdh_ringmap.specs.declared.terms.Code.{Code}
use Rattle.sdh_ringmap.specs.declared.terms.Code.TheVariants.{Nr, Rr}
use Rattle.sdh_kbytes.specs.declared.Path.TheVariants.{Short, Long}
use Rattle.sdh_ringmap.specs.Requests.{code_number}
use Rattle.sdh_ringmap.specs.Places.{opposite}
use Rattle.sdh_ringmap.specs.declared.Side.{Side}
use Rattle.sdh_nodestate.specs.Rules.{Scene, local, larger, word_on, short, stronger, word}
use Rattle.sdh_signal.specs.Signals.{fails_on}
use Rattle.sdh_signal.proofs.Terms.{terms}
use Rattle.sdh_signal.specs.Runs.{Run, IsRun, bare}
use Rattle.sdh_signal.proofs.OneNode.{short_of, short_code, word_short}
use Rattle.sdh_signal.proofs.Bare.{unbare}
use Rattle.sdh_ringmap.proofs.Sides.{neighbour_back}
use Rattle.sdh_signal.proofs.Runs.{next_below, local_is, asks_back, short_le, weight_le, failing}
use Rattle.sdh_signal.proofs.Levels.{IsLevel, sends_short, sends_far}

larger_left : (a b : Code) → code_number b ≤ code_number a → larger a b ≡ a
larger_left a b h = ap (λ t. if t then b else a) (le-ltb (code_number a) (code_number b) h)

larger_right : (a b : Code) → code_number a < code_number b → larger a b ≡ b
larger_right a b h = ap (λ t. if t then b else a) (lt-ltb (code_number a) (code_number b) h)

stronger_is : (s : Scene) (d : Side) → stronger s d ≡ larger (local s d) (short s d)
unfolding stronger
stronger_is s d = refl

short_none : (s : Scene) (d : Side) → word_on s d ≡ None → short s d ≡ Nr
unfolding short
short_none s d e = rw e

module _ (run : Run) (R : IsRun run) where
  open terms run use {n, at, id, next as nx, code, asks, request as asked, word_at, away, plain, outdone, top_code, answer_code}

  module _ (c : ℕ) (level : IsLevel run R c) where
    -- what p knows of its span, and says of it on the span itself
    pub record Knows (t p : ℕ) (d : Side) : Type 0 where
      pub strong : c ≤ code_number (top_code p d)
      pub top : stronger (at t p) d ≡ top_code p d
      pub answer : short_code (at t p) d ≡ answer_code p d

    -- p knows the span's request by its own local request
    by_local : (t p : ℕ) (d : Side) → c ≤ asks p d → outdone p d ≡ false → code_number (short (at t p) d) ≤ asks p d → Knows t p d
    by_local t p d g o l =
        let lo = local_is run R t p d in
        let lo_n = ap code_number lo in
        let no : top_code p d ≡ code p d = cond-false (outdone p d) (code (nx p d) (opposite d)) (code p d) o in
        record {
          strong = subst (λ (x : Code). c ≤ code_number x) (sym no) g;
          top = stronger_is (at t p) d ∙ larger_left (local (at t p) d) (short (at t p) d) (omega arith) ∙ lo ∙ sym no;
          answer =
              cond-true (nat_le (code_number (short (at t p) d)) (code_number (local (at t p) d))) (local (at t p) d) Rr
              (le-leb _ _ (omega arith)) ∙ lo ∙ sym (cond-false (outdone p d) Rr (code p d) o);
        }

    -- p knows the span's request by the short word of its neighbour, who asks for more
    by_other : (t p : ℕ) (d : Side) → c ≤ asks (nx p d) (opposite d) → asks p d < asks (nx p d) (opposite d) → outdone p d ≡ true
        → short (at t p) d ≡ code (nx p d) (opposite d) → Knows t p d
    by_other t p d g l o is =
        let lo = ap code_number (local_is run R t p d) in
        let sh = ap code_number is in
        let yes : top_code p d ≡ code (nx p d) (opposite d) = cond-true (outdone p d) (code (nx p d) (opposite d)) (code p d) o in
        record {
          strong = subst (λ (x : Code). c ≤ code_number x) (sym yes) g;
          top = stronger_is (at t p) d ∙ larger_right (local (at t p) d) (short (at t p) d) (omega arith) ∙ is ∙ sym yes;
          answer =
              cond-false (nat_le (code_number (short (at t p) d)) (code_number (local (at t p) d))) (local (at t p) d) Rr
              (lt-leb _ _ (omega arith)) ∙ sym (cond-true (outdone p d) Rr (code p d) o);
        }

    -- the word on the span itself
    pub known_word : (t p : ℕ) (d : Side) → n < t → p < n → Knows t p d → bare (word_at t p d) ≡ plain p d (answer_code p d) Short
    known_word t p d l h k =
        let top = ap code_number k.top in
        let strong = k.strong in
        ap bare (word_short (at t p) d (sends_short run R c level t p d l h (omega arith))) ∙ ap (λ x. plain p d x Short) k.answer

    not_outdone : (p : ℕ) (d : Side) → asks (nx p d) (opposite d) ≤ asks p d → outdone p d ≡ false
    not_outdone p d l = and_right (not (fails_on (run.need p) d)) (nat_lt (asks p d) (asks (nx p d) (opposite d))) (le-ltb _ _ l)

    -- the end with the larger request knows the span's request at once
    first_end : (t p : ℕ) (d : Side) → 0 < t → p < n → c ≤ asks p d → asks (nx p d) (opposite d) ≤ asks p d → Knows t p d
    first_end t p d l h g m = by_local t p d g (not_outdone p d m) (let s = short_le run R t p d l h in omega arith)

    -- the other end knows the span's request once it hears the short word
    by_heard : (t p : ℕ) (d : Side) (w : K) → p < n → c ≤ asks (nx p d) (opposite d) → asks p d < asks (nx p d) (opposite d)
        → fails_on (run.need p) d ≡ false
        → word_on (at t p) d ≡ Some w → bare w ≡ plain (nx p d) (opposite d) (code (nx p d) (opposite d)) Short → Knows t p d
    by_heard t p d w h g m e o is =
        let low = level.low in
        let w_code : w.code ≡ code (nx p d) (opposite d) = ap (λ (k : K). k.code) is in
        let w_num = ap code_number w_code in
        let said : short (at t p) d ≡ w.code =
        short_of (at t p) d w o (ap (λ (k : K). k.path) is) (ap (λ (k : K). k.to) is ∙ ap id (neighbour_back n p d h))
        (ap (λ (k : K). k.from) is) (omega arith) in
        let known : outdone p d ≡ true =
        ap (λ b. not b && nat_lt (asks p d) (asks (nx p d) (opposite d))) e ∙ lt-ltb (asks p d) (asks (nx p d) (opposite d)) m in
        by_other t p d g m known (said ∙ w_code)

    -- the stronger end says it in each round
    first_said : (t q : ℕ) (o : Side) → n < t → q < n → c ≤ asks q o → asks (nx q o) (opposite o) ≤ asks q o
        → bare (word_at t q o) ≡ plain q o (code q o) Short
    first_said t q o l h g m =
        let no : answer_code q o ≡ code q o = cond-false (outdone q o) Rr (code q o) (not_outdone q o m) in
        known_word t q o l h (first_end t q o (omega arith) h g m) ∙ ap (λ x. plain q o x Short) no

    -- the end with the smaller request knows the span's request three rounds later
    second_by : (t p : ℕ) (d : Side) → n < t → p < n → c ≤ asks (nx p d) (opposite d) → asks p d < asks (nx p d) (opposite d) → (b : Bool)
        → fails_on (run.need p) d ≡ b → Knows (suc (suc (suc t))) p d
    second_by t p d l h g m true e =
        let f = failing run.need p d (R.sound p h) e in
        let high = level.high in
        let z = ap code_number (short_none (at (suc (suc (suc t))) p) d (R.silent (suc (suc t)) p d h e)) in
        let known : outdone p d ≡ false = ap (λ b. not b && nat_lt (asks p d) (asks (nx p d) (opposite d))) e in
        by_local (suc (suc (suc t))) p d (omega arith) known (omega arith)
    second_by t p d l h g m false e =
        let q = nx p d in
        let o = opposite d in
        let b = next_below run R p d in
        let less : asks (nx q o) (opposite o) ≤ asks q o = let x = asks_back run R p d h in omega arith in
        let hears = unbare (word_on (at (suc (suc (suc t))) p) d) (plain q o (code q o) Short)
        (R.future t p d (plain q o (code q o) Short) h e (first_said t q o l b g less) (first_said (suc t) q o (omega arith) b g less)
        (first_said (suc (suc t)) q o (omega arith) b g less)) in
        by_heard (suc (suc (suc t))) p d hears.0 h g m e hears.1 hears.2

    pub knows : (t p : ℕ) (d : Side) → n + 4 ≤ t → p < n → c ≤ asked p d → Knows t p d
    knows t p d l h g = elim (cases_lt (asks p d) (asks (nx p d) (opposite d))) [
      | inl less ↦ (
          let when : suc (suc (suc (t - 3))) ≡ t = omega arith in
          subst (λ u. Knows u p d) when (second_by (t - 3) p d (omega arith) h (omega arith) less (fails_on (run.need p) d) refl))
      | inr more ↦ first_end t p d (omega arith) h (omega arith) more
    ]

    pub short_said : (t p : ℕ) (d : Side) → n + 4 ≤ t → p < n → c ≤ asked p d → bare (word_at t p d) ≡ plain p d (answer_code p d) Short
    short_said t p d l h g = known_word t p d (omega arith) h (knows t p d l h g)

    pub long_said : (t p : ℕ) (e : Side) → n + 4 ≤ t → p < n → asked p (opposite e) < c → c ≤ asked p e
        → bare (away t p e) ≡ plain p e (top_code p e) Long
    long_said t p e l h a g =
        let k = knows t p e l h g in
        let top = ap code_number k.top in
        let strong = k.strong in
        let w = weight_le run R t p (opposite e) (omega arith) h in
        sends_far run R c level t p e (omega arith) h (omega arith) (omega arith) ∙ ap (λ x. plain p e x Long) k.top
