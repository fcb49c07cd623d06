-- Forward: the first end of a span at the level that is met on the way round is heard. Its constant long word is
-- heard by the next node from some round on, and with each further node that relays it three rounds later.
use Rattle.std.proofs.Common.{◌≡◌, ◌≢◌, ℕ, ◌+◌, ◌-◌, ◌*◌, ◌<◌, ◌≤◌, suc, zero, Bool, true, false, Some, refl, ap, sym, subst, ◌∙◌}
use Rattle.std.proofs.Common.{arith}
use Rattle.std.specs.Prelude.{option_map}
use Rattle.sdh_kbytes.specs.declared.K.{K}
use Rattle.sdh_kbytes.specs.declared.Path.TheVariants.{Long}
use Rattle.sdh_ringmap.specs.Requests.{code_number}
use Rattle.sdh_ringmap.specs.Places.{opposite}
use Rattle.sdh_ringmap.specs.declared.Side.{Side}
use Rattle.sdh_nodestate.specs.Rules.{word_on, word}
use Rattle.sdh_signal.specs.Signals.{fails_on}
use Rattle.sdh_signal.proofs.Terms.{terms}
use Rattle.sdh_signal.specs.Runs.{Run, IsRun, bare}
use Rattle.sdh_ringmap.specs.Steps.{going}
use Rattle.sdh_ringmap.proofs.Going.{going-inside, going-none, going-first, going-next, going-apart}
use Rattle.sdh_signal.proofs.OneNode.{long_of}
use Rattle.sdh_signal.proofs.Bare.{unbare}
use Rattle.sdh_signal.proofs.Runs.{some_nodes, next_below, id_apart, request_back, weight_le, failing}
use Rattle.sdh_signal.proofs.Levels.{IsLevel, passes}
use Rattle.sdh_signal.proofs.Agreement.{knows, long_said}

module _ (run : Run) (R : IsRun run) where
  open terms run use {n, at, id, next as nx, code, request as asked, away, plain, top_code}

  module _ (c : ℕ) (level : IsLevel run R c) where
    -- k steps away is the first position, going from p on side e, whose span on e is at the level
    pub record IsFirst (p : ℕ) (e : Side) (k : ℕ) : Type 0 where
      pub near : (j : ℕ) → j < k → asked (going n e p j) e < c
      pub there : c ≤ asked (going n e p k) e

    -- the span of p itself is below the level, and from the next position it is one step less
    pub below_here : (p : ℕ) (e : Side) (k : ℕ) → p < n → IsFirst p e (suc k) → asked p e < c
    below_here p e k h first = subst (λ i. asked i e < c) (going-none n (some_nodes run R) e p h) (first.near zero (omega arith))

    pub ahead : (p : ℕ) (e : Side) (k : ℕ) → IsFirst p e (suc k) → IsFirst (nx p e) e k
    ahead p e k first = record {
      near = λ j h. subst (λ i. asked i e < c) (sym (going-first n (some_nodes run R) e p j)) (first.near (suc j) (omega arith));
      there = subst (λ i. c ≤ asked i e) (sym (going-first n (some_nodes run R) e p k)) first.there;
    }

    -- p hears the constant long word of x
    abbrev Hears : ℕ → ℕ → Side → ℕ → Type 0
    Hears t p e x = option_map bare (word_on (at t p) e) ≡ Some (plain x e (top_code x e) Long)

    clear : (p : ℕ) (d : Side) → p < n → asked p d < c → (b : Bool) → fails_on (run.need p) d ≡ b → fails_on (run.need p) d ≡ false
    clear p d h l true e = let f = failing run.need p d (R.sound p h) e in let high = level.high in absurd (omega arith)
    clear p d h l false e = e

    -- a word of code c or more that isn't from or for a node with no span at the level is sent on
    sent_on : (v q : ℕ) (e : Side) (w says : K) → n + 4 ≤ v → q < n → asked q e < c → asked q (opposite e) < c → word_on (at v q) e ≡ Some w
        → bare w ≡ says → says.path ≡ Long → c ≤ code_number says.code → says.to ≢ id q → says.from ≢ id q → bare (away v q e) ≡ says
    sent_on v q e w says l h less other o is path strong to from =
        let low = level.low in
        let num = ap (λ (k : K). code_number k.code) is in
        let w_to = ap (λ (k : K). k.to) is in
        let w_from = ap (λ (k : K). k.from) is in
        let a = weight_le run R v q e (omega arith) h in
        let b = weight_le run R v q (opposite e) (omega arith) h in
        ap bare (passes run R c level v q e w (omega arith) (omega arith)
        (long_of (at v q) e w o (ap (λ (k : K). k.path) is ∙ path) (omega arith)) (omega arith) (λ i. to (sym w_to ∙ i))
        (λ i. from (sym w_from ∙ i))) ∙ is

    -- forward: its long word is heard
    pub reach : (k t p : ℕ) (e : Side) → p < n → suc k < n → IsFirst p e (suc k) → n + 7 + 3 * k ≤ t
        → option_map bare (word_on (at t p) e) ≡ Some (plain (going n e p (suc k)) e (top_code (going n e p (suc k)) e) Long)
    reach zero t p e h few first l =
        let q = nx p e in
        let b = next_below run R p e in
        let less = below_here p e zero h first in
        let one : q ≡ going n e p (suc zero) = sym (going-none n (some_nodes run R) e q b) ∙ going-first n (some_nodes run R) e p zero in
        let there : c ≤ asked q e = subst (λ i. c ≤ asked i e) (sym one) first.there in
        let across = request_back run R p e h in
        let u = t - 3 in
        let when : suc (suc (suc u)) ≡ t = omega arith in
        subst (Hears t p e) one
        (subst (λ v. Hears v p e q) when
        (R.future u p e (plain q e (top_code q e) Long) h (clear p e h less (fails_on (run.need p) e) refl)
        (long_said run R c level u q e (omega arith) b (omega arith) there)
        (long_said run R c level (suc u) q e (omega arith) b (omega arith) there)
        (long_said run R c level (suc (suc u)) q e (omega arith) b (omega arith) there)))
    reach (suc k) t p e h few first l =
        let q = nx p e in
        let x = going n e q (suc k) in
        let b = next_below run R p e in
        let first_on = ahead p e (suc k) first in
        let less = below_here p e (suc k) h first in
        let here = below_here q e k b first_on in
        let there = first_on.there in
        let across = request_back run R p e h in
        let inside = going-inside n (some_nodes run R) e q (suc k) in
        let says = plain x e (top_code x e) Long in
        let to : id (nx x e) ≢ id q =
        id_apart run R (nx x e) q (next_below run R x e) b
        (λ i. going-apart n (some_nodes run R) e q (suc (suc k)) b (omega arith) few
        (sym (going-next n (some_nodes run R) e q (suc k)) ∙ i)) in
        let from : id x ≢ id q = id_apart run R x q inside b (going-apart n (some_nodes run R) e q (suc k) b (omega arith) (omega arith)) in
        let strong = (knows run R c level t x e (omega arith) inside there).strong in
        let low = level.low in
        let relays = λ (v : ℕ) (m : n + 7 + 3 * k ≤ v). (
        let hears = unbare (word_on (at v q) e) says (reach k v q e b (omega arith) first_on m) in
        sent_on v q e hears.0 says (omega arith) b here (omega arith) hears.1 hears.2 refl strong to from) in
        let u = t - 3 in
        let when : suc (suc (suc u)) ≡ t = omega arith in
        subst (Hears t p e) (going-first n (some_nodes run R) e p (suc k))
        (subst (λ v. Hears v p e x) when
        (R.future u p e says h (clear p e h less (fails_on (run.need p) e) refl) (relays u (omega arith)) (relays (suc u) (omega arith))
        (relays (suc (suc u)) (omega arith))))
