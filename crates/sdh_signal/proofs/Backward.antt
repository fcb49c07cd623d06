-- Long words traced backward: one that is heard k nodes from its source was sent by that source k rounds before. So
-- once the words from before the run have gone, which n rounds are enough for, no long word weighs more than the
-- highest request of all spans.
use Rattle.std.proofs.Common.{◌≡◌, ℕ, ◌+◌, ◌-◌, ◌<◌, ◌≤◌, suc, zero, Option, Some, None, refl, ap, sym, subst, ◌∙◌, arith, inl, inr}
use Rattle.std.proofs.Common.{◌⊎◌}
use Rattle.sdh_kbytes.specs.declared.K.{K}
use Rattle.sdh_ringmap.specs.Requests.{code_number}
use Rattle.sdh_ringmap.specs.Places.{opposite}
use Rattle.sdh_ringmap.specs.declared.Side.{Side}
use Rattle.sdh_kbytes.specs.declared.Path.TheVariants.{Long}
use Rattle.sdh_nodestate.specs.Rules.{word, word_on, relayed, weight_of, stronger}
use Rattle.sdh_nodestate.specs.Words.{IsMember}
use Rattle.sdh_signal.proofs.Terms.{terms}
use Rattle.sdh_signal.specs.Runs.{Run, IsRun}
use Rattle.sdh_ringmap.specs.Steps.{going}
use Rattle.sdh_ringmap.proofs.Going.{going-inside, going-none, going-first, going-apart, reached, IsReached}
use Rattle.sdh_ringmap.proofs.Sides.{opposite_twice}
use Rattle.sdh_signal.proofs.Sources.{word_source, relayed_heard, IsOwnOrRelayed}
use Rattle.sdh_signal.proofs.OneNode.{long_from, relayed_from, Kind, a_short, a_long, a_relay, kind}
use Rattle.sdh_signal.proofs.Runs.{some_nodes, next_below, id_apart, weight_le}

-- k rounds after t
abbrev later : ℕ → ℕ → ℕ
later zero t = t
later (suc k) t = suc (later k t)

later_is : (k t : ℕ) → later k t ≡ k + t
later_is zero t = omega arith
later_is (suc k) t = let e = later_is k t in omega arith

module _ (run : Run) (R : IsRun run) where
  open terms run use {n, at, id, next as nx, request, away}

  abbrev pub IsStep : ℕ → ℕ → Side → Type 0
  IsStep t p e = ((away (suc t) p e).from ≡ id p) ⊎ (away (suc t) p e ≡ away t (nx p e) e)

  step_by : (t p : ℕ) (e : Side) → p < n → IsOwnOrRelayed (at (suc t) p) (opposite e) (away (suc t) p e) → IsStep t p e
  step_by t p e h (inl own) = inl own
  step_by t p e h (inr f) = inr (R.past t p e (away (suc t) p e) h (ap (word_on (at (suc t) p)) (sym (opposite_twice e)) ∙ f.heard))

  -- a word that a node sends away from a side is its own, or the one that came on that side
  pub step : (t p : ℕ) (e : Side) → p < n → IsStep t p e
  step t p e h = step_by t p e h (word_source (at (suc t) p) (opposite e))

  own_long_code : (t q : ℕ) (d : Side) (w : K) → w.path ≡ Long → w.from ≡ id q → Kind (at t q) d w → w.code ≡ stronger (at t q) (opposite d)
  own_long_code t q d w p f (a_short s c) = cc
  own_long_code t q d w p f (a_long s c) = c
  own_long_code t q d w p f (a_relay c) = absurd ((relayed_heard (at t q) d w c).foreign f)

  module _ (c : ℕ) (requests : (p : ℕ) (d : Side) → p < n → request p d ≤ c) where
    traced : (k t p : ℕ) (e : Side) → p < n → k < n → (away (later k (suc t)) p e).from ≡ id (going n e p k)
        → (away (later k (suc t)) p e).path ≡ Long → code_number (away (later k (suc t)) p e).code ≤ c
    traced zero t p e h few f l =
        let own =
        ap code_number (own_long_code (suc t) p (opposite e) (away (suc t) p e) l (f ∙ ap id (going-none n (some_nodes run R) e p h))
        (kind (at (suc t) p) (opposite e))) in
        let w = weight_le run R (suc t) p (opposite (opposite e)) (omega arith) h in
        let q = requests p (opposite (opposite e)) h in
        omega arith
    traced (suc k) t p e h few f l = elim (step (later k (suc t)) p e h) [
      | inl own ↦ absurd (id_apart run R (going n e p (suc k)) p (going-inside n (some_nodes run R) e p (suc k)) h
          (going-apart n (some_nodes run R) e p (suc k) h (omega arith) few) (sym f ∙ own))
      | inr same ↦ (
          let x =
          traced k t (nx p e) e (next_below run R p e) (omega arith)
          (ap (λ (k : K). k.from) (sym same) ∙ f ∙ ap id (sym (going-first n (some_nodes run R) e p k)))
          (ap (λ (k : K). k.path) (sym same) ∙ l) in
          let y = ap (λ (k : K). code_number k.code) same in
          omega arith)
    ]

    long_by : (t p : ℕ) (e : Side) (q : ℕ) → n ≤ t → p < n → (away t p e).path ≡ Long → (away t p e).from ≡ id q → IsReached n e p q
        → code_number (away t p e).code ≤ c
    long_by t p e q g h l f way =
        let k = way.steps in
        let few = way.few in
        let when : later k (suc (t - 1 - k)) ≡ t = later_is k (suc (t - 1 - k)) ∙ omega arith in
        let from : (away (later k (suc (t - 1 - k))) p e).from ≡ id (going n e p k) =
        ap (λ u. (away u p e).from) when ∙ f ∙ ap id (sym way.there) in
        subst (λ u. code_number (away u p e).code ≤ c) when (traced k (t - 1 - k) p e h few from (ap (λ u. (away u p e).path) when ∙ l))

    long_member : (t p : ℕ) (e : Side) → n ≤ t → p < n → (away t p e).path ≡ Long → IsMember run.ids (away t p e).from
        → code_number (away t p e).code ≤ c
    long_member t p e g h l m = long_by t p e m.0 g h l (sym m.2) (reached n (some_nodes run R) e p m.0 h m.1)

    long_le : (t p : ℕ) (e : Side) → n ≤ t → p < n → (away t p e).path ≡ Long → code_number (away t p e).code ≤ c
    long_le t p e g h l = long_member t p e g h l (R.sources t p (opposite e) h)

    relays_by : (t p : ℕ) (d : Side) (o : Option K) → n ≤ t → p < n → relayed (at (suc t) p) d ≡ o → weight_of o ≤ c
    relays_by t p d None g h e = omega arith
    relays_by t p d (Some k) g h e =
        let f = long_from (at (suc t) p) (opposite d) k (relayed_from (at (suc t) p) d k e).is_long in
        let is = R.past t p (opposite d) k h f.heard in
        let x = long_le t (nx p (opposite d)) (opposite d) g (next_below run R p (opposite d)) (ap (λ (k : K). k.path) (sym is) ∙ f.path) in
        let y = ap (λ (k : K). code_number k.code) is in
        omega arith

    pub relays_le : (t p : ℕ) (d : Side) → n < t → p < n → weight_of (relayed (at t p) d) ≤ c
    relays_le zero p d g h = absurd (omega arith)
    relays_le (suc t) p d g h = relays_by t p d (relayed (at (suc t) p) d) (omega arith) h refl
