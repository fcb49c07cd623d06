-- Levels: the requests that decide. A level c is 11, the request of a signal failure, or the highest request of all
-- spans where that is lower. From round n + 1 on no word that counts weighs more than the level, so a node sends a
-- short word on a side whose weight is at the level, announces it with a long word the other way, and relays words at
-- the level if neither of its sides is.
use Rattle.std.proofs.Common.{◌≡◌, ◌≢◌, ℕ, ◌<◌, ◌≤◌, Some, ap, arith, inl, inr, ◌⊎◌}
use Rattle.std.proofs.lemmas.Bool.{cases_lt}
use Rattle.sdh_kbytes.specs.declared.K.{K}
use Rattle.sdh_kbytes.specs.declared.Path.TheVariants.{Long}
use Rattle.sdh_kbytes.specs.declared.Mark.TheVariants as mark
use Rattle.sdh_ringmap.specs.Requests.{code_number}
use Rattle.sdh_ringmap.specs.Places.{opposite}
use Rattle.sdh_ringmap.specs.declared.Side.{Side}
use Rattle.sdh_ringmap.specs.declared.Side.TheVariants.{West, East}
use Rattle.sdh_nodestate.specs.Rules.{long, relayed, weight, weight_of, stronger, chosen, word, own_short, own_long, relay}
use Rattle.sdh_signal.proofs.Terms.{terms}
use Rattle.sdh_signal.specs.Runs.{Run, IsRun, bare}
use Rattle.sdh_signal.proofs.OneNode.{relayed_of, word_long, word_relay, choose_short_top, choose_short, choose_long_top, choose_long}
use Rattle.sdh_signal.proofs.OneNode.{choose_relay}
use Rattle.sdh_signal.proofs.Runs.{weight_le}
use Rattle.sdh_signal.proofs.Backward.{relays_le}

module _ (run : Run) (R : IsRun run) where
  open terms run use {n, at, id, next as nx, code, asks, request as asked, weight_at, away, plain, outdone, top_code, answer_code}

  -- c is a level: 11, or the highest request where that is from 5 to 11
  pub record IsLevel (c : ℕ) : Type 0 where
    pub low : 5 ≤ c
    pub high : c ≤ 11
    pub light : (c ≡ 11) ⊎ ((p : ℕ) (d : Side) → p < n → asked p d ≤ c)

  module _ (c : ℕ) (level : IsLevel c) where
    -- c is 11, or neither a side nor a relayed word weighs more than c
    abbrev IsLight : ℕ → ℕ → Side → Type 0
    IsLight t p d = (c ≡ 11) ⊎ ((weight_at t p d ≤ c) × (weight_at t p (opposite d) ≤ c) × (weight_of (relayed (at t p) d) ≤ c))

    light_by : (t p : ℕ) (d : Side) → n < t → p < n → (c ≡ 11) ⊎ ((p : ℕ) (d : Side) → p < n → asked p d ≤ c) → IsLight t p d
    light_by t p d g h (inl top) = inl top
    light_by t p d g h (inr f) =
        let a = weight_le run R t p d (omega arith) h in
        let b = weight_le run R t p (opposite d) (omega arith) h in
        let x = f p d h in
        let y = f p (opposite d) h in
        inr (omega arith, omega arith, relays_le run R c f t p d g h)

    light : (t p : ℕ) (d : Side) → n < t → p < n → IsLight t p d
    light t p d g h = light_by t p d g h level.light

    sends_short_by : (t p : ℕ) (d : Side) → c ≤ weight_at t p d → IsLight t p d → chosen (at t p) d ≡ own_short
    unfolding chosen
    sends_short_by t p d g (inl top) =
        choose_short_top (weight_at t p d) (weight_at t p (opposite d)) (weight_of (relayed (at t p) d)) (omega arith)
    sends_short_by t p d g (inr (a, b, x)) =
        let low = level.low in
        elim (cases_lt (weight_at t p d) 11) [
          | inl few ↦ choose_short (weight_at t p d) (weight_at t p (opposite d)) (weight_of (relayed (at t p) d)) (omega arith) few
              (omega arith) (omega arith)
          | inr top ↦ choose_short_top (weight_at t p d) (weight_at t p (opposite d)) (weight_of (relayed (at t p) d)) top
        ]

    pub sends_short : (t p : ℕ) (d : Side) → n < t → p < n → c ≤ weight_at t p d → chosen (at t p) d ≡ own_short
    sends_short t p d l h g = sends_short_by t p d g (light t p d l h)

    sends_long_by : (t p : ℕ) (d : Side) → weight_at t p d < c → c ≤ weight_at t p (opposite d) → IsLight t p d
        → chosen (at t p) d ≡ own_long
    unfolding chosen
    sends_long_by t p d l g (inl top) =
        choose_long_top (weight_at t p d) (weight_at t p (opposite d)) (weight_of (relayed (at t p) d)) (omega arith) (omega arith)
    sends_long_by t p d l g (inr (a, b, x)) =
        let high = level.high in
        elim (cases_lt (weight_at t p (opposite d)) 11) [
          | inl few ↦ choose_long (weight_at t p d) (weight_at t p (opposite d)) (weight_of (relayed (at t p) d)) (omega arith) few
              (omega arith)
          | inr top ↦ choose_long_top (weight_at t p d) (weight_at t p (opposite d)) (weight_of (relayed (at t p) d)) (omega arith) top
        ]

    chooses_relay : (t p : ℕ) (d : Side) (k : K) → weight_at t p d < c → weight_at t p (opposite d) < c → relayed (at t p) d ≡ Some k
        → c ≤ code_number k.code → chosen (at t p) d ≡ relay
    unfolding chosen
    chooses_relay t p d k a b e g =
        let high = level.high in
        let w : weight_of (relayed (at t p) d) ≡ code_number k.code = ap weight_of e in
        choose_relay (weight_at t p d) (weight_at t p (opposite d)) (weight_of (relayed (at t p) d)) (omega arith) (omega arith)
        (omega arith) (omega arith)

    pub sends_far : (t p : ℕ) (e : Side) → n < t → p < n → weight_at t p (opposite e) < c → c ≤ weight_at t p e
        → bare (away t p e) ≡ plain p e (stronger (at t p) e) Long
    sends_far t p West l h a b = ap bare (word_long (at t p) East (sends_long_by t p East a b (light t p East l h)))
    sends_far t p East l h a b = ap bare (word_long (at t p) West (sends_long_by t p West a b (light t p West l h)))

    pub relays : (t p : ℕ) (e : Side) (k : K) → weight_at t p (opposite e) < c → weight_at t p e < c → long (at t p) e ≡ Some k
        → c ≤ code_number k.code → k.to ≢ id p → k.from ≢ id p → chosen (at t p) (opposite e) ≡ relay
    relays t p West k a b l g x f = chooses_relay t p East k a b (relayed_of (at t p) East k l x f) g
    relays t p East k a b l g x f = chooses_relay t p West k a b (relayed_of (at t p) West k l x f) g

    pub passes : (t p : ℕ) (e : Side) (k : K) → weight_at t p (opposite e) < c → weight_at t p e < c → long (at t p) e ≡ Some k
        → c ≤ code_number k.code → k.to ≢ id p → k.from ≢ id p → away t p e ≡ k
    passes t p West k a b l g x f = let e =
        relayed_of (at t p) East k l x f in word_relay (at t p) East k (chooses_relay t p East k a b e g) e
    passes t p East k a b l g x f = let e =
        relayed_of (at t p) West k l x f in word_relay (at t p) West k (chooses_relay t p West k a b e g) e
