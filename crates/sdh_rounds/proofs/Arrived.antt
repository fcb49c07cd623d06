-- Arrivals node by node.
use Rattle.std.proofs.Common.{◌≡◌, ◌≢◌, ℕ, ◌+◌, ◌*◌, suc, zero, List, [], ◌∷◌, ◌++◌, length, drop, Option, Some, None, refl, ap, ◌∙◌}
use Rattle.std.proofs.Common.{add-one, arith, inl, inr}
use Rattle.std.specs.Prelude.{option_map}
use Rattle.sdh_ringmap.specs.declared.Side.TheVariants.{West, East}
use Rattle.sdh_plant.specs.Fibres.{Arrival, Fibres}
use Rattle.sdh_plant.specs.Arrivals.{Knows}
use Rattle.sdh_rounds.specs.Stations.{Station}
use Rattle.sdh_rounds.specs.Rounds.{with_arrivals, all_with_arrivals, after_given, arrival_at, arrivals_from}

pub told_stays : (o : Option (List Arrival)) (k : ℕ) → o ≢ None → option_map (drop k) o ≢ None
told_stays None k h = λ _. h refl
told_stays (Some told) k h = λ e. cc

pub knows_taken : (f : Fibres) (k : ℕ) → Knows f → Knows (after_given k f)
unfolding after_given
knows_taken f k (inl h) = inl h
knows_taken f k (inr h) = inr (told_stays f.told k h)

from_more : (f : Fibres) (p k : ℕ) → arrivals_from f p (suc k)
    ≡ arrivals_from f p k ++ arrival_at f (p + k) West ∷ arrival_at f (p + k) East ∷ []
from_more f p zero = ap (λ q. arrival_at f q West ∷ arrival_at f q East ∷ []) (let e : p ≡ p + 0 = omega arith in e)
from_more f p (suc k) =
    ap (λ zs. arrival_at f p West ∷ arrival_at f p East ∷ zs)
    (from_more f (p + 1) k ∙ ap (λ q. arrivals_from f (p + 1) k ++ arrival_at f q West ∷ arrival_at f q East ∷ [])
    (let e : p + 1 + k ≡ p + suc k = omega arith in e))

-- the arrivals with one position more
pub arrivals_more : (f : Fibres) (k : ℕ) → arrivals_from f 0 (k + 1) ≡ arrivals_from f 0 k ++ arrival_at f k West ∷ arrival_at f k East ∷ []
arrivals_more f k =
    ap (arrivals_from f 0) (add-one k) ∙ from_more f 0 k ∙ ap (λ q. arrivals_from f 0 k ++ arrival_at f q West ∷ arrival_at f q East ∷ [])
    (let e : 0 + k ≡ k = omega arith in e)

module _ {N : Type 0} (st : Station N) where
  -- nodes that have received, with one node more
  pub heard_more : (xs : List Arrival) (ns : List N) (west east : Arrival) (n : N) → length xs ≡ 2 * length ns
      → all_with_arrivals st (xs ++ west ∷ east ∷ []) (ns ++ n ∷ []) ≡ all_with_arrivals st xs ns ++ with_arrivals st west east n ∷ []
  heard_more [] [] west east n h = refl
  heard_more [] (m ∷ ns) west east n h = absurd (omega arith)
  heard_more (a ∷ []) [] west east n h = absurd (omega arith)
  heard_more (a ∷ []) (m ∷ ns) west east n h = absurd (omega arith)
  heard_more (a ∷ b ∷ xs) [] west east n h = absurd (omega arith)
  heard_more (a ∷ b ∷ xs) (m ∷ ns) west east n h = ap (λ zs. with_arrivals st a b m ∷ zs) (heard_more xs ns west east n (omega arith))
