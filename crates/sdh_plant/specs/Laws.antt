-- Laws of the calls of a plant.
use Rattle.std.specs.Prelude.{ℕ, ◌≡◌, ◌<◌, ◌≤◌, Some, None, List}
use Rattle.sdh_ringmap.specs.declared.terms.Rate.{Rate}
use Rattle.sdh_ringmap.specs.Rates.{n_of}
use Rattle.sdh_ringmap.specs.declared.Side.{Side}
use Rattle.sdh_ringmap.specs.Places.{opposite, neighbour}
use Rattle.sdh_ringmap.specs.declared.terms.Condition.{Condition}
use Rattle.sdh_plant.specs.Fibres.{Fibres, IsPrepared, IsHonest}
use Rattle.sdh_ringmap.specs.Fibres.{IsConditionAt, fibre}
use Rattle.sdh_plant.specs.Arrivals.{Knows, arrival, honest_arrival, through, condition_of}
use Rattle.sdh_plant.specs.Calls.{prepared, after_apply, after_send, after_receive}

-- where there are no told arrivals, a frame that is sent on a side comes to the neighbour there, on its other side, as
-- the condition of the fibre lets it through
abbrev pub SentComes : Type 0
SentComes = (rate : Rate) (n : ℕ) (f : Fibres) (p : ℕ) (d : Side) (bytes : List ℕ) → IsPrepared rate n f → f.told ≡ None → p < n
    → arrival (after_send f p d bytes) (neighbour n p d) (opposite d) ≡ through (n_of rate) (condition_of f (fibre p d)) (Some bytes)

-- where there are no told arrivals, nothing comes out of any fibre right after `prepare`
abbrev pub NewIsDark : Type 0
NewIsDark = (rate : Rate) (n : ℕ) (f : Fibres) (p : ℕ) (d : Side) → f.told ≡ None → arrival (prepared rate n f) p d ≡ None

-- `prepare` makes fibres for its rate and number of positions, and the other calls keep them so
pub record StayPrepared : Type 0 where
  pub prepared : (rate : Rate) (n : ℕ) (f : Fibres) → 2 ≤ n → n ≤ 16 → IsPrepared rate n (prepared rate n f)
  pub apply : (rate : Rate) (n : ℕ) (f : Fibres) (p : ℕ) (d : Side) (condition : Condition) → IsConditionAt rate condition
      → IsPrepared rate n f → IsPrepared rate n (after_apply f p d condition)
  pub send : (rate : Rate) (n : ℕ) (f : Fibres) (p : ℕ) (d : Side) (bytes : List ℕ) → IsPrepared rate n f
      → IsPrepared rate n (after_send f p d bytes)
  pub receive : (rate : Rate) (n : ℕ) (f : Fibres) → IsPrepared rate n f → IsPrepared rate n (after_receive f)

-- honest fibres stay so, and their arrivals are known: what was sent, as the fibre's condition lets it through
pub record StayHonest : Type 0 where
  pub prepared : (rate : Rate) (n : ℕ) (f : Fibres) → IsHonest f → IsHonest (prepared rate n f)
  pub apply : (f : Fibres) (p : ℕ) (d : Side) (condition : Condition) → IsHonest f → IsHonest (after_apply f p d condition)
  pub send : (f : Fibres) (p : ℕ) (d : Side) (bytes : List ℕ) → IsHonest f → IsHonest (after_send f p d bytes)
  pub receive : (f : Fibres) → IsHonest f → IsHonest (after_receive f)
  pub known : (f : Fibres) → IsHonest f → Knows f
  pub arrives : (f : Fibres) (p : ℕ) (d : Side) → IsHonest f → arrival f p d ≡ honest_arrival f p d
