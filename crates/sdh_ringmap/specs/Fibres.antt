-- The numbers of a ring's fibres, and their conditions. Both are this project's own. A span has two fibres, one in each
-- direction, as in a two-fibre ring of ITU-T G.841.
use Rattle.std.specs.Prelude.{ℕ, ◌+◌, ◌*◌, ◌≤◌, true, false, Bool}
use Rattle.sdh_ringmap.specs.declared.Side.{Side}
use Rattle.sdh_ringmap.specs.declared.Side.TheVariants.{West, East}
use Rattle.sdh_ringmap.specs.Places.{opposite, neighbour}
use Rattle.sdh_ringmap.specs.declared.terms.Rate.{Rate}
use Rattle.sdh_ringmap.specs.declared.terms.Condition.{Condition}
use Rattle.sdh_ringmap.specs.declared.terms.Condition.TheVariants.{Clear, Cut, Degraded}
use Rattle.sdh_ringmap.specs.Rates.{n_of}

-- the fibre that leaves position p on that side
abbrev pub fibre : ℕ → Side → ℕ
fibre p West = 2 * p
fibre p East = 2 * p + 1

-- the fibre that ends at position p on that side, in a ring of n: it leaves the neighbour there on the other side
abbrev pub fibre_to : ℕ → ℕ → Side → ℕ
fibre_to n p d = fibre (neighbour n p d) (opposite d)

-- a fibre may have this condition at this rate: a degradation affects 1 to 3N columns
abbrev pub IsConditionAt : Rate → Condition → Type 0
IsConditionAt rate Clear = Unit {0}
IsConditionAt rate Cut = Unit {0}
IsConditionAt rate (Degraded k) = (1 ≤ k) × (k ≤ 3 * n_of rate)

-- a fibre in this condition is cut
abbrev pub is_cut : Condition → Bool
is_cut Cut = true
is_cut Clear = false
is_cut (Degraded k) = false

-- the number of bits of a frame that a fibre in this condition inverts, all of them in section overhead that carries
-- nothing
abbrev pub degraded_by : Condition → ℕ
degraded_by (Degraded k) = k
degraded_by Clear = 0
degraded_by Cut = 0
