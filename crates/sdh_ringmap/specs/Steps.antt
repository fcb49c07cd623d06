-- Positions reached from a position by steps towards one side, round the ring as often as needed.
use Rattle.std.specs.Prelude.{ℕ, ◌+◌, ◌-◌, ◌*◌, ◌%◌}
use Rattle.sdh_ringmap.specs.Places.{span_at}
use Rattle.sdh_ringmap.specs.declared.Side.{Side}
use Rattle.sdh_ringmap.specs.declared.Side.TheVariants.{West, East}

-- the position reached from p by i steps towards side d, in a ring of n
unfoldable pub going : ℕ → Side → ℕ → ℕ → ℕ
going n East p i = (p + i) % n
going n West p i = (p + i * (n - 1)) % n

-- the span that step i + 1 from p towards side d crosses
abbrev pub way : ℕ → Side → ℕ → ℕ → ℕ
way n d p i = span_at n (going n d p i) d
