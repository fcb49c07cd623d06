-- Where the two ends of an arc are joined, and the way that leads from one to the other. A ring has n nodes, and
-- `applied s` says whether span s is applied.
use Rattle.std.specs.Prelude.{ℕ, zero, suc, ◌+◌, ◌-◌, ◌*◌, Bool, if◌then◌else◌, List, [], ◌∷◌, ◌++◌, reverse}
use Rattle.sdh_ringmap.specs.Arcs.{Arc, arc_span, is_clear}

-- the number of places, of the k from i on, that come before the first one at which p holds; k where p holds at none
abbrev pub places_before : (ℕ → Bool) → ℕ → ℕ → ℕ
places_before p i zero = 0
places_before p i (suc k) = if p i then 0 else suc (places_before p (suc i) k)

-- the last of the places 0 to k - 1 at which p holds, or 0
abbrev pub last_place : (ℕ → Bool) → ℕ → ℕ
last_place p zero = 0
last_place p (suc k) = if p k then k else last_place p k

module _ (n : ℕ) (applied : ℕ → Bool) (arc : Arc) where
  -- the span at place i of the arc is applied
  abbrev pub applied_at_place : ℕ → Bool
  applied_at_place i = applied (arc_span n arc i)

  -- the place of the arc's first applied span, counted from 0; the arc's number of spans where none is applied
  abbrev pub first_applied : ℕ
  first_applied = places_before applied_at_place 0 arc.spans

  -- the place of the arc's last applied span, counted from 0; 0 where none is applied
  abbrev pub last_applied : ℕ
  last_applied = last_place applied_at_place arc.spans

  -- The number of spans of the route between the ends of the arc, where they are joined. A clear arc is the route.
  -- Otherwise the route leads along the arc to the first applied span, at place f. From there it leads back the other
  -- way round to the far side of the last applied span, at place l, and along the arc to its end.
  unfoldable pub hops : ℕ
  hops = let f = first_applied in let l = last_applied in
      if is_clear n applied arc then arc.spans else (2 * f + n + arc.spans) - 2 * (l + 1)

  -- the k spans from place i on, in the direction of the arc; the places from the arc's length to n - 1 are those of
  -- the opposite arc, and from place n on those of the arc come again
  abbrev pub spans_from : ℕ → ℕ → List ℕ
  spans_from i zero = []
  spans_from i (suc k) = arc_span n arc i ∷ spans_from (suc i) k

  -- the route from the start of the arc to its end, span by span
  unfoldable pub route : List ℕ
  route = let f = first_applied in let l = last_applied in
      if is_clear n applied arc then spans_from 0 arc.spans else
      spans_from 0 f ++ (reverse (spans_from (l + 1) (n + f - (l + 1))) ++ spans_from (l + 1) (arc.spans - (l + 1)))
