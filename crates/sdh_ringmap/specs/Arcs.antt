-- Arcs of a ring and the spans that they hold.
use Rattle.std.specs.Prelude.{ℕ, zero, suc, ◌+◌, ◌-◌, ◌%◌, Bool, true, ◌&&◌, ◌||◌, not, nat_lt, ◌==◌, List}
use Rattle.std.specs.List.{list_any}
use Rattle.sdh_ringmap.specs.Places.{eastwards}
use Rattle.sdh_ringmap.specs.declared.Span.{Span}

-- A part of a ring that leads eastwards: the position at which it starts, and its number of spans, 1 to n - 1.
pub record Arc : Type 0 where
  pub start : ℕ
  pub spans : ℕ

-- In a ring of n nodes the arc holds span s. That is so where s is a span of the ring, and the number of spans from the
-- arc's start to the west end of s is less than the arc's number of spans.
unfoldable pub holds_span : ℕ → Arc → ℕ → Bool
holds_span n arc s = nat_lt s n && nat_lt (eastwards n arc.start s) arc.spans

-- the arc that leads eastwards from one position to another
abbrev pub arc_between : ℕ → ℕ → ℕ → Arc
arc_between n from to = record { start = from; spans = eastwards n from to }

-- the arc that holds all other spans: from the end of an arc eastwards to its start
abbrev pub opposite_arc : ℕ → Arc → Arc
opposite_arc n arc = record { start = (arc.start + arc.spans) % n; spans = n - arc.spans }

-- the span at place i of an arc, counted from its start; the places from its length to n - 1 are those of the opposite
-- arc
abbrev pub arc_span : ℕ → Arc → ℕ → ℕ
arc_span n arc i = (arc.start + i) % n

-- p is false at each of the k places from i on
abbrev pub none_of : (ℕ → Bool) → ℕ → ℕ → Bool
none_of p i zero = true
none_of p i (suc k) = not (p i) && none_of p (suc i) k

-- the arc holds no applied span, where `applied s` says whether span s is applied
unfoldable pub is_clear : ℕ → (ℕ → Bool) → Arc → Bool
is_clear n applied arc = none_of (λ i. applied (arc_span n arc i)) 0 arc.spans

-- the two ends of an arc are joined: it holds no applied span, or the opposite arc holds none
unfoldable pub is_joined : ℕ → (ℕ → Bool) → Arc → Bool
is_joined n applied arc = is_clear n applied arc || is_clear n applied (opposite_arc n arc)

-- span s is one of the spans of the list
abbrev pub is_among : List Span → ℕ → Bool
is_among spans s = list_any (λ x. x.0 == s) spans
