-- A circuit met on a side of a node.
use Rattle.std.proofs.Common.{◌≡◌, ℕ, ◌-◌, ◌<◌, suc, true, Some, List, ap, sym, ◌∙◌, arith}
use Rattle.std.specs.Prelude.{slice_get}
use Rattle.sdh_circuits.specs.Provisioned.{Provisioned, arc_of}
use Rattle.sdh_circuits.specs.declared.End.{End}
use Rattle.sdh_circuits.specs.declared.End.TheVariants.{A, B}
use Rattle.sdh_circuits.specs.Ends.{other_end}
use Rattle.sdh_ringmap.specs.Places.{eastwards, neighbour, span_at}
use Rattle.sdh_ringmap.specs.declared.Side.{Side}
use Rattle.sdh_ringmap.specs.declared.Side.TheVariants.{East, West}
use Rattle.sdh_ringmap.proofs.Around.{held_near}
use Rattle.sdh_ringmap.proofs.Going.{going-next, going-to, mirror}
use Rattle.sdh_ringmap.proofs.Sides.{neighbour_back}
use Rattle.sdh_signal.proofs.Seen.{Seen}
use Rattle.sdh_signal.proofs.Sights.{seen-east, seen-west}
use Rattle.sdh_signal.proofs.Views.{AreOnRing, arc_length, holds}
use Rattle.sdh_ringmap.specs.Steps.{going}

-- the end of a circuit from which it leads on side d
abbrev pub near_end : Side → End
near_end East = A
near_end West = B

-- the position of that end
abbrev pub near_at : ℕ → Provisioned → Side → ℕ
near_at n c East = c.from.0
near_at n c West = going n East c.from.0 (arc_length n c)

module _ (n : ℕ) (cs : List Provisioned) (ring : AreOnRing n cs) where
  near : (c : Provisioned) (s : ℕ) → holds n c s ≡ true → eastwards n c.from.0 s < arc_length n c
  unfolding arc_length
  near c s t = held_near n s (arc_of n c) t

  pub seen-on : (index : ℕ) (c : Provisioned) → slice_get cs index ≡ Some c → (d : Side)
      → Seen n cs index c d (near_at n c d) (near_end d) (other_end (near_end d))
  seen-on index c is East = seen-east n cs ring index c is
  seen-on index c is West = seen-west n cs ring index c is

  module _ (some : 0 < n) where
    -- a node whose span on d is of a circuit's arc is some steps from the circuit's end
    pub record IsOnArc (c : Provisioned) (d : Side) (q : ℕ) : Type 0 where
      pub step : ℕ
      pub few : step < (arc_length n c)
      pub there : q ≡ going n d (near_at n c d) step

    pub on-arc : (c : Provisioned) (d : Side) (q : ℕ) → c.from.0 < n → q < n → holds n c (span_at n q d) ≡ true → IsOnArc c d q
    on-arc c East q hc hq t = record { step = eastwards n c.from.0 q; few = near c q t; there = sym (going-to n some c.from.0 q hc hq) }
    on-arc c West q hc hq t =
        let s = neighbour n q West in
        let j = eastwards n c.from.0 s in
        let less : j < (arc_length n c) = near c s t in
        record {
          step = (arc_length n c) - suc j;
          few = omega arith;
          there =
              sym (neighbour_back n q West hq) ∙ ap (λ x. neighbour n x East) (sym (going-to n some c.from.0 s hc (omega arith)))
              ∙ going-next n some East c.from.0 j
              ∙ sym (mirror n some East c.from.0 ((arc_length n c) - suc j) (suc j) (arc_length n c) (omega arith));
        }
