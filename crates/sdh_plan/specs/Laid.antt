-- What is true while circuits are laid end to end.
use Rattle.std.specs.Prelude.{ℕ, List, pos, ◌≡◌, ◌+◌, ◌%◌, ◌<◌, ◌≤◌, ◌++◌, true, codes}
use Rattle.sdh_ringmap.specs.Places.{eastwards}
use Rattle.sdh_ringmap.specs.Arcs.{holds_span}
use Rattle.sdh_circuits.specs.Provisioned.{Provisioned, arc_of}
use Rattle.sdh_circuits.specs.Checks.{Wish}
use Rattle.sdh_plan.specs.Big.{Laying, next, drawn, name_in}

-- the next circuit starts in the ring, and each circuit before it has a span at least
pub record IsLaying (l : Laying) : Type 0 where
  pub at_inside : l.at < 16
  pub left_few : l.left ≤ 16
  pub from_1 : 1 ≤ l.number
  pub few : l.number + l.left ≤ 17

-- the circuit was laid before: in a lower slot, or in this one under a lower number and on no span that is left
pub record IsLaid (slot : ℕ) (l : Laying) (c : Provisioned) : Type 0 where
  pub number : ℕ
  pub named : c.name ≡ name_in c.slot.0 number
  pub from_1 : 1 ≤ number
  pub few : number ≤ 16
  pub slot_from_1 : 1 ≤ c.slot.0
  pub slot_small : c.slot.0 ≤ slot
  pub by_number : c.slot.0 ≡ slot → number < l.number
  pub apart : c.slot.0 ≡ slot → (span : ℕ) → holds_span 16 (arc_of 16 c) span ≡ true → l.left ≤ eastwards 16 l.at span

-- a circuit as it is asked for (a `Wish`), over `spans` spans from position `at` on, with these texts and offsets
abbrev pub wish_with : ℕ → ℕ → ℕ → List ℕ → List ℕ → List ℕ → ℕ → ℕ → Wish
wish_with slot at spans name text_a text_b offset_a offset_b = record {
  name = name;
  from = pos at;
  to = pos ((at + spans) % 16);
  slot = pos slot;
  offset_a = pos offset_a;
  offset_b = pos offset_b;
  text_a = text_a;
  text_b = text_b;
  trace_a = name;
  trace_b = name;
}

-- a circuit that is laid, as it is asked for, with the offsets that are drawn from a state on
abbrev pub wish_laid : ℕ → ℕ → ℕ → ℕ → ℕ → Wish
wish_laid slot number at spans x =
    wish_with slot at spans (name_in slot number) (name_in slot number ++ codes "a") (name_in slot number ++ codes "b") (drawn x % 783)
    (drawn (next x) % 783)
