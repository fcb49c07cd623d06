-- The large plan of a number: sixteen nodes, both working slots full of circuits, and cuts of two spans. The plan is
-- this project's own. What varies in it is drawn by a linear congruential generator.
use Rattle.std.specs.Prelude.{ℕ, zero, suc, ◌+◌, ◌-◌, ◌*◌, ◌/◌, ◌%◌, ◌==◌, if◌then◌else◌, min, List, [], ◌∷◌, ◌++◌, codes, decimal}
use Rattle.sdh_ringmap.specs.declared.terms.Rate.TheVariants.{Four}
use Rattle.sdh_ringmap.specs.Places.{position_of}
use Rattle.sdh_ringmap.specs.declared.Side.{Side}
use Rattle.sdh_ringmap.specs.declared.Side.TheVariants.{West, East}
use Rattle.sdh_circuits.specs.Provisioned.{Provisioned}
use Rattle.sdh_payload.specs.Customer.{Customer}
use Rattle.sdh_ringmap.specs.declared.terms.Condition.{Condition}
use Rattle.sdh_ringmap.specs.declared.terms.Condition.TheVariants.{Clear, Cut}
use Rattle.sdh_request.specs.declared.settings.Settings.{Settings}
use Rattle.sdh_plan.specs.declared.step.Step.{Step}
use Rattle.sdh_plan.specs.declared.step.Step.TheVariants as step
use Rattle.sdh_plan.specs.Planned.{Planned}

-- the generator's state after a draw
unfoldable pub next : ℕ → ℕ
next x = (x * 1664525 + 1013904223) % 4294967296

-- what is drawn in a state: the upper half of the next state's 32 bits
abbrev pub drawn : ℕ → ℕ
drawn x = next x / 65536

-- Circuits of a slot are laid end to end eastwards, until each span has one. This is how far that has come.
pub record Laying : Type 0 where
  -- the number of the next circuit, from 1 in each slot
  pub number : ℕ
  -- the position where it starts
  pub at : ℕ
  -- the number of spans that have no circuit yet
  pub left : ℕ
  -- the generator's state
  pub state : ℕ

-- the first circuit of a slot starts at a position that is drawn
abbrev pub slot_begun : ℕ → Laying
slot_begun x = record { number = 1; at = drawn x % 16; left = 16; state = next x }

-- the next circuit has 1 to 5 spans, and no more than are left
abbrev pub spans_of : Laying → ℕ
spans_of l = min (1 + drawn l.state % 5) l.left

-- the position where the next circuit of a slot ends
abbrev pub laying_end : Laying → ℕ
laying_end l = (l.at + spans_of l) % 16

-- three draws follow the state with which a circuit begins: its number of spans, and the offset at each end
abbrev pub with_next : Laying → Laying
with_next l = record { number = l.number + 1; at = laying_end l; left = l.left - spans_of l; state = next (next (next l.state)) }

-- a circuit's name in a slot
abbrev pub name_in : ℕ → ℕ → List ℕ
name_in slot number = codes "c" ++ (decimal slot ++ (codes "-" ++ decimal number))

-- the customer at an end of a circuit: its text is the circuit's name and a letter, its path trace the name
abbrev pub customer_of : List ℕ → List ℕ → ℕ → Customer
customer_of name letter offset = record { text = name ++ letter; trace = name; offset = offset }

-- the circuit of this number over `spans` spans from a position on, with the offsets that are drawn from a state on
abbrev pub laid_circuit : ℕ → ℕ → ℕ → ℕ → ℕ → Provisioned
laid_circuit slot number at spans x = record {
  name = name_in slot number;
  from = position_of at;
  to = position_of ((at + spans) % 16);
  slot = record { 0 = slot };
  a = customer_of (name_in slot number) (codes "a") (drawn x % 783);
  b = customer_of (name_in slot number) (codes "b") (drawn (next x) % 783);
}

-- the next circuit
abbrev pub next_circuit : ℕ → Laying → Provisioned
next_circuit slot l = laid_circuit slot l.number l.at (spans_of l) (next l.state)

-- the next circuits of a slot, at most a given number
abbrev pub circuits_from : ℕ → ℕ → Laying → List Provisioned
circuits_from zero slot l = []
circuits_from (suc most) slot l = if l.left == 0 then [] else next_circuit slot l ∷ circuits_from most slot (with_next l)

-- the generator's state after the next circuits of a slot, at most a given number
abbrev pub state_behind : ℕ → Laying → ℕ
state_behind zero l = l.state
state_behind (suc most) l = if l.left == 0 then l.state else state_behind most (with_next l)

-- the circuits of a slot: each has a span, so there are 16 at most
unfoldable pub slot_circuits : ℕ → ℕ → List Provisioned
slot_circuits slot x = circuits_from 16 slot (slot_begun x)

-- the generator's state after a slot
unfoldable pub behind_slot : ℕ → ℕ
behind_slot x = state_behind 16 (slot_begun x)

-- the circuits of both slots
abbrev pub big_circuits : ℕ → List Provisioned
big_circuits x = slot_circuits 1 x ++ slot_circuits 2 (behind_slot x)

-- the fibre that leaves a position on a side comes into a condition
abbrev pub fibre_comes : Condition → ℕ → Side → Step
fibre_comes condition at side = step.Fibre (record { at = position_of at; side = side; condition = condition })

-- both fibres of a span come into a condition, the one eastwards first
abbrev pub span_comes : Condition → ℕ → List Step
span_comes condition span = fibre_comes condition span East ∷ fibre_comes condition ((span + 1) % 16) West ∷ []

-- One span is cut and then another, and they are mended in this order. Then the moment comes at which the sides
-- of both spans have waited to restore. Rounds run before the first of these and after each.
abbrev pub big_steps : ℕ → ℕ → List Step
big_steps u v =
    step.Settle ∷ (span_comes Cut u ++ step.Settle ∷ (span_comes Cut v ++ step.Settle
    ∷ (span_comes Clear u ++ step.Settle ∷ (span_comes Clear v ++ step.Settle
    ∷ (step.Moment (record { 0 = 10 }) ∷ (step.Settle ∷ []))))))

-- the first span that is cut
abbrev pub first_cut : ℕ → ℕ
first_cut x = drawn x % 16

-- the second span that is cut, which is another one
abbrev pub second_cut : ℕ → ℕ
second_cut x = (first_cut x + 1 + drawn (next x) % 15) % 16

-- the script, drawn after both slots
abbrev pub big_script : ℕ → List Step
big_script x = big_steps (first_cut x) (second_cut x)

-- the nodes, each with its position as identifier
abbrev pub big_nodes : List ℕ
big_nodes = 0 ∷ 1 ∷ 2 ∷ 3 ∷ 4 ∷ 5 ∷ 6 ∷ 7 ∷ 8 ∷ 9 ∷ 10 ∷ 11 ∷ 12 ∷ 13 ∷ 14 ∷ 15 ∷ []

-- what an operator sets: STM-4, three violations degrade a side, and it waits 10 moments to restore
abbrev pub big_settings : Settings
big_settings = record { rate = Four; threshold = 3; wait = 10 }

-- the plan of a number, which is the generator's first state
unfoldable pub big_planned : ℕ → Planned
big_planned number = record {
  settings = big_settings;
  limit = 4096;
  nodes = big_nodes;
  circuits = big_circuits number;
  steps = big_script (behind_slot (behind_slot number));
}
