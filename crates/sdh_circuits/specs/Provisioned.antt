-- A circuit as contracts see it.
use Rattle.std.specs.Prelude.{ℕ, ◌≡◌, Bool, true, false, ◌&&◌, ◌==◌, List, Some, slice_get}
use Rattle.sdh_ringmap.specs.declared.Pos.{Pos}
use Rattle.sdh_ringmap.specs.Arcs.{Arc, arc_between, holds_span}
use Rattle.sdh_payload.specs.Customer.{Customer}
use Rattle.sdh_circuits.specs.declared.Slot.{Slot}
use Rattle.sdh_circuits.specs.declared.PortId.{PortId}
use Rattle.sdh_circuits.specs.declared.End.{End}
use Rattle.sdh_circuits.specs.declared.End.TheVariants.{A, B}

-- A circuit leads eastwards from one position along its arc to another, in one working slot of each span.
-- Port a is at its start and port b at its end. It carries both directions.
pub record Provisioned : Type 0 where
  pub name : List ℕ
  pub from : Pos
  pub to : Pos
  pub slot : Slot
  pub a : Customer
  pub b : Customer

-- the circuit's arc, in a ring of n
abbrev pub arc_of : ℕ → Provisioned → Arc
arc_of n c = arc_between n c.from.0 c.to.0

-- the circuit is on this span in this slot
abbrev pub is_on : ℕ → ℕ → ℕ → Provisioned → Bool
is_on n span slot c = c.slot.0 == slot && holds_span n (arc_of n c) span

-- the customer who sends at an end of the circuit
abbrev pub customer_at : Provisioned → End → Customer
customer_at c A = c.a
customer_at c B = c.b

abbrev pub same_end : End → End → Bool
same_end A A = true
same_end B B = true
same_end A B = false
same_end B A = false

-- two port identifiers are those of one port
abbrev pub same_port : PortId → PortId → Bool
same_port p q = (p.circuit == q.circuit) && same_end p.end q.end

-- no two circuits share a span and a slot
abbrev pub AreApart : ℕ → List Provisioned → Type 0
AreApart n circuits = (i j span : ℕ) (c d : Provisioned) → slice_get circuits i ≡ Some c → slice_get circuits j ≡ Some d →
    holds_span n (arc_of n c) span ≡ true → holds_span n (arc_of n d) span ≡ true → c.slot ≡ d.slot → i ≡ j

-- the position of a circuit's port: A where its arc starts, B where it ends
abbrev pub end_of : Provisioned → End → Pos
end_of c A = c.from
end_of c B = c.to
