-- What is asked for a circuit, the checks in their order, and the circuit that is then added. The rules are
-- this project's own.
use Rattle.std.specs.Prelude.{ℕ, ℤ, pos, negsuc, Bool, false, ◌&&◌, not, ◌==◌, nat_le, if◌then◌else◌, List, [], ◌∷◌, ◌++◌, length, Option}
use Rattle.std.specs.Prelude.{Some, None}
use Rattle.std.specs.List.{list_any, range_with_len}
use Rattle.std.specs.Option.{is_some, unwrap_or}
use Rattle.std.specs.Ordering.{int_eq}
use Rattle.std.specs.Str.{bytes_eq}
use Rattle.sdh_ringmap.specs.declared.Pos.{Pos}
use Rattle.sdh_ringmap.specs.Numbering.{is_id, magnitude}
use Rattle.sdh_ringmap.specs.Places.{found_at}
use Rattle.sdh_ringmap.specs.Arcs.{holds_span}
use Rattle.sdh_payload.specs.Customer.{is_text}
use Rattle.sdh_circuits.specs.Naming.{is_name}
use Rattle.sdh_circuits.specs.Provisioned.{Provisioned, arc_of}
use Rattle.sdh_circuits.specs.Provisioning.{Provisioning}
use Rattle.sdh_circuits.specs.declared.Asked.{Asked}
use Rattle.sdh_circuits.specs.declared.AddError.{AddError}
use Rattle.sdh_circuits.specs.declared.AddError.TheVariants as refused

-- a circuit as it is asked for: nodes by their identifiers, and for each end text, trace and offset
pub record Wish : Type 0 where
  pub name : List ℕ
  pub from : ℤ
  pub to : ℤ
  pub slot : ℤ
  pub offset_a : ℤ
  pub offset_b : ℤ
  pub text_a : List ℕ
  pub text_b : List ℕ
  pub trace_a : List ℕ
  pub trace_b : List ℕ

-- the circuit that the code's caller asks for
abbrev pub wish_of : Asked → Wish
wish_of asked = record {
  name = asked.name.now;
  from = asked.from;
  to = asked.to;
  slot = asked.slot;
  offset_a = asked.offset_a;
  offset_b = asked.offset_b;
  text_a = asked.text_a.now;
  text_b = asked.text_b.now;
  trace_a = asked.trace_a.now;
  trace_b = asked.trace_b.now;
}

-- the number is from `least` to `most`
abbrev pub is_within : ℕ → ℕ → ℤ → Bool
is_within least most (pos n) = nat_le least n && nat_le n most
is_within least most (negsuc n) = false

-- the position of the node with this number, if there is one: a number that is no identifier is no node's
abbrev pub node_of : List ℕ → ℤ → Option Pos
node_of ids number = if is_id number then found_at ids (magnitude number) else None

-- two circuits of a ring of n share a span and a slot
unfoldable pub do_share : ℕ → Provisioned → Provisioned → Bool
do_share n c d =
    c.slot.0 == d.slot.0 && list_any (λ span. holds_span n (arc_of n c) span && holds_span n (arc_of n d) span) (range_with_len 0 n)

-- the position of the node with this number, where it is in the ring
abbrev pub position_of_node : List ℕ → ℤ → Pos
position_of_node ids number = unwrap_or (node_of ids number) (record { 0 = 0 })

-- the circuit that is asked for, in the ring of these identifiers
abbrev pub circuit_of : List ℕ → Wish → Provisioned
circuit_of ids wish = record {
  name = wish.name;
  from = position_of_node ids wish.from;
  to = position_of_node ids wish.to;
  slot = record { 0 = magnitude wish.slot };
  a = record { text = wish.text_a; trace = wish.trace_a; offset = magnitude wish.offset_a };
  b = record { text = wish.text_b; trace = wish.trace_b; offset = magnitude wish.offset_b };
}

-- the slot is one of the working slots
abbrev pub has_slot : ℕ → Wish → Bool
has_slot slots wish = is_within 1 slots wish.slot

-- both ends are nodes of the ring
abbrev pub has_ends : List ℕ → Wish → Bool
has_ends ids wish = is_some (node_of ids wish.from) && is_some (node_of ids wish.to)

-- the ends are two nodes
abbrev pub has_two_ends : Wish → Bool
has_two_ends wish = not (int_eq wish.from wish.to)

-- both offsets are 0 to 782
abbrev pub has_offsets : Wish → Bool
has_offsets wish = is_within 0 782 wish.offset_a && is_within 0 782 wish.offset_b

-- both texts have 1 to 64 bytes, each from 0x20 to 0x7E
abbrev pub has_texts : Wish → Bool
has_texts wish = is_text wish.text_a && is_text wish.text_b

-- both traces have 1 to 64 bytes, each from 0x20 to 0x7E
abbrev pub has_traces : Wish → Bool
has_traces wish = is_text wish.trace_a && is_text wish.trace_b

-- the name is 1 to 16 bytes that may stand in a name, and no circuit has it
abbrev pub is_free_name : List Provisioned → List ℕ → Bool
is_free_name circuits name = is_name name && not (list_any (λ c. bytes_eq c.name name) circuits)

-- no circuit shares a span and a slot with the one that is asked for
abbrev pub has_room : List ℕ → List Provisioned → Wish → Bool
has_room ids circuits wish = not (list_any (do_share (length ids) (circuit_of ids wish)) circuits)

-- the checks in their order, each with the error that is returned where it fails
unfoldable pub wish_checks : Provisioning → List ℕ → Wish → List (Bool × AddError)
wish_checks before ids wish =
    (has_slot before.slots wish, refused.Slot)
    ∷ ((has_ends ids wish, refused.End)
    ∷ ((has_two_ends wish, refused.SameEnds)
    ∷ ((has_offsets wish, refused.Offset)
    ∷ ((has_texts wish, refused.Text)
    ∷ ((has_traces wish, refused.Trace)
    ∷ ((is_free_name before.circuits wish.name, refused.Name)
    ∷ ((has_room ids before.circuits wish, refused.Overlap)
    ∷ [])))))))

-- the error of the first check that fails, if one does
abbrev pub first_failing : List (Bool × AddError) → Option AddError
first_failing [] = None
first_failing (check ∷ later) = if check.0 then first_failing later else Some check.1

-- why the circuit that is asked for can't be added: the error of the first check that fails
unfoldable pub refusal : Provisioning → List ℕ → Wish → Option AddError
refusal before ids wish = first_failing (wish_checks before ids wish)

-- the circuit map after the circuit was added: it stands after the others, and the map keeps the ring
abbrev pub with_circuit : Provisioning → List ℕ → Provisioned → Provisioning
with_circuit before ids circuit = record { slots = before.slots; ring = Some ids; circuits = before.circuits ++ circuit ∷ [] }
