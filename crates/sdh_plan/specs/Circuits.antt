-- The circuits that a document asks for, and their checks. The keys and the order are this project's own.
use Rattle.std.specs.Prelude.{ℕ, ◌+◌, ℤ, pos, List, [], ◌∷◌, ◌++◌, not, Option, Some, None, is_none, unwrap_or, codes}
use Rattle.std.specs.Option.{option_map_or}
use Rattle.toml.specs.Data.{Data, Members, no_members, get_member, as_str, as_integer, as_table}
use Rattle.sdh_circuits.specs.Checks.{Wish, has_slot, has_ends, has_two_ends, has_offsets, has_texts, has_traces, is_free_name, has_room}
use Rattle.sdh_circuits.specs.Checks.{circuit_of}
use Rattle.sdh_circuits.specs.Provisioned.{Provisioned}
use Rattle.sdh_circuits.specs.Provisioning.{Provisioning}
use Rattle.sdh_plan.specs.Check.{Check, Fault, checks_at_place}
use Rattle.sdh_plan.specs.Document.{◌>>=◌, integer_at, text_at, has_only}
use Rattle.sdh_plan.specs.declared.reason.Reason.TheVariants as reason

-- the keys that a circuit may have
abbrev pub circuit_keys : List (List ℕ)
circuit_keys =
    codes "name" ∷ codes "from" ∷ codes "to" ∷ codes "slot" ∷ codes "text_a" ∷ codes "text_b"
    ∷ codes "trace_a" ∷ codes "trace_b" ∷ codes "offset_a" ∷ codes "offset_b" ∷ []

-- the text at a key, or `other` where the key is missing
abbrev pub text_or : List ℕ → List ℕ → Members → Option (List ℕ)
text_or other key ms = option_map_or as_str (get_member key ms) (Some other)

-- the integer at a key, and 0 where the key is missing
abbrev pub integer_or_0 : List ℕ → Members → Option ℤ
integer_or_0 key ms = option_map_or as_integer (get_member key ms) (Some (pos 0))

-- what a table asks for, where the needed keys are there and each value has its kind; a missing trace is the name
unfoldable pub wish_in : Members → Option Wish
wish_in ms = do
  name ← text_at (codes "name") ms
  from ← integer_at (codes "from") ms
  to ← integer_at (codes "to") ms
  slot ← integer_at (codes "slot") ms
  text_a ← text_at (codes "text_a") ms
  text_b ← text_at (codes "text_b") ms
  trace_a ← text_or name (codes "trace_a") ms
  trace_b ← text_or name (codes "trace_b") ms
  offset_a ← integer_or_0 (codes "offset_a") ms
  offset_b ← integer_or_0 (codes "offset_b") ms
  Some (record {
    name = name;
    from = from;
    to = to;
    slot = slot;
    offset_a = offset_a;
    offset_b = offset_b;
    text_a = text_a;
    text_b = text_b;
    trace_a = trace_a;
    trace_b = trace_b;
  })

-- the members of a table; none where it is no table
abbrev pub members_of : Data → Members
members_of d = unwrap_or (as_table d) no_members

-- nothing is asked for
abbrev pub no_wish : Wish
no_wish = record {
  name = [];
  from = pos 0;
  to = pos 0;
  slot = pos 0;
  offset_a = pos 0;
  offset_b = pos 0;
  text_a = [];
  text_b = [];
  trace_a = [];
  trace_b = [];
}

-- what a table asks for where it passes the checks
abbrev pub wish_of_table : Members → Wish
wish_of_table ms = unwrap_or (wish_in ms) no_wish

-- the circuit that a table asks for
abbrev pub circuit_of_table : List ℕ → Members → Provisioned
circuit_of_table nodes ms = circuit_of nodes (wish_of_table ms)

-- the checks of a circuit that is asked for, given the circuits before it
unfoldable pub wish_faults : ℕ → List ℕ → List Provisioned → Wish → List Fault
wish_faults slots nodes before wish =
    (reason.Slot, not (has_slot slots wish))
    ∷ (reason.End, not (has_ends nodes wish))
    ∷ (reason.SameEnds, not (has_two_ends wish))
    ∷ (reason.Offset, not (has_offsets wish))
    ∷ (reason.Text, not (has_texts wish))
    ∷ (reason.Trace, not (has_traces wish))
    ∷ (reason.Name, not (is_free_name before wish.name))
    ∷ (reason.Overlap, not (has_room nodes before wish))
    ∷ []

-- all checks of the circuit that a table asks for
unfoldable pub circuit_faults : ℕ → List ℕ → List Provisioned → Members → List Fault
circuit_faults slots nodes before ms =
    (reason.UnknownKey, not (has_only circuit_keys ms))
    ∷ (reason.CircuitField, is_none (wish_in ms))
    ∷ wish_faults slots nodes before (wish_of_table ms)

-- the checks of the circuits from this place on, one after the other
abbrev pub circuits_checks : ℕ → List ℕ → List Provisioned → ℕ → List Data → List Check
circuits_checks slots nodes before place [] = []
circuits_checks slots nodes before place (d ∷ ds) =
    checks_at_place place (circuit_faults slots nodes before (members_of d))
    ++ circuits_checks slots nodes (before ++ circuit_of_table nodes (members_of d) ∷ []) (place + 1) ds

-- the ring that a circuit map keeps: that of its first circuit
abbrev pub kept_ring : List ℕ → List Provisioned → Option (List ℕ)
kept_ring nodes [] = None
kept_ring nodes (circuit ∷ more) = Some nodes

-- the circuit map of these circuits
abbrev pub provisioned : ℕ → List ℕ → List Provisioned → Provisioning
provisioned slots nodes circuits = record { slots = slots; ring = kept_ring nodes circuits; circuits = circuits }
