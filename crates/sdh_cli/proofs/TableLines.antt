-- The circuit that a squelch table names in a slot is the one that is there, and lines number by number.
use Rattle.std.proofs.Common.{map, ◌≡◌, ℕ, suc, ◌+◌, ◌<◌, List, [], ◌∷◌, ◌++◌, length, Bool, true, false, cond, Option, Some, None, refl}
use Rattle.std.proofs.Common.{ap, sym, ◌∙◌, arith, append-nil, option_map}
use Rattle.std.specs.Prelude.{slice_get, slice_index}
use Rattle.std.specs.List.{find, flat_map, range_with_len}
use Rattle.std.specs.Option.{option_map_or}
use Rattle.std.proofs.lemmas.Bool.{cond-true, cond-false}
use Rattle.std.proofs.lemmas.Grind.{flat_map-append}
use Rattle.std.proofs.lemmas.List.Folds.{flat_map-map}
use Rattle.std.proofs.lemmas.List.FromFn.{map-range_with_len_more}
use Rattle.std.proofs.lemmas.Option.{slice_get_within}
use Rattle.sdh_circuits.specs.Provisioned.{Provisioned, is_on}
use Rattle.sdh_circuits.specs.Provisioning.{IsProvisioning}
use Rattle.sdh_ringmap.specs.Places.{span_at}
use Rattle.sdh_ringmap.specs.declared.Pos.{Pos}
use Rattle.sdh_ringmap.specs.declared.Side.{Side}
use Rattle.sdh_report.specs.Lines.{table_line}
use Rattle.sdh_squelch.specs.declared.Row.{Row}
use Rattle.sdh_squelch.specs.Table.{SquelchTable, circuit_from, circuit_on, circuits_at, table_of}
use Rattle.sdh_squelch.proofs.LookUps.{row-ends, entry}
use Rattle.sdh_plan.specs.Planned.{Planned, provisioning_of}
use Rattle.sdh_plan.proofs.Following.{circuits_keep_the_ring}
use Rattle.sdh_cli.specs.Tables.{squelch_line, slot_line}

-- a row of a table whose circuits count from i on is that of the circuit that is found
record Names (n s m i : ℕ) (cs : List Provisioned) (r : Row) : Type 0 where
  place : ℕ
  circuit : Provisioned
  number : r.circuit ≡ i + place
  there : slice_get cs place ≡ Some circuit
  found : find (is_on n s m) cs ≡ Some circuit
  from : r.from ≡ circuit.from
  to : r.to ≡ circuit.to

module _ (n s m : ℕ) where
  module _ (i : ℕ) (x : Provisioned) (cs : List Provisioned) where
    abbrev later : Option Row
    later = circuit_from n s m (i + 1) cs

    named_first : (r : Row) → is_on n s m x ≡ true → cond (is_on n s m x) (Some (entry i x)) later ≡ Some r → Names n s m i (x ∷ cs) r
    named_first r on e =
        let first = cond-true (is_on n s m x) (Some (entry i x)) later on in
        let same : entry i x ≡ r = cc in
        record {
          place = 0;
          circuit = x;
          number = ap (λ (y : Row). y.circuit) (sym same) ∙ omega arith;
          there = refl;
          found = cond-true (is_on n s m x) (Some x) (find (is_on n s m) cs) on;
          from = ap (λ (y : Row). y.from) (sym same);
          to = ap (λ (y : Row). y.to) (sym same);
        }

    named_later : (r : Row) → is_on n s m x ≡ false → Names n s m (i + 1) cs r → Names n s m i (x ∷ cs) r
    named_later r off l = record {
      place = suc l.place;
      circuit = l.circuit;
      number = l.number ∙ omega arith;
      there = l.there;
      found = cond-false (is_on n s m x) (Some x) (find (is_on n s m) cs) off ∙ l.found;
      from = l.from;
      to = l.to;
    }

    named_by : (b : Bool) (r : Row) → is_on n s m x ≡ b → cond (is_on n s m x) (Some (entry i x)) later ≡ Some r
        → (later ≡ Some r → Names n s m (i + 1) cs r) → Names n s m i (x ∷ cs) r
    named_by true r on e more = named_first r on e
    named_by false r off e more = named_later r off (more (sym (cond-false (is_on n s m x) (Some (entry i x)) later off) ∙ e))

    none_by : (b : Bool) → is_on n s m x ≡ b → cond (is_on n s m x) (Some (entry i x)) later ≡ None
        → (later ≡ None → find (is_on n s m) cs ≡ None) → find (is_on n s m) (x ∷ cs) ≡ None
    none_by true on e more = let first = cond-true (is_on n s m x) (Some (entry i x)) later on in cc
    none_by false off e more =
        cond-false (is_on n s m x) (Some x) (find (is_on n s m) cs) off
        ∙ more (sym (cond-false (is_on n s m x) (Some (entry i x)) later off) ∙ e)

  names : (i : ℕ) (cs : List Provisioned) (r : Row) → circuit_from n s m i cs ≡ Some r → Names n s m i cs r
  names i [] r e = cc
  names i (x ∷ cs) r e = named_by i x cs (is_on n s m x) r refl e (λ l. names (i + 1) cs r l)

  -- where a table has no row, no circuit is there
  none_from : (i : ℕ) (cs : List Provisioned) → circuit_from n s m i cs ≡ None → find (is_on n s m) cs ≡ None
  none_from i [] e = refl
  none_from i (x ∷ cs) e = none_by i x cs (is_on n s m x) refl e (λ l. none_from (i + 1) cs l)

-- the circuit of number j, with these ends, is the one on a span in a slot
record IsThere (n s m : ℕ) (cs : List Provisioned) (j : ℕ) (ends : Pos × Pos) : Type 0 where
  circuit : Provisioned
  there : slice_get cs j ≡ Some circuit
  found : find (is_on n s m) cs ≡ Some circuit
  from_is : ends.0 ≡ circuit.from
  to_is : ends.1 ≡ circuit.to

module _ (n s m : ℕ) (cs : List Provisioned) (j : ℕ) (ends : Pos × Pos) where
  by_row : (o : Option Row) → circuit_on n cs s m ≡ o → Some j ≡ option_map (λ r. r.circuit) o
      → Some ends ≡ option_map (λ r. (r.from, r.to)) o → IsThere n s m cs j ends
  by_row None e number both = cc
  by_row (Some r) e number both =
      let x = names n s m 0 cs r e in
      let at : x.place ≡ j = (let same : j ≡ r.circuit = cc in let is = x.number in omega arith) in
      let pair : Pos × Pos = (r.from, r.to) in
      let same : ends ≡ pair = cc in
      record {
        circuit = x.circuit;
        there = ap (slice_get cs) (sym at) ∙ x.there;
        found = x.found;
        from_is = ap (λ (y : Pos × Pos). y.0) same ∙ x.from;
        to_is = ap (λ (y : Pos × Pos). y.1) same ∙ x.to;
      }

module _ (nodes : List ℕ) (cs : List Provisioned) (p : ℕ) (d : Side) (m : ℕ) where
  abbrev there : Option Row
  there = circuit_on (length nodes) cs (span_at (length nodes) p d) m

  empty_by : (o : Option Row) → there ≡ o → None ≡ option_map (λ r. r.circuit) o → there ≡ None
  empty_by None e none = e
  empty_by (Some r) e none = cc

  -- no line
  line_none : None ≡ option_map (λ r. r.circuit) there → slot_line nodes cs p d m ≡ []
  unfolding slot_line
  line_none none =
      ap (λ o. option_map_or (squelch_line nodes p d m) o []) (none_from (length nodes) (span_at (length nodes) p d) m 0 cs
      (empty_by there refl none))

  -- the line of the circuit that is there
  line_some : (j : ℕ) (c : Provisioned) (ends : Pos × Pos) → IsThere (length nodes) (span_at (length nodes) p d) m cs j ends
      → slice_get cs j ≡ Some c
      → slot_line nodes cs p d m ≡ table_line (slice_index nodes p) d (record { 0 = m }) c.name (slice_index nodes ends.0.0)
      (slice_index nodes ends.1.0)
  unfolding slot_line
  line_some j c ends is get =
      let same : is.circuit ≡ c = (let x = is.there in cc) in
      let line : Provisioned → Pos → Pos → List ℕ =
      λ x from to. table_line (slice_index nodes p) d (record { 0 = m }) x.name (slice_index nodes from.0) (slice_index nodes to.0) in
      ap (λ o. option_map_or (squelch_line nodes p d m) o []) is.found
      ∙ ap (λ from. line is.circuit from is.circuit.to) (sym is.from_is)
      ∙ ap (λ to. line is.circuit ends.0 to) (sym is.to_is)
      ∙ ap (λ x. line x ends.0 ends.1) same

-- the table of the node at a position of a plan's ring, in a slot on a side
module _ (plan : Planned) (at : Pos) (t : SquelchTable) (same : t ≡ table_of plan.nodes plan.circuits at) (d : Side) (m : ℕ) where
  abbrev n : ℕ
  n = length plan.nodes

  abbrev row_in : SquelchTable → Option Row
  row_in x = circuits_at (length x.ring) x.circuits x.at.0 m d

  -- where the table has no circuit there is no line
  pub no_line : None ≡ option_map (λ r. r.circuit) (row_in t) → slot_line plan.nodes plan.circuits at.0 d m ≡ []
  no_line none = line_none plan.nodes plan.circuits at.0 d m (none ∙ ap (λ x. option_map (λ (r : Row). r.circuit) (row_in x)) same)

  module _ (j : ℕ) (ends : Pos × Pos) (number : Some j ≡ option_map (λ r. r.circuit) (row_in t))
      (both : Some ends ≡ option_map (λ r. (r.from, r.to)) (row_in t)) where
    is_there : IsThere n (span_at n at.0 d) m plan.circuits j ends
    is_there =
        by_row n (span_at n at.0 d) m plan.circuits j ends (circuit_on n plan.circuits (span_at n at.0 d) m) refl
        (number ∙ ap (λ x. option_map (λ (r : Row). r.circuit) (row_in x)) same)
        (both ∙ ap (λ x. option_map {U = Pos × Pos} (λ (r : Row). (r.from, r.to)) (row_in x)) same)

    -- a circuit that the table has is one of the plan's
    pub number_inside : j < length plan.circuits
    number_inside = slice_get_within plan.circuits j is_there.circuit is_there.there

    -- both ends of a circuit in the table are positions of the ring
    pub ends_inside : IsProvisioning (provisioning_of plan) → (ends.0.0 < n) × (ends.1.0 < n)
    ends_inside form =
        row-ends (provisioning_of plan) plan.nodes
        (circuits_keep_the_ring plan) form j is_there.circuit ends.0 ends.1 is_there.there is_there.from_is is_there.to_is

    -- a circuit in the table has its line
    pub its_line : (c : Provisioned) → slice_get plan.circuits j ≡ Some c
        → slot_line plan.nodes plan.circuits at.0 d m ≡ table_line (slice_index plan.nodes at.0) d (record { 0 = m }) c.name
        (slice_index plan.nodes ends.0.0) (slice_index plan.nodes ends.1.0)
    its_line c get = line_some plan.nodes plan.circuits at.0 d m j c ends is_there get

module _ (f : ℕ → List ℕ) (a : ℕ) where
  -- the lines of n numbers from a on, and those of the next one
  pub lines_more : (n j : ℕ) → a + n ≡ j → flat_map f (range_with_len a (n + 1)) ≡ flat_map f (range_with_len a n) ++ f j
  lines_more n j e =
      let same : ℕ → ℕ = λ x. x in
      sym (flat_map-map f same (range_with_len a (n + 1)))
      ∙ ap (flat_map f) (map-range_with_len_more same a n j e)
      ∙ flat_map-append f (map same (range_with_len a n)) (j ∷ [])
      ∙ ap (λ l. l ++ (f j ++ [])) (flat_map-map f same (range_with_len a n))
      ∙ ap (λ l. flat_map f (range_with_len a n) ++ l) (append-nil (f j))
