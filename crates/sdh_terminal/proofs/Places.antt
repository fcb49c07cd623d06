-- The places of ports stay the same, and are those of the ring's circuits.
use Rattle.std.proofs.Common.{◌≡◌, ℕ, suc, ◌+◌, ◌*◌, ◌/◌, ◌%◌, ◌<◌, ◌≤◌, Bool, false, nat_lt, None, Option, List, [], ◌∷◌, length, get_or}
use Rattle.std.proofs.Common.{inl, inr, refl, ap, sym, ◌∙◌, arith}
use Rattle.std.specs.Prelude.{◌==◌, if◌then◌else◌, All}
use Rattle.std.specs.List.{position, position_or_len}
use Rattle.std.proofs.lemmas.Bool.{cases_lt, cond_both, ne_eqb}
use Rattle.std.proofs.lemmas.Bool.Decides.{nat_tests}
use Rattle.std.proofs.lemmas.List.{get_or_past}
use Rattle.std.proofs.lemmas.List.Elements.{All-nil, All-cons, All-append}
use Rattle.sdh_basics.specs.Indexed.{map_from}
use Rattle.sdh_basics.specs.Cells.{cells}
use Rattle.sdh_basics.proofs.CellsLaws.{length-map_from, get_or-cells, length-cells}
use Rattle.sdh_ringmap.specs.declared.Pos.{Pos}
use Rattle.sdh_ringmap.specs.declared.Side.TheVariants.{West, East}
use Rattle.sdh_circuits.specs.Provisioned.{Provisioned}
use Rattle.sdh_circuits.specs.declared.End.{End}
use Rattle.sdh_circuits.specs.declared.End.TheVariants.{A, B}
use Rattle.sdh_circuits.specs.declared.PortId.{PortId}
use Rattle.sdh_circuits.specs.Ends.{end_number, port_number}
use Rattle.sdh_terminal.specs.Tributaries.{Tributary, new_tributary, tributaries_of, tributaries_from, tributaries_at, is_port, fed}
use Rattle.sdh_terminal.specs.Tributaries.{all_fed}
use Rattle.sdh_terminal.specs.Places.{port_numbered, ArePlaces}

first-mapped : (p : Tributary → Bool) (f : ℕ → Tributary → Tributary) → ((k : ℕ) (t : Tributary) → p (f k t) ≡ p t)
    → (i : ℕ) (ts : List Tributary) → position_or_len p (map_from f i ts) ≡ position_or_len p ts
first-mapped p f same i [] = refl
first-mapped p f same i (t ∷ ts) = rw (same i t, first-mapped p f same (i + 1) ts) refl

-- a change of all ports that leaves their names leaves their places
pub place-mapped : (p : Tributary → Bool) (f : ℕ → Tributary → Tributary) → ((k : ℕ) (t : Tributary) → p (f k t) ≡ p t) → (ts : List Tributary)
    → position p (map_from f 0 ts) ≡ position p ts
place-mapped p f same ts = rw (first-mapped p f same 0 ts, length-map_from f 0 ts) refl

pub fed_stay : (places : List (Option ℕ)) (ports : List Tributary) → ArePlaces places ports → ArePlaces places (all_fed ports)
unfolding all_fed
fed_stay places ports are = λ id. are id ∙ sym (place-mapped (is_port id) (λ i t. fed t) (λ k t. refl) ports)

-- ---- the places of a new node's ports

numbered-back : (id : PortId) → port_numbered (port_number id) ≡ id
numbered-back id = go id.circuit id.end
  where
    go : (c : ℕ) (e : End) → port_numbered (port_number (record { circuit = c; end = e })) ≡ record { circuit = c; end = e }
    go c A =
        let h : (2 * c + 0) / 2 ≡ c = omega arith in
        let r : (2 * c + 0) % 2 ≡ 0 = omega arith in
        λ i. record { circuit = h i; end = if r i == 0 then A else B }
    go c B =
        let h : (2 * c + 1) / 2 ≡ c = omega arith in
        let r : (2 * c + 1) % 2 ≡ 1 = omega arith in
        λ i. record { circuit = h i; end = if r i == 0 then A else B }

first-none : (p : Tributary → Bool) (ts : List Tributary) → All (λ t. p t ≡ false) ts → position_or_len p ts ≡ length ts
first-none p [] all = refl
first-none p (t ∷ ts) all = let here : p t ≡ false = all 0 t (omega arith) in let rest =
    first-none p ts (λ k d lt. all (suc k) d (omega arith)) in rw here (omega (arith, rest))

none-there : (p : Tributary → Bool) (ts : List Tributary) → All (λ t. p t ≡ false) ts → position p ts ≡ None
none-there p ts all =
    let n : position_or_len p ts ≡ length ts = first-none p ts all in
    let t : nat_lt (length ts) (length ts) ≡ false = grind (arith, nat_tests) in
    rw (n, t) refl

-- the circuit of each port is one of the ring's
below : (at : Pos) (i : ℕ) (circuits : List Provisioned) → All (λ t. t.port.circuit < i + length circuits) (tributaries_from at i circuits)
below at i [] = All-nil (λ t. t.port.circuit < i + 0)
below at i (c ∷ cs) =
    let p : Tributary → Type 0 = λ t. t.port.circuit < i + length (c ∷ cs) in
    let a = new_tributary i A East c.slot c.a in
    let b = new_tributary i B West c.slot c.b in
    All-append p (tributaries_of at i c) (tributaries_from at (i + 1) cs)
    (All-append p (if c.from.0 == at.0 then a ∷ [] else []) (if c.to.0 == at.0 then b ∷ [] else [])
    (cond_both (c.from.0 == at.0) (a ∷ []) [] (All p) (λ _. All-cons p a [] (omega arith) (All-nil p)) (λ _. All-nil p))
    (cond_both (c.to.0 == at.0) (b ∷ []) [] (All p) (λ _. All-cons p b [] (omega arith) (All-nil p)) (λ _. All-nil p)))
    (λ k d lt. omega (arith, below at (i + 1) cs k d lt))

other : (id : PortId) (t : Tributary) → t.port.circuit < id.circuit → is_port id t ≡ false
other id t h = let apart : (t.port.circuit == id.circuit) ≡ false = ne_eqb t.port.circuit id.circuit (λ e. omega arith) in rw apart refl

beyond : (at : Pos) (circuits : List Provisioned) (id : PortId) → length circuits ≤ id.circuit
    → position (is_port id) (tributaries_at at circuits) ≡ None
unfolding tributaries_at
beyond at circuits id h =
    none-there (is_port id) (tributaries_from at 0 circuits) (λ k d lt. other id (get_or (tributaries_from at 0 circuits) k d)
    (omega (arith, below at 0 circuits k d lt)))

few : (e : End) → end_number e ≤ 1
few A = omega arith
few B = omega arith

pub new_places : (at : Pos) (circuits : List Provisioned) (ports : List Tributary) (places : List (Option ℕ))
    → ports ≡ tributaries_at at circuits
    → places ≡ cells (λ k. position (is_port (port_numbered k)) ports) (2 * length circuits) → ArePlaces places ports
new_places at circuits ports places is made = λ id.
    (let f : ℕ → Option ℕ = λ k. position (is_port (port_numbered k)) ports in
    let n = 2 * length circuits in
    ap (λ ps. get_or ps (port_number id) None) made
    ∙ elim (cases_lt (port_number id) n) [
      | inl low ↦ get_or-cells f n (port_number id) None low ∙ ap (λ j. position (is_port j) ports) (numbered-back id)
      | inr high ↦
          get_or_past (cells f n) (port_number id) None (omega (arith, length-cells f n))
          ∙ sym (ap (position (is_port id)) is ∙ beyond at circuits id (omega (arith, few id.end)))
    ])
