-- Ports, with more slips that wait at one of them.
use Rattle.std.proofs.Common.{◌≡◌, ℕ, zero, suc, ◌+◌, ◌<◌, ◌≤◌, Bool, true, false, Some, None, Option, List, [], ◌∷◌, length, set, get_or, map}
use Rattle.std.proofs.Common.{inl, inr, refl, ap, sym, ◌∙◌, arith}
use Rattle.std.specs.Prelude.{◌==◌, ◌&&◌, if◌then◌else◌, All}
use Rattle.std.specs.List.{position, position_or_len}
use Rattle.std.specs.Option.{option_map, option_map_or}
use Rattle.std.proofs.lemmas.Bool.{eqb-true, eq-eqb, ne_eqb, cases_eq}
use Rattle.std.proofs.lemmas.List.{length-map}
use Rattle.std.proofs.lemmas.List.Elements.{All-nil, All-cons}
use Rattle.std.proofs.lemmas.List.Quantifiers.{position-Some}
use Rattle.sdh_payload.specs.declared.clock.Turn.{Turn}
use Rattle.sdh_payload.specs.declared.clock.Turn.TheVariants.{Up, Down}
use Rattle.sdh_payload.specs.Clock.{Clock, IsClock, waiting, with_waiting}
use Rattle.sdh_circuits.specs.declared.End.{End}
use Rattle.sdh_circuits.specs.declared.End.TheVariants.{A, B}
use Rattle.sdh_circuits.specs.declared.PortId.{PortId}
use Rattle.sdh_circuits.specs.Provisioned.{same_end, same_port}
use Rattle.sdh_terminal.specs.Tributaries.{Tributary, is_port, port_of, waiting_of, slipped, with_slips, IsTributary}
use Rattle.sdh_terminal.specs.Places.{ArePlaces}
use Rattle.sdh_terminal.proofs.Ports.{port_found}

-- ---- their places

-- what slips leave of each port is left of all of them
pub map-with_slips : {A : Type 0} (f : Tributary → A) → ((turn : Turn) (count : ℕ) (t : Tributary) → f (slipped turn count t) ≡ f t)
    → (id : PortId) (turn : Turn) (count : ℕ) (ts : List Tributary) → map f (with_slips id turn count ts) ≡ map f ts
unfolding with_slips
map-with_slips f same id turn count [] = refl
map-with_slips {A} f same id turn count (t ∷ ts) = go (is_port id t) (map-with_slips f same id turn count ts)
  where
    go : (b : Bool) → map f (with_slips id turn count ts) ≡ map f ts
        → map f (if b then slipped turn count t ∷ ts else t ∷ with_slips id turn count ts) ≡ map f (t ∷ ts)
    go true rest = ap (λ (a : A). a ∷ map f ts) (same turn count t)
    go false rest = ap (λ (others : List A). f t ∷ others) rest

pub length-with_slips : (id : PortId) (turn : Turn) (count : ℕ) (ts : List Tributary) → length (with_slips id turn count ts) ≡ length ts
length-with_slips id turn count ts =
    let port : Tributary → PortId = λ t. t.port in
    sym (length-map (with_slips id turn count ts) port) ∙ ap length (map-with_slips port (λ turn count t. refl) id turn count ts)
    ∙ length-map ts port

first-slipped : (other id : PortId) (turn : Turn) (count : ℕ) (ts : List Tributary)
    → position_or_len (is_port other) (with_slips id turn count ts) ≡ position_or_len (is_port other) ts
unfolding with_slips
first-slipped other id turn count [] = refl
first-slipped other id turn count (t ∷ ts) = go (is_port id t) refl (first-slipped other id turn count ts)
  where
    go : (b : Bool) → is_port id t ≡ b → position_or_len (is_port other) (with_slips id turn count ts) ≡ position_or_len (is_port other) ts
        → position_or_len (is_port other) (with_slips id turn count (t ∷ ts)) ≡ position_or_len (is_port other) (t ∷ ts)
    go true e rest = rw e refl
    go false e rest = rw (e, rest) refl

place-slipped : (other id : PortId) (turn : Turn) (count : ℕ) (ts : List Tributary)
    → position (is_port other) (with_slips id turn count ts) ≡ position (is_port other) ts
place-slipped other id turn count ts = rw (first-slipped other id turn count ts, length-with_slips id turn count ts) refl

-- the port that is found is changed in its place
set-slipped : (id : PortId) (turn : Turn) (count : ℕ) (ts : List Tributary) (i : ℕ) (d : Tributary) → i < length ts
    → is_port id (get_or ts i d) ≡ true → ((k : ℕ) → k < i → is_port id (get_or ts k d) ≡ false)
    → set ts i (slipped turn count (get_or ts i d)) ≡ with_slips id turn count ts
unfolding with_slips
set-slipped id turn count [] i d lt hit before = absurd (omega arith)
set-slipped id turn count (t ∷ ts) zero d lt hit before = rw hit refl
set-slipped id turn count (t ∷ ts) (suc i) d lt hit before =
    let head : is_port id t ≡ false = before 0 (omega arith) in
    rw head (ap (λ l. t ∷ l) (set-slipped id turn count ts i d (omega arith) hit (λ k low. before (suc k) (omega arith))))

pub slips_placed : (id : PortId) (turn : Turn) (count : ℕ) (ports : List Tributary) (i : ℕ) (x y : Tributary)
    → position (is_port id) ports ≡ Some i → x ≡ get_or ports i x → y ≡ slipped turn count x
    → set ports i y ≡ with_slips id turn count ports
slips_placed id turn count ports i x y place read is =
    let h = position-Some (is_port id) ports i x place in
    ap (set ports i) (is ∙ ap (slipped turn count) read) ∙ set-slipped id turn count ports i x h.0 h.1 h.2

-- the slips that wait at the port of a name are those of the first one with it
pub waiting_here : (id : PortId) (ports : List Tributary) (i : ℕ) (x : Tributary) → position (is_port id) ports ≡ Some i
    → x ≡ get_or ports i x → waiting x.feed.clock ≡ waiting_of id ports
waiting_here id ports i x place read =
    sym (ap (λ found. option_map_or (λ t. waiting t.feed.clock) found 0) (port_found id ports i x place read))

pub slips_stay : (id : PortId) (turn : Turn) (count : ℕ) (places : List (Option ℕ)) (ports : List Tributary) → ArePlaces places ports
    → ArePlaces places (with_slips id turn count ports)
slips_stay id turn count places ports are = λ other. are other ∙ sym (place-slipped other id turn count ports)

-- ---- what is found of them

ends_equal : (x y : End) → same_end x y ≡ true → x ≡ y
ends_equal A A e = refl
ends_equal B B e = refl
ends_equal A B e = cc
ends_equal B A e = cc

pub names_equal : (p q : PortId) → same_port p q ≡ true → p ≡ q
names_equal p q e = go (p.circuit == q.circuit) (same_end p.end q.end) refl refl e
  where
    go : (a b : Bool) → (p.circuit == q.circuit) ≡ a → same_end p.end q.end ≡ b → (a && b) ≡ true → p ≡ q
    go true true c d both =
        (let h : p.circuit ≡ q.circuit = eqb-true p.circuit q.circuit c in let k = ends_equal p.end q.end d in λ j. record {
          circuit = h j;
          end = k j;
        })
    go true false c d both = cc
    go false b c d both = cc

ends_turned : (x y : End) → same_end x y ≡ same_end y x
ends_turned A A = refl
ends_turned B B = refl
ends_turned A B = refl
ends_turned B A = refl

numbers_turned : (m n : ℕ) → (m == n) ≡ (n == m)
numbers_turned m n = elim (cases_eq m n) [
  | inl e ↦ eq-eqb m n e ∙ sym (eq-eqb n m (sym e))
  | inr ne ↦ ne_eqb m n ne ∙ sym (ne_eqb n m (λ e. ne (sym e)))
]

names_turned : (p q : PortId) → same_port p q ≡ same_port q p
names_turned p q = let h = numbers_turned p.circuit q.circuit in let k = ends_turned p.end q.end in λ j. (h j) && (k j)

-- a port with one name has another name exactly where the two are equal
named : (id other : PortId) (t : Tributary) → is_port id t ≡ true → is_port other t ≡ same_port other id
named id other t here = ap (λ p. same_port p other) (names_equal t.port id here) ∙ names_turned id other

-- the port with a name, with `count` more pending slips at the port with this one
abbrev pub slipped_where : PortId → PortId → Turn → ℕ → Tributary → Tributary
slipped_where other id turn count t = if same_port other id then slipped turn count t else t

unslipped : (other id : PortId) (turn : Turn) (count : ℕ) → same_port other id ≡ false → (found : Option Tributary)
    → found ≡ option_map (slipped_where other id turn count) found
unslipped other id turn count apart None = refl
unslipped other id turn count apart (Some t) = rw apart refl

-- ---- what is true of each

clock_waits : (offset rounds : ℕ) (turn : Turn) (count : ℕ) (c : Clock) → IsClock offset rounds c
    → IsClock offset rounds (with_waiting turn count c)
clock_waits offset rounds Up count c h = record { rounds_are = h.rounds_are; rest_few = h.rest_few; value_small = h.value_small }
clock_waits offset rounds Down count c h = record { rounds_are = h.rounds_are; rest_few = h.rest_few; value_small = h.value_small }

pub waiting_more : (turn : Turn) (count : ℕ) (c : Clock) → waiting (with_waiting turn count c) ≡ waiting c + count
waiting_more Up count c = omega arith
waiting_more Down count c = omega arith

slipped_is : (slots rounds : ℕ) (turn : Turn) (count : ℕ) (t : Tributary) → waiting t.feed.clock + count ≤ 16 → IsTributary slots rounds t
    → IsTributary slots rounds (slipped turn count t)
slipped_is slots rounds turn count t few h =
    record {
      first = h.first;
      last = h.last;
      offset = h.offset;
      clock = clock_waits t.feed.port.offset rounds turn count t.feed.clock h.clock;
      few =
          omega (arith, waiting_more turn count t.feed.clock);
    }

pub slips_are : (slots rounds : ℕ) (id : PortId) (turn : Turn) (count : ℕ) (ports : List Tributary) → waiting_of id ports + count ≤ 16
    → All (IsTributary slots rounds) ports → All (IsTributary slots rounds) (with_slips id turn count ports)
unfolding port_of with_slips
slips_are slots rounds id turn count [] few all = All-nil (IsTributary slots rounds)
slips_are slots rounds id turn count (t ∷ ts) few all = go (is_port id t) refl few (λ h. slips_are slots rounds id turn count ts h behind)
  where
    behind : All (IsTributary slots rounds) ts
    behind = λ k d lt. all (suc k) d (omega arith)

    go : (b : Bool) → is_port id t ≡ b → waiting_of id (t ∷ ts) + count ≤ 16
        → (waiting_of id ts + count ≤ 16 → All (IsTributary slots rounds) (with_slips id turn count ts))
        → All (IsTributary slots rounds) (with_slips id turn count (t ∷ ts))
    go true e few rest =
        (let here : waiting_of id (t ∷ ts) ≡ waiting t.feed.clock = rw e refl in rw e
        (All-cons (IsTributary slots rounds) (slipped turn count t) ts
        (slipped_is slots rounds turn count t (omega (arith, few, here)) (all 0 t (omega arith))) behind))
    go false e few rest =
        (let here : waiting_of id (t ∷ ts) ≡ waiting_of id ts = rw e refl in rw e
        (All-cons (IsTributary slots rounds) t (with_slips id turn count ts) (all 0 t (omega arith)) (rest (omega (arith, few, here)))))
