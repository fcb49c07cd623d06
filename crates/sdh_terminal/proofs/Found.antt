-- The ports of circuits at a node: each is found by its name, and its name, side, slot and customer never change.
use Rattle.std.proofs.Common.{◌≡◌, ◌≢◌, ℕ, zero, suc, ◌+◌, ◌<◌, Bool, true, false, eqb, List, [], ◌∷◌, ◌++◌, length, get_or, map}
use Rattle.std.proofs.Common.{Option, Some, None, refl, ap, sym, ◌∙◌, subst, arith}
use Rattle.std.specs.Prelude.{◌==◌, if◌then◌else◌, find, option_map, slice_get, IsSome, All}
use Rattle.std.proofs.lemmas.Bool.{eq-eqb, ne_eqb, cond_both}
use Rattle.std.proofs.lemmas.Bool.Decides.{nat_tests}
use Rattle.std.proofs.lemmas.List.Elements.{All-append, All-cons, All-nil}
use Rattle.sdh_basics.specs.Indexed.{map_from}
use Rattle.sdh_ringmap.specs.declared.Pos.{Pos}
use Rattle.sdh_ringmap.specs.declared.Side.{Side}
use Rattle.sdh_ringmap.specs.declared.Side.TheVariants.{West, East}
use Rattle.sdh_ringmap.specs.Places.{position_of}
use Rattle.sdh_circuits.specs.declared.End.{End}
use Rattle.sdh_circuits.specs.declared.End.TheVariants.{A, B}
use Rattle.sdh_circuits.specs.declared.PortId.{PortId}
use Rattle.sdh_circuits.specs.declared.Slot.{Slot}
use Rattle.sdh_circuits.specs.Ends.{inward, port_id}
use Rattle.sdh_circuits.specs.Provisioned.{Provisioned, customer_at, end_of, same_port}
use Rattle.sdh_payload.specs.Customer.{Customer}
use Rattle.sdh_terminal.specs.Tributaries.{Tributary, new_tributary, tributaries_of, tributaries_from, tributaries_at, is_port, port_of}
use Rattle.sdh_terminal.specs.Tributaries.{HasPort}
use Rattle.sdh_terminal.specs.Fixed.{FixedPort, fixed_port}

-- ---- the port that is found

pub find_head : (id : PortId) (t : Tributary) (ts : List Tributary) → is_port id t ≡ true → find (is_port id) (t ∷ ts) ≡ Some t
find_head id t ts e = rw e refl

pub find_tail : (id : PortId) (t : Tributary) (ts : List Tributary) → is_port id t ≡ false
    → find (is_port id) (t ∷ ts) ≡ find (is_port id) ts
find_tail id t ts e = rw e refl

-- a port that is found has the name, and what is true of all ports
pub found_has : (P : Tributary → Type 0) (id : PortId) (ts : List Tributary) (t : Tributary) → All P ts → port_of id ts ≡ Some t
    → P t × (is_port id t ≡ true)
unfolding port_of
found_has P id [] t all is = absurd (cc)
found_has P id (u ∷ ts) t all is = by (is_port id u) refl (λ rest. found_has P id ts t (λ k d lt. all (suc k) d (omega arith)) rest)
  where
    by : (b : Bool) → is_port id u ≡ b → (find (is_port id) ts ≡ Some t → P t × (is_port id t ≡ true)) → P t × (is_port id t ≡ true)
    by true e later = let same : u ≡ t =
        (let k = sym (find_head id u ts e) ∙ is in cc) in subst (λ x. P x × (is_port id x ≡ true)) same (all 0 u (omega arith), e)
    by false e later = later (sym (find_tail id u ts e) ∙ is)

-- a port that is found after all ports were changed has what is true of every changed port
pub found_one : (P : Tributary → Type 0) (id : PortId) (f : ℕ → Tributary → Tributary) (i : ℕ) (ts : List Tributary) (t : Tributary)
    → ((k : ℕ) (u : Tributary) → P (f k u)) → find (is_port id) (map_from f i ts) ≡ Some t → P t
found_one P id f i [] t each is = absurd (cc)
found_one P id f i (u ∷ ts) t each is = by (is_port id (f i u)) refl (λ rest. found_one P id f (i + 1) ts t each rest)
  where
    by : (b : Bool) → is_port id (f i u) ≡ b → (find (is_port id) (map_from f (i + 1) ts) ≡ Some t → P t) → P t
    by true e later = let same : f i u ≡ t =
        (let k = sym (find_head id (f i u) (map_from f (i + 1) ts) e) ∙ is in cc) in subst P same (each i u)
    by false e later = later (sym (find_tail id (f i u) (map_from f (i + 1) ts) e) ∙ is)

pub twice : (f g : ℕ → Tributary → Tributary) (i : ℕ) (ts : List Tributary)
    → map_from f i (map_from g i ts) ≡ map_from (λ k t. f k (g k t)) i ts
twice f g i [] = refl
twice f g i (t ∷ ts) = ap (λ us. f i (g i t) ∷ us) (twice f g (i + 1) ts)

-- the port of end e of circuit number i before the first round
abbrev port_new : ℕ → Provisioned → End → Tributary
port_new i c e = new_tributary i e (inward e) c.slot (customer_at c e)

-- ---- among the ports of circuits at a position

itself : (i : ℕ) (e : End) (c : Provisioned) → is_port (port_id i e) (port_new i c e) ≡ true
itself i A c = let t : eqb i i ≡ true = eq-eqb i i refl in rw t refl
itself i B c = let t : eqb i i ≡ true = eq-eqb i i refl in rw t refl

other_number : (i j : ℕ) (e f : End) (c : Provisioned) → i ≢ j → is_port (port_id j e) (port_new i c f) ≡ false
other_number i j e f c apart = let t : eqb i j ≡ false = ne_eqb i j apart in rw t refl

-- neither of two ports, which may be there, has the name: the search goes on after them
skipped : (id : PortId) (a b : Bool) (x y : Tributary) (rest : List Tributary) → is_port id x ≡ false → is_port id y ≡ false
    → find (is_port id) (((if a then x ∷ [] else []) ++ (if b then y ∷ [] else [])) ++ rest) ≡ find (is_port id) rest
skipped id true true x y rest hx hy = find_tail id x (y ∷ rest) hx ∙ find_tail id y rest hy
skipped id true false x y rest hx hy = find_tail id x rest hx
skipped id false true x y rest hx hy = find_tail id y rest hy
skipped id false false x y rest hx hy = refl

-- the first of two ports is there and has the name; and then the same for the second
first_of_two : (id : PortId) (a b : Bool) (x y : Tributary) (rest : List Tributary) → a ≡ true → is_port id x ≡ true
    → find (is_port id) (((if a then x ∷ [] else []) ++ (if b then y ∷ [] else [])) ++ rest) ≡ Some x
first_of_two id true b x y rest e hx = find_head id x ((if b then y ∷ [] else []) ++ rest) hx
first_of_two id false b x y rest e hx = absurd (cc)

second_of_two : (id : PortId) (a b : Bool) (x y : Tributary) (rest : List Tributary) → b ≡ true → is_port id x ≡ false → is_port id y ≡ true
    → find (is_port id) (((if a then x ∷ [] else []) ++ (if b then y ∷ [] else [])) ++ rest) ≡ Some y
second_of_two id true true x y rest e hx hy = find_tail id x (y ∷ rest) hx ∙ find_head id y rest hy
second_of_two id false true x y rest e hx hy = find_head id y rest hy
second_of_two id true false x y rest e hx hy = absurd (cc)
second_of_two id false false x y rest e hx hy = absurd (cc)

other_end_fails : (i : ℕ) (c : Provisioned) → is_port (port_id i B) (port_new i c A) ≡ false
other_end_fails i c = let t : eqb i i ≡ true = eq-eqb i i refl in rw t refl

here : (at : Pos) (i : ℕ) (c : Provisioned) (cs : List Provisioned) (e : End) → (end_of c e).0 ≡ at.0
    → find (is_port (port_id i e)) (tributaries_from at i (c ∷ cs)) ≡ Some (port_new i c e)
here at i c cs A is =
    first_of_two (port_id i A) (c.from.0 == at.0) (c.to.0 == at.0) (port_new i c A) (port_new i c B) (tributaries_from at (i + 1) cs)
    (eq-eqb c.from.0 at.0 is) (itself i A c)
here at i c cs B is =
    second_of_two (port_id i B) (c.from.0 == at.0) (c.to.0 == at.0) (port_new i c A) (port_new i c B) (tributaries_from at (i + 1) cs)
    (eq-eqb c.to.0 at.0 is) (other_end_fails i c) (itself i B c)

there : (at : Pos) (i j : ℕ) (c : Provisioned) (cs : List Provisioned) (e : End) → i ≢ j
    → find (is_port (port_id j e)) (tributaries_from at i (c ∷ cs)) ≡ find (is_port (port_id j e)) (tributaries_from at (i + 1) cs)
there at i j c cs e apart =
    skipped (port_id j e) (c.from.0 == at.0) (c.to.0 == at.0) (port_new i c A) (port_new i c B) (tributaries_from at (i + 1) cs)
    (other_number i j e A c apart) (other_number i j e B c apart)

among : (at : Pos) (cs : List Provisioned) (i j : ℕ) (c : Provisioned) (e : End) → slice_get cs j ≡ Some c → (end_of c e).0 ≡ at.0
    → find (is_port (port_id (i + j) e)) (tributaries_from at i cs) ≡ Some (port_new (i + j) c e)
among at [] i j c e get is = absurd (cc)
among at (x ∷ cs) i zero c e get is =
    let same : x ≡ c = cc in
    let none : i + 0 ≡ i = omega arith in
    ap (λ k. find (is_port (port_id k e)) (tributaries_from at i (x ∷ cs))) none
    ∙ ap (λ y. find (is_port (port_id i e)) (tributaries_from at i (y ∷ cs))) same
    ∙ here at i c cs e is
    ∙ ap (λ k. Some (port_new k c e)) (sym none)
among at (x ∷ cs) i (suc j) c e get is =
    let next : i + suc j ≡ (i + 1) + j = omega arith in
    there at i (i + suc j) x cs e (λ q. omega arith)
    ∙ ap (λ k. find (is_port (port_id k e)) (tributaries_from at (i + 1) cs)) next
    ∙ among at cs (i + 1) j c e get is
    ∙ ap (λ k. Some (port_new k c e)) (sym next)

-- ---- among the ports of a node

-- the first changed element that has a property is the change of the first element whose change has it
find_through : {X Y : Type 0} (p : Y → Bool) (f : X → Y) (xs : List X) → find p (map f xs) ≡ option_map f (find (λ x. p (f x)) xs)
find_through p f [] = refl
find_through p f (x ∷ xs) = by (p (f x)) refl (find_through p f xs)
  where
    by : (b : Bool) → p (f x) ≡ b → find p (map f xs) ≡ option_map f (find (λ x. p (f x)) xs)
        → find p (f x ∷ map f xs) ≡ option_map f (find (λ x. p (f x)) (x ∷ xs))
    by true e rest = rw e refl
    by false e rest = rw e rest

abbrev pub names : PortId → FixedPort → Bool
names id f = same_port f.port id

-- the fixed part of the port with this name is found by the name among the fixed parts of all ports
pub fixed_found : (id : PortId) (ts : List Tributary) → find (names id) (map fixed_port ts) ≡ option_map fixed_port (port_of id ts)
unfolding port_of
fixed_found id ts = find_through (names id) fixed_port ts

-- the port of an end of a circuit
pub record IsPortOf (c : Provisioned) (e : End) (found : Option Tributary) : Type 0 where
  pub it : Tributary
  pub is : found ≡ Some it
  pub side : it.side ≡ inward e
  pub slot : it.slot ≡ c.slot
  pub sender : it.feed.port ≡ customer_at c e

from_fixed : (index : ℕ) (c : Provisioned) (e : End) (found : Option Tributary)
    → option_map fixed_port found ≡ Some (fixed_port (port_new index c e)) → IsPortOf c e found
from_fixed index c e None is = absurd (cc)
from_fixed index c e (Some t) is =
    let same : fixed_port t ≡ fixed_port (port_new index c e) = cc in
    record {
      it = t;
      is = refl;
      side = ap (λ (x : FixedPort). x.side) same;
      slot = ap (λ (x : FixedPort). x.slot) same;
      sender = ap (λ (x : FixedPort). x.customer) same;
    }

pub port-found : (cs : List Provisioned) (ports : List Tributary) (index : ℕ) (c : Provisioned) (e : End) → slice_get cs index ≡ Some c
    → map fixed_port ports ≡ map fixed_port (tributaries_at (position_of ((end_of c e).0)) cs)
    → IsPortOf c e (port_of (port_id index e) ports)
unfolding port_of tributaries_at
port-found cs ports index c e get same =
    let id = port_id index e in
    let at = position_of ((end_of c e).0) in
    let none : 0 + index ≡ index = omega arith in
    let new : find (is_port id) (tributaries_at at cs) ≡ Some (port_new index c e) =
    ap (λ k. find (is_port (port_id k e)) (tributaries_at at cs)) (sym none)
    ∙ among at cs 0 index c e get refl ∙ ap (λ k. Some (port_new k c e)) none in
    from_fixed index c e (find (is_port id) ports)
    (sym (fixed_found id ports) ∙ ap (find (names id)) same ∙ fixed_found id (tributaries_at at cs) ∙ ap (option_map fixed_port) new)

-- ---- what stays fixed, and what holds of new ports

pub ports_mapped : (f : ℕ → Tributary → Tributary) (i : ℕ) (ts : List Tributary)
    → ((k : ℕ) (t : Tributary) → fixed_port (f k t) ≡ fixed_port t) → map fixed_port (map_from f i ts) ≡ map fixed_port ts
ports_mapped f i [] same = refl
ports_mapped f i (t ∷ ts) same =
    ap (λ p. p ∷ map fixed_port (map_from f (i + 1) ts)) (same i t) ∙ ap (λ ps. fixed_port t ∷ ps) (ports_mapped f (i + 1) ts same)

-- what is true of new ports
pub new_ports : (P : Tributary → Type 0) → ((i : ℕ) (e : End) (d : Side) (s : Slot) (c : Customer) → P (new_tributary i e d s c))
    → (at : Pos) (i : ℕ) (cs : List Provisioned) → All P (tributaries_from at i cs)
new_ports P each at i [] = All-nil P
new_ports P each at i (c ∷ cs) =
    let a = new_tributary i A East c.slot c.a in
    let b = new_tributary i B West c.slot c.b in
    All-append P (tributaries_of at i c) (tributaries_from at (i + 1) cs)
    (All-append P (if c.from.0 == at.0 then a ∷ [] else []) (if c.to.0 == at.0 then b ∷ [] else [])
    (cond_both (c.from.0 == at.0) (a ∷ []) [] (All P) (λ _. All-cons P a [] (each i A East c.slot c.a) (All-nil P)) (λ _. All-nil P))
    (cond_both (c.to.0 == at.0) (b ∷ []) [] (All P) (λ _. All-cons P b [] (each i B West c.slot c.b) (All-nil P)) (λ _. All-nil P)))
    (new_ports P each at (i + 1) cs)

-- ---- each port of a circuit is there

found-left : (p : Tributary → Bool) (xs ys : List Tributary) → IsSome (find p xs) → IsSome (find p (xs ++ ys))
found-left p [] ys h = absurd (none h)
  where
    none : false ≡ true → ⊥
    none e = cc
found-left p (x ∷ xs) ys h = go (p x) refl (found-left p xs ys)
  where
    go : (b : Bool) → p x ≡ b → (IsSome (find p xs) → IsSome (find p (xs ++ ys))) → IsSome (find p ((x ∷ xs) ++ ys))
    go true e rest = rw e refl
    go false e rest = let later : IsSome (find p xs) = rw e at h in rw e (rest later)

found-right : (p : Tributary → Bool) (xs ys : List Tributary) → IsSome (find p ys) → IsSome (find p (xs ++ ys))
found-right p [] ys h = h
found-right p (x ∷ xs) ys h = go (p x) refl (found-right p xs ys h)
  where
    go : (b : Bool) → p x ≡ b → IsSome (find p (xs ++ ys)) → IsSome (find p ((x ∷ xs) ++ ys))
    go true e rest = rw e refl
    go false e rest = rw e rest

-- the port of a circuit is at its end
own_here : (at : Pos) (k n : ℕ) (c : Provisioned) (e : End) → k ≡ n → (end_of c e).0 ≡ at.0
    → IsSome (find (is_port (record { circuit = n; end = e })) (tributaries_of at k c))
own_here at k n c A same there =
    let t : (c.from.0 == at.0) ≡ true = grind (arith, nat_tests) in
    let u : (k == n) ≡ true = grind (arith, nat_tests) in
    rw t (rw u refl)
own_here at k n c B same there =
    let t : (c.to.0 == at.0) ≡ true = grind (arith, nat_tests) in
    let u : (k == n) ≡ true = grind (arith, nat_tests) in
    found-right (is_port (record { circuit = n; end = B })) (if c.from.0 == at.0 then new_tributary k A East c.slot c.a ∷ [] else [])
    (if c.to.0 == at.0 then new_tributary k B West c.slot c.b ∷ [] else [])
    (rw t (rw u refl))

own_from : (at : Pos) (k i n : ℕ) (cs : List Provisioned) (c : Provisioned) (e : End) → i < length cs → get_or cs i c ≡ c → k + i ≡ n
    → (end_of c e).0 ≡ at.0 → IsSome (find (is_port (record { circuit = n; end = e })) (tributaries_from at k cs))
own_from at k i n [] c e h read same there = absurd (omega arith)
own_from at k zero n (x ∷ cs) c e h read same there =
    found-left (is_port (record { circuit = n; end = e })) (tributaries_of at k x) (tributaries_from at (k + 1) cs)
    (own_here at k n x e (omega arith) (ap (λ y. (end_of y e).0) read ∙ there))
own_from at k (suc i) n (x ∷ cs) c e h read same there =
    found-right (is_port (record { circuit = n; end = e })) (tributaries_of at k x) (tributaries_from at (k + 1) cs)
    (own_from at (k + 1) i n cs c e (omega arith) read (omega arith) there)

-- each port of a circuit is among the ports at its position
pub has_own : (cs : List Provisioned) (c : Provisioned) (id : PortId) → id.circuit < length cs → get_or cs id.circuit c ≡ c
    → HasPort (tributaries_at (position_of (end_of c id.end).0) cs) id
unfolding tributaries_at port_of
has_own cs c id h read = own_from (position_of (end_of c id.end).0) 0 id.circuit id.circuit cs c id.end h read (omega arith) refl
