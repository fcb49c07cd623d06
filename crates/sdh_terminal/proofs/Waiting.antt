-- Deliveries that wait in the frames of the last round: they leave the rest of a port as it is, and are read later.
use Rattle.std.proofs.Common.{◌≡◌, ℕ, zero, suc, ◌+◌, ◌-◌, ◌<◌, Bool, true, false, Some, None, Option, List, [], ◌∷◌, ◌++◌, length, get_or}
use Rattle.std.proofs.Common.{map, take, refl, ap, sym, ◌∙◌, arith}
use Rattle.std.specs.Prelude.{All, IsSome, find, replicate}
use Rattle.std.specs.List.{position}
use Rattle.std.proofs.lemmas.List.{length-map, map-append, take_more}
use Rattle.std.specs.Option.{option_map, option_map_or}
use Rattle.sdh_basics.specs.Indexed.{map_from}
use Rattle.sdh_ringmap.specs.declared.Pos.{Pos}
use Rattle.sdh_ringmap.specs.declared.Side.{Side}
use Rattle.sdh_ringmap.specs.declared.Side.TheVariants.{West, East}
use Rattle.sdh_circuits.specs.declared.PortId.{PortId}
use Rattle.sdh_circuits.specs.Provisioned.{Provisioned}
use Rattle.sdh_payload.specs.Outlet.{Outlet, silent}
use Rattle.sdh_payload.specs.Clock.{waiting}
use Rattle.sdh_payload.specs.declared.clock.Turn.{Turn}
use Rattle.sdh_pointer.specs.declared.reading.Action.TheVariants as action
use Rattle.sdh_terminal.specs.declared.matrix.Feeder.{Feeder}
use Rattle.sdh_terminal.specs.declared.matrix.Feeder.TheVariants as feeder
use Rattle.sdh_terminal.specs.Passing.{Input, no_input}
use Rattle.sdh_terminal.specs.Lines.{Lines, received, dropped_by}
use Rattle.sdh_terminal.specs.Outlets.{delivered_by, delivered_from}
use Rattle.sdh_terminal.specs.Tributaries.{Tributary, tributaries_from, tributaries_at, is_port, port_of, HasPort, outlet_of, outlets_of}
use Rattle.sdh_terminal.specs.Tributaries.{waiting_of, slipped, with_slips, input_by, sent_in, added_by, own_input, fed, all_fed}
use Rattle.sdh_terminal.specs.Tributaries.{delivered_with, all_delivered_with}
use Rattle.sdh_terminal.proofs.Ports.{Adds, found-mapped, port_at}
use Rattle.sdh_terminal.proofs.Places.{place-mapped}
use Rattle.sdh_terminal.proofs.Found.{new_ports}

-- ---- what is read of ports that have delivered

read-from : (d : Tributary → Input) (i : ℕ) (ts : List Tributary)
    → map_from (λ k t. delivered_from (d t)) i ts ≡ outlets_of (map_from (λ k t. delivered_with d t) i ts)
read-from d i [] = refl
read-from d i (t ∷ ts) = ap (λ os. delivered_from (d t) ∷ os) (read-from d (i + 1) ts)

-- what is taken out for each port is what the ports have delivered
pub all-read : (d : Tributary → Input) (ts : List Tributary)
    → map_from (λ k t. delivered_from (d t)) 0 ts ≡ outlets_of (all_delivered_with d ts)
all-read d ts = read-from d 0 ts

pub place-waiting : (d : Tributary → Input) (id : PortId) (ts : List Tributary)
    → position (is_port id) (all_delivered_with d ts) ≡ position (is_port id) ts
place-waiting d id ts = place-mapped (is_port id) (λ k t. delivered_with d t) (λ k t. refl) ts

get_or-outlets : (ts : List Tributary) (i : ℕ) (d : Tributary) → get_or (outlets_of ts) i d.outlet ≡ (get_or ts i d).outlet
get_or-outlets [] i d = refl
get_or-outlets (t ∷ ts) zero d = refl
get_or-outlets (t ∷ ts) (suc i) d = get_or-outlets ts i d

-- the outlet of the port with a name is in its place
pub outlet_in_place : (id : PortId) (ts : List Tributary) (i : ℕ) (o : Outlet) → position (is_port id) ts ≡ Some i
    → get_or (outlets_of ts) i o ≡ outlet_of id ts
outlet_in_place id [] i o place = cc
outlet_in_place id (t ∷ ts) i o place =
    let d = record t { outlet = o } in
    get_or-outlets (t ∷ ts) i d
    ∙ sym (ap (λ found. option_map_or (λ (u : Tributary). u.outlet) found silent) (port_at id (t ∷ ts) i d place))

pub count_outlets : (ts : List Tributary) → length (outlets_of ts) ≡ length ts
count_outlets [] = refl
count_outlets (t ∷ ts) = ap suc (count_outlets ts)

-- ---- what a delivery leaves

found-waiting : (d : Tributary → Input) (p : Tributary → Bool) → ((t : Tributary) → p (delivered_with d t) ≡ p t)
    → (i : ℕ) (ts : List Tributary) → find p (map_from (λ k t. delivered_with d t) i ts) ≡ option_map (delivered_with d) (find p ts)
found-waiting d p same i [] = refl
found-waiting d p same i (t ∷ ts) = go (p t) refl (found-waiting d p same (i + 1) ts)
  where
    go : (b : Bool) → p t ≡ b
        → find p (map_from (λ k t. delivered_with d t) (i + 1) ts) ≡ option_map (delivered_with d) (find p ts)
        → find p (map_from (λ k t. delivered_with d t) i (t ∷ ts)) ≡ option_map (delivered_with d) (find p (t ∷ ts))
    go true e rest = let here : p (delivered_with d t) ≡ true = same t ∙ e in rw (here, e) refl
    go false e rest = let here : p (delivered_with d t) ≡ false = same t ∙ e in rw (here, e) rest

port-waiting : (d : Tributary → Input) (id : PortId) (ts : List Tributary)
    → port_of id (all_delivered_with d ts) ≡ option_map (delivered_with d) (port_of id ts)
unfolding port_of
port-waiting d id ts = found-waiting d (is_port id) (λ t. refl) 0 ts

-- ---- one port

outlet-waiting : (d : Tributary → Input) (found : Option Tributary) (t : Tributary) → found ≡ Some t
    → option_map_or (λ (u : Tributary). u.outlet) (option_map (delivered_with d) found) silent ≡ delivered_from (d t)
outlet-waiting d found t is = rw is refl

-- what the port with a name delivers
pub delivered_here : (d : Tributary → Input) (id : PortId) (ts : List Tributary) (t : Tributary) → port_of id ts ≡ Some t
    → outlet_of id (all_delivered_with d ts) ≡ delivered_from (d t)
delivered_here d id ts t is =
    ap (λ found. option_map_or (λ (u : Tributary). u.outlet) found silent) (port-waiting d id ts)
    ∙ outlet-waiting d (port_of id ts) t is

some-under : (d : Tributary → Input) (found : Option Tributary) → IsSome (option_map (delivered_with d) found) → IsSome found
some-under d None h = h
some-under d (Some t) h = refl

pub has-under : (d : Tributary → Input) (id : PortId) (ts : List Tributary) → HasPort (all_delivered_with d ts) id → HasPort ts id
has-under d id ts h = let found = port-waiting d id ts in some-under d (port_of id ts) (rw found at h)

waits-under : (d : Tributary → Input) (found : Option Tributary)
    → option_map_or (λ (t : Tributary). waiting t.feed.clock) (option_map (delivered_with d) found) 0
    ≡ option_map_or (λ (t : Tributary). waiting t.feed.clock) found 0
waits-under d None = refl
waits-under d (Some t) = refl

pub waiting-under : (d : Tributary → Input) (id : PortId) (ts : List Tributary) → waiting_of id (all_delivered_with d ts) ≡ waiting_of id ts
waiting-under d id ts =
    ap (λ found. option_map_or (λ (t : Tributary). waiting t.feed.clock) found 0) (port-waiting d id ts) ∙ waits-under d (port_of id ts)

-- slips that come after a delivery leave it
slips-from : (d : Tributary → Input) → ((turn : Turn) (count : ℕ) (t : Tributary) → d (slipped turn count t) ≡ d t) → (id : PortId) (turn : Turn) (count i : ℕ)
    (ts : List Tributary) → map_from (λ k t. delivered_with d t) i (with_slips id turn count ts)
    ≡ with_slips id turn count (map_from (λ k t. delivered_with d t) i ts)
unfolding with_slips
slips-from d blind id turn count i [] = refl
slips-from d blind id turn count i (t ∷ ts) = go (is_port id t) refl (slips-from d blind id turn count (i + 1) ts)
  where
    all : ℕ → List Tributary → List Tributary
    all k us = map_from (λ k t. delivered_with d t) k us

    go : (b : Bool) → is_port id t ≡ b
        → map_from (λ k t. delivered_with d t) (i + 1) (with_slips id turn count ts)
        ≡ with_slips id turn count (map_from (λ k t. delivered_with d t) (i + 1) ts)
        → map_from (λ k t. delivered_with d t) i (with_slips id turn count (t ∷ ts))
        ≡ with_slips id turn count (map_from (λ k t. delivered_with d t) i (t ∷ ts))
    go true e rest = rw e (ap (λ input. record (slipped turn count t) { outlet = delivered_from input }
        ∷ map_from (λ k t. delivered_with d t) (i + 1) ts) (blind turn count t))
    go false e rest = rw e (ap (λ us. delivered_with d t ∷ us) rest)

pub slips-waiting : (d : Tributary → Input) → ((turn : Turn) (count : ℕ) (t : Tributary) → d (slipped turn count t) ≡ d t) → (id : PortId) (turn : Turn)
    (count : ℕ) (ts : List Tributary) → all_delivered_with d (with_slips id turn count ts) ≡ with_slips id turn count (all_delivered_with d ts)
slips-waiting d blind id turn count ts = slips-from d blind id turn count 0 ts

-- ---- a round

-- a port delivers what is dropped for its side and slot, whatever it delivered before and whatever it sends
rounds-from : (dropped : Side → ℕ → Input) (e : Tributary → Input) (i : ℕ) (ts : List Tributary)
    → map_from (λ k t. delivered_with (λ u. dropped u.side u.slot.0) t) i (map_from (λ k t. fed t) i ts)
    ≡ map_from (λ k t. fed t) i (map_from (λ k t. delivered_with (λ u. dropped u.side u.slot.0) t) i
    (map_from (λ k t. delivered_with e t) i ts))
rounds-from dropped e i [] = refl
rounds-from dropped e i (t ∷ ts) =
    ap (λ us. fed (delivered_with (λ u. dropped u.side u.slot.0) t) ∷ us) (rounds-from dropped e (i + 1) ts)

pub round-waiting : (dropped : Side → ℕ → Input) (e : Tributary → Input) (ts : List Tributary)
    → all_delivered_with (λ u. dropped u.side u.slot.0) (all_fed ts)
    ≡ all_fed (all_delivered_with (λ u. dropped u.side u.slot.0) (all_delivered_with e ts))
unfolding all_fed
round-waiting dropped e ts = rounds-from dropped e 0 ts

adds-id : (e : Tributary → Input) (ts : List Tributary) (id : PortId) → added_by ts id ≡ added_by (all_delivered_with e ts) id
unfolding port_of
adds-id e ts id =
    sym (found-mapped (is_port id) (λ k t. delivered_with e t) (λ t. input_by (sent_in t.feed)) (λ t. input_by (sent_in t.feed)) no_input
    (λ k t. refl) (λ k t. refl) 0 ts)

next-id : (ts : List Tributary) (id : PortId)
    → option_map_or own_input (port_of id (all_fed ts)) no_input ≡ added_by ts id
unfolding all_fed port_of
next-id ts id =
    found-mapped (is_port id) (λ k t. fed t) own_input (λ t. input_by (sent_in t.feed)) no_input (λ k t. refl) (λ k t. refl) 0 ts

-- ports that have taken the chunk of the round hold what they add in it, whatever they delivered before
pub adds-waiting : (e : Tributary → Input) (ts : List Tributary) → Adds (all_fed ts) (all_delivered_with e ts)
adds-waiting e ts = λ i id. (next-id ts id ∙ adds-id e ts id) i

-- ---- before the first round

read-replicate : (n k : ℕ) → get_or (replicate n action.Ais) k action.Ais ≡ action.Ais
read-replicate zero k = refl
read-replicate (suc n) zero = refl
read-replicate (suc n) (suc k) = read-replicate n k

silent-input : (i : Input) → i.action ≡ action.Ais → delivered_from i ≡ silent
unfolding delivered_from
silent-input i e = ap (λ a. delivered_by a i) e

-- before a side has read anything it drops AIS
pub silent-lines : (l : Lines) (n m : ℕ) → l.west.intake.actions ≡ replicate n action.Ais → l.east.intake.actions ≡ replicate m action.Ais
    → (f : Feeder) → delivered_from (dropped_by l f) ≡ silent
silent-lines l n m west east (feeder.Port port) = silent-input no_input refl
silent-lines l n m west east feeder.Ais = silent-input no_input refl
silent-lines l n m west east (feeder.Received West au) =
    silent-input (received l West au) (ap (λ acts. get_or acts (au - 1) action.Ais) west ∙ read-replicate n (au - 1))
silent-lines l n m west east (feeder.Received East au) =
    silent-input (received l East au) (ap (λ acts. get_or acts (au - 1) action.Ais) east ∙ read-replicate m (au - 1))

silent-from : (d : Tributary → Input) → ((t : Tributary) → delivered_from (d t) ≡ silent) → (i : ℕ) (ts : List Tributary)
    → All (λ (t : Tributary). t.outlet ≡ silent) ts → map_from (λ k t. delivered_with d t) i ts ≡ ts
silent-from d h i [] all = refl
silent-from d h i (t ∷ ts) all =
    let here : delivered_from (d t) ≡ t.outlet = h t ∙ sym (all 0 t (omega arith)) in
    let rest = silent-from d h (i + 1) ts (λ k e lt. all (suc k) e (omega arith)) in
    λ j. record t { outlet = here j } ∷ rest j

pub new-waiting : (d : Tributary → Input) → ((t : Tributary) → delivered_from (d t) ≡ silent) → (at : Pos) (circuits : List Provisioned)
    → all_delivered_with d (tributaries_at at circuits) ≡ tributaries_at at circuits
unfolding tributaries_at
new-waiting d h at circuits =
    silent-from d h 0 (tributaries_from at 0 circuits)
    (new_ports (λ (t : Tributary). t.outlet ≡ silent) (λ i e s m c. refl) at 0 circuits)

-- ---- the ports of several nodes

pub mapped : {X Y : Type 0} (f : X → Y) (i : ℕ) (xs : List X) → map_from (λ k x. f x) i xs ≡ map f xs
mapped f i [] = refl
mapped f i (x ∷ xs) = ap (λ ys. f x ∷ ys) (mapped f (i + 1) xs)

-- two lists of the same sizes have the same size at each place
pub size_at : {X Y : Type 0} (f : X → ℕ) (g : Y → ℕ) (xs : List X) (ys : List Y) (i : ℕ) (d : X) (e : Y) → map f xs ≡ map g ys
    → i < length ys → f (get_or xs i d) ≡ g (get_or ys i e)
size_at f g xs [] i d e same low = absurd (omega arith)
size_at f g [] (y ∷ ys) i d e same low = cc
size_at f g (x ∷ xs) (y ∷ ys) zero d e same low = cc
size_at f g (x ∷ xs) (y ∷ ys) (suc i) d e same low =
    let rest : map f xs ≡ map g ys = cc in size_at f g xs ys i d e rest (omega arith)

pub size_count : {X Y : Type 0} (f : X → ℕ) (g : Y → ℕ) (xs : List X) (ys : List Y) → map f xs ≡ map g ys → length xs ≡ length ys
size_count f g xs ys same = sym (length-map xs f) ∙ ap length same ∙ length-map ys g

-- the size of one more
pub size_more : {X Y : Type 0} (f : X → ℕ) (g : Y → ℕ) (xs : List X) (ys : List Y) (i : ℕ) (x : X) (y : Y) → i < length ys
    → y ≡ get_or ys i y → f x ≡ g y → map f xs ≡ map g (take i ys) → map f (xs ++ x ∷ []) ≡ map g (take (i + 1) ys)
size_more f g xs ys i x y low read is same =
    map-append f xs (x ∷ []) ∙ ap (λ zs. zs ++ f x ∷ []) same ∙ ap (λ n. map g (take i ys) ++ n ∷ []) (is ∙ ap g read)
    ∙ sym (map-append g (take i ys) (get_or ys i y ∷ [])) ∙ ap (map g) (sym (take_more ys i y low))
