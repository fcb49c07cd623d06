-- Ports at a node: where they are, and that they stay.
use Rattle.std.proofs.Common.{◌≡◌, ℕ, Bool, true, false, cond, ◌==◌, List, [], ◌∷◌, refl, subst}
use Rattle.std.specs.Prelude.{Option, Some, None, IsSome, find}
use Rattle.std.proofs.lemmas.Bool.{eqb-true}
use Rattle.std.proofs.lemmas.Option.{slice_get_within, get_or_from_slice_get}
use Rattle.sdh_ringmap.specs.declared.Pos.{Pos}
use Rattle.sdh_circuits.specs.declared.End.{End}
use Rattle.sdh_circuits.specs.declared.End.TheVariants.{A, B}
use Rattle.sdh_circuits.specs.declared.PortId.{PortId}
use Rattle.sdh_circuits.specs.Provisioned.{Provisioned, end_of}
use Rattle.sdh_payload.specs.declared.clock.Turn.{Turn}
use Rattle.sdh_terminal.specs.Tributaries.{Tributary, is_port, port_of, HasPort, slipped, with_slips, tributaries_at}
use Rattle.sdh_terminal.proofs.Found.{has_own}
use Rattle.sdh_node_cli.specs.Records.{end_here, IsOwn}

-- ---- slips leave each port where it is

either : (b : Bool) (t u : Tributary) (o : Option Tributary) → IsSome (cond b (Some t) o) → IsSome (cond b (Some u) o)
either true t u o h = refl
either false t u o h = h

later : (b : Bool) (t : Tributary) (o p : Option Tributary) → (IsSome o → IsSome p) → IsSome (cond b (Some t) o) → IsSome (cond b (Some t) p)
later true t o p f h = refl
later false t o p f h = f h

still : (id port : PortId) (turn : Turn) (count : ℕ) (ts : List Tributary) → IsSome (find (is_port id) ts)
    → IsSome (find (is_port id) (with_slips port turn count ts))
unfolding with_slips
still id port turn count [] h = h
still id port turn count (t ∷ ts) h = go (is_port port t) (still id port turn count ts)
  where
    go : (b : Bool) → (IsSome (find (is_port id) ts) → IsSome (find (is_port id) (with_slips port turn count ts)))
        → IsSome (find (is_port id) (cond b (slipped turn count t ∷ ts) (t ∷ with_slips port turn count ts)))
    go true rest = either (is_port id t) t (slipped turn count t) (find (is_port id) ts) h
    go false rest = later (is_port id t) t (find (is_port id) ts) (find (is_port id) (with_slips port turn count ts)) rest h

pub has_slipped : (id port : PortId) (turn : Turn) (count : ℕ) (ts : List Tributary) → HasPort ts id → HasPort (with_slips port turn count ts) id
unfolding port_of
has_slipped = still

-- ---- a port that is at the node

by_end : (b d : Bool) (e : End) (c : Provisioned) (at : ℕ) → (b ≡ true → c.from.0 ≡ at) → (d ≡ true → c.to.0 ≡ at)
    → cond b (Some A) (cond d (Some B) None) ≡ Some e → (end_of c e).0 ≡ at
by_end true d A c at f g h = f refl
by_end true d B c at f g h = cc
by_end false true A c at f g h = cc
by_end false true B c at f g h = g refl
by_end false false e c at f g h = cc

pub end_there : (at : Pos) (c : Provisioned) (e : End) → end_here at c ≡ Some e → (end_of c e).0 ≡ at.0
end_there at c e h =
    by_end (c.from.0 == at.0) (c.to.0 == at.0) e c at.0 (eqb-true c.from.0 at.0) (eqb-true c.to.0 at.0) h

pub own_there : (cs : List Provisioned) (at : Pos) (port : PortId) → IsOwn cs at port → HasPort (tributaries_at at cs) port
own_there cs at port own =
    let c = own.0 in
    let get = own.1 in
    let place = end_there at c port.end own.2 in
    subst (λ (p : ℕ). HasPort (tributaries_at (record { 0 = p }) cs) port) place
    (has_own cs c port (slice_get_within cs port.circuit c get) (get_or_from_slice_get cs port.circuit c c get))
