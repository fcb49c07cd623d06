-- The nodes of a ring, one at a time.
use Rattle.std.proofs.Common.{◌≡◌, ℕ, zero, suc, ◌<◌, List, [], ◌∷◌, length, get_or, map, set, sym, subst, ap, ◌∙◌, arith}
use Rattle.std.proofs.lemmas.List.{length-map}
use Rattle.sdh_node.specs.Node.{Node}
use Rattle.sdh_node.specs.Rings.Held.{HeldRing, at_place, node_at}
use Rattle.sdh_node.specs.Rings.Fixed.{fixed}
use Rattle.sdh_rounds.proofs.Nodes.{placed_at}

pub length_fixed : (old now : List Node) → map fixed now ≡ map fixed old → length now ≡ length old
length_fixed old now all = sym (length-map now fixed) ∙ ap length all ∙ length-map old fixed

-- the node that is read there
pub node_same : (ns : List Node) (i : ℕ) (x : Node) → i < length ns → x ≡ get_or ns i x → node_at ns i ≡ x
node_same [] i x h read = absurd (omega arith)
node_same (n ∷ ns) zero x h read = sym read
node_same (n ∷ ns) (suc i) x h read = node_same ns i x (omega arith) read

-- a node of a ring, which is seen as `now`, was changed
pub node_placed : (now r : HeldRing) (change : Node → Node) (i : ℕ) (x y : Node) → now ≡ r → i < length r.nodes → x ≡ get_or now.nodes i x
    → y ≡ change x → record now { nodes = set now.nodes i y } ≡ record r { nodes = at_place i change r.nodes }
node_placed now r change i x y seen there read is =
    let inside = subst (λ (z : HeldRing). i < length z.nodes) (sym seen) there in
    subst (λ (z : HeldRing). record now { nodes = set now.nodes i y } ≡ record z { nodes = at_place i change z.nodes }) seen
    (ap (λ ns. record now { nodes = ns }) (placed_at change i now.nodes x y inside read is))

-- the node that is read in a ring, which is seen as `now`
pub node_seen : (now r : HeldRing) (i : ℕ) (x : Node) → now ≡ r → i < length r.nodes → x ≡ get_or now.nodes i x → node_at r.nodes i ≡ x
node_seen now r i x seen there read =
    node_same r.nodes i x there (subst (λ (z : HeldRing). x ≡ get_or z.nodes i x) seen read)
