-- The lines of ports.
use Rattle.std.proofs.Common.{◌≡◌, ℕ, ◌+◌, ◌<◌, List, [], ◌∷◌, ◌++◌, length, take, ap, sym, subst, ◌∙◌, arith, append-nil, append_assoc}
use Rattle.std.specs.Prelude.{slice_get, Option, Some, None, IfSome}
use Rattle.std.proofs.lemmas.List.{take_more, length-take-le}
use Rattle.std.proofs.lemmas.Option.{get_or_from_slice_get}
use Rattle.sdh_ringmap.specs.declared.Pos.{Pos}
use Rattle.sdh_circuits.specs.declared.PortId.{PortId}
use Rattle.sdh_circuits.specs.Provisioned.{Provisioned}
use Rattle.sdh_terminal.specs.Tributaries.{Tributary, HasPort}
use Rattle.sdh_node.specs.Node.{Node}
use Rattle.sdh_node_cli.specs.Records.{end_here, IsOwn}
use Rattle.sdh_node_cli.specs.Bench.{port_text, ports_from}

module _ (n : Node) (at : Pos) where
  ports-append : (i : ℕ) (xs ys : List Provisioned) → ports_from n at i (xs ++ ys) ≡ ports_from n at i xs ++ ports_from n at (i + length xs) ys
  ports-append i [] ys = ap (λ j. ports_from n at j ys) (omega arith)
  ports-append i (c ∷ xs) ys =
      let next : i + 1 + length xs ≡ i + length (c ∷ xs) = omega arith in
      ap (λ l. port_text n at i c ++ l) (ports-append (i + 1) xs ys
      ∙ ap (λ j. ports_from n at (i + 1) xs ++ ports_from n at j ys) next)
      ∙ sym (append_assoc (port_text n at i c) (ports_from n at (i + 1) xs) (ports_from n at (i + length (c ∷ xs)) ys))

  -- the lines of the first circuits, and that of the next one
  pub ports_more : (cs : List Provisioned) (i : ℕ) (c : Provisioned) → i < length cs → slice_get cs i ≡ Some c
      → ports_from n at 0 (take (i + 1) cs) ≡ ports_from n at 0 (take i cs) ++ port_text n at i c
  ports_more cs i c lt get =
      let long : 0 + length (take i cs) ≡ i = omega (arith, length-take-le i cs) in
      ap (ports_from n at 0) (take_more cs i c lt ∙ ap (λ x. take i cs ++ x ∷ []) (get_or_from_slice_get cs i c c get))
      ∙ ports-append 0 (take i cs) (c ∷ []) ∙ ap (λ j. ports_from n at 0 (take i cs) ++ ports_from n at j (c ∷ [])) long
      ∙ ap (λ l. ports_from n at 0 (take i cs) ++ l) (append-nil (port_text n at i c))

-- the ports of a circuit that are at a position are among those of the node
pub own_here : (cs : List Provisioned) (at : Pos) (number : ℕ) (c : Provisioned) (ts : List Tributary) (o : Option PortId)
    → slice_get cs number ≡ Some c → ((port : PortId) → IsOwn cs at port → HasPort ts port)
    → IfSome o (λ (port : PortId). (port.circuit ≡ number) × (end_here at c ≡ Some port.end)) → IfSome o (HasPort ts)
own_here cs at number c ts None get there own = tt
own_here cs at number c ts (Some port) get there own =
    there port (c, subst (λ k. slice_get cs k ≡ Some c) (sym own.0) get, own.1)
