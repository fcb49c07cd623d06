-- All that is compared is equal to itself.
use Rattle.std.proofs.Common.{◌≡◌, ℕ, true, List, [], ◌∷◌, Option, Some, None, refl}
use Rattle.std.proofs.lemmas.Bool.{eq-eqb}
use Rattle.sdh_ringmap.specs.declared.terms.Code.{Code}
use Rattle.sdh_kbytes.specs.declared.K.{K}
use Rattle.sdh_ringmap.specs.Requests.{code_number}
use Rattle.sdh_nodestate.proofs.SameStates.{state_itself}
use Rattle.sdh_pointer.proofs.Sent as sent
use Rattle.sdh_kbytes.specs.Same.{same_code, same_heard}
use Rattle.sdh_terminal.specs.Same.{same_generators}
use Rattle.sdh_node.specs.Same.{ComparedIn, ComparedOut, Compared, same_in, same_out, same_compared}
use Rattle.sdh_terminal.proofs.Marks.{same-readings}
use Rattle.sdh_kbytes.proofs.SameWords.{is_same}

code_itself : (c : Code) → same_code c c ≡ true
code_itself c = eq-eqb (code_number c) (code_number c) refl

heard_itself : (h : Option K) → same_heard h h ≡ true
heard_itself None = refl
heard_itself (Some k) = is_same k

generators_itself : (gs : List (Option ℕ)) → same_generators gs gs ≡ true
generators_itself [] = refl
generators_itself (g ∷ gs) = rw (sent.state_itself g) (generators_itself gs)

in_itself : (c : ComparedIn) → same_in c c ≡ true
in_itself c = rw (code_itself c.request, heard_itself c.heard, same-readings c.readings) refl

out_itself : (c : ComparedOut) → same_out c c ≡ true
out_itself c = rw (is_same c.word, generators_itself c.generators) refl

pub compared_itself : (c : Compared) → same_compared c c ≡ true
unfolding same_compared
compared_itself c = rw (in_itself c.west, in_itself c.east, state_itself c.state, out_itself c.west_out, out_itself c.east_out) refl
