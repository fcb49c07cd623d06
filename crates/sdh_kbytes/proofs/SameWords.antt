-- Words with the same parts are one word.
use Rattle.std.proofs.Common.{◌≡◌, Bool, true, false, Option, Some, None, refl, ap, sym, ◌∙◌, ◌↔◌}
use Rattle.std.specs.Prelude.{IsTrue, ◌==◌, ◌&&◌}
use Rattle.std.proofs.lemmas.Bool.{and_parts, eqb-true, eq-eqb}
use Rattle.sdh_ringmap.specs.declared.terms.Code.{Code}
use Rattle.sdh_kbytes.specs.declared.Path.{Path}
use Rattle.sdh_kbytes.specs.declared.Mark.{Mark}
use Rattle.sdh_kbytes.specs.declared.K.{K}
use Rattle.sdh_kbytes.specs.KBytes.{mark_number, path_number, code_at, mark_at, path_at}
use Rattle.sdh_ringmap.specs.Requests.{code_number}
use Rattle.sdh_kbytes.proofs.Tables.{code_at-number, mark_at-number, path_at-number}
use Rattle.sdh_kbytes.specs.Same.{same_code, same_word, agrees, same_heard}

code_of_number : (c d : Code) → code_number c ≡ code_number d → c ≡ d
code_of_number c d e = let some : Some c ≡ Some d = sym (code_at-number c) ∙ ap code_at e ∙ code_at-number d in cc

mark_of_number : (m o : Mark) → mark_number m ≡ mark_number o → m ≡ o
mark_of_number m o e = let some : Some m ≡ Some o = sym (mark_at-number m) ∙ ap mark_at e ∙ mark_at-number o in cc

path_of_number : (p q : Path) → path_number p ≡ path_number q → p ≡ q
path_of_number p q e = sym (path_at-number p) ∙ ap path_at e ∙ path_at-number q

pub code_same : (a b : Code) → same_code a b ≡ true → a ≡ b
code_same a b e = code_of_number a b (eqb-true _ _ e)

pub same_is : (a b : K) → same_word a b ≡ true → a ≡ b
unfolding same_word
same_is a b e =
    let codes = code_number a.code == code_number b.code in
    let tos = a.to == b.to in
    let froms = a.from == b.from in
    let paths = path_number a.path == path_number b.path in
    let s = and_parts (codes && tos && froms && paths) (mark_number a.mark == mark_number b.mark) e in
    let r = and_parts (codes && tos && froms) paths s.0 in
    let q = and_parts (codes && tos) froms r.0 in
    let p = and_parts codes tos q.0 in
    let code : a.code ≡ b.code = code_of_number a.code b.code (eqb-true _ _ p.0) in
    let to : a.to ≡ b.to = eqb-true _ _ p.1 in
    let from : a.from ≡ b.from = eqb-true _ _ q.1 in
    let path : a.path ≡ b.path = path_of_number a.path b.path (eqb-true _ _ r.1) in
    let mark : a.mark ≡ b.mark = mark_of_number a.mark b.mark (eqb-true _ _ s.1) in
    λ i. record { code = code i; to = to i; from = from i; path = path i; mark = mark i }

pub is_same : (a : K) → same_word a a ≡ true
unfolding same_word
is_same a =
    rw (
      eq-eqb (code_number a.code) _ refl,
      eq-eqb a.to _ refl,
      eq-eqb a.from _ refl,
      eq-eqb (path_number a.path) _ refl,
      eq-eqb (mark_number a.mark) _ refl,
    ) refl

-- a word agrees with itself
pub agrees_itself : (a : K) → agrees a a ≡ true
unfolding agrees
agrees_itself a = rw (eq-eqb (code_number a.code) _ refl, eq-eqb a.to _ refl, eq-eqb a.from _ refl, eq-eqb (path_number a.path) _ refl) refl

pub heard_same : (a b : Option K) → same_heard a b ≡ true → a ≡ b
heard_same None None e = refl
heard_same (Some a) (Some b) e = ap Some (same_is a b e)
heard_same None (Some b) e = cc
heard_same (Some a) None e = cc

by_truth : (r s : Bool) → (IsTrue r → s ≡ true) → (s ≡ true → IsTrue r) → r ≡ s
by_truth true s f g = sym (f refl)
by_truth false false f g = refl
by_truth false true f g = let e : false ≡ true = g refl in absurd (cc)

-- `same_word` decides whether words are equal
pub word_tells : (r : Bool) (a b : K) → (IsTrue r ↔ (a ≡ b)) → r ≡ same_word a b
word_tells r a b h = by_truth r (same_word a b) (λ t. ap (same_word a) (sym (h.0 t)) ∙ is_same a) (λ e. h.1 (same_is a b e))
