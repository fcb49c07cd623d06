-- Lists that are compared place by place.
use Rattle.std.proofs.Common.{◌≡◌, ◌↔◌, ℕ, ◌+◌, ◌<◌, Bool, true, false, IsTrue, List, [], ◌∷◌, ◌++◌, length, take, drop, set, get_or, refl}
use Rattle.std.proofs.Common.{ap, sym, ◌∙◌, arith}
use Rattle.std.specs.Prelude.{◌&&◌}
use Rattle.std.proofs.lemmas.List.{take_more, take_more_set, length-take-le, get_or_default}
use Rattle.sdh_basics.proofs.Indexing.{still_at}

-- where two lists of one length with one element more are equal, both parts are
pub snoc_same : {X : Type 0} (xs ys : List X) (x y : X) → length xs ≡ length ys → xs ++ x ∷ [] ≡ ys ++ y ∷ [] → (xs ≡ ys) × (x ≡ y)
snoc_same [] [] x y l e = (refl, cc)
snoc_same [] (b ∷ ys) x y l e = absurd (omega arith)
snoc_same (a ∷ xs) [] x y l e = absurd (omega arith)
snoc_same (a ∷ xs) (b ∷ ys) x y l e =
    let head : a ≡ b = cc in
    let tail : xs ++ x ∷ [] ≡ ys ++ y ∷ [] = cc in
    let more = snoc_same xs ys x y (omega arith) tail in
    (ap (λ z. z ∷ xs) head ∙ ap (λ zs. b ∷ zs) more.0, more.1)

and_true : (a b : Bool) → IsTrue a → IsTrue b → IsTrue (a && b)
and_true true b p q = q
and_true false b p q = cc

pub and_parts : (a b : Bool) → IsTrue (a && b) → IsTrue a × IsTrue b
and_parts true b e = (refl, e)
and_parts false b e = cc

-- A loop puts y in place i of a list, instead of x. It knows whether y is x (b), and whether all places before are as
-- they were (a): then it knows it of all places up to i.
pub same_more : {X : Type 0} (now old : List X) (i : ℕ) (x y : X) (a b : Bool) → i < length now → i < length old → drop i now ≡ drop i old
    → x ≡ get_or now i x
    → (IsTrue a ↔ (take i now ≡ take i old)) → (IsTrue b ↔ (y ≡ x)) → IsTrue (a && b) ↔ (take (i + 1) (set now i y) ≡ take (i + 1) old)
same_more now old i x y a b hn ho rest is before here =
    let was : x ≡ get_or old i x = is ∙ still_at now old i x rest in
    let after : take (i + 1) (set now i y) ≡ take i now ++ y ∷ [] = take_more_set now i y hn in
    let all : take (i + 1) old ≡ take i old ++ get_or old i x ∷ [] = take_more old i x ho in (
      λ both. (
          let p = and_parts a b both in
          after ∙ ap (λ zs. zs ++ y ∷ []) (before.0 p.0) ∙ ap (λ z. take i old ++ z ∷ []) (here.0 p.1 ∙ was) ∙ sym all),
      λ same. (
          let long : length (take i now) ≡ length (take i old) = omega (arith, length-take-le i now, length-take-le i old) in
          let p = snoc_same (take i now) (take i old) y (get_or old i x) long (sym after ∙ same ∙ all) in
          and_true a b (before.1 p.0) (here.1 (p.1 ∙ sym was))),
    )

-- a loop reads x in place i of a list that it hasn't changed there
pub was_at : {X : Type 0} (now old : List X) (i : ℕ) (x d : X) → i < length old → drop i now ≡ drop i old → x ≡ get_or now i x
    → get_or old i d ≡ x
was_at now old i x d h rest is = get_or_default old i d x h ∙ sym (still_at now old i x rest) ∙ sym is
