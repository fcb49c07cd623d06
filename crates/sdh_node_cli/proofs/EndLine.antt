-- The place of the line that ends a plan.
use Rattle.std.proofs.Common.{◌≡◌, ℕ, ◌+◌, ◌-◌, ◌≤◌, ◌⊎◌, inl, inr, List, [], ◌∷◌, ◌++◌, length, take, drop, get_or, codes, refl, ap, sym, subst, ◌∙◌, arith}
use Rattle.std.proofs.Common.{Bool, true, false, append_assoc, take-append-drop, length-drop, take_all}
use Rattle.std.specs.Str.{bytes_eq}
use Rattle.std.proofs.lemmas.Slice.Eq.{bytes_eq-Decides}
use Rattle.std.proofs.lemmas.List.{length-append, take_more, append_cancel_right}
use Rattle.std.proofs.Math.Seq.{get_or-append_seam}
use Rattle.sdh_node_cli.specs.Streams.{end_of_plan, AreLines, EndsPlan, HasNoEnd, IsPlanDocument}

-- ---- the line at the end of some bytes

pub here_by : (bytes : List ℕ) (at : ℕ) → bytes_eq (take (length bytes - at) (drop at bytes)) end_of_plan ≡ true → drop at bytes ≡ end_of_plan
here_by bytes at same =
    sym (take_all _ _ (omega (arith, length-drop {A = ℕ}))) ∙ (bytes_eq-Decides (take (length bytes - at) (drop at bytes)) end_of_plan).0 same

pub ends_first : (bytes : List ℕ) (at : ℕ) → drop at bytes ≡ end_of_plan → at ≡ 0 → EndsPlan bytes
ends_first bytes at here none = ([], subst (λ (k : ℕ). drop k bytes ≡ end_of_plan) none here, inl refl)

pub ends_later : (bytes : List ℕ) (at : ℕ) → drop at bytes ≡ end_of_plan → 1 ≤ at → at ≤ length bytes → get_or bytes (at - 1) 0 ≡ 10 → EndsPlan bytes
ends_later bytes at here some within line =
    let next : at - 1 + 1 ≡ at = omega arith in
    let parts : take at bytes ≡ take (at - 1) bytes ++ (10 ∷ []) =
    ap (λ k. take k bytes) (sym next) ∙ take_more bytes (at - 1) 0 (omega arith) ∙ ap (λ x. take (at - 1) bytes ++ x ∷ []) line in (
      take at bytes,
      sym (take-append-drop at bytes) ∙ ap (λ l. take at bytes ++ l) here,
      inr (take (at - 1) bytes, parts),
    )

pub ends_back : (bytes : List ℕ) (at : ℕ) → at + 12 ≡ length bytes → 1 ≤ at → EndsPlan bytes → get_or bytes (at - 1) 0 ≡ 10
ends_back bytes at size some (document, is, inl none) =
    absurd (omega (arith, ap length is, length-append document end_of_plan, ap length none))
ends_back bytes at size some (document, is, inr (before, line)) =
    let long : length before ≡ at - 1 =
    omega (arith, ap length is, length-append document end_of_plan, ap length line, length-append before (codes "\n")) in
    let whole : bytes ≡ before ++ 10 ∷ end_of_plan = is ∙ ap (λ l. l ++ end_of_plan) line ∙ append_assoc before (codes "\n") end_of_plan in
    ap (λ l. get_or l (at - 1) 0) whole ∙ ap (λ k. get_or (before ++ 10 ∷ end_of_plan) k 0) (sym long)
    ∙ get_or-append_seam before 10 end_of_plan 0

-- ---- one byte more

-- the empty list has no front that ends a plan
pub none_yet : HasNoEnd []
none_yet front rest is (document, ends, lines) =
    absurd (omega (arith, ap length is, length-append front rest, ap length ends, length-append document end_of_plan))

-- a front of bytes with one more is a front of the bytes, or all of them
split_last : (bytes : List ℕ) (x : ℕ) (front rest : List ℕ) → bytes ++ x ∷ [] ≡ front ++ rest
    → (front ≡ bytes ++ x ∷ []) ⊎ ((more : List ℕ) × (bytes ≡ front ++ more))
split_last bytes x [] rest is = inr (bytes, refl)
split_last [] x (y ∷ front) rest is = inl (only front (ap (λ l. drop 1 l) is) ∙ ap (λ z. z ∷ []) (sym (ap (λ l. get_or l 0 0) is)))
  where
    only : (more : List ℕ) → [] ≡ more ++ rest → y ∷ more ≡ y ∷ []
    only [] e = refl
    only (z ∷ more) e = cc
split_last (b ∷ bytes) x (y ∷ front) rest is =
    go (split_last bytes x front rest (ap (λ l. drop 1 l) is))
  where
    same : b ≡ y
    same = ap (λ l. get_or l 0 0) is

    go : (front ≡ bytes ++ x ∷ []) ⊎ ((more : List ℕ) × (bytes ≡ front ++ more))
        → (y ∷ front ≡ b ∷ bytes ++ x ∷ []) ⊎ ((more : List ℕ) × (b ∷ bytes ≡ y ∷ front ++ more))
    go (inl e) = inl (ap (λ l. y ∷ l) e ∙ ap (λ z. z ∷ bytes ++ x ∷ []) (sym same))
    go (inr (more, e)) = inr (more, ap (λ l. b ∷ l) e ∙ ap (λ z. z ∷ front ++ more) same)

-- where neither a front of some bytes nor these with one more byte end a plan, no front of the latter does
pub none_more : (bytes : List ℕ) (x : ℕ) → HasNoEnd bytes → (EndsPlan (bytes ++ x ∷ []) → ⊥) → HasNoEnd (bytes ++ x ∷ [])
none_more bytes x none not front rest is ends = go (split_last bytes x front rest is)
  where
    go : (front ≡ bytes ++ x ∷ []) ⊎ ((more : List ℕ) × (bytes ≡ front ++ more)) → ⊥
    go (inl e) = not (subst EndsPlan e ends)
    go (inr (more, e)) = none front more e ends

-- what ends a plan ends with a newline byte
last_byte : (bytes : List ℕ) (x : ℕ) → EndsPlan (bytes ++ x ∷ []) → x ≡ 10
last_byte bytes x (document, is, lines) =
    let long : length bytes ≡ length document + 11 =
    omega (arith, ap length is, length-append document end_of_plan, length-append bytes (x ∷ [])) in
    let split : document ++ end_of_plan ≡ (document ++ codes "end of plan") ++ 10 ∷ [] =
    sym (append_assoc document (codes "end of plan") (10 ∷ [])) in
    let wide : length (document ++ codes "end of plan") ≡ length bytes = omega (arith, long, length-append document (codes "end of plan")) in
    sym (get_or-append_seam bytes x [] 0) ∙ ap (λ l. get_or l (length bytes) 0) (is ∙ split)
    ∙ ap (λ k. get_or ((document ++ codes "end of plan") ++ 10 ∷ []) k 0) (sym wide)
    ∙ get_or-append_seam (document ++ codes "end of plan") 10 [] 0

-- a boolean is not both true and false
pub clash : (b : Bool) → b ≡ true → b ≡ false → ⊥
clash true e f = cc
clash false e f = cc

-- a document, and the line that ends it for the first time
is_document : (bytes document before : List ℕ) → bytes ≡ document ++ end_of_plan → bytes ≡ before ++ codes "\n" → HasNoEnd before
    → EndsPlan bytes → IsPlanDocument document
is_document bytes document before is line none (other, ends, lines) =
    let same : other ≡ document = append_cancel_right other document end_of_plan (sym ends ∙ is) in
    let front : before ≡ document ++ codes "end of plan" =
    append_cancel_right before (document ++ codes "end of plan") (codes "\n")
    (sym line ∙ is ∙ sym (append_assoc document (codes "end of plan") (codes "\n"))) in
    record { lines = subst AreLines same lines; first = subst HasNoEnd front none }

-- where the last byte is the first one with which a plan is ended, the bytes are a document and the line that ends it
pub ended_by : (before bytes : List ℕ) (x : ℕ) → bytes ≡ before ++ x ∷ [] → HasNoEnd before → EndsPlan bytes
    → (document : List ℕ) × (bytes ≡ document ++ end_of_plan) × IsPlanDocument document
ended_by before bytes x is none ends =
    let line : bytes ≡ before ++ codes "\n" = is ∙ ap (λ y. before ++ y ∷ []) (last_byte before x (subst EndsPlan is ends)) in
    (ends.0, ends.1, is_document bytes ends.0 before ends.1 line none ends)
