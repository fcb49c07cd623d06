-- What a word spells is read again, and what the tables don't list is no word.
use Rattle.std.proofs.Common.{◌≡◌, ◌≢◌, ℕ, ◌+◌, ◌*◌, ◌/◌, ◌%◌, ◌<◌, Option, Some, None, refl, arith, inl, inr, ◌⊎◌, ◌↔◌}
use Rattle.std.proofs.lemmas.Bool.{cond_both, eqb-true}
use Rattle.std.specs.Prelude.{Bool, true, List, [], ◌∷◌, find, ◌==◌, IfSome, option_and_then}
use Rattle.sdh_ringmap.specs.declared.terms.Code.{Code}
use Rattle.sdh_ringmap.specs.declared.terms.Code.TheVariants.{Nr, Rr, Wtr, Ms, Sd, Sf, Fs}
use Rattle.sdh_kbytes.specs.declared.Path.{Path}
use Rattle.sdh_kbytes.specs.declared.Path.TheVariants.{Short, Long}
use Rattle.sdh_kbytes.specs.declared.Mark.{Mark}
use Rattle.sdh_kbytes.specs.declared.Mark.TheVariants.{Idle, Bridged, BridgedSwitched, Rdi, MsAis}
use Rattle.sdh_kbytes.specs.declared.K.{K}
use Rattle.sdh_kbytes.specs.KBytes.{mark_number, path_number, codes, marks, code_at, mark_at, path_at, decoded, Spells, IsUnlisted}
use Rattle.sdh_ringmap.specs.Requests.{code_number}

pub code_at-number : (c : Code) → code_at (code_number c) ≡ Some c
code_at-number Nr = refl
code_at-number Rr = refl
code_at-number Wtr = refl
code_at-number Ms = refl
code_at-number Sd = refl
code_at-number Sf = refl
code_at-number Fs = refl

pub mark_at-number : (m : Mark) → mark_at (mark_number m) ≡ Some m
mark_at-number Idle = refl
mark_at-number Bridged = refl
mark_at-number BridgedSwitched = refl
mark_at-number Rdi = refl
mark_at-number MsAis = refl

pub path_at-number : (p : Path) → path_at (path_number p) ≡ p
path_at-number Short = refl
path_at-number Long = refl

mark_number-lt : (m : Mark) → mark_number m < 8
mark_number-lt Idle = omega arith
mark_number-lt Bridged = omega arith
mark_number-lt BridgedSwitched = omega arith
mark_number-lt Rdi = omega arith
mark_number-lt MsAis = omega arith

path_number-lt : (p : Path) → path_number p < 2
path_number-lt Short = omega arith
path_number-lt Long = omega arith

high : (a b : ℕ) → b < 16 → (16 * a + b) / 16 ≡ a
high a b h = omega arith

low : (a b : ℕ) → b < 16 → (16 * a + b) % 16 ≡ b
low a b h = omega arith

middle : (f p m : ℕ) → p < 2 → m < 8 → (16 * f + (8 * p + m)) / 8 % 2 ≡ p
middle f p m hp hm = omega arith

lowest : (f p m : ℕ) → p < 2 → m < 8 → (16 * f + (8 * p + m)) % 8 ≡ m
lowest f p m hp hm = omega arith

pub decoded_spelled : (k : K) (k1 k2 : ℕ) → Spells k k1 k2 → decoded k1 k2 ≡ Some k
decoded_spelled k k1 k2 s =
    let hm = mark_number-lt k.mark in
    let hp = path_number-lt k.path in
    let to = s.to in
    let e1 : k1 / 16 ≡ code_number k.code = rw s.first (high _ _ (omega arith)) in
    let e2 : k1 % 16 ≡ k.to = rw s.first (low _ _ (omega arith)) in
    let e3 : k2 / 16 ≡ k.from = rw s.second (high _ _ (omega arith)) in
    let e4 : k2 / 8 % 2 ≡ path_number k.path = rw s.second (middle _ _ _ hp hm) in
    let e5 : k2 % 8 ≡ mark_number k.mark = rw s.second (lowest _ _ _ hp hm) in
    rw (e1, e2, e3, e4, e5, code_at-number k.code, mark_at-number k.mark, path_at-number k.path) refl

-- what a lookup in a table finds passes its test
find-passes : {X : Type 0} (p : X → Bool) (xs : List X) → IfSome (find p xs) (λ x. p x ≡ true)
find-passes p [] = tt
find-passes p (x ∷ xs) =
    cond_both (p x) (Some x) (find p xs) (λ o. IfSome o (λ y. p y ≡ true)) (λ e. e) (λ e. find-passes p xs)

none_from : {X : Type 0} (o : Option X) (P : X → Type 0) → IfSome o P → ((x : X) → P x → ⊥) → o ≡ None
none_from None P found other = refl
none_from (Some x) P found other = absurd (other x found)

code_at-none : (n : ℕ) → ((c : Code) → code_number c ≢ n) → code_at n ≡ None
code_at-none n other =
    none_from (code_at n) _ (find-passes (λ c. code_number c == n) codes) (λ c e. other c (eqb-true _ _ e))

mark_at-none : (n : ℕ) → ((m : Mark) → mark_number m ≢ n) → mark_at n ≡ None
mark_at-none n other =
    none_from (mark_at n) _ (find-passes (λ m. mark_number m == n) marks) (λ m e. other m (eqb-true _ _ e))

and_then-none : {X Y : Type 0} (o : Option X) (f : X → Option Y) → ((x : X) → f x ≡ None) → option_and_then f o ≡ None
and_then-none None f h = refl
and_then-none (Some x) f h = h x

decoded-none : (k1 k2 : ℕ) → IsUnlisted k1 k2 → decoded k1 k2 ≡ None
decoded-none k1 k2 (inl other) = rw (code_at-none _ other) refl
decoded-none k1 k2 (inr other) = and_then-none (code_at (k1 / 16)) _ (λ c. rw (mark_at-none _ other) refl)

code_at-other : (n : ℕ) → code_at n ≡ None → (c : Code) → code_number c ≢ n
code_at-other n none c e = let found : code_at n ≡ Some c = rw (← e) (code_at-number c) in cc

mark_at-other : (n : ℕ) → mark_at n ≡ None → (m : Mark) → mark_number m ≢ n
mark_at-other n none m e = let found : mark_at n ≡ Some m = rw (← e) (mark_at-number m) in cc

-- where both lookups find something, there is a word
one_missing : {X Y Z : Type 0} (f : X → Y → Z) (o : Option X) (p : Option Y)
    → option_and_then (λ x. option_and_then (λ y. Some (f x y)) p) o ≡ None → (o ≡ None) ⊎ (p ≡ None)
one_missing f None p h = inl refl
one_missing f (Some x) None h = inr refl
one_missing f (Some x) (Some y) h = absurd cc

decoded-missing : (k1 k2 : ℕ) → decoded k1 k2 ≡ None → IsUnlisted k1 k2
decoded-missing k1 k2 h =
    elim (one_missing _ (code_at (k1 / 16)) (mark_at (k2 % 8)) h) [
      | inl none ↦ inl (code_at-other _ none)
      | inr none ↦ inr (mark_at-other _ none)
    ]

pub unlisted_none : (k1 k2 : ℕ) (o : Option K) → o ≡ decoded k1 k2 → (o ≡ None) ↔ IsUnlisted k1 k2
unlisted_none k1 k2 o e = (λ h. decoded-missing k1 k2 (rw (← e) h), λ h. rw (e, decoded-none k1 k2 h) refl)
