-- What is written, where the source shows its bytes.
use Rattle.std.proofs.Common.{◌≡◌, ℕ, Bool, true, List, take, sym, subst, inl, inr}
use Rattle.std.specs.Prelude.{Option, IfSome, Result, Ok, Err, IsErr, OnOk, OnErr}
use Rattle.std.specs.Io.KnownBytes.{Appends}
use Rattle.std.proofs.KnownBytes.{Appends-trans}
use Rattle.std.proofs.lemmas.Bool.{false≢true}
use Rattle.sdh_outside.specs.Writing.{AppendsFewer, Wrote}
use Rattle.sdh_shell.specs.Endings.{Endings}
use Rattle.sdh_shell.specs.Failing.{Counts, EndsWithCause}
use Rattle.sdh_shell.specs.Writing.{Telling, Whole, WritesAs, WritesWith, IsShown, alone, AppendsUpTo, WroteEnding, WroteParts}
use Rattle.sdh_shell.proofs.Told.{told_all}

-- the text of an outcome was written whole
writes_whole : {S : Type 0} (telling : Telling) (may : S → List ℕ → Type 0) (how : S) (text : List ℕ) (old new : Option (List ℕ))
    → telling ≡ Whole → may how text → Appends old new text → WritesAs telling may how old new
writes_whole telling may how text old new is x a = subst (λ t. WritesAs t may how old new) (sym is) (text, x, a)

-- with an ending that is shown the whole text was written
pub was_whole : {E : Type 0} (endings : Endings E) (may : E → List ℕ → Type 0) (how : E) (old new : Option (List ℕ)) → IsShown endings how
    → WritesWith endings may how old new → (text : List ℕ) × may how text × Appends old new text
was_whole endings may how old new shown x = subst (λ t. WritesAs t may how old new) shown x

module _ {E : Type 0} (endings : Endings E) (o : Option (List ℕ)) (is : List ℕ → E → List ℕ → Type 0) (reads calls : Counts) (how : E)
    (text : List ℕ) (old new : Option (List ℕ)) (cause : EndsWithCause endings reads calls how)
    (outcome : IfSome o (λ bytes. is bytes how text)) where
  pub told_whole : IsShown endings how → Appends old new text → IfSome o
      (λ bytes. WritesWith endings (λ how text. is bytes how text × EndsWithCause endings reads calls how) how old new)
  told_whole shown appends =
      told_all o _ (λ (bytes : List ℕ). WritesWith endings
      (λ how text. is bytes how text × EndsWithCause endings reads calls how) how old new)
      (λ bytes x. writes_whole _ (λ how text. is bytes how text × EndsWithCause endings reads calls how) how text old new shown
      (x, cause) appends) outcome

-- ---- a piece that was put

module _ {T E : Type 0} (exact : Bool) (old new : Option (List ℕ)) (before after : ℕ) (text : List ℕ) (r : Result T E)
    (w : Wrote exact old new before after text r) where
  pub put_whole : (x : T) → r ≡ Ok x → Appends old new text
  put_whole x is = subst (λ (s : Result T E). OnOk s (Appends old new text)) is w.ok

  pub put_front : (e : E) → r ≡ Err e → AppendsFewer old new text
  put_front e is = subst (λ (s : Result T E). OnErr s (AppendsFewer old new text)) is w.front

  pub put_none : (x : T) → r ≡ Ok x → exact ≡ true → after ≡ before
  put_none x is e = w.counted.none e (λ h. not_err x (subst (λ (s : Result T E). IsErr s) is h))
    where
      not_err : (x : T) → IsErr {T = T} {E = E} (Ok x) → ⊥
      not_err x h = false≢true h

-- ---- a text in two parts

-- a write failed in what came after a text that was written
pub up_to : (old mid new : Option (List ℕ)) (first last : List ℕ) → Appends old mid first → AppendsFewer mid new last
    → AppendsUpTo old new (record { first = first; last = last })
up_to old mid new first last before (n, few, front) = (n, few, Appends-trans old mid new first (take n last) before front)

module _ {E : Type 0} (endings : Endings E) where
  -- the last part of a text was to be written, after all that comes before it
  pub wrote_after : (how end : E) (first last : List ℕ) (old mid new : Option (List ℕ)) → Appends old mid first
      → WroteEnding endings how last end mid new → WroteParts endings how (record { first = first; last = last }) end old new
  wrote_after how end first last old mid new before (inl x) = inl (x.0, Appends-trans old mid new first last before x.1)
  wrote_after how end first last old mid new before (inr x) = inr (x.0, up_to old mid new first last before x.1)

  -- a text was to be written in one go
  pub wrote_alone : (how end : E) (text : List ℕ) (old new : Option (List ℕ)) → WroteEnding endings how text end old new
      → WroteParts endings how (alone text) end old new
  wrote_alone how end text old new (inl x) = inl x
  wrote_alone how end text old new (inr x) = inr x
