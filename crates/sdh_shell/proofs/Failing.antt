-- Calls that failed, and answers.
use Rattle.std.proofs.Common.{◌≡◌, ℕ, ◌+◌, Bool, true, List, [], Some, refl, arith}
use Rattle.std.specs.Prelude.{Result, Ok, Err, Option}
use Rattle.sdh_basics.specs.Causes.{IsCounted}
use Rattle.std.proofs.KnownBytes.{Consumes-nil}
use Rattle.sdh_outside.specs.Reading.{TakesFewer}
use Rattle.sdh_shell.specs.Failing.{Counts, TakesAtMost, CameOfSource}

not_err_eq : {T E : Type 0} (x : T) (e : E) (r : Result T E) → r ≡ Ok x → r ≡ Err e → ⊥
not_err_eq x e r a b = grind arith

-- what is Ok is no error
pub not_err : {T E : Type 0} (x : T) (e : E) → ◌≡◌ {A = Result T E} (Ok x) (Err e) → ⊥
not_err x e d = not_err_eq x e (Ok x) refl d

-- no call failed, and there is no fault
pub counted_none : {A : Type 0} (exact : Bool) (before now : ℕ) → (A → ⊥) → (exact ≡ true → now ≡ before) → IsCounted exact A before now
counted_none exact before now never same = record { one = λ e a. absurd (never a); none = λ e other. same e }

-- a count that shows one kind of fault shows another kind that occurs exactly where the first does
pub counted_as : {A B : Type 0} (exact : Bool) (before now : ℕ) → (B → A) → (A → B) → IsCounted exact A before now
    → IsCounted exact B before now
counted_as exact before now to from x = record { one = λ e b. x.one e (to b); none = λ e other. x.none e (λ a. other (from a)) }

-- no call of an object whose count is exact has failed
abbrev pub HasNotFailed : Bool → Counts → Type 0
HasNotFailed exact counts = exact ≡ true → counts.after ≡ counts.before

-- no read failed, no more bytes were taken than are accepted, and what is reported is none of these faults
pub came_of_none : (most : ℕ) (exact : Bool) (reads : Counts) (left now : Option (List ℕ)) {ReadFault TooLong : Type 0}
    → HasNotFailed exact reads → TakesFewer left now (most + 1) → (ReadFault → ⊥) → (TooLong → ⊥)
    → CameOfSource (Some most) exact reads left now ReadFault TooLong
came_of_none most exact reads left now same few no_read no_long = record {
  counted = counted_none exact reads.before reads.after no_read same;
  taken = record { one_more = λ long. absurd (no_long long); within = λ other. few };
}

-- nothing was taken
pub none_taken : (most : ℕ) (left : Option (List ℕ)) → TakesFewer left left (most + 1)
none_taken most left = ([], omega arith, Consumes-nil left)

-- too many bytes are reported under another name
pub taken_as : (most : ℕ) (left now : Option (List ℕ)) {TooLong Far : Type 0} → (Far → TooLong) → (TooLong → Far)
    → TakesAtMost most left now TooLong → TakesAtMost most left now Far
taken_as most left now to from x = record { one_more = λ far. x.one_more (to far); within = λ other. x.within (λ long. other (from long)) }
