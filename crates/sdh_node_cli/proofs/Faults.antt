-- Faults of the parts of a call.
use Rattle.std.proofs.Common.{◌≡◌, ◌≢◌, ◌≤◌, ℕ, List, Bool, true, refl, ap, ◌∙◌, arith}
use Rattle.std.specs.Prelude.{Option, Result, Ok, Err, IsErr}
use native.Mathlib.Nat.{le_refl}
use Rattle.sdh_basics.specs.Causes.{IsCounted, HasCause, one_more}
use Rattle.sdh_status.specs.declared.Status.TheVariants as status
use Rattle.sdh_node_cli.specs.declared.ending.Ending.TheVariants as ending
use Rattle.sdh_node_cli.specs.declared.stop.Stop.{Stop}
use Rattle.sdh_node_cli.specs.declared.stop.Stop.TheVariants as stop
use Rattle.sdh_node_cli.specs.Faults.{CountsFault}
use Rattle.sdh_node_cli.specs.Bench.{Bench}
use Rattle.sdh_node_cli.specs.Turns.{TakesPart, Halts}
use Rattle.sdh_node_cli.specs.Outcome.{ending_of}

-- where no call failed in the first part, the count of the whole is that of the second part
pub counted_behind : (exact : Bool) (Fault : Type 0) (a b c : ℕ) → (exact ≡ true → b ≡ a) → IsCounted exact Fault b c
    → IsCounted exact Fault a c
counted_behind exact Fault a b c same x = record {
  one = λ e f. x.one e f ∙ ap one_more (same e);
  none = λ e no. x.none e no ∙ same e;
}

-- a count for one fault is a count for another fault that happens exactly when the first does
pub counted_before : (exact : Bool) (Fault Far : Type 0) (a b : ℕ) → (Far → Fault) → (Fault → Far) → IsCounted exact Fault a b
    → IsCounted exact Far a b
counted_before exact Fault Far a b f g x = record {
  one = λ e far. x.one e (f far);
  none = λ e no. x.none e (λ fault. no (g fault));
}

-- ---- a fault and its count

-- the same fault, by another name
pub renamed : (exact : Bool) (a b : ℕ) (Fault Far : Type 0) → (Far → Fault) → (Fault → Far) → CountsFault exact a b Fault
    → CountsFault exact a b Far
renamed exact a b Fault Far f g x = record {
  later = x.later;
  rose = λ far. x.rose (f far);
  counted = counted_before exact Fault Far a b f g x.counted;
}

-- no call failed in the first part, and none was made after it
pub quiet : (exact : Bool) (a b : ℕ) (Fault : Type 0) → (Fault → ⊥) → (exact ≡ true → b ≡ a) → a ≤ b → CountsFault exact a b Fault
quiet exact a b Fault not same later = record {
  later = later;
  rose = λ f. absurd (not f);
  counted = record { one = λ e f. absurd (not f); none = λ e g. same e };
}

-- no call was made at all
pub none_made : (exact : Bool) (n : ℕ) (Fault : Type 0) → (Fault → ⊥) → CountsFault exact n n Fault
none_made exact n Fault not = quiet exact n n Fault not (λ e. refl) (le_refl n)

-- no call failed before
pub behind : (exact : Bool) (a b c : ℕ) (Fault : Type 0) → (exact ≡ true → b ≡ a) → a ≤ b → CountsFault exact b c Fault
    → CountsFault exact a c Fault
behind exact a b c Fault same later x = record {
  later = omega (arith, later, x.later);
  rose = λ f. omega (arith, later, x.rose f);
  counted = counted_behind exact Fault a b c same x.counted;
}

module _ {T : Type 0} (exact : Bool) (a b : ℕ) (why : Stop) (r : Result T Stop) (x : CountsFault exact a b (r ≡ Err why)) where
  ok_err : {v : T} → r ≡ Ok v → r ≡ Err why → ⊥
  ok_err is e = cc

  -- the first part of a call succeeded, so the fault is that of the second part
  pub well : (c : ℕ) (v : T) (Fault : Type 0) → r ≡ Ok v → CountsFault exact b c Fault → CountsFault exact a c Fault
  well c v Fault is y = behind exact a b c Fault (λ e. x.counted.none e (ok_err is)) x.later y

  -- the first part succeeded, and no call was made after it
  pub well_alone : (v : T) (Fault : Type 0) → r ≡ Ok v → (Fault → ⊥) → CountsFault exact a b Fault
  well_alone v Fault is not = quiet exact a b Fault not (λ e. x.counted.none e (ok_err is)) x.later

  -- the first part was the whole call
  pub whole : {U : Type 0} (s : Result U Stop) → (s ≡ Err why → r ≡ Err why) → (r ≡ Err why → s ≡ Err why) → CountsFault exact a b (s ≡ Err why)
  whole s f g = renamed exact a b (r ≡ Err why) (s ≡ Err why) f g x

  -- the first part ended the call
  pub ended : {U : Type 0} (stop : Stop) → r ≡ Err stop → CountsFault exact a b (◌≡◌ {A = Result U Stop} (Err stop) (Err why))
  ended {U} stop is = renamed exact a b (r ≡ Err why) (◌≡◌ {A = Result U Stop} (Err stop) (Err why)) (λ e. cc) (λ e. cc) x

  pub stopped : (stop : Stop) → r ≡ Err stop → CountsFault exact a b (stop ≡ why)
  stopped stop is = renamed exact a b (r ≡ Err why) (stop ≡ why) (λ e. cc) (λ e. cc) x

-- a call of a source or a sink succeeded
pub calm : {T E : Type 0} (exact : Bool) (a b : ℕ) (Fault : Type 0) (v : T) → HasCause {E = E} exact a b (Ok v) → (Fault → ⊥) → CountsFault exact a b Fault
calm {T} {E} exact a b Fault v h not = quiet exact a b Fault not (λ e. h.counted.none e no) h.later
  where
    no : IsErr {T = T} {E = E} (Ok v) → ⊥
    no e = cc

-- a call of a source or a sink failed
pub failing : {T E : Type 0} (exact : Bool) (a b : ℕ) (Fault : Type 0) (w : E) → HasCause {T = T} exact a b (Err w) → Fault → CountsFault exact a b Fault
failing exact a b Fault w h fault = record {
  later = h.later;
  rose = λ f. h.failed;
  counted = record { one = λ e f. h.counted.one e refl; none = λ e not. absurd (not fault) };
}

-- what stops before a round isn't a write
pub no_write_part : (size : ℕ) (left now : Option (List ℕ)) (why : Stop) → TakesPart size left now why → why ≢ stop.WriteFault
no_write_part size left now stop.WriteFault p = absurd p
no_write_part size left now stop.Done p = λ e. cc
no_write_part size left now stop.ReadFault p = λ e. cc
no_write_part size left now (stop.Bad f) p = λ e. cc

pub no_write_halt : (b : Bench) (left now : Option (List ℕ)) (why : Stop) → Halts b why left now → why ≢ stop.WriteFault
no_write_halt b left now stop.WriteFault h = absurd h.1
no_write_halt b left now stop.Done h = λ e. cc
no_write_halt b left now stop.ReadFault h = λ e. cc
no_write_halt b left now (stop.Bad f) h = λ e. cc

pub write_not_read : {T : Type 0} (how : Stop) → how ≡ stop.WriteFault → ◌≡◌ {A = Result T Stop} (Err how) (Err stop.ReadFault) → ⊥
write_not_read how is e = cc

pub err_same : {T : Type 0} (one other : Stop) → ◌≡◌ {A = Result T Stop} (Err one) (Err other) → one ≡ other
err_same one other e = cc

-- ---- of records

pub stop_fault : (why : Stop) (number : ℕ) → ending_of why number ≡ ending.Shared status.ReadFault → why ≡ stop.ReadFault
stop_fault stop.Done number e = cc
stop_fault (stop.Bad f) number e = cc
stop_fault stop.ReadFault number e = refl
stop_fault stop.WriteFault number e = cc

pub fault_stop : (why : Stop) (number : ℕ) → why ≡ stop.ReadFault → ending_of why number ≡ ending.Shared status.ReadFault
fault_stop why number e = ap (λ w. ending_of w number) e
