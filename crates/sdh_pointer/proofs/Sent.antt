-- What a generator sends, row by row; and that one input for ever gives one word.
use Rattle.std.proofs.Common.{◌≡◌, ◌≢◌, ℕ, zero, suc, ◌≤◌, true, false, eqb, refl, ap, ◌∙◌, arith, inl, inr, Option, Some, None}
use Rattle.std.proofs.lemmas.Bool.{ne_eqb, eq-eqb, cases_eq}
use Rattle.sdh_pointer.specs.declared.word.Form.{Form}
use Rattle.sdh_pointer.specs.declared.word.Form.TheVariants as form
use Rattle.sdh_pointer.specs.declared.reading.Action.{Action}
use Rattle.sdh_pointer.specs.declared.reading.Action.TheVariants as action
use Rattle.sdh_pointer.specs.Words.{word_of, one_up, one_down}
use Rattle.sdh_pointer.specs.Sending.{Generator, sending_table, sending_row_of, after_action, form_sent, value_sent, word_sent}
use Rattle.sdh_pointer.specs.Sending.{next_sending, same_sending}
use Rattle.sdh_pointer.specs.Repeated.{after_inputs}
use Rattle.sdh_pointer.specs.Laws.{lasting_form, lasting_state}

-- in a state an input is answered by a word of this form with this value, and leads to the next state
pub record IsSent (s : Option ℕ) (a : Action) (v : ℕ) (f : Form) (x : ℕ) (n : Option ℕ) : Type 0 where
  pub form : form_sent s a v ≡ f
  pub word : word_sent s a v ≡ word_of f x
  pub next : next_sending s a v ≡ n

pub ais_sent : (s : Option ℕ) (v : ℕ) → IsSent s action.Ais v form.Ais v None
unfolding word_sent form_sent value_sent next_sending sending_row_of sending_table
ais_sent s v = record { form = refl; word = refl; next = refl }

pub new_sent : (s : Option ℕ) (v : ℕ) → IsSent s action.New v form.Enabled v (Some v)
unfolding word_sent form_sent value_sent next_sending sending_row_of sending_table
new_sent None v = record { form = refl; word = refl; next = refl }
new_sent (Some g) v = record { form = refl; word = refl; next = refl }

-- in state None, which is AIS, any input but Ais is sent as a new data flag
pub first_sent : (a : Action) (v : ℕ) → a ≢ action.Ais → IsSent None a v form.Enabled v (Some v)
unfolding word_sent form_sent value_sent next_sending sending_row_of sending_table
first_sent action.Normal v h = record { form = refl; word = refl; next = refl }
first_sent action.New v h = record { form = refl; word = refl; next = refl }
first_sent action.Up v h = record { form = refl; word = refl; next = refl }
first_sent action.Down v h = record { form = refl; word = refl; next = refl }
first_sent action.Ais v h = absurd (h refl)

pub normal_sent : (g v : ℕ) → v ≡ g → IsSent (Some g) action.Normal v form.Normal g (Some v)
unfolding word_sent form_sent value_sent next_sending sending_row_of sending_table
normal_sent g v is = let e : eqb v g ≡ true = eq-eqb _ _ is in record { form = rw e refl; word = rw e refl; next = rw e refl }

pub up_sent : (g v : ℕ) → v ≡ one_up g → IsSent (Some g) action.Up v form.Up g (Some v)
unfolding word_sent form_sent value_sent next_sending sending_row_of sending_table
up_sent g v is = let e : eqb v (one_up g) ≡ true = eq-eqb _ _ is in record { form = rw e refl; word = rw e refl; next = rw e refl }

pub down_sent : (g v : ℕ) → v ≡ one_down g → IsSent (Some g) action.Down v form.Down g (Some v)
unfolding word_sent form_sent value_sent next_sending sending_row_of sending_table
down_sent g v is = let e : eqb v (one_down g) ≡ true = eq-eqb _ _ is in record { form = rw e refl; word = rw e refl; next = rw e refl }

-- values that don't follow the one that is sent
pub other_sent : (g v : ℕ) → v ≢ g → IsSent (Some g) action.Normal v form.Enabled v (Some v)
unfolding word_sent form_sent value_sent next_sending sending_row_of sending_table
other_sent g v is = let e : eqb v g ≡ false = ne_eqb _ _ is in record { form = rw e refl; word = rw e refl; next = rw e refl }

pub not_up_sent : (g v : ℕ) → v ≢ one_up g → IsSent (Some g) action.Up v form.Enabled v (Some v)
unfolding word_sent form_sent value_sent next_sending sending_row_of sending_table
not_up_sent g v is = let e : eqb v (one_up g) ≡ false = ne_eqb _ _ is in record { form = rw e refl; word = rw e refl; next = rw e refl }

pub not_down_sent : (g v : ℕ) → v ≢ one_down g → IsSent (Some g) action.Down v form.Enabled v (Some v)
unfolding word_sent form_sent value_sent next_sending sending_row_of sending_table
not_down_sent g v is = let e : eqb v (one_down g) ≡ false = ne_eqb _ _ is in record { form = rw e refl; word = rw e refl; next = rw e refl }

-- ---- the next state is that of the input, whatever the state was

pub next_by_action : (s : Option ℕ) (a : Action) (v : ℕ) → next_sending s a v ≡ lasting_state a v
next_by_action s action.Ais v = (ais_sent s v).next
next_by_action s action.New v = (new_sent s v).next
next_by_action None action.Normal v = (first_sent action.Normal v (λ e. cc)).next
next_by_action None action.Up v = (first_sent action.Up v (λ e. cc)).next
next_by_action None action.Down v = (first_sent action.Down v (λ e. cc)).next
next_by_action (Some g) action.Normal v = elim (cases_eq v g) [ inl is ↦ (normal_sent g v is).next | inr is ↦ (other_sent g v is).next ]
next_by_action (Some g) action.Up v = elim (cases_eq v (one_up g)) [ inl is ↦ (up_sent g v is).next | inr is ↦ (not_up_sent g v is).next ]
next_by_action (Some g) action.Down v = elim (cases_eq v (one_down g)) [
  | inl is ↦ (down_sent g v is).next
  | inr is ↦
      (not_down_sent g v is).next
]

-- ---- one input for ever

-- what is sent in the state that an input leads to, where that input comes again
pub second_sent : (a : Action) (v : ℕ) → v ≤ 782 → IsSent (lasting_state a v) a v (lasting_form a) v (lasting_state a v)
second_sent action.Ais v h = ais_sent None v
second_sent action.New v h = new_sent (Some v) v
second_sent action.Normal v h = normal_sent v v refl
second_sent action.Up v h = not_up_sent v v (λ e. omega arith)
second_sent action.Down v h = not_down_sent v v (λ e. omega arith)

-- a state is equal to itself
pub state_itself : (s : Option ℕ) → same_sending s s ≡ true
state_itself None = refl
state_itself (Some g) = eq-eqb g g refl

-- what the generator is from then on
abbrev repeated : Action → ℕ → Generator
repeated a v = record { sending = lasting_state a v; word = word_of (lasting_form a) v; moved = false }

from_second : (g : Generator) (a : Action) (v : ℕ) → v ≤ 782 → g.sending ≡ lasting_state a v → after_action g a v ≡ repeated a v
unfolding after_action
from_second g a v h is =
    let sent = second_sent a v h in
    rw (is, sent.word, sent.next, state_itself (lasting_state a v)) refl

goes_on : (k : ℕ) (a : Action) (v : ℕ) → v ≤ 782 → after_inputs k a v (repeated a v) ≡ repeated a v
goes_on zero a v h = refl
goes_on (suc k) a v h = ap (after_inputs k a v) (from_second (repeated a v) a v h refl) ∙ goes_on k a v h

after_one : (g : Generator) (a : Action) (v : ℕ) → (after_action g a v).sending ≡ lasting_state a v
unfolding after_action
after_one g a v = next_by_action g.sending a v

pub generator_repeats : (g : Generator) (a : Action) (v k : ℕ) → v ≤ 782 → 2 ≤ k → after_inputs k a v g ≡ repeated a v
generator_repeats g a v zero small h = absurd (omega arith)
generator_repeats g a v (suc zero) small h = absurd (omega arith)
generator_repeats g a v (suc (suc k)) small h =
    ap (after_inputs k a v) (from_second (after_action g a v) a v small (after_one g a v)) ∙ goes_on k a v small
