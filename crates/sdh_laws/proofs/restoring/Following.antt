-- An interpreter that follows a generator still does so in the next round, and justifies nothing.
use Rattle.std.proofs.Common.{◌≡◌, ◌≢◌, ℕ, suc, ◌+◌, ◌≤◌, true, false, refl, ap, sym, ◌∙◌, subst, arith, inl, inr, ◌⊎◌}
use Rattle.std.proofs.Common.{Option, Some, None}
use Rattle.std.specs.Prelude.{nat_le, not, if◌then◌else◌}
use Rattle.std.proofs.lemmas.Bool.{le-leb, cases_Bool, cases_eq, cases_lt}
use Rattle.sdh_pointer.specs.declared.reading.Reading.{Reading}
use Rattle.sdh_pointer.specs.declared.reading.Mode.{Mode}
use Rattle.sdh_pointer.specs.declared.reading.Mode.TheVariants as mode
use Rattle.sdh_pointer.specs.declared.reading.Event.TheVariants as event
use Rattle.sdh_pointer.specs.declared.reading.Action.{Action}
use Rattle.sdh_pointer.specs.declared.reading.Action.TheVariants as action
use Rattle.sdh_pointer.specs.declared.word.Form.TheVariants as form
use Rattle.sdh_pointer.specs.Words.{word_of, value_in, is_normal}
use Rattle.sdh_pointer.specs.Reading.{action_in, after_word, action_on, nothing_counted, with_ais, with_new, news_with, later, is_norm}
use Rattle.sdh_pointer.specs.Reading.{normal_event, reading_row_of, reading_table}
use Rattle.sdh_pointer.specs.Sending.{word_sent, next_sending}
use Rattle.sdh_pointer.specs.Laws.{is_ais_action, IsSound as IsSmallInput}
use Rattle.sdh_pointer.proofs.Bounds.{answer_tells_mode}
use Rattle.sdh_pointer.proofs.Forms.{of_ones, normal_word, normal_value, enabled_word, enabled_value, new_outside}
use Rattle.sdh_pointer.proofs.Rows.{norm_ais, ais_ais, ais_new, ais_ais_action}
use Rattle.sdh_pointer.proofs.Sent.{ais_sent, new_sent, first_sent, normal_sent, other_sent}
use Rattle.sdh_pointer.proofs.Settling.{by_event, action_by_event, reads, same, same_action, news_more, some_news}
use Rattle.sdh_laws.specs.Restoring.Followed.{IsWordOf, IsSoundReading, Follows}
use Rattle.sdh_spans.proofs.Sends.{ais_word}
use Rattle.sdh_laws.proofs.restoring.Landing.{keeps, enabled_taken, acts, ais_new_action}

-- ---- actions that justify nothing

abbrev pub JustifiesNothing : Action → Type 0
JustifiesNothing action.Ais = Unit {0}
JustifiesNothing action.Normal = Unit {0}
JustifiesNothing action.New = Unit {0}
JustifiesNothing action.Up = ⊥
JustifiesNothing action.Down = ⊥

-- an action that justifies nothing, with a value that a pointer has
pub record IsPlainAction (a : Action) (v : ℕ) : Type 0 where
  pub justifies : JustifiesNothing a
  pub small : IsSmallInput a v

-- ---- words of ones

norm_ais_action : (r : Reading) → action_in mode.Norm event.Ais r ≡ (if nat_le 3 (r.ais + 1) then action.Ais else action.Normal)
unfolding action_in reading_row_of reading_table
norm_ais_action r = refl

-- what a word leads to: an interpreter that hasn't lost its pointer, and an action that justifies nothing
pub record GoesOn (r : Reading) (word : ℕ) : Type 0 where
  pub small : (after_word r word).mode ≡ mode.Norm → (after_word r word).value ≤ 782
  pub few : (after_word r word).news ≤ 2
  pub kept : (after_word r word).mode ≢ mode.Lop
  pub action : JustifiesNothing (action_on r word)

goes_as : (r t : Reading) (a : Action) (word : ℕ) → after_word r word ≡ t → action_on r word ≡ a → (t.mode ≡ mode.Norm → t.value ≤ 782)
    → t.news ≤ 2 → t.mode ≢ mode.Lop → JustifiesNothing a → GoesOn r word
goes_as r t a word e f small few kept justifies = record {
  small =
      λ norm. (let value = ap (λ (x : Reading). x.value) e in
      let most = small (sym (ap (λ (x : Reading). x.mode) e) ∙ norm) in
      omega arith);
  few = (let news = ap (λ (x : Reading). x.news) e in omega arith);
  kept = λ lost. kept (ap (λ (x : Reading). x.mode) (sym e) ∙ lost);
  action = subst JustifiesNothing (sym f) justifies;
}

pub over_ones : (r : Reading) → r.mode ≢ mode.Lop → (r.mode ≡ mode.Norm → r.value ≤ 782) → GoesOn r 65535
over_ones r other small = by r.mode refl
  where
    by : (m : Mode) → r.mode ≡ m → GoesOn r 65535
    by mode.Lop is = absurd (other is)
    by mode.Ais is =
        goes_as r (nothing_counted mode.Ais r.value 0) action.Ais 65535 (by_event r 65535 mode.Ais event.Ais is (of_ones r) ∙ ais_ais r)
        (action_by_event r 65535 mode.Ais event.Ais is (of_ones r) ∙ ais_ais_action r) (λ e. cc) (omega arith) (λ e. cc) tt
    by mode.Norm is =
        let next = by_event r 65535 mode.Norm event.Ais is (of_ones r) ∙ norm_ais r in
        let act = action_by_event r 65535 mode.Norm event.Ais is (of_ones r) ∙ norm_ais_action r in
        elim (cases_Bool (nat_le 3 (r.ais + 1))) [
          | inl t ↦ goes_as r (nothing_counted mode.Ais r.value 0) action.Ais 65535 (next ∙ (rw t refl)) (act ∙ (rw t refl)) (λ e. cc) (omega arith)
              (λ e. cc) tt
          | inr f ↦ goes_as r (with_ais r (later r.since)) action.Normal 65535 (next ∙ (rw f refl)) (act ∙ (rw f refl)) small (omega arith)
              other tt
        ]

two_at_most : (k : ℕ) → nat_le 3 k ≡ false → k ≤ 2
two_at_most k f = elim (cases_lt k 3) [
  | inl less ↦ omega arith
  | inr more ↦ absurd (let e = le-leb _ _ more in let g : true ≡ false = sym e ∙ f in cc)
]

-- what an interpreter that reads ones has counted: it is in Ais, or in Norm after at least j of them
abbrev pub CountsOnes : ℕ → Reading → Type 0
CountsOnes j r = (r.mode ≡ mode.Ais) ⊎ ((j ≤ r.ais) × (j ≤ 2))

pub ones_counted : (j : ℕ) (r : Reading) → r.mode ≢ mode.Lop → CountsOnes j r → CountsOnes (suc j) (after_word r 65535)
ones_counted j r other counts = by r.mode refl
  where
    by : (m : Mode) → r.mode ≡ m → CountsOnes (suc j) (after_word r 65535)
    by mode.Lop is = absurd (other is)
    by mode.Ais is = inl (ap (λ (x : Reading). x.mode) (by_event r 65535 mode.Ais event.Ais is (of_ones r) ∙ ais_ais r))
    by mode.Norm is =
        let next = by_event r 65535 mode.Norm event.Ais is (of_ones r) ∙ norm_ais r in
        elim (cases_Bool (nat_le 3 (r.ais + 1))) [
          | inl t ↦ (let became : after_word r 65535 ≡ nothing_counted mode.Ais r.value 0 = next ∙ (rw t refl) in
              inl (ap (λ (x : Reading). x.mode) became))
          | inr f ↦ (
              let stayed : after_word r 65535 ≡ with_ais r (later r.since) = next ∙ (rw f refl) in
              let more = ap (λ (x : Reading). x.ais) stayed in
              let few = two_at_most (r.ais + 1) f in
              elim counts [
                | inl ais ↦ absurd (let e : mode.Norm ≡ mode.Ais = sym is ∙ ais in cc)
                | inr both ↦ (let many = both.0 in inr (omega arith, omega arith))
              ])
        ]

-- ---- words that a generator sends

-- the interpreter is in Norm at this value
abbrev pub IsAtValue : ℕ → Reading → Type 0
IsAtValue v r = (r.mode ≡ mode.Norm) × (r.value ≡ v)

-- an enabled word is taken at once
pub over_enabled : (r : Reading) (v : ℕ) → v ≤ 782 → r.mode ≢ mode.Lop
    → (after_word r (word_of form.Enabled v) ≡ nothing_counted mode.Norm v 0) × (action_on r (word_of form.Enabled v) ≡ action.New)
over_enabled r v small other =
    let value = enabled_value v small in
    let t = enabled_taken r (word_of form.Enabled v) (enabled_word v small) (omega (arith, value)) other in
    (t.0 ∙ ap (λ x. nothing_counted mode.Norm x 0) value, t.1)

module _ (v : ℕ) (small : v ≤ 782) where
  abbrev sent : ℕ
  sent = word_of form.Normal v

  abbrev normal : is_normal sent ≡ true
  normal = normal_word v small

  abbrev carries : value_in sent ≡ v
  carries = normal_value v small

  -- at its value an interpreter stays there
  pub there : (r : Reading) → IsAtValue v r
      → (after_word r sent ≡ nothing_counted mode.Norm v (later r.since)) × (action_on r sent ≡ action.Normal)
  there r at = (same sent v normal carries r at.0 at.1, same_action sent v normal carries r at.0 at.1)

  -- in Ais it counts the word, and takes the third
  module _ (r : Reading) (is : r.mode ≡ mode.Ais) where
    new : normal_event r v ≡ event.New v
    new = new_outside r v (ap is_norm is) small

    next : after_word r sent ≡ (if nat_le 3 (news_with r v) then nothing_counted mode.Norm v 0 else with_new r v 0)
    next = reads sent v normal carries mode.Ais r (event.New v) is new ∙ ais_new r v

    act : action_on r sent ≡ (if nat_le 3 (news_with r v) then action.New else action.Ais)
    act = acts sent v normal carries mode.Ais r (event.New v) is new ∙ ais_new_action r v

    counted : nat_le 3 (news_with r v) ≡ false → (after_word r sent ≡ with_new r v 0) × (action_on r sent ≡ action.Ais)
    counted f = (next ∙ (rw f refl), act ∙ (rw f refl))

    third : nat_le 3 (news_with r v) ≡ true → (after_word r sent ≡ nothing_counted mode.Norm v 0) × (action_on r sent ≡ action.New)
    third t = (next ∙ (rw t refl), act ∙ (rw t refl))

  -- an interpreter that is at the value, or in Ais
  abbrev pub MayRead : Reading → Type 0
  MayRead r = IsAtValue v r ⊎ (r.mode ≡ mode.Ais)

  pub over_normal : (r : Reading) → MayRead r → GoesOn r sent
  over_normal r (inl at) =
      goes_as r (nothing_counted mode.Norm v (later r.since)) action.Normal sent (there r at).0 (there r at).1 (λ e. small) (omega arith) (λ e. cc) tt
  over_normal r (inr is) = elim (cases_Bool (nat_le 3 (news_with r v))) [
    | inl t ↦ goes_as r (nothing_counted mode.Norm v 0) action.New sent (third r is t).0 (third r is t).1 (λ e. small) (omega arith) (λ e. cc) tt
    | inr f ↦ goes_as r (with_new r v 0) action.Ais sent (counted r is f).0 (counted r is f).1
        (λ norm. absurd (let e : mode.Ais ≡ mode.Norm = sym is ∙ norm in cc)) (two_at_most (news_with r v) f)
        (λ lost. (let e : mode.Ais ≡ mode.Lop = sym is ∙ lost in cc)) tt
  ]

  pub value_normal : (r : Reading) → MayRead r → (after_word r sent).mode ≡ mode.Norm → (after_word r sent).value ≡ v
  value_normal r (inl at) norm = ap (λ (x : Reading). x.value) (there r at).0
  value_normal r (inr is) norm = elim (cases_Bool (nat_le 3 (news_with r v))) [
    | inl t ↦ ap (λ (x : Reading). x.value) (third r is t).0
    | inr f ↦ absurd (let e : mode.Ais ≡ mode.Norm = sym is ∙ sym (ap (λ (x : Reading). x.mode) (counted r is f).0) ∙ norm in cc)
  ]

  -- ---- how many normal words an interpreter has counted in Ais

  abbrev pub Counts : ℕ → Reading → Type 0
  Counts j r = IsAtValue v r ⊎ ((r.mode ≡ mode.Ais) × ((j ≡ 0) ⊎ ((r.candidate ≡ v) × (j ≤ r.news))))

  one_more : (j : ℕ) (r : Reading) → (j ≡ 0) ⊎ ((r.candidate ≡ v) × (j ≤ r.news)) → suc j ≤ news_with r v
  one_more j r (inl none) = let some = some_news v r in omega arith
  one_more j r (inr counted) = elim (cases_eq j 0) [
    | inl none ↦ (let some = some_news v r in omega arith)
    | inr some ↦ (let many = counted.1 in let more = news_more v r counted.0 (omega arith) in omega arith)
  ]

  pub counts_next : (j : ℕ) (r : Reading) → Counts j r → Counts (suc j) (after_word r sent)
  counts_next j r (inl at) = inl (keeps sent v normal carries r at)
  counts_next j r (inr out) = elim (cases_Bool (nat_le 3 (news_with r v))) [
    | inl t ↦ (let e = (third r out.0 t).0 in inl (ap (λ (x : Reading). x.mode) e, ap (λ (x : Reading). x.value) e))
    | inr f ↦ (let e = (counted r out.0 f).0 in inr (
      ap (λ (x : Reading). x.mode) e ∙ out.0,
      inr (ap (λ (x : Reading). x.candidate) e, (let n = ap (λ (x : Reading). x.news) e in let more = one_more j r out.1 in omega arith)),
    ))
  ]

  pub counts_done : (r : Reading) → r.news ≤ 2 → Counts 3 r → IsAtValue v r
  counts_done r few (inl at) = at
  counts_done r few (inr (is, inl none)) = absurd (omega arith)
  counts_done r few (inr (is, inr counted)) = absurd (let many = counted.1 in omega arith)

-- ---- what a generator sends

enabled_not_normal : (v u : ℕ) → v ≡ u → word_of form.Enabled v ≡ word_of form.Normal u → ⊥
unfolding word_of
enabled_not_normal v u e f = let g : 0x9800 + v ≡ 0x6800 + u = f in omega arith

same_some : (v u : ℕ) → Some v ≡ Some u → v ≡ u
same_some v u e = cc

word_as : (s n : Option ℕ) (word x : ℕ) → s ≡ n → word ≡ x → IsWordOf n x → IsWordOf s word
word_as s n word x e f is = subst (λ y. IsWordOf y word) (sym e) (subst (IsWordOf n) (sym f) is)

pub word_next : (s : Option ℕ) (a : Action) (v : ℕ) → IsPlainAction a v → IsWordOf (next_sending s a v) (word_sent s a v)
word_next s action.Ais v plain = word_as _ None _ 65535 (ais_sent s v).next (ais_word s v) refl
word_next s action.New v plain =
    word_as _ (Some v) _ (word_of form.Enabled v) (new_sent s v).next (new_sent s v).word (plain.small refl, inl refl)
word_next s action.Up v plain = absurd plain.justifies
word_next s action.Down v plain = absurd plain.justifies
word_next None action.Normal v plain =
    let i = first_sent action.Normal v (λ e. cc) in word_as _ (Some v) _ (word_of form.Enabled v) i.next i.word (plain.small refl, inl refl)
word_next (Some g) action.Normal v plain = elim (cases_eq v g) [
  | inl is ↦ (let i = normal_sent g v is in word_as _ (Some v) _ (word_of form.Normal v) i.next (i.word ∙ ap (word_of form.Normal) (sym is))
      (plain.small refl, inr refl))
  | inr is ↦ (let i = other_sent g v is in word_as _ (Some v) _ (word_of form.Enabled v) i.next i.word (plain.small refl, inl refl))
]

-- a generator that sends a normal word has sent its value before
pub was_sent : (s : Option ℕ) (a : Action) (v u : ℕ) → IsPlainAction a v → next_sending s a v ≡ Some u
    → word_sent s a v ≡ word_of form.Normal u → s ≡ Some u
was_sent s action.Ais v u plain e f = absurd (let g : None ≡ Some u = sym (ais_sent s v).next ∙ e in cc)
was_sent s action.New v u plain e f =
    absurd (enabled_not_normal v u (same_some v u (sym (new_sent s v).next ∙ e)) (sym (new_sent s v).word ∙ f))
was_sent s action.Up v u plain e f = absurd plain.justifies
was_sent s action.Down v u plain e f = absurd plain.justifies
was_sent None action.Normal v u plain e f =
    let i = first_sent action.Normal v (λ e. cc) in absurd (enabled_not_normal v u (same_some v u (sym i.next ∙ e)) (sym i.word ∙ f))
was_sent (Some g) action.Normal v u plain e f = elim (cases_eq v g) [
  | inl is ↦ (let i = normal_sent g v is in ap Some (sym is ∙ same_some v u (sym i.next ∙ e)))
  | inr is ↦ (let i = other_sent g v is in absurd (enabled_not_normal v u (same_some v u (sym i.next ∙ e)) (sym i.word ∙ f)))
]

-- ---- a round

-- an interpreter that follows is at the value of the normal word that comes, or in Ais
may_read : (r : Reading) (s : Option ℕ) (word : ℕ) → Follows r s word → (v : ℕ) (small : v ≤ 782) → s ≡ Some v
    → word ≡ word_of form.Normal v → MayRead v small r
may_read r s word f v small e n = by r.mode refl
  where
    by : (m : Mode) → r.mode ≡ m → MayRead v small r
    by mode.Norm is = inl (is, f.value v e n is)
    by mode.Ais is = inr is
    by mode.Lop is = absurd (f.sound.kept is)

-- what it makes of that word
pub record Made (r : Reading) (s : Option ℕ) (word : ℕ) : Type 0 where
  pub goes : GoesOn r word
  pub value : (v : ℕ) → s ≡ Some v → (after_word r word).mode ≡ mode.Norm → (after_word r word).value ≡ v

pub made : (r : Reading) (s : Option ℕ) (word : ℕ) → Follows r s word → Made r s word
made r None word f = record {
  goes = subst (GoesOn r) (sym f.sound.sent) (over_ones r f.sound.kept f.sound.small);
  value = λ v e. absurd (cc);
}
made r (Some g) word f = by f.sound.sent.1
  where
    small : g ≤ 782
    small = f.sound.sent.0

    by : (word ≡ word_of form.Enabled g) ⊎ (word ≡ word_of form.Normal g) → Made r (Some g) word
    by (inl is) =
        let t = over_enabled r g small f.sound.kept in
        record {
          goes = subst (GoesOn r) (sym is) (goes_as r (nothing_counted mode.Norm g 0) action.New (word_of form.Enabled g) t.0 t.1 (λ e. small) (omega arith) (λ e. cc) tt);
          value = λ v e norm. ap (λ x. (after_word r x).value) is ∙ ap (λ (x : Reading). x.value) t.0 ∙ same_some g v e;
        }
    by (inr is) =
        let may = may_read r (Some g) word f g small refl is in
        record {
          goes = subst (GoesOn r) (sym is) (over_normal g small r may);
          value =
              λ v e norm. ap (λ x. (after_word r x).value) is
              ∙ value_normal g small r may (ap (λ x. (after_word r x).mode) (sym is) ∙ norm) ∙ same_some g v e;
        }

in_norm : (m : Mode) → not (is_norm m) ≡ false → m ≡ mode.Norm
in_norm mode.Norm e = refl
in_norm mode.Ais e = absurd (cc)
in_norm mode.Lop e = absurd (cc)

-- what comes then
pub plain_comes : (r : Reading) (word : ℕ) → GoesOn r word → IsPlainAction (action_on r word) (after_word r word).value
plain_comes r word goes = record {
  justifies = goes.action;
  small = λ e. goes.small (in_norm (after_word r word).mode (sym (answer_tells_mode r word) ∙ e));
}

module _ (r : Reading) (s : Option ℕ) (word : ℕ) (a : Action) (v : ℕ) (plain : IsPlainAction a v) where
  -- behind a fibre that is cut ones are read
  pub sound_cut : IsSoundReading r s word → IsSoundReading (after_word r 65535) (next_sending s a v) (word_sent s a v)
  sound_cut is = record {
    small = (over_ones r is.kept is.small).small;
    few = (over_ones r is.kept is.small).few;
    kept = (over_ones r is.kept is.small).kept;
    sent = word_next s a v plain;
  }

  pub follows_next : Follows r s word → Follows (after_word r word) (next_sending s a v) (word_sent s a v)
  follows_next f = record {
    sound = record {
      small = (made r s word f).goes.small;
      few = (made r s word f).goes.few;
      kept = (made r s word f).goes.kept;
      sent = word_next s a v plain;
    };
    value = λ u e n norm. (made r s word f).value u (was_sent s a v u plain e n) norm;
  }

-- ---- an interpreter that is at the value of the normal word that comes

-- it has counted at least j of these words, if it isn't there yet
abbrev pub Near : ℕ → Reading → Option ℕ → ℕ → Type 0
Near j r s word = (v : ℕ) (small : v ≤ 782) → s ≡ Some v → word ≡ word_of form.Normal v → Counts v small j r

pub near_first : (r : Reading) (s : Option ℕ) (word : ℕ) → Follows r s word → Near 0 r s word
near_first r s word f v small e n = elim (may_read r s word f v small e n) [ inl at ↦ inl at | inr is ↦ inr (is, inl refl) ]

small_sent : (s : Option ℕ) (v word : ℕ) → s ≡ Some v → IsWordOf s word → (word ≡ word_of form.Enabled v) ⊎ (word ≡ word_of form.Normal v)
small_sent s v word e is = (subst (λ y. IsWordOf y word) e is).1

pub near_next : (j : ℕ) (r : Reading) (s : Option ℕ) (word : ℕ) (a : Action) (v : ℕ) → IsPlainAction a v → Follows r s word
    → Near j r s word → Near (suc j) (after_word r word) (next_sending s a v) (word_sent s a v)
near_next j r s word a v plain f near u small e n =
    let was = was_sent s a v u plain e n in
    elim (small_sent s u word was f.sound.sent) [
      | inl is ↦ (let t = ap (after_word r) is ∙ (over_enabled r u small f.sound.kept).0 in
          inl (ap (λ (x : Reading). x.mode) t, ap (λ (x : Reading). x.value) t))
      | inr is ↦ subst (λ x. Counts u small (suc j) (after_word r x)) (sym is) (counts_next u small j r (near u small was is))
    ]

-- the next word leads it to the value of the generator at once, with the action Normal or New
pub taken_at_once : (r : Reading) (s : Option ℕ) (word v : ℕ) → Follows r s word → Near 3 r s word → s ≡ Some v → v ≤ 782
    → IsAtValue v (after_word r word) × (is_ais_action (action_on r word) ≡ false)
taken_at_once r s word v f near is small =
    elim (small_sent s v word is f.sound.sent) [
      | inl e ↦ (let t = over_enabled r v small f.sound.kept in let after = ap (after_word r) e ∙ t.0 in (
        (ap (λ (x : Reading). x.mode) after, ap (λ (x : Reading). x.value) after),
        ap (λ x. is_ais_action (action_on r x)) e ∙ ap is_ais_action t.1,
      ))
      | inr n ↦ (let at = counts_done v small r f.sound.few (near v small is n) in
          let t = there v small r at in let after = ap (after_word r) n ∙ t.0 in (
            (ap (λ (x : Reading). x.mode) after, ap (λ (x : Reading). x.value) after),
            ap (λ x. is_ais_action (action_on r x)) n ∙ ap is_ais_action t.1,
          ))
    ]
