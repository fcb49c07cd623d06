-- A side's request from the third round of a stretch on.
use Rattle.std.proofs.Common.{◌≡◌, ℕ, zero, suc, ◌+◌, ◌-◌, ◌<◌, ◌≤◌, Bool, true, false, Some, None, refl, sym, ap, ◌∙◌, subst, arith}
use Rattle.std.specs.Prelude.{if◌then◌else◌, Option, option_map, ◌&&◌, not, nat_le}
use Rattle.std.proofs.lemmas.Bool.Decides.{nat_tests}
use Rattle.sdh_request.specs.declared.Command.{Command}
use Rattle.sdh_request.specs.declared.Defect.{Defect}
use Rattle.sdh_request.specs.declared.Defect.TheVariants as defect
use Rattle.sdh_request.specs.Requests.{is_defect_free, waits, highest_code}
use Rattle.sdh_request.specs.History.{ends}
use Rattle.sdh_ringmap.specs.declared.terms.Condition.{Condition}
use Rattle.sdh_ringmap.specs.declared.terms.Condition.TheVariants.{Clear, Cut, Degraded}
use Rattle.sdh_ringmap.specs.Fibres.{is_cut, degraded_by}
use Rattle.sdh_restoration.specs.History.{SideHistory, defect_at, ends_at, last_end, local_request}
use Rattle.sdh_restoration.specs.Sides.{Holding}
use Rattle.sdh_verdicts.specs.Resting.{Resting, fresh, defect_of, at_rest, asks}

module _ (threshold : ℕ) (least : 1 ≤ threshold) (g : SideHistory) where
  -- in round t this holds
  pub record Same (t : ℕ) (h : Holding) : Type 0 where
    pub cut : g.is_cut t ≡ is_cut h.condition
    pub degraded : g.degraded t ≡ degraded_by h.condition
    pub command : g.command t ≡ h.command
    pub moment : g.moment t ≡ h.moment

  -- in round t, which isn't one of the first two, the side is in this state
  pub record At (t : ℕ) (r : Resting) : Type 0 where
    pub late : 2 ≤ t
    pub same : Same t r.holding
    pub is : r.defect ≡ defect_of threshold r.holding.condition
    pub defect : defect_at threshold g t ≡ r.defect
    pub ended : is_defect_free r.defect ≡ true → option_map g.moment (last_end threshold g t) ≡ r.ended

  -- the defect in a round, by what the fibre was in it and before it
  abbrev shown : Bool → Bool → Defect
  shown cut before = if cut then defect.Sf else if before then defect.Sd else defect.None

  abbrev shows : Bool → ℕ → Bool
  shows cut degraded = not cut && nat_le threshold degraded

  shown_next : (t : ℕ) → 1 ≤ t → (a b : Holding) → Same t a → Same (suc t) b
      → defect_at threshold g (suc t) ≡ shown (is_cut b.condition) (shows (is_cut a.condition) (degraded_by a.condition))
  unfolding defect_at
  shown_next t some a b x y =
      let two : nat_le 2 (suc t) ≡ true = grind (arith, nat_tests) in
      let less : suc t - 1 ≡ t = omega arith in
      ap (λ u. if g.is_cut (suc t) then defect.Sf else if nat_le 2 (suc t) && (not (g.is_cut u) && nat_le threshold (g.degraded u))
      then defect.Sd else defect.None) less
      ∙ ap (λ c. if c then defect.Sf else if nat_le 2 (suc t) && (not (g.is_cut t) && nat_le threshold (g.degraded t))
      then defect.Sd else defect.None) y.cut
      ∙ ap (λ c. shown (is_cut b.condition) (c && (not (g.is_cut t) && nat_le threshold (g.degraded t)))) two
      ∙ ap (λ c. shown (is_cut b.condition) (not c && nat_le threshold (g.degraded t))) x.cut
      ∙ ap (λ k. shown (is_cut b.condition) (not (is_cut a.condition) && nat_le threshold k)) x.degraded

  -- one condition in two rounds
  shown_twice : (c : Condition) → shown (is_cut c) (shows (is_cut c) (degraded_by c)) ≡ defect_of threshold c
  shown_twice Clear = let no : nat_le threshold 0 ≡ false = grind (arith, nat_tests) in ap (λ b. if b then defect.Sd else defect.None) no
  shown_twice Cut = refl
  shown_twice (Degraded k) = refl

  last_next : (t : ℕ) (a b : Defect) → defect_at threshold g t ≡ a → defect_at threshold g (suc t) ≡ b
      → last_end threshold g (suc t) ≡ (if ends a b then Some (suc t) else last_end threshold g t)
  unfolding last_end ends_at
  last_next t a b x y =
      ap (λ c. if ends c (defect_at threshold g (suc t)) then Some (suc t) else last_end threshold g t) x
      ∙ ap (λ c. if ends a c then Some (suc t) else last_end threshold g t) y

  never_twice : (a : Defect) → ends a a ≡ false
  never_twice defect.None = refl
  never_twice defect.Sd = refl
  never_twice defect.Sf = refl

  -- one round more in which the side's holding is unchanged
  pub stays : (t : ℕ) (r : Resting) → At t r → Same (suc t) r.holding → At (suc t) r
  stays t r x y =
      let now : defect_at threshold g (suc t) ≡ r.defect =
      shown_next t (let l = x.late in omega arith) r.holding r.holding x.same y ∙ shown_twice r.holding.condition ∙ sym x.is in
      let last : last_end threshold g (suc t) ≡ last_end threshold g t =
      last_next t r.defect r.defect x.defect now ∙ ap (λ b. if b then Some (suc t) else last_end threshold g t)
      (never_twice r.defect) in
      record {
        late = let l = x.late in omega arith;
        same = y;
        is = x.is;
        defect = now;
        ended = λ clear. ap (option_map g.moment) last ∙ x.ended clear;
      }

  -- what is left of a defect in the first round in which the fibre isn't cut
  abbrev leftover : Defect → Defect
  leftover defect.None = defect.None
  leftover defect.Sd = defect.Sd
  leftover defect.Sf = defect.None

  clear_none : (d : Defect) → is_defect_free d ≡ true → d ≡ defect.None
  clear_none defect.None e = refl
  clear_none defect.Sd e = absurd (grind arith)
  clear_none defect.Sf e = absurd (grind arith)

  not_cut : (now : Condition) → is_defect_free (defect_of threshold now) ≡ true → is_cut now ≡ false
  not_cut Clear e = refl
  not_cut Cut e = absurd (grind arith)
  not_cut (Degraded k) e = refl

  left_shown : (was : Condition) → (if shows (is_cut was) (degraded_by was) then defect.Sd else defect.None)
      ≡ leftover (defect_of threshold was)
  left_shown Clear = let no : nat_le threshold 0 ≡ false = grind (arith, nat_tests) in ap (λ b. if b then defect.Sd else defect.None) no
  left_shown Cut = refl
  left_shown (Degraded k) = by (nat_le threshold k)
    where
      by : (b : Bool) → (if b then defect.Sd else defect.None) ≡ leftover (if b then defect.Sd else defect.None)
      by true = refl
      by false = refl

  by_defect : (d : Defect) (u v m : ℕ) (old kept : Option ℕ) → (is_defect_free d ≡ true → option_map g.moment old ≡ kept) → g.moment u ≡ m
      → g.moment v ≡ m
      → option_map g.moment (if ends (leftover d) defect.None then Some v else if ends d (leftover d) then Some u else old)
      ≡ (if ends d defect.None then Some m else kept)
  by_defect defect.None u v m old kept before at_u at_v = before refl
  by_defect defect.Sd u v m old kept before at_u at_v = ap (λ x. Some x) at_v
  by_defect defect.Sf u v m old kept before at_u at_v = ap (λ x. Some x) at_u

  -- two rounds more, in which something else may hold: where no defect is there then, the last one ended in one of them
  since : (was : Condition) (now : Condition) (u v : ℕ) (m : ℕ) (old kept : Option ℕ)
      → (is_defect_free (defect_of threshold was) ≡ true → option_map g.moment old ≡ kept) → g.moment u ≡ m → g.moment v ≡ m
      → is_defect_free (defect_of threshold now) ≡ true
      → (let d0 = defect_of threshold was in let d1 = shown (is_cut now)
      (shows (is_cut was) (degraded_by was)) in let d2 = defect_of threshold now in
      option_map g.moment (if ends d1 d2 then Some v else if ends d0 d1 then Some u else old) ≡ (if ends d0 d2 then Some m else kept))
  since was now u v m old kept before at_u at_v clear =
      let d0 = defect_of threshold was in
      let d2 = defect_of threshold now in
      let one : shown (is_cut now) (shows (is_cut was) (degraded_by was)) ≡ leftover d0 =
      ap (λ b. shown b (shows (is_cut was) (degraded_by was))) (not_cut now clear) ∙ left_shown was in
      let two : d2 ≡ defect.None = clear_none d2 clear in
      ap (λ x. option_map g.moment (if ends x d2 then Some v else if ends d0 x then Some u else old)) one
      ∙ ap (λ x. option_map g.moment (if ends (leftover d0) x then Some v else if ends d0 (leftover d0) then Some u else old)) two
      ∙ by_defect d0 u v m old kept before at_u at_v
      ∙ ap (λ x. if ends d0 x then Some m else kept) (sym two)

  pub enters : (t : ℕ) (r : Resting) (h : Holding) → At t r → Same (suc t) h → Same (suc (suc t)) h
      → At (suc (suc t)) (at_rest threshold h r)
  enters t r h x y z =
      let d0 = defect_of threshold r.holding.condition in
      let d1 = shown (is_cut h.condition) (shows (is_cut r.holding.condition) (degraded_by r.holding.condition)) in
      let d2 = defect_of threshold h.condition in
      let one : defect_at threshold g (suc t) ≡ d1 = shown_next t (let l = x.late in omega arith) r.holding h x.same y in
      let two : defect_at threshold g (suc (suc t)) ≡ d2 = shown_next (suc t) (omega arith) h h y z ∙ shown_twice h.condition in
      let last : last_end threshold g (suc (suc t)) ≡ (if ends d1 d2 then Some (suc (suc t)) else if ends d0 d1
      then Some (suc t) else last_end threshold g t) =
      last_next (suc t) d1 d2 one two ∙ ap (λ o. if ends d1 d2 then Some (suc (suc t)) else o) (last_next t d0 d1 (x.defect ∙ x.is) one) in
      record {
        late = let l = x.late in omega arith;
        same = z;
        is = refl;
        defect = two;
        ended = λ clear.
            ap (option_map g.moment) last
            ∙ since r.holding.condition h.condition (suc t) (suc (suc t)) h.moment (last_end threshold g t) r.ended
            (λ b. x.ended (ap (λ c. is_defect_free c) x.is ∙ b)) y.moment z.moment clear
            ∙ ap (λ c. if ends c d2 then Some h.moment else r.ended) (sym x.is);
      }

  -- the first three rounds of all
  pub begins : (h : Holding) → Same 0 h → Same 1 h → Same 2 h → At 2 (at_rest threshold h fresh)
  unfolding defect_at last_end
  begins h x y z =
      let d2 = defect_of threshold h.condition in
      let none : nat_le 2 1 ≡ false = grind (arith, nat_tests) in
      let zero_is : defect_at threshold g 0 ≡ defect.None = refl in
      let one : defect_at threshold g 1 ≡ shown (is_cut h.condition) false =
      ap (λ c. if c then defect.Sf else if nat_le 2 1 && (not (g.is_cut 0) && nat_le threshold (g.degraded 0))
      then defect.Sd else defect.None) y.cut
      ∙ ap (λ c. shown (is_cut h.condition) (c && (not (g.is_cut 0) && nat_le threshold (g.degraded 0)))) none in
      let two : defect_at threshold g 2 ≡ d2 = shown_next 1 (omega arith) h h y z ∙ shown_twice h.condition in
      let last : last_end threshold g 2 ≡ None =
      last_next 1 (shown (is_cut h.condition) false) d2 one two
      ∙ ap (λ o. if ends (shown (is_cut h.condition) false) d2 then Some 2 else o)
      (last_next 0 defect.None (shown (is_cut h.condition) false) zero_is one)
      ∙ ap (λ b. if b then Some 2 else None) (no_end h.condition) in
      record {
        late = omega arith;
        same = z;
        is = refl;
        defect = two;
        ended = λ clear. ap (option_map g.moment) last;
      }
    where
      no_end : (c : Condition) → ends (shown (is_cut c) false) (defect_of threshold c) ≡ false
      no_end Clear = refl
      no_end Cut = refl
      no_end (Degraded k) = refl

  -- more rounds in which the side's holding is unchanged
  pub keeps : (k t : ℕ) (r : Resting) → At t r → ((i : ℕ) → i < k → Same (suc t + i) r.holding) → At (t + k) r
  keeps zero t r x each = subst (λ u. At u r) (omega arith) x
  keeps (suc k) t r x each =
      let before = keeps k t r x (λ i low. each i (omega arith)) in
      let next : suc t + k ≡ suc (t + k) = omega arith in
      let there : suc (t + k) ≡ t + suc k = omega arith in
      subst (λ u. At u r) there (stays (t + k) r before (subst (λ u. Same u r.holding) next (each k (omega arith))))

  -- a side that is not clear doesn't wait
  asked : (c : Command) (d : Defect) (wait now : ℕ) (one two : Option ℕ) → (is_defect_free d ≡ true → one ≡ two)
      → highest_code c d (waits wait d now one) ≡ highest_code c d (waits wait d now two)
  asked c defect.None wait now one two same = ap (λ o. highest_code c defect.None (waits wait defect.None now o)) (same refl)
  asked c defect.Sd wait now one two same = refl
  asked c defect.Sf wait now one two same = refl

  -- the local request of a side in this state
  pub request_is : (wait t : ℕ) (r : Resting) → At t r → local_request threshold wait g t ≡ asks wait r
  unfolding local_request
  request_is wait t r x =
      let old = option_map g.moment (last_end threshold g t) in
      ap (λ c. highest_code c (defect_at threshold g t) (waits wait (defect_at threshold g t) (g.moment t) old)) x.same.command
      ∙ ap (λ d. highest_code r.holding.command d (waits wait d (g.moment t) old)) x.defect
      ∙ ap (λ m. highest_code r.holding.command r.defect (waits wait r.defect m old)) x.same.moment
      ∙ asked r.holding.command r.defect wait r.holding.moment old r.ended x.ended
