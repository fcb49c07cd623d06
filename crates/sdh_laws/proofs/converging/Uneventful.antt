-- A side to which nothing happened asks for nothing.
use Rattle.std.proofs.Common.{◌≡◌, ℕ, zero, suc, ◌-◌, ◌≤◌, Bool, true, false, Some, None, refl, ap, ap₂, ◌∙◌}
use Rattle.std.specs.Prelude.{◌&&◌, not, nat_le, if◌then◌else◌, option_map}
use Rattle.std.proofs.lemmas.Bool.{lt-leb}
use Rattle.sdh_ringmap.specs.declared.terms.Code.TheVariants.{Nr}
use Rattle.sdh_request.specs.declared.Defect.TheVariants as defect
use Rattle.sdh_request.specs.declared.Command.TheVariants as command
use Rattle.sdh_request.specs.Requests.{is_defect_free, waits, highest_code}
use Rattle.sdh_restoration.specs.History.{SideHistory, shows_degraded, defect_at, ends_at, last_end, local_request}

-- in each round the fibre is clear and no command holds
pub record IsUneventful (h : SideHistory) : Type 0 where
  pub cut : (t : ℕ) → h.is_cut t ≡ false
  pub degraded : (t : ℕ) → h.degraded t ≡ 0
  pub command : (t : ℕ) → h.command t ≡ command.Clear

none_waits : (wait moment : ℕ) → waits wait defect.None moment None ≡ false
none_waits wait moment = refl

highest_nothing : highest_code command.Clear defect.None false ≡ Nr
highest_nothing = refl

module _ (threshold : ℕ) (some : 1 ≤ threshold) (wait : ℕ) (h : SideHistory) (is : IsUneventful h) where
  shows_none : (t : ℕ) → shows_degraded threshold h t ≡ false
  shows_none t =
      let e : nat_le threshold 0 ≡ false = lt-leb threshold 0 some in
      ap₂ (λ c k. nat_le 2 t && (not c && nat_le threshold k)) (is.cut (t - 1)) (is.degraded (t - 1)) ∙ ap (λ b. nat_le 2 t && b) e
      ∙ never (nat_le 2 t)
    where
      never : (b : Bool) → (b && false) ≡ false
      never true = refl
      never false = refl

  no_defect : (t : ℕ) → defect_at threshold h t ≡ defect.None
  unfolding defect_at
  no_defect zero = refl
  no_defect (suc t) =
      ap₂ (λ (c s : Bool). if c then defect.Sf else if s then defect.Sd else defect.None) (is.cut (suc t)) (shows_none (suc t))

  no_end : (t : ℕ) → ends_at threshold h t ≡ false
  unfolding ends_at
  no_end zero = refl
  no_end (suc t) = ap₂ (λ a b. not (is_defect_free a) && is_defect_free b) (no_defect t) (no_defect (suc t))

  never_ended : (t : ℕ) → last_end threshold h t ≡ None
  unfolding last_end
  never_ended zero = refl
  never_ended (suc t) = ap₂ (λ (b : Bool) o. if b then Some (suc t) else o) (no_end (suc t)) (never_ended t)

  pub asks_nothing : (t : ℕ) → local_request threshold wait h t ≡ Nr
  unfolding local_request
  asks_nothing t =
      ap₂ (λ c d. highest_code c d (waits wait d (h.moment t) (option_map h.moment (last_end threshold h t)))) (is.command t)
      (no_defect t)
      ∙ ap (λ o. highest_code command.Clear defect.None (waits wait defect.None (h.moment t) (option_map h.moment o)))
      (never_ended t)
      ∙ ap (highest_code command.Clear defect.None) (none_waits wait (h.moment t)) ∙ highest_nothing
