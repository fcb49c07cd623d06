-- What happened at a port, and its clock.
use Rattle.std.proofs.Common.{◌≡◌, ℕ, zero, suc, ◌-◌, List, [], ◌∷◌, inl, inr, refl, ap, ◌∙◌}
use Rattle.std.specs.Prelude.{nat_lt}
use Rattle.std.proofs.lemmas.Bool.{cases_Bool}
use Rattle.sdh_payload.specs.Clock.{ticked, ticks}
use Rattle.sdh_payload.specs.History.{Happening}
use Rattle.sdh_payload.specs.Laws.{clock_by}
use Rattle.sdh_circuits.specs.declared.PortId.{PortId}
use Rattle.sdh_circuits.specs.Provisioned.{same_port}
use Rattle.sdh_restoration.specs.Changes.{Change, Fibre, Order, Hold, Slip, Now, Stretch}
use Rattle.sdh_node.specs.Rings.Clocks.{offset_of, first_clock, clock_after, clock_changed, clock_in}
use Rattle.sdh_restoration.specs.Happened.{told_by, told_by_all, went_by, happened_in}
use Rattle.sdh_node.specs.Rings.Laws.{ClocksTellWhatHappened}

module _ (offset : ℕ) (port : PortId) where
  after_change : (c : Change) (h : List Happening) → clock_after port c (clock_by offset h) ≡ clock_by offset (told_by port c h)
  after_change (Fibre q e condition) h = refl
  after_change (Order q e command) h = refl
  after_change (Hold q turns) h = refl
  after_change (Slip other turn count) h =
      elim (cases_Bool (same_port port other)) [
        | inl e ↦ rw e refl
        | inr e ↦ rw e refl
      ]
  after_change (Now t) h = refl

  after_changes : (cs : List Change) (h : List Happening) → clock_changed port cs (clock_by offset h)
      ≡ clock_by offset (told_by_all port cs h)
  after_changes [] h = refl
  after_changes (c ∷ cs) h = ap (clock_changed port cs) (after_change c h) ∙ after_changes cs (told_by port c h)

  after_rounds : (k : ℕ) (h : List Happening) → ticks k (clock_by offset h) ≡ clock_by offset (went_by k h)
  unfolding ticks
  after_rounds zero h = refl
  after_rounds (suc k) h = ap ticked (after_rounds k h)

  told_in : (ss : List Stretch) (h : List Happening) (t : ℕ)
      → clock_in port ss (clock_by offset h) t ≡ clock_by offset (happened_in port ss h t)
  told_in [] h t = after_rounds t h
  told_in (s ∷ ss) h t =
      let c = after_changes s.changes h in
      elim (cases_Bool (nat_lt t s.rounds)) [
        | inl e ↦ rw e (ap (ticks t) c ∙ after_rounds t (told_by_all port s.changes h))
        | inr e ↦ rw e (ap (λ x. clock_in port ss (ticks s.rounds x) (t - s.rounds)) c
            ∙ ap (λ x. clock_in port ss x (t - s.rounds)) (after_rounds s.rounds (told_by_all port s.changes h))
            ∙ told_in ss (went_by s.rounds (told_by_all port s.changes h)) (t - s.rounds))
      ]

pub clocks_tell : ClocksTellWhatHappened
unfolding first_clock
clocks_tell circuits ss port t = told_in (offset_of circuits port) port ss [] t
