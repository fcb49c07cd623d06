-- What is done with a plan that is run, or that has no such port; and how its run ends.
use Rattle.std.proofs.Common.{◌≡◌, ℕ, None, Some, List, ap, sym, ◌∙◌, arith}
use Rattle.std.specs.Prelude.{Option}
use Rattle.sdh_plant.specs.Fibres.{Fibres}
use Rattle.sdh_plan.specs.Planned.{Planned}
use Rattle.sdh_status.specs.declared.Status.{Status}
use Rattle.sdh_status.specs.declared.Status.TheVariants as status
use Rattle.sdh_shell.proofs.Endings.{one_status}
use Rattle.sdh_programs.specs.Programs.{Writes, deed_listing, Closing, as_script, Program}
use Rattle.sdh_programs.specs.Laws.{SettledRunsAreDone, FaultsAreReported}

-- ---- what is listed

-- where a plan is listed or refused, no text is written of it alone
pub listing_writes : {L : Type 0} (o : Option L) (told : List ℕ) → Writes told ≡ deed_listing o → ⊥
listing_writes None told e = grind arith
listing_writes (Some listing) told e = grind arith

-- ---- a run that ends as its script did

module _ {A L T E : Type 0} (program : Program A L T E) (plain : program.closing ≡ as_script L T program.endings) where
  ends_plain : (listing : L) (told : List T) (end : Status) → program.closing.ends listing told end ≡ program.endings.of end
  ends_plain listing told end = ap (λ (c : Closing L T program.endings). c.ends listing told end) plain

  pub script_faults : FaultsAreReported program
  script_faults listing told end = record {
    ends = λ e. ends_plain listing told end ∙ ap program.endings.of e;
    back = λ e. one_status program.endings end status.PlantFault (sym (ends_plain listing told end) ∙ e);
  }

  -- a run that is done ends with Ok
  pub script_done : ((listing : L) (plan : Planned) (f : Fibres) (told : List T) (end : Status) (left : Fibres)
      → program.IsRunOf plan f told end left → program.MaySettle listing plan f → (end ≡ status.PlantFault → ⊥) → end ≡ status.Ok)
      → SettledRunsAreDone program
  script_done done listing plan f told end left came may fine =
      ends_plain listing told end ∙ ap program.endings.of (done listing plan f told end left came may fine)
