-- What the program promises follows from its outcome.
use Rattle.std.proofs.Common.{◌≡◌, ℕ, ◌++◌, true, None, Some, List, refl, sym, subst, inl, inr}
use Rattle.std.specs.Prelude.{Option}
use Rattle.std.specs.Io.KnownBytes.{Appends}
use Rattle.sdh_plant.specs.Fibres.{Fibres}
use Rattle.sdh_plant.specs.Arrivals.{Knows}
use Rattle.sdh_plan.specs.Planned.{Planned}
use Rattle.sdh_report.specs.declared.listing.Listing.{Listing}
use Rattle.sdh_status.specs.declared.Status.{Status}
use Rattle.sdh_report.specs.Reports.{Report, text_of}
use Rattle.sdh_report.specs.Statuses.{last_line}
use Rattle.sdh_shell.specs.Calls.{HasRun}
use Rattle.sdh_shell.specs.Failing.{Counts}
use Rattle.sdh_shell.specs.Writing.{Writes}
use Rattle.sdh_programs.proofs.Promises.{SettlesLarge, EndsKnown, shows}
use Rattle.sdh_owed.specs.Plans.{world_of}
use Rattle.sdh_cli.specs.Plans.{IsRunOf, ran_of, AreAsPromised}
use Rattle.sdh_cli.specs.Words.{Ask}
use Rattle.sdh_cli.specs.Outcome.{ringing, MayEnd}
use Rattle.sdh_cli.specs.Headline.{RunsAndLists, IsAsPromised, EndsAsItRuns, AlwaysSettles}
use Rattle.sdh_cli.proofs.Deeds.{listed_deed, run_alone}

-- what is so of each run, by its plan, its reports and its end
abbrev Said : Type 1
Said = Planned → List Report → Status → Type 0

-- what holds of each run holds of the run whose reports the text shows
shown : (ask : Option Ask) (f left : Fibres) (reads calls : Counts) (bytes : List ℕ) (how : Status) (old new : Option (List ℕ))
    → Writes (λ how text. MayEnd ask bytes f reads calls how text left) how old new → (P : Said)
    → ((plan : Planned) (reports : List Report) (end : Status) → IsRunOf plan f reports end left → P plan reports end)
    → (plan : Planned) (listing : Listing) → RunsAndLists ask bytes plan listing → HasRun how
    → (reports : List Report) × Appends old new (text_of listing reports ++ last_line how) × P plan reports how
shown None f left reads calls bytes how old new x P so plan listing is h = absurd is
shown (Some ask) f left reads calls bytes how old new x P so plan listing is h =
    shows ringing ask f left reads calls bytes how old new x refl P (run_alone ask) so plan listing how is.0
    (listed_deed ask plan listing is.1) refl h

module _ (ask : Option Ask) (f left : Fibres) (reads calls : Counts) (bytes : List ℕ) (how : Status) (old new : Option (List ℕ))
    (x : Writes (λ how text. MayEnd ask bytes f reads calls how text left) how old new) where
  pub as_promised : f.honest ≡ true → IsAsPromised ask bytes f how old new left
  as_promised honest = shown ask f left reads calls bytes how old new x (λ plan reports end. AreAsPromised plan f reports end left)
      (λ plan reports end came. came.owed honest)

  pub ends_as_it_runs : EndsAsItRuns ask bytes f how
  ends_as_it_runs plan listing is h =
      (shown ask f left reads calls bytes how old new x
      (EndsKnown Report (λ plan. Knows (world_of plan f).fibres) (λ plan. (ran_of plan f).ending))
      (λ plan reports end came knows. elim (came.known knows) [ inl done ↦ inl done.end_is | inr cut ↦ inr cut.0 ]) plan listing is h).2

  pub settles : f.honest ≡ true → AlwaysSettles ask bytes how
  settles honest plan listing is large k e =
      (shown ask f left reads calls bytes how old new x (SettlesLarge Report) (λ plan reports end came. came.settles honest) plan listing is
      (subst HasRun (sym e) tt)).2 large k e
