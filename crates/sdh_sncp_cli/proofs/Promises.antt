-- What the program promises follows from its outcome.
use Rattle.std.proofs.Common.{arith, ◌≡◌, ◌≢◌, ◌++◌, ℕ, true, None, Some, List, refl, sym, subst, inl, inr}
use Rattle.std.specs.Prelude.{Option, IfSome}
use Rattle.std.specs.Io.KnownBytes.{Appends}
use Rattle.sdh_plant.specs.Fibres.{Fibres}
use Rattle.sdh_plant.specs.Arrivals.{Knows}
use Rattle.sdh_plan.specs.Planned.{Planned}
use Rattle.sdh_report.specs.Reports.{Report, text_of}
use Rattle.sdh_report.specs.declared.listing.Listing.TheVariants as listing
use Rattle.sdh_status.specs.declared.Status.{Status}
use Rattle.sdh_status.specs.declared.Status.TheVariants as status
use Rattle.sdh_report.specs.Statuses.{last_line}
use Rattle.sdh_shell.specs.Calls.{AreRun, asked_to_run}
use Rattle.sdh_shell.specs.Calls as shell
use Rattle.sdh_shell.specs.Failing.{Counts}
use Rattle.sdh_shell.specs.Writing.{WritesWith}
use Rattle.sdh_shell.proofs.Asked.{is_asked}
use Rattle.sdh_programs.specs.Outcome.{MayEnd}
use Rattle.sdh_programs.specs.Outcome as outcome
use Rattle.sdh_programs.proofs.Promises.{SettlesLarge, EndsKnown, shows}
use Rattle.sdh_sncp_cli.specs.Plans.{world_of, ran_of}
use Rattle.sdh_sncp_cli.specs.Promise.{PathOwesAll}
use Rattle.sdh_sncp_cli.specs.Endings.{number_of, line_of, path_endings}
use Rattle.sdh_sncp_cli.specs.Outcome.{pathing, told}
use Rattle.sdh_sncp_cli.specs.Headline.{IsRunPlan, RanTo, HasRun, Delivers, EndsAsItRuns, AlwaysSettles}
use Rattle.sdh_sncp_cli.specs.declared.ending.Ending.{Ending}
use Rattle.sdh_sncp_cli.specs.declared.ending.Ending.TheVariants as ending
use Rattle.sdh_sncp_cli.proofs.Deeds.{run_alone}

-- ---- numbers

no_run : (k : ℕ) → (k ≡ 0 → ⊥) → (k ≡ 7 → ⊥) → (k ≡ 8 → ⊥) → HasRun k → ⊥
no_run k a b c (inl x) = a x
no_run k a b c (inr (inl x)) = b x
no_run k a b c (inr (inr x)) = c x

-- a number of a script that came to its end is that of its status
pub record RanBy (how : Ending) : Type 0 where
  pub end : Status
  pub how_is : how ≡ ending.Shared end
  pub ends : shell.HasRun end
  pub number_is : RanTo (number_of how) end

ran_by : (how : Ending) → HasRun (number_of how) → RanBy how
ran_by (ending.NoSuchStep step) h =
    absurd (no_run 14 (λ e. omega (arith, e)) (λ e. omega (arith, e)) (λ e. omega (arith, e)) h)
ran_by (ending.SameSlot first second) h =
    absurd (no_run 13 (λ e. omega (arith, e)) (λ e. omega (arith, e)) (λ e. omega (arith, e)) h)
ran_by (ending.Shared how) h = by how h
  where
    by : (how : Status) → HasRun (number_of (ending.Shared how)) → RanBy (ending.Shared how)
    by status.Ok h = record { end = status.Ok; how_is = refl; ends = tt; number_is = refl }
    by (status.Unsettled k) h = record { end = status.Unsettled k; how_is = refl; ends = tt; number_is = refl }
    by status.PlantFault h = record { end = status.PlantFault; how_is = refl; ends = tt; number_is = refl }
    by status.Usage h = absurd (no_run 2 (λ e. omega (arith, e)) (λ e. omega (arith, e)) (λ e. omega (arith, e)) h)
    by status.ReadFault h = absurd (no_run 3 (λ e. omega (arith, e)) (λ e. omega (arith, e)) (λ e. omega (arith, e)) h)
    by status.WriteFault h = absurd (no_run 4 (λ e. omega (arith, e)) (λ e. omega (arith, e)) (λ e. omega (arith, e)) h)
    by status.NotToml h = absurd (no_run 5 (λ e. omega (arith, e)) (λ e. omega (arith, e)) (λ e. omega (arith, e)) h)
    by (status.BadPlan reason place) h = absurd (no_run 6 (λ e. omega (arith, e)) (λ e. omega (arith, e)) (λ e. omega (arith, e)) h)
    by status.TooLong h = absurd (no_run 9 (λ e. omega (arith, e)) (λ e. omega (arith, e)) (λ e. omega (arith, e)) h)
    by status.NoSuchPort h = absurd (no_run 10 (λ e. omega (arith, e)) (λ e. omega (arith, e)) (λ e. omega (arith, e)) h)
    by status.Memory h = absurd (no_run 70 (λ e. omega (arith, e)) (λ e. omega (arith, e)) (λ e. omega (arith, e)) h)

-- ---- the promises

module _ (words : List (List ℕ)) (bytes : List ℕ) (f left : Fibres) (reads calls : Counts) (how : Ending) (number : ℕ)
    (numbered : number ≡ number_of how) (old new : Option (List ℕ))
    (wrote : AreRun words
    → WritesWith path_endings (λ how text. MayEnd pathing (asked_to_run words) bytes f reads calls how text left) how old new) where
  -- a run of this plan that came to its end, what was written, and what is so of it
  record Ran (P : Planned → List Report → Status → Type 0) (plan : Planned) : Type 0 where
    pub end : Status
    pub number_is : RanTo number end
    pub reports : List Report
    pub appends : Appends old new (text_of listing.Reports reports ++ last_line end)
    pub so : P plan reports end

  ran : (P : Planned → List Report → Status → Type 0)
      → ((plan : Planned) (reports : List Report) (end : Status) → pathing.IsRunOf plan f reports end left → P plan reports end)
      → (plan : Planned) → IsRunPlan words bytes plan → HasRun number → Ran P plan
  ran P so plan is h =
      let by = ran_by how (subst HasRun numbered h) in
      let asked = subst (λ a. WritesWith path_endings (λ how text. MayEnd pathing a bytes f reads calls how text left) how old new)
      (is_asked words is.words_are) (wrote is.words_are) in
      let x = shows pathing tt f left reads calls bytes how old new asked refl P run_alone so plan tt by.end is.tells
      (is.known, is.alone) by.how_is by.ends in
      record {
        end = by.end;
        number_is = subst (λ k. RanTo k by.end) (sym numbered) by.number_is;
        reports = x.0;
        appends = subst (λ e. Appends old new (text_of listing.Reports x.0 ++ line_of e)) by.how_is x.1;
        so = x.2;
      }

  pub delivers : f.honest ≡ true → Delivers words bytes number old new
  delivers honest plan is h =
      let r = ran (λ plan reports end. PathOwesAll plan reports end) (λ plan reports end came. came.owed honest) plan is h in
      (r.end, r.reports, r.number_is, r.appends, r.so)

  pub ends_as_it_runs : EndsAsItRuns words bytes f number
  ends_as_it_runs plan is h knows =
      let r = ran (EndsKnown Report (λ plan. Knows (world_of plan f).fibres) (λ plan. (ran_of plan f).ending))
      (λ plan reports end came known. elim (came.known known) [ inl done ↦ inl done.end_is | inr cut ↦ inr cut.0 ]) plan is h in
      elim (r.so knows) [
        | inl done ↦ inl (subst (RanTo number) done r.number_is)
        | inr cut ↦ inr (subst (RanTo number) cut r.number_is)
      ]

  not_unsettled : (s : Status) → RanTo number s → number ≡ 7 → ((k : ℕ) → s ≢ status.Unsettled k) → ⊥
  not_unsettled status.Ok h e settled = omega (arith, h, e)
  not_unsettled (status.Unsettled k) h e settled = settled k refl
  not_unsettled status.PlantFault h e settled = omega (arith, h, e)
  not_unsettled s h e settled = h

  pub settles : f.honest ≡ true → AlwaysSettles words bytes number
  settles honest plan is large e =
      let r = ran (SettlesLarge Report) (λ plan reports end came. came.settles honest) plan is (inr (inl e)) in
      not_unsettled r.end r.number_is e (r.so large)

-- ---- what is known of the source

pub told_then : (words : List (List ℕ)) (o : Option (List ℕ)) (Q R : List ℕ → Type 0)
    → ((bytes : List ℕ) → (AreRun words → Q bytes) → R bytes) → IfSome (told words o) Q → IfSome o R
told_then words None Q R h x = tt
told_then words (Some bytes) Q R h x =
    h bytes (λ run. subst (λ a. IfSome (outcome.told pathing a (Some bytes)) Q) (is_asked words run) x)
