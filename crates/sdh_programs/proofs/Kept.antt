-- What a call keeps, by what it came to.
use Rattle.std.proofs.Common.{◌≡◌, ℕ, ◌+◌, Bool, true, false, List, refl, ap, sym, ◌∙◌, inl, inr, arith}
use Rattle.std.specs.Prelude.{◌⊎◌, Option}
use Rattle.std.specs.Io.KnownBytes.{IsAtEnd}
use Rattle.sdh_plant.specs.Fibres.{Fibres}
use Rattle.sdh_status.specs.declared.Status.{Status}
use Rattle.sdh_status.specs.declared.Status.TheVariants as status
use Rattle.sdh_outside.specs.Reading.{TakesFewer}
use Rattle.sdh_shell.specs.Failing.{plan_max}
use Rattle.sdh_shell.specs.Reading.{HasRead}
use Rattle.sdh_shell.specs.Kept.{Around, counts_of, IsLeft, Failed, IsLater, IsCountedBy}
use Rattle.sdh_shell.proofs.Failing.{counted_none, came_of_none}
use Rattle.sdh_shell.proofs.Endings.{one_status}
use Rattle.sdh_programs.specs.Programs.{Program}
use Rattle.sdh_programs.specs.Outcome.{LeavesPlant, reads_source}
use Rattle.sdh_programs.specs.Calls.{Manner, CameTo, IsAnswer, seen_of, SaysOf, KeepsCall}
use Rattle.sdh_programs.proofs.Calls.{wrote_end, answer_usage, answer_unasked, answer_read_fault, answer_plant_fault, answer_read, answer_complete, answer_memory}

-- a source that is read was read to its end
read_to_end : (reads : Bool) (left : Option (List ℕ)) → HasRead reads left → (reads ≡ false → ⊥) → IsAtEnd left
read_to_end true left h read = h
read_to_end false left h read = absurd (read refl)

module _ {A L T E R W P : Type 0} (program : Program A L T E) (manner : Manner L) (asked : Option A) (source : Around R (Option (List ℕ)))
    (sink : Around W (Option (List ℕ))) (plant : Around P Fibres) (end : E) where
  -- the ending that was to be reported
  reported : IsAnswer program manner asked (seen_of source plant) end (sink.shows sink.before) (sink.shows sink.after)
      → (how : E) × ((end ≡ how) ⊎ (end ≡ program.endings.of status.WriteFault)) × SaysOf program manner asked source sink plant end how
      × CameTo program (seen_of source plant) how
  reported (inl x) = (
    x.how,
    wrote_end manner program.endings x.how end x.text (sink.shows sink.before) (sink.shows sink.after) x.wrote,
    inl (x.text, x.tells, x.wrote),
    x.tells.came,
  )
  reported (inr x) = (end, inl refl, inr (inl (refl, x)), x.came)

  -- the call was answered
  pub kept_answer : IsAnswer program manner asked (seen_of source plant) end (sink.shows sink.before) (sink.shows sink.after)
      → (end ≡ program.endings.of status.WriteFault → Failed sink) → IsCountedBy (end ≡ program.endings.of status.WriteFault) sink
      → (reads_source program asked ≡ false → IsLeft source) → (LeavesPlant program asked → IsLeft plant)
      → IsLater source → IsLater sink → IsLater plant → KeepsCall program manner asked source sink plant end
  kept_answer x fault writes unread alone later_source later_sink later_plant =
      let seen = seen_of source plant in
      let old = sink.shows sink.before in
      let new = sink.shows sink.after in
      let r = reported x in
      record {
        outside = record {
          how = r.0;
          ended = r.1;
          says = (r.2, r.3.plant);
          came = r.3.source;
          usage = answer_usage program manner asked seen end old new x;
          usage_only = λ none. elim (answer_unasked program manner asked seen end old new x none) [
            | inl usage ↦ inl usage
            | inr write ↦ inr (inl write)
          ];
          unread = unread;
          read_fault = answer_read_fault program manner asked seen end old new x;
          write_fault = fault;
          writes = writes;
          memory = λ e. absurd (answer_memory program manner asked seen end old new x e);
          read_whole = λ done read. read_to_end (reads_source program asked) seen.source_left (answer_read program manner asked seen end old new x done) read;
          later = (later_source, later_sink);
          complete =
              λ given reads written. inl (answer_complete program manner asked seen end old new x given.0.0 given.0.1 given.0.2 reads given.1
              (λ e. written (fault e)));
        };
        kept = record {
          alone = alone;
          fault = answer_plant_fault program manner asked seen end old new x;
          memory = λ e. absurd (answer_memory program manner asked seen end old new x e);
          later = later_plant;
        };
      }

  -- memory ran out
  pub kept_memory : end ≡ program.endings.of status.Memory → IsLeft sink
      → TakesFewer (source.shows source.before) (source.shows source.after) (plan_max + 1)
      → (source.exact ≡ true → source.faults source.after ≡ source.faults source.before)
      → (plant.exact ≡ true → plant.faults plant.after ≡ plant.faults plant.before)
      → plant.shows plant.after ≡ plant.shows plant.before → (reads_source program asked ≡ false → IsLeft source)
      → (LeavesPlant program asked → IsLeft plant) → IsLater source → IsLater sink → IsLater plant
      → KeepsCall program manner asked source sink plant end
  kept_memory is unwritten few reads calls unsent unread alone later_source later_sink later_plant =
      let endings = program.endings in
      let other = λ (s : Status) (never : status.Memory ≡ s → ⊥) (e : end ≡ endings.of s). never (one_status endings status.Memory s (sym is ∙ e)) in
      let no_read = other status.ReadFault (λ e. grind arith) in
      let no_write = other status.WriteFault (λ e. grind arith) in
      let no_plant = other status.PlantFault (λ e. grind arith) in
      record {
        outside = record {
          how = end;
          ended = inl refl;
          says = (inr (inr (refl, is)), counted_none plant.exact (plant.faults plant.before) (plant.faults plant.after) no_plant calls);
          came =
              came_of_none plan_max source.exact (counts_of source) (source.shows source.before) (source.shows source.after) reads few no_read
              (other status.TooLong (λ e. grind arith));
          usage = λ e. absurd (other status.Usage (λ e. grind arith) e);
          usage_only = λ none. inr (inr is);
          unread = unread;
          read_fault = λ e. absurd (no_read e);
          write_fault = λ e. absurd (no_write e);
          writes = counted_none sink.exact (sink.faults sink.before) (sink.faults sink.after) no_write (λ e. ap sink.faults unwritten);
          memory = λ e. unwritten;
          read_whole = λ e read. absurd (other status.Ok (λ e. grind arith) e);
          later = (later_source, later_sink);
          complete = λ given reads written. inr is;
        };
        kept = record {
          alone = alone;
          fault = λ e. absurd (no_plant e);
          memory = λ e. unsent;
          later = later_plant;
        };
      }
