-- What a call keeps of its source and its sink, by how it ended.
use Rattle.std.proofs.Common.{◌≡◌, ◌≢◌, ◌⊎◌, ℕ, ◌+◌, ◌≤◌, true, List, inl, inr, refl, ap, sym, ◌∙◌, subst, le_refl}
use Rattle.std.specs.Prelude.{Option, None, Result, Ok, Err, IsErr, OnErr}
use Rattle.sdh_basics.specs.Causes.{Rose}
use Rattle.sdh_outside.specs.Reading.{TakesFewer}
use Rattle.sdh_status.specs.declared.Status.{Status}
use Rattle.sdh_status.specs.declared.Status.TheVariants as status
use Rattle.sdh_shell.specs.Endings.{statuses}
use Rattle.sdh_shell.specs.Failing.{plan_max}
use Rattle.sdh_shell.specs.Kept.{Around, counts_of, IsLeft, Failed, IsLater, IsCountedBy}
use Rattle.sdh_shell.specs.Writing.{WroteEnding}
use Rattle.sdh_shell.proofs.Failing.{counted_none, came_of_none}
use Rattle.sdh_shell.proofs.Writing.{put_whole, put_front, put_none}
use Rattle.sdh_whatif_cli.specs.declared.ask.Ask.{Ask}
use Rattle.sdh_whatif_cli.specs.Outcome.{HasPlanFor, SeenOfCall, CasesEnded, KeepsCases}

module _ {R W : Type 0} (ask : Option Ask) (texts : List (List ℕ)) (source : Around R (Option (List ℕ))) (sink : Around W (Option (List ℕ))) where
  -- what was seen of both
  abbrev seen : SeenOfCall
  seen = record {
    reads_exact = source.exact;
    reads = source.faults source.before;
    reads_after = source.faults source.after;
    left = source.shows source.before;
    left_after = source.shows source.after;
    writes_exact = sink.exact;
    writes = sink.faults sink.before;
    writes_after = sink.faults sink.after;
    written = sink.shows sink.before;
    written_after = sink.shows sink.after;
  }

  module _ {T E : Type 0} (how : Status) (put : Result T E) (x : CasesEnded ask texts seen how put) where
    -- the text was written, and the status was returned; or it wasn't, and a write fault was
    abbrev Returned : Status → Type 0
    Returned end = ((end ≡ how) × (u : T) × (put ≡ Ok u)) ⊎ ((end ≡ status.WriteFault) × (e : E) × (put ≡ Err e))

    wrote : (end : Status) → Returned end
        → WroteEnding statuses how x.text end (sink.shows sink.before) (sink.shows sink.after)
    wrote end (inl (same, u, is)) =
        inl (same, put_whole sink.exact _ _ _ _ x.text put x.wrote u is)
    wrote end (inr (fault, e, is)) =
        inr (fault, put_front sink.exact _ _ _ _ x.text put x.wrote e is)

    as_told : (end s : Status) → Returned end → (status.WriteFault ≢ s) → end ≡ s → how ≡ s
    as_told end s (inl (same, u, is)) never e = sym same ∙ e
    as_told end s (inr (fault, w, is)) never e = absurd (never (sym fault ∙ e))

    failed : (end : Status) → Returned end → end ≡ status.WriteFault → Failed sink
    failed end (inl (same, u, is)) e = absurd (x.own.0 (sym same ∙ e))
    failed end (inr (fault, w, is)) e = subst (λ (r : Result T E). OnErr r (Rose (sink.faults sink.before) (sink.faults sink.after))) is x.wrote.fault

    counted : (end : Status) → Returned end → IsCountedBy (end ≡ status.WriteFault) sink
    counted end (inl (same, u, is)) =
        counted_none sink.exact (sink.faults sink.before) (sink.faults sink.after) (λ e. x.own.0 (sym same ∙ e))
        (put_none sink.exact _ _ _ _ x.text put x.wrote u is)
    counted end (inr (fault, w, is)) = record {
      one = λ exact e. x.wrote.counted.one exact (subst (λ (r : Result T E). IsErr r) (sym is) refl);
      none = λ exact other. absurd (other fault);
    }

    complete : (end : Status) → Returned end → (ask ≢ None) × HasPlanFor texts (source.shows source.before) → (Failed source → ⊥)
        → (Failed sink → ⊥) → (end ≡ status.Ok) ⊎ (end ≡ status.Memory)
    complete end (inl (same, u, is)) given reads written = inl (same ∙ x.complete given.0 given.1 reads)
    complete end (inr (fault, w, is)) given reads written =
        absurd (written (subst (λ (r : Result T E). OnErr r (Rose (sink.faults sink.before) (sink.faults sink.after))) is x.wrote.fault))

    usage_only : (end : Status) → Returned end → ask ≡ None
        → (end ≡ status.Usage) ⊎ ((end ≡ status.WriteFault) ⊎ (end ≡ status.Memory))
    usage_only end (inl (same, u, is)) none = inl (same ∙ x.usage.1 none)
    usage_only end (inr (fault, w, is)) none = inr (inl fault)

    ended : (end : Status) → Returned end → (end ≡ how) ⊎ (end ≡ status.WriteFault)
    ended end (inl (same, u, is)) = inl same
    ended end (inr (fault, w, is)) = inr fault

    -- the call came to a status
    pub kept_ended : (end : Status) → Returned end → (ask ≡ None → IsLeft source) → IsLater source → KeepsCases ask texts source sink end
    kept_ended end r unread later = record {
      how = how;
      ended = ended end r;
      says = inl (x.text, x.outcome, wrote end r);
      came = record { counted = x.reads; taken = x.taken };
      usage = λ e. x.usage.0 (as_told end status.Usage r (λ z. cc) e);
      usage_only = usage_only end r;
      unread = unread;
      read_fault = λ e. x.fault (as_told end status.ReadFault r (λ z. cc) e);
      write_fault = failed end r;
      writes = counted end r;
      memory = λ e. absurd (x.own.1 (as_told end status.Memory r (λ z. cc) e));
      read_whole = λ e read. x.read (as_told end status.Ok r (λ z. cc) e);
      later = (later, x.wrote.later);
      complete = complete end r;
    }

  -- memory ran out
  pub kept_nothing : (source.exact ≡ true → source.faults source.after ≡ source.faults source.before) → IsLeft sink
      → TakesFewer (source.shows source.before) (source.shows source.after) (plan_max + 1) → (ask ≡ None → IsLeft source) → IsLater source
      → KeepsCases ask texts source sink status.Memory
  kept_nothing none unwritten few unread later = record {
    how = status.Memory;
    ended = inl refl;
    says = inr (refl, refl);
    came =
        came_of_none plan_max source.exact (counts_of source) (source.shows source.before) (source.shows source.after) none few (λ e. cc)
        (λ e. cc);
    usage = λ e. cc;
    usage_only = λ asks. inr (inr refl);
    unread = unread;
    read_fault = λ e. cc;
    write_fault = λ e. cc;
    writes = counted_none sink.exact (sink.faults sink.before) (sink.faults sink.after) (λ e. cc) (λ e. ap sink.faults unwritten);
    memory = λ e. unwritten;
    read_whole = λ e read. cc;
    later = (later, subst (λ (w : W). sink.faults sink.before ≤ sink.faults w) (sym unwritten) (le_refl _));
    complete = λ given reads written. inr refl;
  }
