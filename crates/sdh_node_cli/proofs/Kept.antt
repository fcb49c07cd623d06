-- What a call writes and keeps, by what it came to.
use Rattle.std.proofs.Common.{◌≡◌, ◌≢◌, ℕ, ◌≤◌, Bool, true, List, refl, ap, sym, ◌∙◌, subst, inl, inr, arith, le_refl}
use Rattle.std.specs.Prelude.{Option, Some, None}
use Rattle.std.specs.Io.KnownBytes.{IsAtEnd, Keeps}
use Rattle.std.proofs.KnownBytes.{Keeps-refl}
use Rattle.sdh_status.specs.declared.Status.{Status}
use Rattle.sdh_status.specs.declared.Status.TheVariants as status
use Rattle.sdh_shell.specs.Failing.{Counts, HaveFailed}
use Rattle.sdh_shell.specs.Kept.{Around, counts_of, IsLeft, IsLater}
use Rattle.sdh_report.specs.Lines.{own_line}
use Rattle.sdh_shell.specs.Writing.{Telling, Whole, Front, Nothing, Parts, alone, TellsAs, TellsWith, IsShown, telling_in, WroteEnding, WroteParts}
use Rattle.sdh_shell.proofs.Failing.{counted_none}
use Rattle.sdh_shell.proofs.Writing.{wrote_alone}
use Rattle.sdh_node_cli.specs.Faults.{CountsFault}
use Rattle.sdh_node_cli.specs.declared.words.Ask.{Ask}
use Rattle.sdh_node_cli.specs.declared.ending.Ending.{Ending}
use Rattle.sdh_node_cli.specs.declared.ending.Ending.TheVariants as ending
use Rattle.sdh_node_cli.specs.declared.head.NoHead.{NoHead}
use Rattle.sdh_node_cli.specs.declared.head.NoHead.TheVariants as none
use Rattle.sdh_node_cli.specs.declared.stop.Stop.{Stop}
use Rattle.sdh_node_cli.specs.declared.stop.Stop.TheVariants as stop
use Rattle.sdh_node_cli.specs.Endings.{bench_endings}
use Rattle.sdh_node_cli.specs.Bench.{Bench}
use Rattle.sdh_node_cli.specs.Streams.{GivenRecord}
use Rattle.sdh_node_cli.specs.Outcome.{usage, StopsAfter, RefusesHead, refusal_of, TellsNone, ending_of, IsOutcome, MayBeCut}
use Rattle.sdh_node_cli.specs.Outcome.{TakesNoRecord, Goes, HasReadCause, MayEnd, Tells, HasAllRecords, KeepsBench}
use Rattle.sdh_node_cli.proofs.Complete.{all_done}

-- ---- which endings an outcome has

some_same : {A : Type 0} (a b : A) → ◌≡◌ {A = Option A} (Some a) (Some b) → a ≡ b
some_same a b e = grind arith

pub some_none : {A : Type 0} (a : A) → ◌≡◌ {A = Option A} (Some a) None → ⊥
some_none a e = grind arith

-- it goes with its whole text, and isn't that of words that have no form
pub record IsReported (how : Ending) : Type 0 where
  pub shown : IsShown bench_endings how
  pub asks : how ≢ ending.Shared status.Usage

refused_reported : (left now : Option (List ℕ)) (s : Status) → RefusesHead left now s → IsReported (ending.Shared s)
refused_reported left now status.ReadFault x = record { shown = refl; asks = λ e. cc }
refused_reported left now status.TooLong x = record { shown = refl; asks = λ e. cc }
refused_reported left now status.NotToml x = record { shown = refl; asks = λ e. cc }
refused_reported left now (status.BadPlan number place) x = record { shown = refl; asks = λ e. cc }
refused_reported left now s x = absurd x

none_reported : (left now : Option (List ℕ)) (why : NoHead) (how : Ending) → TellsNone left now why → Some how ≡ refusal_of why → IsReported how
none_reported left now none.Memory how tells is = absurd (some_none how is)
none_reported left now none.Cut how tells is =
    subst IsReported (sym (some_same how _ is)) (record { shown = refl; asks = λ e. cc })
none_reported left now (none.Refused s) how tells is = subst IsReported (sym (some_same how _ is)) (refused_reported left now s tells)

stop_reported : (why : Stop) (number : ℕ) → why ≢ stop.WriteFault → IsReported (ending_of why number)
stop_reported stop.Done number not = record { shown = refl; asks = λ e. cc }
stop_reported (stop.Bad f) number not = record { shown = refl; asks = λ e. cc }
stop_reported stop.ReadFault number not = record { shown = refl; asks = λ e. cc }
stop_reported stop.WriteFault number not = absurd (not refl)

stops_never : (b : Bench) (records : List GivenRecord) (why : Stop) (tail : List ℕ) (now : Option (List ℕ))
    → StopsAfter b records why tail now → why ≢ stop.WriteFault
stops_never b records stop.WriteFault tail now (inl x) = absurd x.1
stops_never b records stop.WriteFault tail now (inr x) = λ e. (let many = x.many in cc)
stops_never b records stop.Done tail now x = λ e. cc
stops_never b records (stop.Bad f) tail now x = λ e. cc
stops_never b records stop.ReadFault tail now x = λ e. cc

pub outcome_reported : (ask : Ask) (left now : Option (List ℕ)) (how : Ending) (text : Parts) → IsOutcome (Some ask) left now how text
    → IsReported how
outcome_reported ask left now how text (inl x) = none_reported left now x.why how x.none x.how_is
outcome_reported ask left now how text (inr x) = elim x.of_plan [
  | inl y ↦ subst IsReported (sym y.how_is) (record { shown = refl; asks = λ e. cc })
  | inr y ↦ subst IsReported (sym y.how_is) (stop_reported y.why y.number (stops_never _ y.served.records y.why y.served.tail now y.served.so))
]

-- what is shown is no write fault, and memory didn't run out
front_shown : ◌≢◌ {A = Telling} Front Whole
front_shown e = grind arith

nothing_shown : ◌≢◌ {A = Telling} Nothing Whole
nothing_shown e = grind arith

pub shown_not : (how : Ending) → IsShown bench_endings how → (how ≢ ending.Shared status.WriteFault) × (how ≢ ending.Shared status.Memory)
shown_not how shown = (
  λ e. front_shown (sym (ap (telling_in bench_endings) e) ∙ shown),
  λ e. nothing_shown (sym (ap (telling_in bench_endings) e) ∙ shown),
)

-- ---- with Ok the stream was read to its end

none_done : (left now : Option (List ℕ)) (why : NoHead) → TellsNone left now why → ◌≡◌ {A = Option Ending} (Some (ending.Shared status.Ok)) (refusal_of why)
    → ⊥
none_done left now none.Memory tells is = some_none (ending.Shared status.Ok) is
none_done left now none.Cut tells is = (let e = some_same _ _ is in cc)
none_done left now (none.Refused s) tells is =
    let e : s ≡ status.Ok = (let same = some_same _ _ is in cc) in subst (RefusesHead left now) e tells

stop_at_end : (b : Bench) (records : List GivenRecord) (why : Stop) (number : ℕ) (tail : List ℕ) (now : Option (List ℕ))
    → ending_of why number ≡ ending.Shared status.Ok → StopsAfter b records why tail now → IsAtEnd now
stop_at_end b records stop.Done number tail now e (inl x) = x.1.1
stop_at_end b records stop.Done number tail now e (inr x) = absurd (let many = x.many in cc)
stop_at_end b records (stop.Bad f) number tail now e x = absurd (cc e)
stop_at_end b records stop.ReadFault number tail now e x = absurd (cc e)
stop_at_end b records stop.WriteFault number tail now e x = absurd (cc e)

pub done_at_end : (ask : Ask) (left now : Option (List ℕ)) (how : Ending) (text : Parts) → IsOutcome (Some ask) left now how text
    → how ≡ ending.Shared status.Ok → IsAtEnd now
done_at_end ask left now how text (inl x) e =
    absurd (none_done left now x.why x.none (ap (λ (h : Ending). Some h) (sym e) ∙ x.how_is))
done_at_end ask left now how text (inr x) e = elim x.of_plan [
  | inl y ↦ absurd (let is = sym y.how_is ∙ e in cc)
  | inr y ↦ stop_at_end _ y.served.records y.why y.number y.served.tail now (sym y.how_is ∙ e) y.served.so
]

-- ---- what was written

cause_of : (reads : Counts) (how : Ending) → (how ≡ ending.Shared status.ReadFault → HaveFailed reads) → HasReadCause reads how
cause_of reads (ending.Shared status.ReadFault) failed = failed refl
cause_of reads how failed = tt

module _ (asked : Option Ask) (exact : Bool) (reads : Counts) (left now : Option (List ℕ)) (end : Ending) (old new : Option (List ℕ)) where
  pub tells_of : ((h : Ending) (text : Parts) → IsOutcome asked left now h text → IsShown bench_endings h)
      → Goes (IsOutcome asked left now) (MayBeCut asked left now old new) exact reads end old new → Tells asked reads left now end old new
  tells_of shown (inl x) =
      let may = MayEnd asked reads left now in
      let cut = MayBeCut asked left now old new in
      let is : may x.how x.text = (x.may, cause_of reads x.how x.reads_failed.rose) in
      elim x.wrote [
        | inl whole ↦ subst (λ (h : Ending). TellsWith bench_endings may cut h old new) (sym whole.0)
            (subst (λ (t : Telling). TellsAs t may cut x.how old new) (sym (shown x.how x.text x.may)) (x.text, is, whole.1))
        | inr front ↦ subst (λ (h : Ending). TellsWith bench_endings may cut h old new) (sym front.0) (inl (x.how, x.text, is, front.1))
      ]
  tells_of shown (inr x) =
      subst (λ (h : Ending). TellsWith bench_endings (MayEnd asked reads left now) (MayBeCut asked left now old new) h old new) (sym x.end_is)
      (inr x.cut)

-- nothing was written where memory ran out
pub tells_nothing : (asked : Option Ask) (reads : Counts) (left now old new : Option (List ℕ)) → new ≡ old
    → Tells asked reads left now (ending.Shared status.Memory) old new
tells_nothing asked reads left now old new same = subst (Keeps old) (sym same) (Keeps-refl old)

-- ---- what a call keeps

-- an ending that isn't a write fault is the one that was to be reported
as_told : (how end : Ending) (text : Parts) (old new : Option (List ℕ)) → WroteParts bench_endings how text end old new
    → (s : Status) → status.WriteFault ≢ s → end ≡ ending.Shared s → how ≡ ending.Shared s
as_told how end text old new (inl whole) s other e = sym whole.0 ∙ e
as_told how end text old new (inr front) s other e = absurd (other (let is = sym front.0 ∙ e in cc))

-- where no write failed, all is done if that was to be reported
done_of : (ask : Ask) (how end : Ending) (text : Parts) (old new : Option (List ℕ)) → WroteParts bench_endings how text end old new
    → how ≡ ending.Shared status.Ok → (end ≡ ending.Shared status.WriteFault → ⊥) → end ≡ ending.Shared status.Ok
done_of ask how end text old new (inl whole) is written = whole.0 ∙ is
done_of ask how end text old new (inr front) is written = absurd (written front.0)

usage_told : (end : Ending) (old new : Option (List ℕ)) → WroteEnding bench_endings (ending.Shared status.Usage) (own_line usage) end old new
    → (s : Status) → status.WriteFault ≢ s → end ≡ ending.Shared s → ending.Shared status.Usage ≡ ending.Shared s
usage_told end old new (inl whole) s other e = sym whole.0 ∙ e
usage_told end old new (inr front) s other e = absurd (other (let is = sym front.0 ∙ e in cc))

module _ {R W : Type 0} (source : Around R (Option (List ℕ))) (sink : Around W (Option (List ℕ))) (end : Ending) where
  abbrev left : Option (List ℕ)
  left = source.shows source.before

  abbrev now : Option (List ℕ)
  now = source.shows source.after

  abbrev old : Option (List ℕ)
  old = sink.shows sink.before

  abbrev new : Option (List ℕ)
  new = sink.shows sink.after

  abbrev WriteCounts : Type 0
  WriteCounts = CountsFault sink.exact (sink.faults sink.before) (sink.faults sink.after) (end ≡ ending.Shared status.WriteFault)

  -- something was asked for
  pub kept_asked : (ask : Ask)
      → Goes (IsOutcome (Some ask) left now) (MayBeCut (Some ask) left now old new) source.exact (counts_of source) end old new
      → WriteCounts → IsLater source → IsLater sink → KeepsBench (Some ask) source sink end
  kept_asked ask (inl x) writes later_source later_sink =
      let reported = outcome_reported ask left now x.how x.text x.may in
      let not = shown_not x.how reported.shown in
      let same = as_told x.how end x.text old new x.wrote in
      record {
        how = x.how;
        ended = elim x.wrote [ inl whole ↦ inl whole.0 | inr front ↦ inr front.0 ];
        says =
            inl (record { text = x.text; may = (x.may, cause_of (counts_of source) x.how x.reads_failed.rose); wrote = x.wrote });
        came = record { counted = x.reads_failed.counted; taken = tt };
        usage = λ e. absurd (reported.asks (same status.Usage (λ z. cc) e));
        usage_only = λ is. absurd (some_none ask is);
        unread = λ is. absurd (some_none ask is);
        read_fault = λ e. x.reads_failed.rose (same status.ReadFault (λ z. cc) e);
        write_fault = writes.rose;
        writes = writes.counted;
        memory = λ e. absurd (not.1 (same status.Memory (λ z. cc) e));
        read_whole = λ e read. done_at_end ask left now x.how x.text x.may (same status.Ok (λ z. cc) e);
        later = (later_source, later_sink);
        complete =
            λ given reads written. inl (done_of ask x.how end x.text old new x.wrote (all_done ask left now
            (subst (λ a. HasAllRecords a left) (sym (some_same ask given.0 given.1)) given.2) x.how x.text x.may
            (λ e. reads (x.reads_failed.rose e)))
            (λ e. written (writes.rose e)));
      }
  kept_asked ask (inr x) writes later_source later_sink =
      let other = λ (s : Status) (no : status.WriteFault ≢ s) (e : end ≡ ending.Shared s). no (let is = sym x.end_is ∙ e in cc) in
      record {
        how = end;
        ended = inl refl;
        says = inr (inl (record { how_is = refl; end_is = x.end_is; cut = x.cut }));
        came = record {
          counted =
              counted_none source.exact (source.faults source.before) (source.faults source.after) (other status.ReadFault (λ z. cc)) x.none;
          taken = tt;
        };
        usage = λ e. absurd (other status.Usage (λ z. cc) e);
        usage_only = λ is. absurd (some_none ask is);
        unread = λ is. absurd (some_none ask is);
        read_fault = λ e. absurd (other status.ReadFault (λ z. cc) e);
        write_fault = writes.rose;
        writes = writes.counted;
        memory = λ e. absurd (other status.Memory (λ z. cc) e);
        read_whole = λ e read. absurd (other status.Ok (λ z. cc) e);
        later = (later_source, later_sink);
        complete = λ given reads written. absurd (written (writes.rose x.end_is));
      }

  -- memory ran out
  pub kept_memory : (asked : Option Ask) → end ≡ ending.Shared status.Memory → IsLeft sink → TakesNoRecord left now
      → (source.exact ≡ true → source.faults source.after ≡ source.faults source.before) → (asked ≡ None → IsLeft source)
      → IsLater source → KeepsBench asked source sink end
  kept_memory asked is unwritten read none unread later =
      let other = λ (s : Status) (no : status.Memory ≢ s) (e : end ≡ ending.Shared s). no (let z = sym is ∙ e in cc) in
      record {
        how = end;
        ended = inl refl;
        says = inr (inr (record { how_is = refl; end_is = is; read = read }));
        came = record {
          counted =
              counted_none source.exact (source.faults source.before) (source.faults source.after) (other status.ReadFault (λ z. cc)) none;
          taken = tt;
        };
        usage = λ e. absurd (other status.Usage (λ z. cc) e);
        usage_only = λ asks. inr (inr is);
        unread = unread;
        read_fault = λ e. absurd (other status.ReadFault (λ z. cc) e);
        write_fault = λ e. absurd (other status.WriteFault (λ z. cc) e);
        writes =
            counted_none sink.exact (sink.faults sink.before) (sink.faults sink.after) (other status.WriteFault (λ z. cc))
            (λ e. ap sink.faults unwritten);
        memory = λ e. unwritten;
        read_whole = λ e reads. absurd (other status.Ok (λ z. cc) e);
        later = (later, subst (λ (w : W). sink.faults sink.before ≤ sink.faults w) (sym unwritten) (le_refl _));
        complete = λ given reads written. inr is;
      }

-- the words have none of the two forms
pub kept_usage : {R W : Type 0} (source : Around R (Option (List ℕ))) (sink : Around W (Option (List ℕ))) (end : Ending)
    → source.after ≡ source.before
    → WroteEnding bench_endings (ending.Shared status.Usage) (own_line usage) end (sink.shows sink.before) (sink.shows sink.after)
    → CountsFault sink.exact (sink.faults sink.before) (sink.faults sink.after) (end ≡ ending.Shared status.WriteFault)
    → KeepsBench None source sink end
kept_usage source sink end same wrote writes =
    let how = ending.Shared status.Usage in
    let as_told = usage_told end (sink.shows sink.before) (sink.shows sink.after) wrote in
    record {
      how = how;
      ended = elim wrote [ inl whole ↦ inl whole.0 | inr front ↦ inr front.0 ];
      says =
          inl (record {
            text = alone (own_line usage);
            may = ((refl, refl, ap source.shows same), tt);
            wrote = wrote_alone bench_endings how end (own_line usage) (sink.shows sink.before) (sink.shows sink.after) wrote;
          });
      came = record {
        counted =
            counted_none source.exact (source.faults source.before) (source.faults source.after) (λ e. cc) (λ e. ap source.faults same);
        taken = tt;
      };
      usage = λ e. refl;
      usage_only = λ e. elim wrote [ inl whole ↦ inl whole.0 | inr front ↦ inr (inl front.0) ];
      unread = λ e. same;
      read_fault = λ e. absurd (let is = as_told status.ReadFault (λ z. cc) e in cc);
      write_fault = writes.rose;
      writes = writes.counted;
      memory = λ e. absurd (let is = as_told status.Memory (λ z. cc) e in cc);
      read_whole = λ e read. absurd (let is = as_told status.Ok (λ z. cc) e in cc);
      later = (subst (λ x. source.faults source.before ≤ source.faults x) (sym same) (le_refl _), writes.later);
      complete = λ given reads written. absurd (some_none given.0 (sym given.1));
    }
