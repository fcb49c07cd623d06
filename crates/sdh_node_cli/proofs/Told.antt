-- What a call came to, stage by stage.
use Rattle.std.proofs.Common.{◌≡◌, ◌≢◌, ℕ, ◌≤◌, Bool, true, List, [], ◌++◌, refl, ap, ◌∙◌, subst, inl, inr, append-nil, arith}
use Rattle.std.specs.Prelude.{Option, Some, None}
use Rattle.std.specs.Io.KnownBytes.{Appends, Consumes}
use Rattle.std.proofs.KnownBytes.{Consumes-trans}
use Rattle.sdh_ringmap.specs.declared.Pos.{Pos}
use Rattle.sdh_ringmap.specs.Places.{found_at}
use Rattle.sdh_node.specs.Node.{new_node}
use Rattle.sdh_plan.specs.Planned.{Planned}
use Rattle.sdh_status.specs.declared.Status.TheVariants as status
use Rattle.sdh_report.specs.Lines.{own_line}
use Rattle.sdh_shell.specs.Failing.{Counts}
use Rattle.sdh_shell.specs.Writing.{Parts, alone, IsShown, WroteEnding}
use Rattle.sdh_shell.proofs.Writing.{wrote_after, wrote_alone}
use Rattle.sdh_node_cli.specs.Faults.{CountsFault}
use Rattle.sdh_node_cli.specs.declared.words.Ask.{Ask}
use Rattle.sdh_node_cli.specs.declared.ending.Ending.{Ending}
use Rattle.sdh_node_cli.specs.declared.ending.Ending.TheVariants as ending
use Rattle.sdh_node_cli.specs.declared.stop.Stop.{Stop}
use Rattle.sdh_node_cli.specs.declared.stop.Stop.TheVariants as stop
use Rattle.sdh_node_cli.specs.Endings.{line_of, bench_endings}
use Rattle.sdh_node_cli.specs.Bench.{Bench, new_bench}
use Rattle.sdh_node_cli.specs.Streams.{bytes_of, end_of_plan, stream_of}
use Rattle.sdh_node_cli.specs.Outcome.{usage, HasHead, Served, CutShort, ending_of, OfBenchPlan, IsOutcome}
use Rattle.sdh_node_cli.specs.Outcome.{IsCutPlan, MayBeCut, Goes}
use Rattle.sdh_node_cli.proofs.Faults.{behind, none_made}

-- ---- endings

-- where no write failed, the ending of a stop is shown
pub stop_shown : (why : Stop) (number : ℕ) → why ≢ stop.WriteFault → IsShown bench_endings (ending_of why number)
stop_shown stop.Done number not = refl
stop_shown (stop.Bad f) number not = refl
stop_shown stop.ReadFault number not = refl
stop_shown stop.WriteFault number not = absurd (not refl)

-- ---- what a part of a call came to

-- what may be of one thing may be of another
pub goes_as : (May More : Ending → Parts → Type 0) (Cut Far : Type 0) (exact : Bool) (reads : Counts) (end : Ending) (old new : Option (List ℕ))
    → ((h : Ending) (text : Parts) → May h text → More h text) → (Cut → Far) → Goes May Cut exact reads end old new
    → Goes More Far exact reads end old new
goes_as May More Cut Far exact reads end old new f g (inl x) =
    inl (record { how = x.how; text = x.text; may = f x.how x.text x.may; wrote = x.wrote; reads_failed = x.reads_failed })
goes_as May More Cut Far exact reads end old new f g (inr x) =
    inr (record { end_is = x.end_is; cut = g x.cut; later = x.later; none = x.none })

-- no read failed before
pub goes_behind : (May : Ending → Parts → Type 0) (Cut : Type 0) (exact : Bool) (a b c : ℕ) (end : Ending) (old new : Option (List ℕ))
    → (exact ≡ true → b ≡ a) → a ≤ b → Goes May Cut exact (record { before = b; after = c }) end old new
    → Goes May Cut exact (record { before = a; after = c }) end old new
goes_behind May Cut exact a b c end old new same later (inl x) =
    inl (record { how = x.how; text = x.text; may = x.may; wrote = x.wrote; reads_failed = behind exact a b c _ same later x.reads_failed })
goes_behind May Cut exact a b c end old new same later (inr x) =
    inr (record { end_is = x.end_is; cut = x.cut; later = omega (arith, later, x.later); none = λ e. x.none e ∙ same e })

-- ---- with a plan

-- after the bytes of a document
module _ (ask : Ask) (plan : Planned) (head : List ℕ) (left mid now : Option (List ℕ)) (read : Consumes left mid head) where
  served_behind : (b : Bench) (number : ℕ) (why : Stop) (text : List ℕ) → Served b [] mid now number why text → Served b head left now number why text
  served_behind b number why text s = record {
    records = s.records;
    are = s.are;
    numbered = s.numbered;
    tail = s.tail;
    read = Consumes-trans left mid now head (stream_of s.records ++ s.tail) read s.read;
    so = s.so;
    text_is = s.text_is;
  }

  cut_behind : (b : Bench) (old new : Option (List ℕ)) → CutShort b [] mid now old new → CutShort b head left now old new
  cut_behind b old new s = record {
    records = s.records;
    are = s.are;
    given = s.given;
    is = s.is;
    read = Consumes-trans left mid now head (stream_of s.records ++ bytes_of s.given) read s.read;
    front = s.front;
  }

  plan_behind : (how : Ending) (text : Parts) → OfBenchPlan ask plan [] mid now how text → OfBenchPlan ask plan head left now how text
  plan_behind how text (inl x) =
      inl (record {
        none = x.none;
        read = subst (Consumes left now) (append-nil head) (Consumes-trans left mid now head [] read x.read);
        how_is = x.how_is;
        text_is = x.text_is;
      })
  plan_behind how text (inr x) =
      inr (record {
        at = x.at;
        found = x.found;
        number = x.number;
        why = x.why;
        how_is = x.how_is;
        served = served_behind _ x.number x.why text.first x.served;
        last_is = x.last_is;
      })

  pub planned_behind : (exact : Bool) (reads : Counts) (end : Ending) (old new : Option (List ℕ))
      → Goes (OfBenchPlan ask plan [] mid now) (IsCutPlan ask plan [] mid now old new) exact reads end old new
      → Goes (OfBenchPlan ask plan head left now) (IsCutPlan ask plan head left now old new) exact reads end old new
  planned_behind exact reads end old new x =
      goes_as (OfBenchPlan ask plan [] mid now) (OfBenchPlan ask plan head left now) (IsCutPlan ask plan [] mid now old new)
      (IsCutPlan ask plan head left now old new) exact reads end old new plan_behind
      (λ y. record { at = y.at; found = y.found; cut = cut_behind _ old new y.cut }) x

-- ---- with the bytes of a source

pub goes_planned : (ask : Ask) (plan : Planned) (left mid now : Option (List ℕ)) (exact : Bool) (reads : Counts) (end : Ending)
    (old new : Option (List ℕ)) → HasHead left mid plan
    → Goes (OfBenchPlan ask plan [] mid now) (IsCutPlan ask plan [] mid now old new) exact reads end old new
    → Goes (IsOutcome (Some ask) left now) (MayBeCut (Some ask) left now old new) exact reads end old new
goes_planned ask plan left mid now exact reads end old new head x =
    let bytes = head.document ++ end_of_plan in
    goes_as (OfBenchPlan ask plan bytes left now) (IsOutcome (Some ask) left now) (IsCutPlan ask plan bytes left now old new)
    (MayBeCut (Some ask) left now old new) exact reads end old new
    (λ h text y. inr (record { document = head.document; first = head.first; plan = plan; plan_is = head.plan_is; of_plan = y }))
    (λ y. record { document = head.document; first = head.first; plan = plan; plan_is = head.plan_is; cut = y })
    (planned_behind ask plan bytes left mid now head.read exact reads end old new x)

-- the words have none of the two forms
pub goes_usage : (left : Option (List ℕ)) (exact : Bool) (faults : ℕ) (end : Ending) (old new : Option (List ℕ))
    → WroteEnding bench_endings (ending.Shared status.Usage) (own_line usage) end old new
    → Goes (IsOutcome None left left) (MayBeCut None left left old new) exact (record { before = faults; after = faults }) end old new
goes_usage left exact faults end old new wrote =
    inl (record {
      how = ending.Shared status.Usage;
      text = alone (own_line usage);
      may = (refl, refl, refl);
      wrote = wrote_alone bench_endings (ending.Shared status.Usage) end (own_line usage) old new wrote;
      reads_failed = none_made exact faults _ (λ e. cc);
    })

-- a line alone was to be written
pub goes_line : (May : Ending → Parts → Type 0) (Cut : Type 0) (exact : Bool) (reads : Counts) (how end : Ending) (line : List ℕ)
    (old new : Option (List ℕ)) → May how (alone line) → WroteEnding bench_endings how line end old new
    → CountsFault exact reads.before reads.after (how ≡ ending.Shared status.ReadFault) → Goes May Cut exact reads end old new
goes_line May Cut exact reads how end line old new may wrote failed =
    inl (record { how = how; text = alone line; may = may; wrote = wrote_alone bench_endings how end line old new wrote; reads_failed = failed })

-- an ending and its line may be replaced by equal ones
pub wrote_line : (said how end : Ending) (bytes line : List ℕ) (old new : Option (List ℕ)) → said ≡ how → bytes ≡ line
    → WroteEnding bench_endings said bytes end old new → WroteEnding bench_endings how line end old new
wrote_line said how end bytes line old new same is wrote =
    subst (λ h. WroteEnding bench_endings h line end old new) same (subst (λ l. WroteEnding bench_endings said l end old new) is wrote)

-- the node was found, and records were done for it
pub of_served : (ask : Ask) (plan : Planned) (at : Pos) (b : Bench) (left now : Option (List ℕ)) (number : ℕ) (why : Stop) (told : List ℕ)
    → found_at plan.nodes ask.id ≡ Some at → b ≡ new_bench ask.mode ask.id at plan → Served b [] left now number why told
    → OfBenchPlan ask plan [] left now (ending_of why number) (record { first = told; last = line_of (ending_of why number) })
of_served ask plan at b left now number why told found is served =
    inr (record {
      at = at;
      found = found;
      number = number;
      why = why;
      how_is = refl;
      served = subst (λ x. Served x [] left now number why told) is served;
      last_is = refl;
    })

-- its answers were written, and then the last line was to be
pub goes_served : (May : Ending → Parts → Type 0) (Cut : Type 0) (exact : Bool) (reads : Counts) (how end : Ending) (told line : List ℕ)
    (old mid new : Option (List ℕ)) → May how (record { first = told; last = line }) → Appends old mid told
    → WroteEnding bench_endings how line end mid new
    → CountsFault exact reads.before reads.after (how ≡ ending.Shared status.ReadFault) → Goes May Cut exact reads end old new
goes_served May Cut exact reads how end told line old mid new may before wrote failed =
    inl (record {
      how = how;
      text = record { first = told; last = line };
      may = may;
      wrote = wrote_after bench_endings how end told line old mid new before wrote;
      reads_failed = failed;
    })

-- a write failed while records were done for the node
pub cut_of : (ask : Ask) (plan : Planned) (at : Pos) (b : Bench) (left now old new : Option (List ℕ)) → found_at plan.nodes ask.id ≡ Some at
    → b ≡ new_bench ask.mode ask.id at plan → CutShort b [] left now old new → IsCutPlan ask plan [] left now old new
cut_of ask plan at b left now old new found is cut =
    record { at = at; found = found; cut = subst (λ x. CutShort x [] left now old new) is cut }

-- no round has run on a new bench
pub new_rounds : (ask : Ask) (plan : Planned) (at : Pos) (b : Bench) → b ≡ new_bench ask.mode ask.id at plan → b.node.rounds ≡ 0
unfolding new_bench new_node
new_rounds ask plan at b is = ap (λ (x : Bench). x.node.rounds) is
