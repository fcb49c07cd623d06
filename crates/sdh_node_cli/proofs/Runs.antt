-- Records that were done one after the other, with one more record.
use Rattle.std.proofs.Common.{◌≡◌, ◌≢◌, ℕ, ◌+◌, ◌<◌, inl, inr, List, [], ◌∷◌, ◌++◌, length, refl, ap, sym, subst, ◌∙◌, arith, append_assoc, append-nil}
use Rattle.std.specs.Prelude.{Option, Some, None}
use Rattle.std.specs.Io.KnownBytes.{Appends, Consumes, Keeps}
use Rattle.std.proofs.KnownBytes.{Appends-trans, Appends-nil, Consumes-trans, Consumes-nil}
use Rattle.std.proofs.lemmas.List.{length-append}
use Rattle.std.proofs.lemmas.Grind.{flat_map-append}
use Rattle.sdh_shell.specs.Writing.{AppendsUpTo}
use Rattle.sdh_shell.proofs.Writing.{up_to}
use Rattle.sdh_node_cli.specs.declared.ending.Flaw.TheVariants as flaw
use Rattle.sdh_node_cli.specs.declared.stop.Stop.{Stop}
use Rattle.sdh_node_cli.specs.declared.stop.Stop.TheVariants as stop
use Rattle.sdh_node_cli.specs.Bench.{Bench}
use Rattle.sdh_node_cli.specs.Streams.{GivenRecord, IsGiven, bytes_of, bench_after, record_answer, AreGiven, after_records, answers, stream_of, records_max}
use Rattle.sdh_node_cli.specs.Turns.{RecordGoes, Halts, Fails, StopsSo, TurnStopsBy}
use Rattle.sdh_node_cli.specs.Outcome.{Served, CutShort}

-- ---- one record more

are_more : (b : Bench) (gs : List GivenRecord) (g : GivenRecord) → AreGiven b gs → IsGiven (after_records b gs) g → AreGiven b (gs ++ g ∷ [])
are_more b [] g are is = (is, tt)
are_more b (h ∷ gs) g are is = (are.0, are_more (bench_after h b) gs g are.1 is)

after_more : (b : Bench) (gs : List GivenRecord) (g : GivenRecord) → after_records b (gs ++ g ∷ []) ≡ bench_after g (after_records b gs)
after_more b [] g = refl
after_more b (h ∷ gs) g = after_more (bench_after h b) gs g

answers_more : (b : Bench) (gs : List GivenRecord) (g : GivenRecord) → answers b (gs ++ g ∷ []) ≡ answers b gs ++ record_answer g (after_records b gs)
answers_more b [] g = append-nil (record_answer g b)
answers_more b (h ∷ gs) g =
    ap (λ l. record_answer h b ++ l) (answers_more (bench_after h b) gs g)
    ∙ sym (append_assoc (record_answer h b) (answers (bench_after h b) gs) (record_answer g (after_records (bench_after h b) gs)))

stream_more : (gs : List GivenRecord) (g : GivenRecord) → stream_of (gs ++ g ∷ []) ≡ stream_of gs ++ bytes_of g
stream_more gs g = flat_map-append bytes_of gs (g ∷ []) ∙ ap (λ l. stream_of gs ++ l) (append-nil (bytes_of g))

-- ---- a run

-- this number of records was done: the bench, what was read and what was written are theirs
pub record Went (first b : Bench) (left now old_text new_text : Option (List ℕ)) (count : ℕ) : Type 0 where
  pub records : List GivenRecord
  pub are : AreGiven first records
  pub counted : length records ≡ count
  pub read : Consumes left now (stream_of records)
  pub wrote : Appends old_text new_text (answers first records)
  pub bench : b ≡ after_records first records

pub went_none : (b : Bench) (left text : Option (List ℕ)) → Went b b left left text text 0
went_none b left text = record {
  records = [];
  are = tt;
  counted = refl;
  read = Consumes-nil left;
  wrote = Appends-nil text;
  bench = refl;
}

pub went_on : (first b c : Bench) (left mid now old_text mid_text new_text : Option (List ℕ)) (count : ℕ)
    → Went first b left mid old_text mid_text count → RecordGoes b c mid now mid_text new_text → Went first c left now old_text new_text (count + 1)
went_on first b c left mid now old_text mid_text new_text count w go =
    let is : IsGiven (after_records first w.records) go.given = subst (λ x. IsGiven x go.given) w.bench go.is in
    record {
      records = w.records ++ go.given ∷ [];
      are = are_more first w.records go.given w.are is;
      counted = omega (arith, length-append w.records (go.given ∷ []), w.counted);
      read =
          subst (Consumes left now) (sym (stream_more w.records go.given)) (Consumes-trans left mid now _ _ w.read go.read);
      wrote =
          subst (Appends old_text new_text) (sym (answers_more first w.records go.given
          ∙ ap (λ x. answers first w.records ++ record_answer go.given x) (sym w.bench)))
          (Appends-trans old_text mid_text new_text _ _ w.wrote go.wrote);
      bench = go.bench ∙ ap (bench_after go.given) w.bench ∙ sym (after_more first w.records go.given);
    }

-- ---- where it ends

keeps_behind : (a b c : Option (List ℕ)) (bs : List ℕ) → Appends a b bs → Keeps b c → Appends a c bs
keeps_behind None b c bs p q = tt
keeps_behind (Some x) None c bs p q = absurd p
keeps_behind (Some x) (Some y) None bs p q = absurd q
keeps_behind (Some x) (Some y) (Some z) bs p q = q ∙ p

halts : (b : Bench) (why : Stop) (left now old_text new_text : Option (List ℕ)) → why ≢ stop.WriteFault
    → TurnStopsBy b why left now old_text new_text → Halts b why left now × Keeps old_text new_text
halts b stop.Done left now old_text new_text not s = s
halts b (stop.Bad f) left now old_text new_text not s = s
halts b stop.ReadFault left now old_text new_text not s = s
halts b stop.WriteFault left now old_text new_text not s = absurd (not refl)

-- the records so far, and why there were no more
pub served_by : (first b : Bench) (left mid now old_text mid_text new_text : Option (List ℕ)) (count : ℕ) (why : Stop) → count < records_max
    → Went first b left mid old_text mid_text count → why ≢ stop.WriteFault → TurnStopsBy b why mid now mid_text new_text
    → (text : List ℕ) × Served first [] left now (count + 1) why text × Appends old_text new_text text
served_by first b left mid now old_text mid_text new_text count why few w not s =
    let h = halts b why mid now mid_text new_text not s in (
      answers first w.records,
      record {
        records = w.records;
        are = w.are;
        numbered = omega (arith, w.counted);
        tail = h.0.0;
        read = Consumes-trans left mid now _ _ w.read h.0.2;
        so = inl (omega (arith, few, w.counted), subst (λ x. StopsSo x why h.0.0 now) w.bench h.0.1);
        text_is = refl;
      },
      keeps_behind old_text mid_text new_text _ w.wrote h.1,
    )

-- the records so far, and one in whose answer a write failed
pub cut_by : (first b : Bench) (left mid now old_text mid_text new_text : Option (List ℕ)) (count : ℕ)
    → Went first b left mid old_text mid_text count → Fails b mid now mid_text new_text → CutShort first [] left now old_text new_text
cut_by first b left mid now old_text mid_text new_text count w f = record {
  records = w.records;
  are = w.are;
  given = f.given;
  is = subst (λ x. IsGiven x f.given) w.bench f.is;
  read = Consumes-trans left mid now _ _ w.read f.read;
  front =
      subst (λ x. AppendsUpTo old_text new_text (record { first = answers first w.records; last = record_answer f.given x })) w.bench
      (up_to old_text mid_text new_text (answers first w.records) (record_answer f.given b) w.wrote f.front);
}

-- the most records that may be done were done
pub served_all : (first b : Bench) (left now old_text new_text : Option (List ℕ)) (count number : ℕ) → count ≡ records_max → number ≡ count + 1
    → Went first b left now old_text new_text count
    → (text : List ℕ) × Served first [] left now number (stop.Bad flaw.Many) text × Appends old_text new_text text
served_all first b left now old_text new_text count number all next w = (
  answers first w.records,
  record {
    records = w.records;
    are = w.are;
    numbered = omega (arith, w.counted, next);
    tail = [];
    read = subst (Consumes left now) (sym (append-nil (stream_of w.records))) w.read;
    so = inr (record { many = refl; all = w.counted ∙ all; unread = refl });
    text_is = refl;
  },
  w.wrote,
)
