-- One span: what was sent into an AU-4 comes out of it one round later.
use Rattle.std.proofs.Common.{◌≡◌, ℕ, ◌+◌, ◌*◌, ◌<◌, ◌≤◌, true, false, List, length, get_or, Option, None, ap, sym, ◌∙◌, subst, arith, inl}
use Rattle.std.proofs.Common.{inr}
use Rattle.std.proofs.lemmas.Bool.{cases_Bool}
use Rattle.sdh_ringmap.specs.declared.terms.Rate.{Rate}
use Rattle.sdh_ringmap.specs.Rates.{n_of}
use Rattle.sdh_frame.specs.Aus.{Au, au_of}
use Rattle.sdh_ringmap.specs.declared.Side.{Side}
use Rattle.sdh_payload.specs.Outlet.{Outlet, silent}
use Rattle.sdh_pointer.specs.declared.reading.Reading.{Reading}
use Rattle.sdh_pointer.specs.Reading.{start, after_word}
use Rattle.sdh_pointer.specs.Sending.{word_sent, next_sending}
use Rattle.sdh_ringmap.specs.declared.terms.Condition.{Condition}
use Rattle.sdh_ringmap.specs.Fibres.{is_cut}
use Rattle.sdh_terminal.specs.Passing.{Input, au_sent}
use Rattle.sdh_terminal.specs.Receiving.{Inlet, pointer_word, pointer_word_at, after_frame, actions_in, taken_in, after_taking}
use Rattle.sdh_terminal.specs.Lines.{Lines, Line, line_on, received}
use Rattle.sdh_terminal.specs.Sending.{Sending, line_frame_from}
use Rattle.sdh_kbytes.specs.declared.K.{K}
use Rattle.sdh_parity.specs.Scrambling.{scrambled}
use Rattle.sdh_spans.specs.Sides.{SendsSo, IsTold, FindsSo}
use Rattle.sdh_spans.specs.Brought.{BringsDelivery, Carries, HasValue}
use Rattle.sdh_spans.specs.Spans.{IsSpan, line_after, TakesWord, word_behind}
use Rattle.sdh_spans.specs.Laws.{SpansTakeWords, SpansBring, CutSpansBringAis}
use Rattle.sdh_spans.proofs.Finding.{sides_find_so}
use Rattle.sdh_spans.proofs.Sends.{sides_send_so, carried_by, word_in_au}
use Rattle.sdh_spans.proofs.Reading.{TookIn, reading_there, side_reads, side_brings, side_silent, word_of_ones}

-- ---- a side that received what came

module _ (at : Rate) (c : Condition) (w : K) (line : List ℕ) (i : Inlet) (threshold : ℕ) (l : Lines) (d : Side) (k : ℕ)
    (is : IsTold at c w line i) (there : line_on l d ≡ line_after threshold i) (high : k + 1 ≤ n_of at) where
  abbrev n : ℕ
  n = n_of at

  finds : FindsSo at c w line threshold i
  finds = sides_find_so at c w line threshold i is

  abbrev taken : List ℕ
  taken = (line_on l d).intake.frame.bytes

  bytes_are : taken ≡ (taken_in threshold i).frame.bytes
  bytes_are = ap (λ (y : Line). y.intake.frame.bytes) there

  took_in : TookIn at l d i.readings
  took_in = record {
    rate_is = ap (λ (y : Line). y.intake.frame.rate) there ∙ finds.rate;
    acts = subst (λ (y : Line). y.intake.actions ≡ actions_in n y.intake.frame.bytes i.readings) (sym there) finds.acts;
    left = subst (λ (y : Line). y.readings ≡ after_frame n y.intake.frame.bytes i.readings) (sym there) finds.reads;
  }

  few : k < length i.readings
  few = let e = is.inlet.readings in omega arith

  -- what comes in an AU-4 after a fibre that isn't cut, and after one that is
  au_taken : is_cut c ≡ false → au_of n (k + 1) taken ≡ au_of n (k + 1) (scrambled (9 * n) line)
  au_taken clear = ap (au_of n (k + 1)) bytes_are ∙ finds.aus clear (k + 1) (omega arith) high

  ones_taken : is_cut c ≡ true → pointer_word_at n taken (k + 1) ≡ 65535
  ones_taken cut = ap (λ bytes. pointer_word_at n bytes (k + 1)) (bytes_are ∙ finds.ones cut) ∙ word_of_ones at (k + 1) (omega arith) high

  -- its interpreter takes the word that it reads
  takes_read : TakesWord (get_or i.readings k start) (get_or (after_taking threshold i).readings k start) (received l d (k + 1))
      (pointer_word_at n taken (k + 1))
  takes_read =
      let read = side_reads at l d i.readings took_in k few in
      let next : get_or (after_taking threshold i).readings k start
      ≡ after_word (get_or i.readings k start) (pointer_word_at n taken (k + 1)) =
      ap (λ (y : Line). get_or y.readings k start) (sym there) ∙ ap (λ rs. get_or rs k start) took_in.left
      ∙ reading_there n taken i.readings k few in
      record {
        reading = next;
        action = ap (λ (y : Input). y.action) read;
        value = ap (λ (y : Input). y.value) read
            ∙ ap (λ (r : Reading). r.value) (sym next);
      }

  -- where the interpreters don't change
  module _ (still : (after_taking threshold i).readings ≡ i.readings) where
    stands : after_frame n taken i.readings ≡ i.readings
    stands = sym took_in.left ∙ ap (λ (y : Line). y.readings) there ∙ still

    brings_taken : (b : Outlet) → HasValue b → Carries (au_of n (k + 1) taken) b → BringsDelivery (received l d (k + 1)) b
    brings_taken b small carries = side_brings at l d i.readings took_in k few b small stands carries

    silenced : is_cut c ≡ true → BringsDelivery (received l d (k + 1)) silent
    silenced cut = side_silent at l d i.readings took_in k few stands (ones_taken cut)

pub cut_spans_bring_ais : CutSpansBringAis
cut_spans_bring_ais at c w line i threshold l d k is there high cut still = silenced at c w line i threshold l d k is there high still cut

-- ---- a span

module _ (at : Rate) (c : Condition) (input : ℕ → Input) (x : Sending) (i : Inlet) (threshold : ℕ) (l : Lines) (d : Side) (k : ℕ)
    (is : IsSpan at c input x i) (there : line_on l d ≡ line_after threshold i) (high : k + 1 ≤ n_of at) where
  sends : SendsSo at input x
  sends = sides_send_so at input x is.sender

  abbrev line_sent : List ℕ
  line_sent = line_frame_from input x

  is_told : IsTold at c x.word line_sent i
  is_told = record { may = is.may; says = sends.says; no_ais = is.no_ais; inlet = is.inlet; told = is.told }

  abbrev state : Option ℕ
  state = get_or x.generators k None

  abbrev bytes : List ℕ
  bytes = taken at c x.word line_sent i threshold l d k is_told there high

  au_comes : is_cut c ≡ false → au_of (n_of at) (k + 1) bytes ≡ au_sent state (input (k + 1))
  au_comes clear = au_taken at c x.word line_sent i threshold l d k is_told there high clear ∙ sends.aus is.full k high

  abbrev word : ℕ
  word = word_sent state (input (k + 1)).action (input (k + 1)).value

  word_taken : pointer_word_at (n_of at) bytes (k + 1) ≡ word_behind (is_cut c) word
  word_taken = elim (cases_Bool (is_cut c)) [
    | inl cut ↦ ones_taken at c x.word line_sent i threshold l d k is_told there high cut ∙ sym (ap (λ b. word_behind b word) cut)
    | inr clear ↦ ap (λ (a : Au). pointer_word a.pointers) (au_comes clear) ∙ word_in_au state (input (k + 1))
        ∙ sym (ap (λ b. word_behind b word) clear)
  ]

  takes_word : TakesWord (get_or i.readings k start) (get_or (after_taking threshold i).readings k start) (received l d (k + 1))
      (word_behind (is_cut c) word)
  takes_word =
      subst (TakesWord (get_or i.readings k start) (get_or (after_taking threshold i).readings k start) (received l d (k + 1))) word_taken
      (takes_read at c x.word line_sent i threshold l d k is_told there high)

  brings : is_cut c ≡ false → (after_taking threshold i).readings ≡ i.readings
      → state ≡ next_sending state (input (k + 1)).action (input (k + 1)).value → (b : Outlet) → HasValue b → BringsDelivery (input (k + 1)) b
      → BringsDelivery (received l d (k + 1)) b
  brings clear still kept b small is_sent =
      brings_taken at c x.word line_sent i threshold l d k is_told there high still b small
      (subst (λ a. Carries a b) (sym (au_comes clear)) (carried_by state (input (k + 1)) b kept is_sent))

pub spans_take_words : SpansTakeWords
spans_take_words at c input x i threshold l d k is there high = takes_word at c input x i threshold l d k is there high

pub spans_bring : SpansBring
spans_bring at c input x i threshold l d k is there high clear still kept b small is_sent =
    brings at c input x i threshold l d k is there high clear still kept b small is_sent
