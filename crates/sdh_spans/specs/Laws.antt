-- The laws of a span. They are promised by the functions of this crate, which have no work to do.
use Rattle.std.specs.Prelude.{ℕ, suc, ◌≡◌, ◌+◌, ◌≤◌, Bool, true, false, Option, None, List, slice_index_or}
use Rattle.sdh_ringmap.specs.declared.terms.Rate.{Rate}
use Rattle.sdh_ringmap.specs.Rates.{n_of}
use Rattle.sdh_ringmap.specs.declared.Side.{Side}
use Rattle.sdh_kbytes.specs.declared.K.{K}
use Rattle.sdh_payload.specs.Clock.{next_form}
use Rattle.sdh_payload.specs.Feed.{Fed}
use Rattle.sdh_payload.specs.declared.chunk.ChunkForm.TheVariants.{Plain}
use Rattle.sdh_payload.specs.Outlet.{Outlet, silent}
use Rattle.sdh_pointer.specs.declared.reading.Reading.{Reading}
use Rattle.sdh_pointer.specs.Reading.{start}
use Rattle.sdh_pointer.specs.Sending.{word_sent, next_sending}
use Rattle.sdh_pointer.specs.Laws.{lasting_state}
use Rattle.sdh_ringmap.specs.declared.terms.Condition.{Condition}
use Rattle.sdh_plant.specs.Fibres.{Arrival}
use Rattle.sdh_ringmap.specs.Fibres.{is_cut}
use Rattle.sdh_plant.specs.Arrivals.{through}
use Rattle.sdh_terminal.specs.Passing.{Input}
use Rattle.sdh_terminal.specs.Receiving.{Inlet, after_taking}
use Rattle.sdh_terminal.specs.Lines.{Lines, line_on, received}
use Rattle.sdh_terminal.specs.Sending.{Sending}
use Rattle.sdh_spans.specs.Frames.{CarriesWord}
use Rattle.sdh_spans.specs.Sides.{IsInletAt, IsSenderAt, SendsSo, FindsNothing, IsTold, FindsSo}
use Rattle.sdh_terminal.specs.Outlets.{delivered_from}
use Rattle.sdh_terminal.specs.Tributaries.{input_by, sent_in}
use Rattle.sdh_spans.specs.Brought.{BringsDelivery, HasValue, plainly}
use Rattle.sdh_spans.specs.Spans.{IsSpan, line_after, TakesWord, word_behind, IsConstant, GeneratorGoesBy, TakesBehind}

-- ---- frames

-- a frame still has its word after every fibre that isn't cut, and nothing comes after a fibre that is cut
pub record FramesComeThrough : Type 0 where
  pub word : (at : Rate) (k : K) (c : Condition) (a : Arrival) → is_cut c ≡ false → CarriesWord at k a
      → CarriesWord at k (through (n_of at) c a)
  pub dark : (n : ℕ) (c : Condition) (a : Arrival) → is_cut c ≡ true → through n c a ≡ None

-- ---- sides

-- the sending half of every side does so as `SendsSo` says
abbrev pub SidesSendSo : Type 0
SidesSendSo = (at : Rate) (input : ℕ → Input) (x : Sending) → IsSenderAt at x → SendsSo at input x

-- a side that receives at a rate still does so after it took in what arrived
abbrev pub InletsStay : Type 0
InletsStay = (at : Rate) (threshold : ℕ) (i : Inlet) → IsInletAt at i → IsInletAt at (after_taking threshold i)

-- a side that received nothing finds nothing, as `FindsNothing` says
abbrev pub UntoldSidesFindNothing : Type 0
UntoldSidesFindNothing = (threshold : ℕ) (i : Inlet) → i.arrived ≡ None → FindsNothing threshold i

-- a side that received what came through a fibre finds what `FindsSo` says
abbrev pub SidesFindSo : Type 0
SidesFindSo =
    (at : Rate) (c : Condition) (k : K) (line : List ℕ) (threshold : ℕ) (i : Inlet) → IsTold at c k line i → FindsSo at c k line threshold i

-- ---- ports

-- what an AU-4 brings is what a port delivers of it
abbrev pub PortsDeliver : Type 0
PortsDeliver = (i : Input) (b : Outlet) → HasValue b → BringsDelivery i b → delivered_from i ≡ b

-- a port that justifies nothing brings the next bytes of its stream
abbrev pub PortsBring : Type 0
PortsBring = (feed : Fed) → next_form feed.clock ≡ Plain → BringsDelivery (input_by (sent_in feed)) (plainly feed.port feed.clock)

-- ---- one span in one round

-- the interpreter of each AU-4 takes the pointer word that the generator of the AU-4 sent, or ones where the fibre is
-- cut
abbrev pub SpansTakeWords : Type 0
SpansTakeWords =
    (at : Rate) (c : Condition) (input : ℕ → Input) (x : Sending) (i : Inlet) (threshold : ℕ) (l : Lines) (d : Side) (k : ℕ)
    → IsSpan at c input x i → line_on l d ≡ line_after threshold i → k + 1 ≤ n_of at
    → TakesWord (slice_index_or i.readings k start) (slice_index_or (after_taking threshold i).readings k start) (received l d (k + 1))
    (word_behind (is_cut c) (word_sent (slice_index_or x.generators k None) (input (k + 1)).action (input (k + 1)).value))

-- where the fibre isn't cut, and neither the AU-4's generator nor the interpreters change, an AU-4 comes as it was sent
abbrev pub SpansBring : Type 0
SpansBring =
    (at : Rate) (c : Condition) (input : ℕ → Input) (x : Sending) (i : Inlet) (threshold : ℕ) (l : Lines) (d : Side) (k : ℕ)
    → IsSpan at c input x i → line_on l d ≡ line_after threshold i → k + 1 ≤ n_of at
    → is_cut c ≡ false → (after_taking threshold i).readings ≡ i.readings
    → slice_index_or x.generators k None ≡ next_sending (slice_index_or x.generators k None) (input (k + 1)).action (input (k + 1)).value
    → (b : Outlet) → HasValue b → BringsDelivery (input (k + 1)) b → BringsDelivery (received l d (k + 1)) b

-- where the fibre is cut and the interpreters don't change, AIS comes, whatever was sent
abbrev pub CutSpansBringAis : Type 0
CutSpansBringAis =
    (at : Rate) (c : Condition) (w : K) (line : List ℕ) (i : Inlet) (threshold : ℕ) (l : Lines) (d : Side) (k : ℕ) → IsTold at c w line i
    → line_on l d ≡ line_after threshold i → k + 1 ≤ n_of at
    → is_cut c ≡ true → (after_taking threshold i).readings ≡ i.readings → BringsDelivery (received l d (k + 1)) silent

-- ---- one span in many rounds

-- where what goes into an AU-4 has one action and one value from round k on, its generator is in one state from round k
-- + 1 on
abbrev pub GeneratorsRest : Type 0
GeneratorsRest =
    (went : ℕ → Input) (sending : ℕ → Option ℕ) (k : ℕ) → GeneratorGoesBy went sending → (c : IsConstant went k) → (j : ℕ) → k + 1 ≤ j
    → sending j ≡ lasting_state c.does c.value

-- from round k + 9 on the interpreter after the fibre changes no more, and what comes has one action and one value,
-- whatever generator and interpreter kept before
pub record RestsBehind (reading : ℕ → Reading) (came : ℕ → Input) (k : ℕ) : Type 0 where
  pub stays : (j : ℕ) → k + 9 ≤ j → reading (suc j) ≡ reading j
  pub comes : IsConstant came (k + 9)

-- after a constant input of its generator a span comes to rest
abbrev pub SpansAreSteady : Type 0
SpansAreSteady =
    (cut : Bool) (went came : ℕ → Input) (sending : ℕ → Option ℕ) (reading : ℕ → Reading) (k : ℕ) → GeneratorGoesBy went sending
    → TakesBehind cut went sending reading came → IsConstant went k → RestsBehind reading came k
