-- One span in many rounds.
use Rattle.std.proofs.Common.{◌≡◌, ℕ, suc, ◌+◌, ◌-◌, ◌<◌, ◌≤◌, length, get_or, Option, None, sym, subst, arith}
use Rattle.sdh_ringmap.specs.Rates.{n_of}
use Rattle.sdh_ringmap.specs.declared.Side.{Side}
use Rattle.sdh_ringmap.specs.Places.{neighbour, opposite}
use Rattle.sdh_pointer.specs.declared.reading.Reading.{Reading}
use Rattle.sdh_pointer.specs.Reading.{start}
use Rattle.sdh_pointer.specs.Sending.{word_sent, next_sending}
use Rattle.sdh_pointer.specs.Laws.{lasting_state}
use Rattle.sdh_node.specs.Node.{receiving_on, sending_on}
use Rattle.sdh_node.specs.Rings.Rounds.{World}
use Rattle.sdh_node.specs.Rings.Runs.{run}
use Rattle.sdh_laws.specs.Hearing.Laws.{IsWhole}
use Rattle.sdh_laws.proofs.hearing.Changes.{whole_run}
use Rattle.sdh_laws.proofs.hearing.Nodes.{count}
use Rattle.sdh_laws.proofs.hearing.Rounds.{neighbour_inside}
use Rattle.sdh_laws.proofs.hearing.Staying.{left_run}
use Rattle.sdh_spans.specs.Spans.{TakesWord, word_behind, IsConstant}
use Rattle.sdh_spans.specs.Laws.{RestsBehind}
use Rattle.sdh_spans.proofs.Steady.{generators_rest, spans_are_steady}
use Rattle.sdh_laws.proofs.carrying.Spans.{generator_step, interpreter_step}
use Rattle.sdh_laws.specs.Converging.Steady.{went, brought_to}
use Rattle.sdh_laws.specs.Converging.Laws.{ASpanIsSteady}
use Rattle.sdh_laws.proofs.converging.Runs.{length_run, rate_run, condition_run}
use Rattle.sdh_ringmap.specs.Fibres.{is_cut}
use Rattle.sdh_node.specs.Rings.Held.{node_at}
use Rattle.sdh_node.specs.Rings.Sides.{condition_to}
use Rattle.sdh_rounds.specs.Runs as any_run

-- of AU-4 number i + 1: the state of its generator and what its interpreter keeps after k rounds, and the word that is
-- sent in round k
abbrev pub sending_in : World → ℕ → Side → ℕ → ℕ → Option ℕ
sending_in w p d i k = get_or (sending_on d (node_at (run k w).ring.nodes p)).generators i None

abbrev pub reading_in : World → ℕ → Side → ℕ → ℕ → Reading
reading_in w p d i k = get_or (receiving_on d (node_at (run k w).ring.nodes p)).readings i start

abbrev pub word_in : World → ℕ → Side → ℕ → ℕ → ℕ
word_in w p d i k = word_sent (sending_in w p d i k) (went w p d (i + 1) k).action (went w p d (i + 1) k).value

-- one interpreter in a round takes a word
abbrev pub Takes : World → ℕ → Side → ℕ → ℕ → ℕ → Type 0
Takes w p d i k word = TakesWord (reading_in w p d i k) (reading_in w p d i (suc k)) (brought_to w p d (i + 1) k) word

module _ (w : World) (whole : IsWhole w) where
  -- a generator goes on by what goes into its AU-4
  pub generator_goes : (p : ℕ) (d : Side) (i j : ℕ) → p < length w.ring.nodes → i < n_of w.ring.settings.rate
      → sending_in w p d i (suc j) ≡ next_sending (sending_in w p d i j) (went w p d (i + 1) j).action (went w p d (i + 1) j).value
  unfolding any_run.run
  generator_goes p d i j inside few =
      generator_step (run j w) (whole_run w j whole) p d (omega (arith, length_run w j)) i (omega (arith, rate_run w j))

  -- an interpreter goes on by the word that was sent after the span one round before
  pub interpreter_goes : (p : ℕ) (d : Side) (i j : ℕ) → p < length w.ring.nodes → i < n_of w.ring.settings.rate
      → Takes w p d i (suc j) (word_behind (is_cut (condition_to w p d)) (word_in w (neighbour (length w.ring.ids) p d) (opposite d) i j))
  unfolding any_run.run
  interpreter_goes p d i j inside few =
      let u = run j w in
      let took = interpreter_step u (whole_run w j whole) p d (omega (arith, length_run w j)) i (omega (arith, rate_run w j)) in
      subst (λ c. Takes w p d i (suc j) (word_behind (is_cut c) (word_in w (neighbour (length w.ring.ids) p d) (opposite d) i j)))
      (condition_run w (suc j) p d)
      (subst (λ ids. Takes w p d i (suc j) (word_behind (is_cut (condition_to (run (suc j) w) p d))
      (word_in w (neighbour (length ids) p d) (opposite d) i j))) (left_run j w).ids took)

  -- a generator that gets one action and one value from round k on
  module _ (p : ℕ) (d : Side) (i k : ℕ) (inside : p < length w.ring.nodes) (few : i < n_of w.ring.settings.rate)
      (c : IsConstant (went w p d (i + 1)) k) where
    pub sending_rests : (j : ℕ) → k + 1 ≤ j → sending_in w p d i j ≡ lasting_state c.does c.value
    sending_rests j h = generators_rest (went w p d (i + 1)) (sending_in w p d i) k (λ m. generator_goes p d i m inside few) c j h

  -- the interpreter after the span
  module _ (p : ℕ) (d : Side) (i k : ℕ) (inside : p < length w.ring.nodes) (few : i < n_of w.ring.settings.rate)
      (c : IsConstant (went w (neighbour (length w.ring.ids) p d) (opposite d) (i + 1)) k) where
    abbrev q : ℕ
    q = neighbour (length w.ring.ids) p d

    rests : RestsBehind (reading_in w p d i) (brought_to w p d (i + 1)) k
    rests =
        spans_are_steady (is_cut (condition_to w p d)) (went w q (opposite d) (i + 1)) (brought_to w p d (i + 1)) (sending_in w q (opposite d) i)
        (reading_in w p d i) k
        (λ j. generator_goes q (opposite d) i j (neighbour_inside w whole p d) few) (λ j. interpreter_goes p d i j inside few) c

    -- the interpreter after the span isn't moved any more
    pub reading_rests : (j : ℕ) → k + 9 ≤ j → reading_in w p d i (suc j) ≡ reading_in w p d i j
    reading_rests j h = rests.stays j h

    pub span_constant : IsConstant (brought_to w p d (i + 1)) (k + 9)
    span_constant = rests.comes

pub a_span_is_steady : ASpanIsSteady
a_span_is_steady w whole p d au k inside low high c =
    let i = au - 1 in
    let back : i + 1 ≡ au = omega arith in
    subst (λ a. IsConstant (brought_to w p d a) (k + 9)) back
    (span_constant w whole p d i k (omega (arith, count w whole.placed)) (omega arith)
    (subst (λ a. IsConstant (went w (neighbour (length w.ring.ids) p d) (opposite d) a) k) (sym back) c))
