-- The fixpoint law and convergence, for runs and for rings of signals: the promised laws, from the chain and from the
-- fact that the rounds of a ring of signals are a run.
use Rattle.std.proofs.Common.{◌≡◌, ℕ, Bool, true, false, zero, suc, ◌+◌, ◌*◌, ◌<◌, ◌≤◌, List, [], length, get_or, ap, sym, ◌∙◌, arith, ◌⊎◌}
use Rattle.std.proofs.Common.{inl, inr}
use Rattle.std.specs.Prelude.{if◌then◌else◌, All}
use Rattle.std.proofs.lemmas.Bool.{cases_lt}
use Rattle.std.proofs.lemmas.List.{get_or_past}
use Rattle.sdh_basics.specs.Indexed.{map_from}
use Rattle.sdh_basics.proofs.CellsLaws.{length-map_from, get_or-placed, cells-from}
use Rattle.sdh_ringmap.specs.declared.Side.TheVariants.{West, East}
use Rattle.sdh_nodestate.specs.declared.Needs.{Needs}
use Rattle.sdh_nodestate.specs.declared.NodeState.TheVariants as state
use Rattle.sdh_nodestate.specs.Rules.{word, state_after, sent_after}
use Rattle.sdh_restoration.specs.Applied.{span_requests}
use Rattle.sdh_signal.specs.Settled.{settled, settled_states}
use Rattle.sdh_signal.proofs.Placewise.{map_from-same}
use Rattle.sdh_signal.specs.Signals.{Signals, request_on, is_held, state_in, words_in, scene_at, round, free_round, unheld_rounds, MaySignal}
use Rattle.sdh_signal.specs.Signals.{no_needs, requests_in}
use Rattle.sdh_signal.specs.Runs.{Run, at_round, run_requests}
use Rattle.sdh_signal.specs.Laws.{RunsSettle, WordsStay, StillRingsAreSettled, FreeRounds, RingsSettle}
use Rattle.sdh_signal.proofs.Spans.{size, spans}
use Rattle.sdh_signal.proofs.Convergence.{converges}
use Rattle.sdh_signal.proofs.RunLaw.{run_law}
use Rattle.sdh_signal.proofs.RunRounds.{run_of, is_run, scene_is}
use Rattle.sdh_signal.proofs.StillRings.{may_go_on, stays_on}

pub runs_settle : RunsSettle
runs_settle run R t p late h = run_law run R (run_requests run) (size run R) (spans run R) t late p h

pub words_stay : WordsStay
words_stay run R t p d late h = converges run R t p d h late

held_by : (held : List Bool) (p : ℕ) → All (λ b. b ≡ false) held → (p < length held) ⊎ (length held ≤ p) → is_held held p ≡ false
held_by held p none (inl within) = none p false within
held_by held p none (inr past) = get_or_past held p false past

not_held : (held : List Bool) → All (λ b. b ≡ false) held → (p : ℕ) → is_held held p ≡ false
not_held held none p = held_by held p none (cases_lt p (length held))

module _ (needs : List Needs) (s : Signals) (may : MaySignal needs s) where
  abbrev n : ℕ
  n = length s.ids

  abbrev run : Run
  run = run_of needs s may

  abbrev ring : ℕ → Signals
  ring t = unheld_rounds needs t s

  pub same_requests : run_requests run ≡ requests_in needs
  same_requests = ap (λ m. span_requests m (λ p d. request_on (get_or needs p no_needs) d)) (sym may.size)

  -- the states are the settled states after 4n + 8 rounds
  pub settled_after : (t : ℕ) → 4 * n + 7 ≤ t → (ring (suc t)).states ≡ settled_states (requests_in needs)
  unfolding round
  settled_after t late =
      let f = λ (p : ℕ) (x : Needs). if is_held [] p then state_in (ring t) p else state_after (scene_at (ring t) p x) in
      let idle = state.Idle tt in
      let rs = requests_in needs in
      let long : length rs ≡ n = ap length (sym same_requests) ∙ size run (is_run needs s may) in
      let many = may.size in
      sym (cells-from (settled rs) (length rs) idle (map_from f 0 needs) (length-map_from f 0 needs ∙ many ∙ sym long) (λ k h.
      let few : k < n = omega arith in
      ap (λ r. settled r k) (sym same_requests)
      ∙ sym (runs_settle run (is_run needs s may) t k late few)
      ∙ ap state_after (sym (scene_is needs s may t k))
      ∙ sym (get_or-placed f needs k no_needs idle (omega arith))))

  -- the words stay the same after 5n + 8 rounds
  pub words_after : (t : ℕ) → 5 * n + 7 ≤ t → (ring (suc (suc t))).words ≡ (ring (suc t)).words
  unfolding round
  words_after t late =
      map_from-same (λ p x. if is_held [] p then words_in (ring (suc t)) p else sent_after (scene_at (ring (suc t)) p x))
      (λ p x. if is_held [] p then words_in (ring t) p else sent_after (scene_at (ring t) p x)) needs no_needs (λ k h.
      let size = may.size in
      let few : k < n = omega arith in
      ap sent_after (scene_is needs s may (suc t) k) ∙ sent_same t k late few ∙ ap sent_after (sym (scene_is needs s may t k)))
    where
      sent_same : (t k : ℕ) → 5 * n + 7 ≤ t → k < n → sent_after (at_round run (suc t) k) ≡ sent_after (at_round run t k)
      sent_same t k late few =
          ap (λ w. record { west = w; east = word (at_round run (suc t) k) East }) (words_stay run (is_run needs s may) t k West late few)
          ∙ ap (λ w. record { west = word (at_round run t k) West; east = w }) (words_stay run (is_run needs s may) t k East late few)

-- the states are the settled states after three rounds that changed no word
pub still_rings_are_settled : StillRingsAreSettled
still_rings_are_settled first second third s c1 c2 c3 =
    let s2 = free_round second (free_round first s) in
    let s3 = free_round third s2 in
    let t = 4 * length s3.ids + 7 in
    ap (λ (r : Signals). r.states) (sym (stays_on first second third s c1 c2 c3 (suc t)))
    ∙ settled_after third s3 (may_go_on third [] s2 c3.may) t (omega arith)

-- a list of held nodes that holds none changes nothing of a round
pub free_rounds : FreeRounds
unfolding round
free_rounds needs held s none =
    ap (λ x. record { ids = s.ids; states = x; words = (round needs held s).words; filters = (round needs held s).filters; running = true })
    (map_from-same (λ p x. if is_held held p then state_in s p else state_after (scene_at s p x))
    (λ p x. if is_held [] p then state_in s p else state_after (scene_at s p x)) needs no_needs
    (λ k h. ap (λ b. if b then state_in s k else state_after (scene_at s k (get_or needs k no_needs))) (not_held held none k)))
    ∙ ap (λ x. record {
      ids = s.ids;
      states = (free_round needs s).states;
      words = x;
      filters = (round needs held s).filters;
      running = true;
    })
    (map_from-same (λ p x. if is_held held p then words_in s p else sent_after (scene_at s p x))
    (λ p x. if is_held [] p then words_in s p else sent_after (scene_at s p x)) needs no_needs
    (λ k h. ap (λ b. if b then words_in s k else sent_after (scene_at s k (get_or needs k no_needs))) (not_held held none k)))

settled_from : (needs : List Needs) (s : Signals) → MaySignal needs s → (t : ℕ) → 4 * length s.ids + 8 ≤ t
    → (unheld_rounds needs t s).states ≡ settled_states (requests_in needs)
settled_from needs s may zero h = absurd (omega arith)
settled_from needs s may (suc t) h = settled_after needs s may t (omega arith)

words_from : (needs : List Needs) (s : Signals) → MaySignal needs s → (t : ℕ) → 5 * length s.ids + 8 ≤ t
    → (unheld_rounds needs (suc t) s).words ≡ (unheld_rounds needs t s).words
words_from needs s may zero h = absurd (omega arith)
words_from needs s may (suc t) h = words_after needs s may t (omega arith)

pub rings_settle : RingsSettle
rings_settle needs s may = record { settled = settled_from needs s may; words = words_from needs s may }
