-- Relayed words traced to the node that sends them. No node relays a word of its own, each word has a source in the
-- ring, and in a still ring what a node heard is what its neighbour sends now: so the way back ends at the source.
use Rattle.std.proofs.Common.{◌≡◌, ◌≢◌, ℕ, zero, suc, ◌<◌, ◌≤◌, Bool, true, false, Option, Some, None, length, refl, ap, sym, subst, ◌∙◌}
use Rattle.std.proofs.Common.{arith, inl, inr, ◌⊎◌}
use Rattle.std.specs.Prelude.{slice_index, ◌==◌, ◌&&◌, nat_le, if◌then◌else◌}
use Rattle.std.proofs.lemmas.Bool.{le-leb}
use Rattle.sdh_kbytes.specs.declared.K.{K}
use Rattle.sdh_ringmap.specs.Places.{neighbour, opposite}
use Rattle.sdh_ringmap.specs.declared.Side.{Side}
use Rattle.sdh_ringmap.specs.declared.Side.TheVariants.{West, East}
use Rattle.sdh_ringmap.specs.declared.Pos.{Pos}
use Rattle.sdh_nodestate.specs.declared.NodeState.TheVariants as state
use Rattle.sdh_nodestate.specs.Rules.{Scene, word_on, relayed, weight, weight_of, Choice, own_short, own_long, relay, rest, choose, chosen}
use Rattle.sdh_nodestate.specs.Rules.{word, word_by, switches, far, is_relay, state_by, state_after}
use Rattle.sdh_signal.specs.Runs.{Run, at_round, IsRun}
use Rattle.sdh_ringmap.specs.Steps.{going}
use Rattle.sdh_signal.specs.Laws.{IsStillAfter, Relays, passed, LeadsBack, HasOneNotPassing, RelayedWordsLeadBack, NotAllPassThrough}
use Rattle.sdh_ringmap.proofs.Going.{going-inside, going-none, going-first, reached, IsReached}
use Rattle.sdh_signal.proofs.Sources.{relayed_across}
use Rattle.sdh_signal.proofs.Runs.{some_nodes, next_below}
use Rattle.sdh_signal.proofs.OneNode.{word_relay}

-- where there is no word to relay, none is relayed
by_weights : (a b c d e : Bool) → e ≡ true → (if a then own_short else if b then own_long else if c then rest else if d
    then own_short else if e then own_long else relay) ≢ relay
by_weights true b c d e h = λ f. cc
by_weights false true c d e h = λ f. cc
by_weights false false true d e h = λ f. cc
by_weights false false false true e h = λ f. cc
by_weights false false false false true h = λ f. cc
by_weights false false false false false h = cc

no_relay : (s l : ℕ) → choose s l 0 ≢ relay
no_relay s l =
    by_weights (nat_le 11 s) (nat_le 11 l) ((s == 0) && (l == 0) && (0 == 0)) (nat_le l s && nat_le 0 s) (nat_le 0 l)
    (le-leb 0 l (omega arith))

-- a node that relays has a word to relay
relays_some_by : (s : Scene) (d : Side) (o : Option K) → relayed s d ≡ o → chosen s d ≡ relay → (k : K) × (relayed s d ≡ Some k)
unfolding chosen
relays_some_by s d None e f =
    absurd (no_relay (weight s d) (weight s (opposite d)) (ap (λ o. choose (weight s d) (weight s (opposite d)) (weight_of o)) (sym e) ∙ f))
relays_some_by s d (Some k) e f = (k, e)

-- a word that isn't relayed is the node's own
own_by : (s : Scene) (d : Side) (c : Choice) → c ≢ relay → (word_by s d c).from ≡ slice_index s.ids s.at
own_by s d own_short h = refl
own_by s d own_long h = refl
own_by s d relay h = absurd (h refl)
own_by s d rest h = refl

own_word_from : (s : Scene) (d : Side) → chosen s d ≢ relay → (word s d).from ≡ slice_index s.ids s.at
unfolding word
own_word_from s d h = own_by s d (chosen s d) h

relays_or_not : (c : Choice) → (c ≡ relay) ⊎ (c ≢ relay)
relays_or_not own_short = inr (λ e. cc)
relays_or_not own_long = inr (λ e. cc)
relays_or_not relay = inl refl
relays_or_not rest = inr (λ e. cc)

-- a relayed word was heard on the other side, and isn't the node's own
pub record Foreign (s : Scene) (d : Side) : Type 0 where
  pub heard : word_on s d ≡ Some (word s (opposite d))
  pub foreign : (word s (opposite d)).from ≢ slice_index s.ids s.at

relays_foreign : (s : Scene) (d : Side) → chosen s (opposite d) ≡ relay → Foreign s d
relays_foreign s d e =
    let r = relays_some_by s (opposite d) (relayed s (opposite d)) refl e in
    let h = relayed_across s d r.0 r.1 in
    let w = word_relay s (opposite d) r.0 e r.1 in
    record { heard = h.0 ∙ ap (λ x. Some x) (sym w); foreign = λ i. h.1 (ap (λ (x : K). x.from) (sym w) ∙ i) }

pub relay_of : (c : Choice) → is_relay c ≡ true → c ≡ relay
relay_of own_short e = cc
relay_of own_long e = cc
relay_of relay e = refl
relay_of rest e = cc

module _ (run : Run) (R : IsRun run) (t : ℕ) (still : IsStillAfter run t) where
  abbrev n : ℕ
  n = length run.ids

  abbrev nx : ℕ → Side → ℕ
  nx p d = neighbour (length run.ids) p d

  -- no step leads to p itself; j steps from the neighbour are j + 1 steps from p
  none : (p : ℕ) (d : Side) → p < n → going n d p zero ≡ p
  none p d h = going-none n (some_nodes run R) d p h

  more : (p : ℕ) (d : Side) (j : ℕ) → going n d (nx p d) j ≡ going n d p (suc j)
  more p d j = going-first n (some_nodes run R) d p j

  abbrev away : ℕ → Side → K
  away p d = passed run (suc t) p d

  -- a relayed word is what the neighbour sends now
  from_next : (p : ℕ) (d : Side) → p < n → Relays run (suc t) p d → away p d ≡ away (nx p d) d
  from_next p d h e =
      let f = relays_foreign (at_round run (suc t) p) d e in
      R.past t p d (away p d) h f.heard ∙ sym (still (nx p d) (opposite d) (next_below run R p d))

  -- the way back from p, of `steps` steps, which may be none
  pub record Back (most p : ℕ) (d : Side) : Type 0 where
    pub steps : ℕ
    pub few : steps ≤ most
    pub between : (j : ℕ) → j < steps → Relays run (suc t) (going n d p j) d
    pub same : (j : ℕ) → j ≤ steps → away (going n d p j) d ≡ away p d
    pub own : (away p d).from ≡ slice_index run.ids (going n d p steps)

  at_source : (most p : ℕ) (d : Side) → p < n → (away p d).from ≡ slice_index run.ids p → Back most p d
  at_source most p d inside f = record {
    steps = zero;
    few = omega arith;
    between = λ j h. absurd (omega arith);
    same = λ j h. (let z : j ≡ zero = omega arith in ap (λ i. away (going n d p i) d) z ∙ ap (λ q. away q d) (none p d inside));
    own = f ∙ ap (slice_index run.ids) (sym (none p d inside));
  }

  further_between : (m p : ℕ) (d : Side) (b : Back m (nx p d) d) → p < n → Relays run (suc t) p d → (j : ℕ) → j < suc b.steps
      → Relays run (suc t) (going n d p j) d
  further_between m p d b inside e zero h = subst (λ q. Relays run (suc t) q d) (sym (none p d inside)) e
  further_between m p d b inside e (suc j) h = subst (λ q. Relays run (suc t) q d) (more p d j) (b.between j (omega arith))

  further_same : (m p : ℕ) (d : Side) (b : Back m (nx p d) d) → p < n → away p d ≡ away (nx p d) d → (j : ℕ) → j ≤ suc b.steps
      → away (going n d p j) d ≡ away p d
  further_same m p d b inside e zero h = ap (λ q. away q d) (none p d inside)
  further_same m p d b inside e (suc j) h = ap (λ q. away q d) (sym (more p d j)) ∙ b.same j (omega arith) ∙ sym e

  further : (m p : ℕ) (d : Side) → p < n → Relays run (suc t) p d → away p d ≡ away (nx p d) d → Back m (nx p d) d → Back (suc m) p d
  further m p d inside r e b = record {
    steps = suc b.steps;
    few = (let few = b.few in omega arith);
    between = further_between m p d b inside r;
    same = further_same m p d b inside e;
    own = ap (λ (w : K). w.from) e ∙ b.own ∙ ap (slice_index run.ids) (more p d b.steps);
  }

  trace_by : (m p : ℕ) (d : Side) → p < n → (away p d).from ≡ slice_index run.ids (going n d p m)
      → (chosen (at_round run (suc t) p) (opposite d) ≡ relay) ⊎ (chosen (at_round run (suc t) p) (opposite d) ≢ relay) → Back m p d
  trace_by m p d h f (inr other) = at_source m p d h (own_word_from (at_round run (suc t) p) (opposite d) other)
  trace_by zero p d h f (inl e) = at_source zero p d h (f ∙ ap (slice_index run.ids) (none p d h))
  trace_by (suc m) p d h f (inl e) =
      let is = from_next p d h e in
      further m p d h e is (trace_by m (nx p d) d (next_below run R p d)
      (ap (λ (w : K). w.from) (sym is) ∙ f ∙ ap (slice_index run.ids) (sym (more p d m)))
      (relays_or_not (chosen (at_round run (suc t) (nx p d)) (opposite d))))

  traced : (p : ℕ) (d : Side) → p < n → (x : ℕ) → (away p d).from ≡ slice_index run.ids x → (walk : IsReached n d p x) → Back walk.steps p d
  traced p d h x f walk =
      trace_by walk.steps p d h (f ∙ ap (slice_index run.ids) (sym walk.there))
      (relays_or_not (chosen (at_round run (suc t) p) (opposite d)))

  leads_by : (m p : ℕ) (d : Side) → p < n → m < n → Relays run (suc t) p d → Back m p d → LeadsBack run (suc t) p d
  leads_by m p d inside few e b = record {
    steps = b.steps;
    some = some_by b.steps refl;
    few = (let x = b.few in omega arith);
    between = b.between;
    same = b.same;
    own = b.own;
  }
    where
      some_by : (k : ℕ) → b.steps ≡ k → 0 < b.steps
      some_by zero z =
          absurd ((relays_foreign (at_round run (suc t) p) d e).foreign
          (b.own ∙ ap (λ k. slice_index run.ids (going n d p k)) z ∙ ap (slice_index run.ids) (none p d inside)))
      some_by (suc k) z = omega arith

  pub leads_back : (p : ℕ) (d : Side) → p < n → Relays run (suc t) p d → LeadsBack run (suc t) p d
  leads_back p d h e =
      let m = R.sources (suc t) p (opposite d) h in
      let walk = reached n (some_nodes run R) d p m.0 h m.1 in
      leads_by walk.steps p d h walk.few e (traced p d h m.0 (sym m.2) walk)

  -- a node that passes through relays on both sides
  passes_by : (a b c d : Bool) (v w : Option Pos) → state_by a b c d v w ≡ state.PassThrough tt → c ≡ true
  passes_by true true c d v w e = cc
  passes_by true false c d v w e = cc
  passes_by false true c d v w e = cc
  passes_by false false true d v w e = refl
  passes_by false false false true v w e = cc
  passes_by false false false false v w e = cc

  passes_west : (p : ℕ) → state_after (at_round run (suc t) p) ≡ state.PassThrough tt → Relays run (suc t) p East
  unfolding state_after
  passes_west p e =
      let s = at_round run (suc t) p in
      relay_of (chosen s West) (passes_by (switches s West) (switches s East) (is_relay (chosen s West)) (is_relay (chosen s East))
      (far s West) (far s East) e)

  not_passing_by : (c : Choice) → chosen (at_round run (suc t) 0) West ≡ c → (c ≡ relay) ⊎ (c ≢ relay) → HasOneNotPassing run (suc t)
  not_passing_by c is (inr other) = record {
    at = 0;
    inside = (let e = R.ids_ok.enough in omega arith);
    differs = λ e. other (sym is ∙ passes_west 0 e);
  }
  not_passing_by c is (inl e) =
      let first : 0 < n = let many = R.ids_ok.enough in omega arith in
      let b = leads_back 0 East first (is ∙ e) in
      let z = going n East 0 b.steps in
      let source : (away z East).from ≡ slice_index run.ids z = ap (λ (w : K). w.from) (b.same b.steps (omega arith)) ∙ b.own in
      record {
        at = z;
        inside = going-inside n (some_nodes run R) East 0 b.steps;
        differs = λ passes. (relays_foreign (at_round run (suc t) z) East (passes_west z passes)).foreign source;
      }

  pub not_passing : HasOneNotPassing run (suc t)
  not_passing = not_passing_by (chosen (at_round run (suc t) 0) West) refl (relays_or_not (chosen (at_round run (suc t) 0) West))

pub relayed_words_lead_back : RelayedWordsLeadBack
relayed_words_lead_back run R t still p d h e = leads_back run R t still p d h e

pub not_all_pass_through : NotAllPassThrough
not_all_pass_through run R t still = not_passing run R t still
