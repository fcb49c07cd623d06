-- In the window that ends the last of some stretches the nodes are in the settled states of the histories.
use Rattle.std.proofs.Common.{◌≡◌, ℕ, ◌+◌, ◌<◌, List, [], ◌∷◌, ◌++◌, length, get_or, map, refl, ap, sym, ◌∙◌, arith}
use Rattle.std.proofs.lemmas.List.{length-map}
use Rattle.sdh_ringmap.specs.declared.Side.{Side}
use Rattle.sdh_ringmap.specs.declared.terms.Code.{Code}
use Rattle.sdh_restoration.specs.Applied.{span_requests}
use Rattle.sdh_signal.specs.Settled.{settled_states}
use Rattle.sdh_signal.specs.Signals.{requests_in, request_on, no_needs}
use Rattle.sdh_signal.specs.Laws.{StillRingsAreSettled}
use Rattle.sdh_circuits.specs.Provisioning.{Provisioning}
use Rattle.sdh_plant.specs.Fibres.{Fibres}
use Rattle.sdh_request.specs.declared.settings.Settings.{Settings}
use Rattle.sdh_node.specs.Node.{receiving_on, needed}
use Rattle.sdh_node.specs.Rings.Rounds.{World}
use Rattle.sdh_node.specs.Rings.Runs.{run}
use Rattle.sdh_restoration.specs.Changes.{Stretch, rounds_in}
use Rattle.sdh_node.specs.Rings.Changes.{all_changed, after_stretch, after_stretches, new_world}
use Rattle.sdh_node.specs.Rings.Laws.{AreChangesOf, MayHappen}
use Rattle.sdh_laws.specs.Hearing.Signalling.{needs_in}
use Rattle.sdh_restoration.specs.Sides.{asked_in}
use Rattle.sdh_laws.specs.Hearing.Laws.{IsWhole, MayStart, StretchesSettle}
use Rattle.sdh_laws.proofs.hearing.Staying.{left_all, left_run, left_stretches}
use Rattle.sdh_laws.proofs.hearing.Nodes.{count}
use Rattle.sdh_laws.proofs.hearing.Changes.{new_worlds_are_whole, whole_all, whole_run}
use Rattle.sdh_laws.proofs.hearing.Signalling.{spans_same, needs_at, windows_are_settled}
use Rattle.sdh_laws.proofs.hearing.Stretches.{requests_are}
use Rattle.sdh_node.specs.Rings.Held.{node_at}

-- requests of spans by those of sides
pub requests_by : (v : World) (n : ℕ) → length v.ring.nodes ≡ n → (g : ℕ → Side → Code)
    → ((p : ℕ) (d : Side) → p < n → (receiving_on d (node_at v.ring.nodes p)).request ≡ g p d)
    → requests_in (needs_in v) ≡ span_requests n g
unfolding needs_in
requests_by v n size g each =
    ap (λ m. span_requests m (λ p d. request_on (get_or (map needed v.ring.nodes) p no_needs) d)) (length-map v.ring.nodes needed ∙ size)
    ∙ spans_same n (λ p d. request_on (get_or (map needed v.ring.nodes) p no_needs) d) g
    (λ p d lt. (let low : p < length v.ring.nodes = omega arith in needs_at v.ring.nodes p d low ∙ each p d lt))

-- ---- all stretches

pub last_of : (ss : List Stretch) (s : Stretch) (w : World) → MayHappen w (ss ++ s ∷ []) → AreChangesOf (after_stretches ss w) s.changes
last_of [] s w may = may.0
last_of (r ∷ ss) s w may = last_of ss s (after_stretch r w) may.1

pub earlier_of : (ss : List Stretch) (s : Stretch) (w : World) → MayHappen w (ss ++ s ∷ []) → MayHappen w ss
earlier_of [] s w may = tt
earlier_of (r ∷ ss) s w may = (may.0, earlier_of ss s (after_stretch r w) may.1)

pub whole_stretches : (ss : List Stretch) (w : World) → MayHappen w ss → IsWhole w → IsWhole (after_stretches ss w)
whole_stretches [] w may whole = whole
whole_stretches (s ∷ ss) w may whole =
    whole_stretches ss (after_stretch s w) may.1 (whole_run (all_changed s.changes w) s.rounds (whole_all s.changes w may.0 whole))

pub after_last : (ss : List Stretch) (s : Stretch) (w : World) → after_stretches (ss ++ s ∷ []) w ≡ after_stretch s (after_stretches ss w)
after_last [] s w = refl
after_last (r ∷ ss) s w = after_last ss s (after_stretch r w)

-- ---- the last of some stretches

module _ (s : Settings) (ids : List ℕ) (circuits : Provisioning) (f : Fibres) (earlier : List Stretch) (last : Stretch)
    (may : MayStart s ids f) (happen : MayHappen (new_world s ids circuits f) (earlier ++ last ∷ [])) where
  abbrev w : World
  w = new_world s ids circuits f

  -- v is the world in which the rounds of the last stretch begin, and u the one after them
  abbrev v : World
  v = all_changed last.changes (after_stretches earlier w)

  abbrev u : World
  u = run last.rounds v

  abbrev ss : List Stretch
  ss = earlier ++ last ∷ []

  pub whole_last : IsWhole v
  whole_last = whole_all last.changes (after_stretches earlier w) (last_of earlier last w happen)
      (whole_stretches earlier w (earlier_of earlier last w happen) (new_worlds_are_whole s ids circuits f may.ids_ok may.honest))

  ids_last : v.ring.ids ≡ ids
  ids_last = (left_all last.changes (after_stretches earlier w)).ids ∙ (left_stretches earlier w).ids

  -- the requests of the last stretch's last round are those of the histories
  pub requests_last : (t : ℕ) → rounds_in ss ≡ t + 1 → requests_in (needs_in u)
      ≡ span_requests (length ids) (asked_in s.threshold s.wait (length ids) ss t)
  requests_last t many =
      let all : length u.ring.nodes ≡ length ids =
      count u (whole_run v last.rounds whole_last).placed ∙ ap length (left_run last.rounds v).ids ∙ ap length ids_last in
      requests_by u (length ids) all (asked_in s.threshold s.wait (length ids) ss t)
      (λ p d lt. ap (λ (y : World). (receiving_on d (node_at y.ring.nodes p)).request) (sym (after_last earlier last w))
      ∙ (requests_are s ids circuits f ss may happen).last p d t lt many)

pub stretches_settle : StillRingsAreSettled → StretchesSettle
stretches_settle law s ids circuits f earlier last j t may happen ends low high many =
    let v = all_changed last.changes (after_stretches earlier (new_world s ids circuits f)) in
    let size : length v.ring.ids ≡ length ids = ap length (ids_last s ids circuits f earlier last may happen) in
    windows_are_settled law v last.rounds j (whole_last s ids circuits f earlier last may happen) ends (omega arith) high
    ∙ ap settled_states (requests_last s ids circuits f earlier last may happen t many)
