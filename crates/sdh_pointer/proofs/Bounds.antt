-- What a single step keeps: bounds, and that the answer shows the mode.
use Rattle.std.proofs.Common.{◌≡◌, ℕ, ◌+◌, ◌<◌, ◌≤◌, true, eqb, leb, refl, arith, inl, inr}
use Rattle.std.specs.Prelude.{◌&&◌, ◌||◌, not}
use Rattle.std.proofs.lemmas.Bool.{cases_Bool, cases_lt, le-leb, lt-leb, leb-true}
use Rattle.sdh_pointer.specs.declared.reading.Reading.{Reading}
use Rattle.sdh_pointer.specs.declared.reading.Mode.{Mode}
use Rattle.sdh_pointer.specs.declared.reading.Mode.TheVariants as mode
use Rattle.sdh_pointer.specs.declared.reading.Event.{Event}
use Rattle.sdh_pointer.specs.declared.reading.Event.TheVariants as event
use Rattle.sdh_pointer.specs.Words.{is_normal, is_enabled, value_in, one_up, one_down}
use Rattle.sdh_pointer.specs.Reading.{start, is_norm, goes_up, goes_down, normal_event, event_of, event_value, after_in, action_in}
use Rattle.sdh_pointer.specs.Reading.{after_event, action_on_event, after_word, action_on, reading_row_of, reading_table, nothing_counted, with_ais}
use Rattle.sdh_pointer.specs.Reading.{with_bad, with_new, news_with, later, IsBounded}
use Rattle.sdh_pointer.specs.Laws.{is_ais_action}
use Rattle.sdh_pointer.proofs.Rows.{can_come, comes}

-- ---- the value that an event brings

normal_fits : (r : Reading) (v : ℕ) → event_value (normal_event r v) ≤ 782
unfolding normal_event
normal_fits r v =
    elim (cases_Bool (is_norm r.mode && eqb v r.value)) [
      | inl a ↦ rw a (omega arith)
      | inr a ↦ elim (cases_Bool (is_norm r.mode && leb 3 r.since && goes_up v r.value)) [
        | inl b ↦ rw (a, b) (omega arith)
        | inr b ↦ elim (cases_Bool (is_norm r.mode && leb 3 r.since && goes_down v r.value)) [
          | inl c ↦ rw (a, b, c) (omega arith)
          | inr c ↦ elim (cases_Bool (leb v 782)) [
            | inl d ↦ rw (a, b, c, d) (leb-true _ _ d)
            | inr d ↦ rw (a, b, c, d) (omega arith)
          ]
        ]
      ]
    ]

fits : (r : Reading) (w : ℕ) → event_value (event_of r w) ≤ 782
unfolding event_of
fits r w =
    elim (cases_Bool (eqb w 65535)) [
      | inl a ↦ rw a (omega arith)
      | inr a ↦ elim (cases_Bool (is_enabled w)) [
        | inl b ↦ elim (cases_Bool (leb (value_in w) 782)) [
          | inl c ↦ rw (a, b, c) (leb-true _ _ c)
          | inr c ↦ rw (a, b, c) (omega arith)
        ]
        | inr b ↦ elim (cases_Bool (is_normal w)) [
          | inl c ↦ rw (a, b, c) (normal_fits r (value_in w))
          | inr c ↦ rw (a, b, c) (omega arith)
        ]
      ]
    ]

-- ---- bounds

bounded_settled : (m : Mode) (v s : ℕ) → v ≤ 782 → s ≤ 3 → IsBounded (nothing_counted m v s)
bounded_settled m v s h k = record {
  value = h;
  ais = omega arith;
  bad = omega arith;
  candidate = omega arith;
  uncounted = λ _. refl;
  news = omega arith;
  since = k;
}

bounded_ais : (r : Reading) (s : ℕ) → IsBounded r → r.ais + 1 < 3 → s ≤ 3 → IsBounded (with_ais r s)
bounded_ais r s h less k = record {
  value = h.value;
  ais = omega arith;
  bad = omega arith;
  candidate = omega arith;
  uncounted = λ _. refl;
  news = omega arith;
  since = k;
}

bounded_bad : (r : Reading) (s : ℕ) → IsBounded r → r.bad + 1 < 8 → s ≤ 3 → IsBounded (with_bad r s)
bounded_bad r s h less k = record {
  value = h.value;
  ais = omega arith;
  bad = omega arith;
  candidate = omega arith;
  uncounted = λ _. refl;
  news = omega arith;
  since = k;
}

pub some_news : (r : Reading) (v : ℕ) → 0 < news_with r v
some_news r v = elim (cases_Bool (eqb 0 r.news || not (eqb r.candidate v))) [ inl t ↦ rw t (omega arith) | inr f ↦ rw f (omega arith) ]

bounded_new : (r : Reading) (v s : ℕ) → IsBounded r → v ≤ 782 → news_with r v < 3 → s ≤ 3 → IsBounded (with_new r v s)
bounded_new r v s h small less k = record {
  value = h.value;
  ais = omega arith;
  bad = omega arith;
  candidate = small;
  uncounted = λ none. absurd (omega (arith, some_news r v));
  news = omega arith;
  since = k;
}

bounded_in : (m : Mode) (e : Event) (r : Reading) → event_value e ≤ 782 → IsBounded r → IsBounded (after_in m e r)
unfolding after_in reading_row_of reading_table
bounded_in mode.Norm event.Same r h b = bounded_settled mode.Norm r.value (later r.since) b.value (omega arith)
bounded_in mode.Norm (event.Ndf v) r h b = bounded_settled mode.Norm v 0 h (omega arith)
bounded_in mode.Norm event.Up r h b = bounded_settled mode.Norm (one_up r.value) 0 (omega arith) (omega arith)
bounded_in mode.Norm event.Down r h b = bounded_settled mode.Norm (one_down r.value) 0 (omega arith) (omega arith)
bounded_in mode.Norm (event.New v) r h b = elim (cases_lt (news_with r v) 3) [
  | inl less ↦ (let e = lt-leb _ _ less in rw e (bounded_new r v (later r.since) b h less (omega arith)))
  | inr third ↦ (let e = le-leb _ _ third in rw e (bounded_settled mode.Norm v (later r.since) h (omega arith)))
]
bounded_in mode.Norm event.Ais r h b = elim (cases_lt (r.ais + 1) 3) [
  | inl less ↦ (let e = lt-leb _ _ less in rw e (bounded_ais r (later r.since) b less (omega arith)))
  | inr third ↦ (let e = le-leb _ _ third in rw e (bounded_settled mode.Ais r.value 0 b.value (omega arith)))
]
bounded_in mode.Norm event.Bad r h b = elim (cases_lt (r.bad + 1) 8) [
  | inl less ↦ (let e = lt-leb _ _ less in rw e (bounded_bad r (later r.since) b less (omega arith)))
  | inr third ↦ (let e = le-leb _ _ third in rw e (bounded_settled mode.Lop r.value 0 b.value (omega arith)))
]
bounded_in mode.Ais event.Ais r h b = let e : leb 1 (r.ais + 1) ≡ true =
    le-leb _ _ (omega arith) in rw e (bounded_settled mode.Ais r.value 0 b.value (omega arith))
bounded_in mode.Ais (event.Ndf v) r h b = bounded_settled mode.Norm v 0 h (omega arith)
bounded_in mode.Ais (event.New v) r h b = elim (cases_lt (news_with r v) 3) [
  | inl less ↦ (let e = lt-leb _ _ less in rw e (bounded_new r v 0 b h less (omega arith)))
  | inr third ↦ (let e = le-leb _ _ third in rw e (bounded_settled mode.Norm v 0 h (omega arith)))
]
bounded_in mode.Ais event.Bad r h b = elim (cases_lt (r.bad + 1) 8) [
  | inl less ↦ (let e = lt-leb _ _ less in rw e (bounded_bad r 0 b less (omega arith)))
  | inr third ↦ (let e = le-leb _ _ third in rw e (bounded_settled mode.Lop r.value 0 b.value (omega arith)))
]
bounded_in mode.Lop event.Ais r h b = elim (cases_lt (r.ais + 1) 3) [
  | inl less ↦ (let e = lt-leb _ _ less in rw e (bounded_ais r 0 b less (omega arith)))
  | inr third ↦ (let e = le-leb _ _ third in rw e (bounded_settled mode.Ais r.value 0 b.value (omega arith)))
]
bounded_in mode.Lop (event.New v) r h b = elim (cases_lt (news_with r v) 3) [
  | inl less ↦ (let e = lt-leb _ _ less in rw e (bounded_new r v 0 b h less (omega arith)))
  | inr third ↦ (let e = le-leb _ _ third in rw e (bounded_settled mode.Norm v 0 h (omega arith)))
]
bounded_in mode.Lop (event.Ndf v) r h b = bounded_settled mode.Lop r.value 0 b.value (omega arith)
bounded_in mode.Lop event.Bad r h b = let e : leb 1 (r.bad + 1) ≡ true =
    le-leb _ _ (omega arith) in rw e (bounded_settled mode.Lop r.value 0 b.value (omega arith))
bounded_in mode.Ais event.Same r h b = b
bounded_in mode.Ais event.Up r h b = b
bounded_in mode.Ais event.Down r h b = b
bounded_in mode.Lop event.Same r h b = b
bounded_in mode.Lop event.Up r h b = b
bounded_in mode.Lop event.Down r h b = b

pub bounds_are_kept : IsBounded start × ((r : Reading) (w : ℕ) → IsBounded r → IsBounded (after_word r w))
unfolding after_word after_event
bounds_are_kept = (bounded_settled mode.Ais 0 0 (omega arith) (omega arith), λ r w h. bounded_in r.mode (event_of r w) r (fits r w) h)

-- ---- the answer shows the mode

tells_in : (m : Mode) (e : Event) (r : Reading) → r.mode ≡ m → can_come m e ≡ true
    → is_ais_action (action_in m e r) ≡ not (is_norm (after_in m e r).mode)
unfolding after_in action_in reading_row_of reading_table
tells_in mode.Norm event.Same r is h = refl
tells_in mode.Norm (event.Ndf v) r is h = refl
tells_in mode.Norm event.Up r is h = refl
tells_in mode.Norm event.Down r is h = refl
tells_in mode.Norm (event.New v) r is h = elim (cases_Bool (leb 3 (news_with r v))) [ inl e ↦ rw e refl | inr e ↦ rw (e, is) refl ]
tells_in mode.Norm event.Ais r is h = elim (cases_Bool (leb 3 (r.ais + 1))) [ inl e ↦ rw e refl | inr e ↦ rw (e, is) refl ]
tells_in mode.Norm event.Bad r is h = elim (cases_Bool (leb 8 (r.bad + 1))) [ inl e ↦ rw e refl | inr e ↦ rw (e, is) refl ]
tells_in mode.Ais event.Ais r is h = elim (cases_Bool (leb 1 (r.ais + 1))) [ inl e ↦ rw e refl | inr e ↦ rw (e, is) refl ]
tells_in mode.Ais (event.Ndf v) r is h = refl
tells_in mode.Ais (event.New v) r is h = elim (cases_Bool (leb 3 (news_with r v))) [ inl e ↦ rw e refl | inr e ↦ rw (e, is) refl ]
tells_in mode.Ais event.Bad r is h = elim (cases_Bool (leb 8 (r.bad + 1))) [ inl e ↦ rw e refl | inr e ↦ rw (e, is) refl ]
tells_in mode.Lop event.Ais r is h = elim (cases_Bool (leb 3 (r.ais + 1))) [ inl e ↦ rw e refl | inr e ↦ rw (e, is) refl ]
tells_in mode.Lop (event.New v) r is h = elim (cases_Bool (leb 3 (news_with r v))) [ inl e ↦ rw e refl | inr e ↦ rw (e, is) refl ]
tells_in mode.Lop (event.Ndf v) r is h = refl
tells_in mode.Lop event.Bad r is h = elim (cases_Bool (leb 1 (r.bad + 1))) [ inl e ↦ rw e refl | inr e ↦ rw (e, is) refl ]
tells_in mode.Ais event.Same r is h = absurd (cc)
tells_in mode.Ais event.Up r is h = absurd (cc)
tells_in mode.Ais event.Down r is h = absurd (cc)
tells_in mode.Lop event.Same r is h = absurd (cc)
tells_in mode.Lop event.Up r is h = absurd (cc)
tells_in mode.Lop event.Down r is h = absurd (cc)

pub answer_tells_mode : (r : Reading) (w : ℕ) → is_ais_action (action_on r w) ≡ not (is_norm (after_word r w).mode)
unfolding after_word action_on after_event action_on_event
answer_tells_mode r w = tells_in r.mode (event_of r w) r refl (comes r w)
