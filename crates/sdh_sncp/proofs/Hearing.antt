-- A port takes an AU-4 exactly where its interpreter's mode is Norm.
use Rattle.std.proofs.Common.{◌≡◌, ℕ, ◌+◌, ◌-◌, ◌<◌, List, length, get_or, ap, sym, ◌∙◌, subst, arith}
use Rattle.std.specs.Prelude.{not}
use Rattle.std.proofs.Math.Bool.{not-not}
use Rattle.sdh_ringmap.specs.Rates.{n_of}
use Rattle.sdh_pointer.specs.declared.reading.Reading.{Reading}
use Rattle.sdh_pointer.specs.declared.reading.Action.TheVariants as action
use Rattle.sdh_pointer.specs.Reading.{start, is_norm, after_word}
use Rattle.sdh_pointer.specs.Laws.{is_ais_action}
use Rattle.sdh_pointer.proofs.Bounds.{answer_tells_mode}
use Rattle.sdh_terminal.specs.Receiving.{pointer_word_at, after_frame, actions_in, readings_by, actions_by, found, taken_in, after_taking}
use Rattle.sdh_spans.proofs.Reading.{action_there, reading_there}
use Rattle.sdh_sncp.specs.Laws.{ComesIsNorm}

-- an AU-4 comes with a pointer exactly where its interpreter's mode is Norm after the frame
norm_there : (n : ℕ) (bytes : List ℕ) (rs : List Reading) (k : ℕ) → k < length rs
    → not (is_ais_action (get_or (actions_in n bytes rs) k action.Ais)) ≡ is_norm (get_or (after_frame n bytes rs) k start).mode
norm_there n bytes rs k few =
    let here : Reading = get_or rs k start in
    let word : ℕ = pointer_word_at n bytes (k + 1) in
    ap (λ a. not (is_ais_action a)) (action_there n bytes rs k few) ∙ ap not (answer_tells_mode here word)
    ∙ not-not (is_norm (after_word here word).mode)
    ∙ sym (ap (λ (r : Reading). is_norm r.mode) (reading_there n bytes rs k few))

pub comes_is_norm : ComesIsNorm
unfolding taken_in after_taking
comes_is_norm threshold i m inlet told low high =
    subst (λ b. not (is_ais_action (get_or (actions_by b (n_of i.section.rate) (found threshold i).bytes i.readings) (m - 1) action.Ais))
    ≡ is_norm (get_or (readings_by b (n_of i.section.rate) (found threshold i).bytes i.readings) (m - 1) start).mode)
    (sym told) (norm_there (n_of i.section.rate) (found threshold i).bytes i.readings (m - 1) (let e = inlet in omega arith))
