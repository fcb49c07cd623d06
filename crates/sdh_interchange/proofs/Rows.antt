-- A frame that is put together, from its bytes.
use Rattle.std.proofs.Common.{◌≡◌, ℕ, ◌+◌, ◌%◌, ◌<◌, List, [], ◌++◌, length, get_or, take, drop, ap, sym, ◌∙◌, arith, append-nil}
use Rattle.std.proofs.lemmas.List.{ext_get_or, take_all, drop_all}
use Rattle.sdh_ringmap.specs.declared.terms.Rate.{Rate}
use Rattle.sdh_frame.specs.Sizes.{size_of}
use Rattle.sdh_ringmap.specs.Rates.{n_of}
use Rattle.sdh_frame.specs.Aus.{with_aus, pointer_byte}
use Rattle.sdh_frame.proofs.AllAus.{length-with_aus}
use Rattle.sdh_interchange.specs.declared.choose.Source.{Source}
use Rattle.sdh_interchange.specs.Assembled.{assembled}
use Rattle.sdh_interchange.proofs.ByBytes.{ChosenAt}
use Rattle.sdh_interchange.proofs.Pointing.{assembled-byte}

-- AU-4s that were chosen, with their pointers
pub all-assembled : (rate : Rate) (sources : List Source) (first second : List ℕ) (own : List (List ℕ)) (ps : List (List ℕ))
    (old mid new : List ℕ) → length old ≡ size_of rate → length new ≡ size_of rate → length sources ≡ n_of rate
    → ChosenAt rate sources first second own old mid
    → ((i : ℕ) → i < size_of rate → get_or new i 0 ≡ pointer_byte (n_of rate) (i % n_of rate + 1) (get_or ps (i % n_of rate) []) i
    (get_or mid i 0))
    → new ≡ with_aus (n_of rate) 1 (assembled (n_of rate) first second own sources ps) old
all-assembled rate sources first second own ps old mid new whole long many chosen pointed =
    let aim = with_aus (n_of rate) 1 (assembled (n_of rate) first second own sources ps) old in
    ext_get_or 0 new aim (long ∙ sym (length-with_aus rate 1 (assembled (n_of rate) first second own sources ps) old whole)) (λ i lt.
    (let inside : i < size_of rate = omega (arith, long) in
    pointed i inside ∙ ap (pointer_byte (n_of rate) (i % n_of rate + 1) (get_or ps (i % n_of rate) []) i) (chosen i inside)
    ∙ sym (assembled-byte rate sources first second own ps old i whole inside many)))

-- the bytes of a frame that were borrowed, where the same number of bytes comes back
pub lent : (old new : List ℕ) → length new ≡ length old → take (length old) (new ++ drop (length new) old) ≡ new
lent old new same =
    let none : drop (length new) old ≡ [] = drop_all (length new) old (omega arith) in
    ap (λ l. take (length old) (new ++ l)) none ∙ ap (take (length old)) (append-nil new) ∙ take_all (length old) new (omega arith)
