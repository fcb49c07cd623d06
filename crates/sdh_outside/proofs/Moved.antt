-- What two calls in a row took from a source, or appended to a sink.
use Rattle.std.proofs.Common.{◌≡◌, ℕ, ◌+◌, ◌-◌, ◌≤◌, List, ◌++◌, Option, length, take, take_all, take-append-drop, length-drop, drop, sym}
use Rattle.std.proofs.Common.{ap, ◌∙◌, subst, arith, drop_at, length-take-le, le_refl}
use Rattle.std.proofs.lemmas.Slice.{take-put_mid_below}
use Rattle.std.specs.Io.KnownBytes.{Consumes, Appends}
use Rattle.std.proofs.KnownBytes.{Consumes-trans, Appends-trans}
use Rattle.std.proofs.Math.Seq.{take-add, take-append-le, drop-drop}
use borrow.Rule.Slice.PartMut.{put_mid, post_of}

-- a further piece of the text, after its first n bytes
pub Appends-more : (a b c : Option (List ℕ)) (text : List ℕ) (n k : ℕ) → Appends a b (take n text)
    → Appends b c (take k (take (length text - n) (drop n text))) → Appends a c (take (n + k) text)
Appends-more a b c text n k first second =
    let rest : take (length text - n) (drop n text) ≡ drop n text = take_all _ _ (omega (arith, length-drop {A = ℕ})) in
    subst (Appends a c) (ap (λ l. take n text ++ take k l) rest ∙ sym (take-add n k text)) (Appends-trans a b c _ _ first second)

drop-put_mid : (at k n : ℕ) (buf part : List ℕ) → at ≤ length buf → n ≤ length part → take n (drop at (put_mid at k buf part)) ≡ take n part
drop-put_mid at k n buf part within fits =
    ap (take n) (drop_at (take at buf) (part ++ post_of at k buf) at (length-take-le at buf within))
    ∙ take-append-le n part (post_of at k buf) fits

-- a further piece in the buffer, after its first `at` bytes
pub Consumes-more : (a b c : Option (List ℕ)) (buf part : List ℕ) (at k n : ℕ) → at ≤ length buf → n ≤ length part
    → Consumes a b (take at buf) → Consumes b c (take n part) → Consumes a c (take (at + n) (put_mid at k buf part))
Consumes-more a b c buf part at k n within fits first second =
    let joined : take (at + n) (put_mid at k buf part) ≡ take at buf ++ take n part =
    take-add at n (put_mid at k buf part) ∙ ap (λ l. l ++ take n (drop at (put_mid at k buf part)))
    (take-put_mid_below _ _ _ _ _ (le_refl at) within) ∙ ap (λ l. take at buf ++ l) (drop-put_mid at k n buf part within fits) in
    subst (Consumes a c) (sym joined) (Consumes-trans a b c _ _ first second)

-- the bytes left before a call are the piece that it gave and the bytes left after it
pub left-split : (bytes to : List ℕ) (at n : ℕ) → take n to ≡ take n (take (length bytes - at) (drop at bytes))
    → drop at bytes ≡ take n to ++ drop (at + n) bytes
left-split bytes to at n copied =
    let rest : take (length bytes - at) (drop at bytes) ≡ drop at bytes = take_all _ _ (omega (arith, length-drop {A = ℕ})) in
    sym (take-append-drop n (drop at bytes)) ∙ ap (λ l. l ++ drop n (drop at bytes)) (ap (take n) (sym rest) ∙ sym copied)
    ∙ ap (λ l. take n to ++ l) (drop-drop n at bytes)
