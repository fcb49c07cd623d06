-- Runs of bytes out of the chunks that are kept.
use Rattle.std.proofs.Common.{◌≡◌, ℕ, ◌+◌, ◌-◌, ◌<◌, ◌≤◌, List, [], ◌∷◌, ◌++◌, length, take, drop, get_or, refl, ap, sym, ◌∙◌, inl, inr}
use Rattle.std.proofs.Common.{arith}
use Rattle.std.specs.List.{flat_map}
use Rattle.std.proofs.lemmas.List.{append-nil, append_assoc, drop-append-le, drop_more, length-append, length-drop, take_all}
use Rattle.std.proofs.Math.Seq.{drop-append-add}
use Rattle.std.proofs.Math.ListN.{drop_of_length-le}
use Rattle.std.proofs.lemmas.List.Concat.{flat_map-cons}
use Rattle.std.proofs.lemmas.Grind.{flat_map-append}
use Rattle.sdh_elastic.specs.Kept.{IsKept}
use Rattle.sdh_elastic.proofs.Lists.{run_of_both}

abbrev pub joined : List (List ℕ) → List ℕ
joined chunks = flat_map (λ c. c) chunks

-- a chunk gives its part of a run
pub next_run : (chunks : List (List ℕ)) (i skip left : ℕ) (out b : List ℕ) → i < length chunks → b ≡ get_or chunks i []
    → (out ++ take left (drop skip b)) ++ take (left - (length b - skip)) (drop (skip - length b) (joined (drop (i + 1) chunks)))
    ≡ out ++ take left (drop skip (joined (drop i chunks)))
next_run chunks i skip left out b within is =
    let rest = joined (drop (i + 1) chunks) in
    let here : b ++ rest ≡ joined (drop i chunks) =
    sym (flat_map-cons (λ c. c) b (drop (i + 1) chunks)) ∙ ap (λ (h : List ℕ). joined (h ∷ drop (i + 1) chunks)) is
    ∙ ap joined (sym (drop_more chunks i [] within)) in
    append_assoc out (take left (drop skip b)) (take (left - (length b - skip)) (drop (skip - length b) rest))
    ∙ ap (λ l. out ++ l) (sym (run_of_both skip left b rest)) ∙ ap (λ l. out ++ take left (drop skip l)) here

none_taken : (left skip : ℕ) (l : List ℕ) → l ≡ [] → take left (drop skip l) ≡ []
none_taken left skip l none =
    let z : length l ≡ 0 = ap length none in
    take_all left (drop skip l) (omega (arith, z, length-drop skip l)) ∙ drop_of_length-le l (omega (arith, z))

-- nothing is left of no chunks
pub no_more : (chunks : List (List ℕ)) (i skip left : ℕ) (out : List ℕ) → length chunks ≤ i
    → out ++ take left (drop skip (joined (drop i chunks))) ≡ out
no_more chunks i skip left out past =
    ap (λ l. out ++ l) (none_taken left skip (joined (drop i chunks)) (ap joined (drop_of_length-le chunks past))) ∙ append-nil out

-- a chunk after the others, in the room of the oldest one
pub behind : (a : List ℕ) (cs : List (List ℕ)) (x : List ℕ) (g : ℕ) → length a ≤ g → g ≤ length (joined (a ∷ cs))
    → drop (g - length a) (joined (cs ++ x ∷ [])) ≡ drop g (joined (a ∷ cs)) ++ x
behind a cs x g some there =
    let k = g - length a in
    let s : length a + k ≡ g = omega arith in
    let long : length (joined (a ∷ cs)) ≡ length a + length (joined cs) =
    ap length (flat_map-cons (λ c. c) a cs) ∙ length-append a (joined cs) in
    let both : joined (cs ++ x ∷ []) ≡ joined cs ++ x =
    flat_map-append (λ c. c) cs (x ∷ []) ∙ ap (λ l. joined cs ++ l) (flat_map-cons (λ c. c) x [] ∙ append-nil x) in
    let old : drop g (joined (a ∷ cs)) ≡ drop k (joined cs) =
    ap (drop g) (flat_map-cons (λ c. c) a cs) ∙ ap (λ (n : ℕ). drop n (a ++ joined cs)) (sym s) ∙ drop-append-add a (joined cs) k in
    ap (drop k) both ∙ drop-append-le k (joined cs) x (omega (arith, long)) ∙ ap (λ l. l ++ x) (sym old)

-- ---- the three chunks that are kept

three : (a b c : List ℕ) → length (joined (a ∷ b ∷ c ∷ [])) ≡ length a + (length b + length c)
three a b c =
    length-append a (b ++ (c ++ [])) ∙ ap (λ (n : ℕ). length a + n)
    (length-append b (c ++ []) ∙ ap (λ l. length b + length l) (append-nil c))

pub record Kept (chunks : List (List ℕ)) (given : ℕ) : Type 0 where
  pub three : length chunks ≡ 3
  pub oldest : length (get_or chunks 0 []) ≤ given
  pub there : given ≤ length (joined chunks)
  pub few : given ≤ length (get_or chunks 0 []) + 4704

pub kept : (chunks : List (List ℕ)) (given : ℕ) → IsKept chunks given → Kept chunks given
kept [] given k = absurd k
kept (a ∷ []) given k = absurd k
kept (a ∷ b ∷ []) given k = absurd k
kept (a ∷ b ∷ c ∷ []) given k = record {
  three = refl;
  oldest = k.oldest;
  there = omega (arith, three a b c, k.there);
  few = omega (arith, k.there, k.few.0, k.few.1);
}
kept (a ∷ b ∷ c ∷ d ∷ more) given k = absurd k

-- the bytes held once a chunk was taken in: those held before, and then the chunk
pub renewed : (chunks : List (List ℕ)) (given : ℕ) (x : List ℕ) → IsKept chunks given
    → drop (given - length (get_or chunks 0 [])) (joined (drop 1 chunks ++ x ∷ [])) ≡ drop given (joined chunks) ++ x
renewed [] given x k = absurd k
renewed (a ∷ []) given x k = absurd k
renewed (a ∷ b ∷ []) given x k = absurd k
renewed (a ∷ b ∷ c ∷ []) given x k = behind a (b ∷ c ∷ []) x given k.oldest (kept (a ∷ b ∷ c ∷ []) given k).there
renewed (a ∷ b ∷ c ∷ d ∷ more) given x k = absurd k

-- the number of bytes held once a chunk was taken in and `count` bytes were given
pub long_after : (chunks : List (List ℕ)) (given : ℕ) (x : List ℕ) (len count : ℕ) → IsKept chunks given
    → len ≡ length (joined chunks) - given
    → len + length x - count ≡ length (joined (drop 1 chunks ++ x ∷ [])) - (given - length (get_or chunks 0 []) + count)
long_after chunks given x len count k is =
    let skip = given - length (get_or chunks 0 []) in
    let new = joined (drop 1 chunks ++ x ∷ []) in
    let both : length new - skip ≡ length (joined chunks) - given + length x =
    sym (length-drop skip new) ∙ ap length (renewed chunks given x k) ∙ length-append (drop given (joined chunks)) x
    ∙ ap (λ (n : ℕ). n + length x) (length-drop given (joined chunks)) in
    omega (arith, both, is)

-- the chunks that are kept once `count` more bytes are given
pub kept_after : (chunks : List (List ℕ)) (given : ℕ) (x : List ℕ) (count : ℕ) → IsKept chunks given → 2346 ≤ length x → length x ≤ 2352
    → count ≤ length (drop given (joined chunks)) + length x → length (drop given (joined chunks)) + length x ≤ count + 2358
    → IsKept (drop 1 chunks ++ x ∷ []) (given - length (get_or chunks 0 []) + count)
kept_after [] given x count k least most there bound = absurd k
kept_after (a ∷ []) given x count k least most there bound = absurd k
kept_after (a ∷ b ∷ []) given x count k least most there bound = absurd k
kept_after (a ∷ b ∷ c ∷ []) given x count k least most there bound =
    let held : length (drop given (joined (a ∷ b ∷ c ∷ []))) ≡ length a + (length b + length c) - given =
    length-drop given (joined (a ∷ b ∷ c ∷ [])) ∙ ap (λ (n : ℕ). n - given) (three a b c) in
    record {
      oldest = elim k.whole [
        | inl none ↦ omega (arith, none)
        | inr full ↦ omega (arith, held, full, k.oldest, k.there)
      ];
      there = omega (arith, held, k.oldest, k.there);
      few = (k.few.1, most);
      whole = inr least;
    }
kept_after (a ∷ b ∷ c ∷ d ∷ more) given x count k least most there bound = absurd k
