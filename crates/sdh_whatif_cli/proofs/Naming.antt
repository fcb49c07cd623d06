-- What texts of the user's own failures name.
use Rattle.std.proofs.Common.{◌≡◌, ℕ, suc, ◌+◌, ◌-◌, ◌*◌, ◌<◌, ◌≤◌, Bool, true, false, ◌||◌, nat_lt, cond, List, [], ◌∷◌, ◌++◌, length}
use Rattle.std.proofs.Common.{map, take, drop, get_or, position, Option, Some, None, is_none, unwrap_or, option_map, inl, inr, refl, sym, ap, ◌∙◌}
use Rattle.std.proofs.Common.{arith, append_assoc, length-append, lt-ltb, ltb-false}
use Rattle.std.specs.Prelude.{slice_get, if◌then◌else◌}
use Rattle.std.specs.Option.{option_and_then, option_map_or}
use Rattle.std.specs.List.{position_or_len, slice_split}
use Rattle.std.specs.Str.{bytes_eq}
use Rattle.std.proofs.lemmas.Bool.{cases_eq, ltb-true, false_from_ne_true}
use Rattle.std.proofs.lemmas.List.{append-nil, take_rest}
use Rattle.std.proofs.lemmas.List.Splits.{slice_split_first, slice_split_none}
use Rattle.std.proofs.lemmas.List.Sums.{fails_before_first}
use Rattle.std.proofs.lemmas.Option.{slice_get-get_or, cond_some}
use Rattle.sdh_basics.proofs.CellsLaws.{length-cells, get_or-cells}
use Rattle.sdh_plan.proofs.Slipping.{first_at, none_at}
use Rattle.sdh_verdicts.specs.declared.failure.Failure.{Failure}
use Rattle.sdh_verdicts.specs.Failures.{failure_at}
use Rattle.sdh_whatif_cli.specs.Lines.{failure_text}
use Rattle.sdh_whatif_cli.specs.Own.{unspaced, is_semicolon, names_in, ring_failures, failure_named, all_there, together, own_failures}
use Rattle.sdh_whatif_cli.specs.Own.{unknown_from, IsNone, IsUnknown}
use Rattle.sdh_whatif_cli.specs.declared.own.OwnError.{OwnError}
use Rattle.sdh_whatif_cli.specs.declared.own.OwnError.TheVariants as error

-- ---- the failure with a name

module _ (nodes name : List ℕ) where
  abbrev n : ℕ
  n = length nodes

  abbrev is_it : Failure → Bool
  is_it failure = bytes_eq (failure_text nodes failure) name

  -- none of the first failures of the ring has the name
  abbrev pub Others : ℕ → Type 0
  Others i = (k : ℕ) (d : Failure) → k < i → is_it (get_or (ring_failures n) k d) ≡ false

  pub named_here : (i : ℕ) → i < 10 * n → is_it (failure_at n i) ≡ true → Others i → failure_named nodes name ≡ Some (failure_at n i)
  unfolding failure_named
  named_here i low e others =
      let one = failure_at n i in
      let long : i < length (ring_failures n) = omega (arith, length-cells (failure_at n) (10 * n), low) in
      let there : get_or (ring_failures n) i one ≡ one = get_or-cells (failure_at n) (10 * n) i one low in
      ap (option_and_then (slice_get (ring_failures n)))
      (first_at is_it (ring_failures n) i one long (λ k less. others k one less) (ap is_it there ∙ e))
      ∙ slice_get-get_or (ring_failures n) i one long ∙ ap (λ x. Some x) there

  pub named_later : (i : ℕ) → i < 10 * n → is_it (failure_at n i) ≡ false → Others i → Others (i + 1)
  named_later i low e others k d less = elim (cases_eq k i) [
    | inl same ↦ ap (λ j. is_it (get_or (ring_failures n) j d)) same ∙ ap is_it (get_or-cells (failure_at n) (10 * n) i d low) ∙ e
    | inr other ↦ others k d (omega (arith, less, other))
  ]

  pub named_none : Others (10 * n) → failure_named nodes name ≡ None
  unfolding failure_named
  named_none others =
      ap (option_and_then (slice_get (ring_failures n)))
      (none_at is_it (ring_failures n) (λ k d less. others k d (omega (arith, length-cells (failure_at n) (10 * n), less))))

-- ---- a text cut at its first semicolon

missing : (b : Bool) (k : ℕ) → cond b (Some k) None ≡ None → b ≡ false
missing true k e = cc
missing false k e = refl

pub cut_at : (text : List ℕ) (i : ℕ) → position is_semicolon text ≡ Some i
    → slice_split is_semicolon text ≡ take i text ∷ slice_split is_semicolon (take (length text - (i + 1)) (drop (i + 1) text))
cut_at text i e =
    let parts : (nat_lt (position_or_len is_semicolon text) (length text) ≡ true) × (position_or_len is_semicolon text ≡ i) = cond_some _ _ _ e in
    let within : position_or_len is_semicolon text < length text = ltb-true _ _ parts.0 in
    slice_split_first is_semicolon text 0 within
    ∙ ap (λ k. take k text ∷ slice_split is_semicolon (drop (k + 1) text)) parts.1
    ∙ ap (λ l. take i text ∷ slice_split is_semicolon l) (sym (take_rest text (i + 1)))

pub cut_none : (text : List ℕ) → position is_semicolon text ≡ None → slice_split is_semicolon text ≡ text ∷ []
cut_none text e =
    slice_split_none is_semicolon text
    (λ k d less. fails_before_first is_semicolon text k d (omega (arith, less, ltb-false _ _ (missing _ _ e))))

-- ---- the failures of a text

behind_both : (xs ys : List Failure) (o : Option (List Failure))
    → option_map (λ more. xs ++ more) (option_map (λ more. ys ++ more) o) ≡ option_map (λ more. (xs ++ ys) ++ more) o
behind_both xs ys None = refl
behind_both xs ys (Some more) = ap (λ (l : List Failure). Some l) (sym (append_assoc xs ys more))

same_none : (b : Bool) → ◌≡◌ {A = Option (List Failure)} (if b then None else None) None
same_none true = refl
same_none false = refl

module _ {X : Type 0} (f : X → List ℕ) (nodes : List ℕ) where
  abbrev each : List ℕ → List (Option Failure)
  each text = map (failure_named nodes) (names_in text)

  -- what the names of what is left stand for
  abbrev pub left : Option X → List (Option Failure)
  left rest = option_map_or (λ x. each (f x)) rest []

  pub cut_left : (x : X) (name : List ℕ) (rest : Option X)
      → slice_split is_semicolon (f x) ≡ name ∷ option_map_or (λ r. slice_split is_semicolon (f r)) rest []
      → left (Some x) ≡ failure_named nodes (unspaced name) ∷ left rest
  cut_left x name None e = ap (λ (ns : List (List ℕ)). map (failure_named nodes) (map unspaced ns)) e
  cut_left x name (Some r) e = ap (λ (ns : List (List ℕ)). map (failure_named nodes) (map unspaced ns)) e

  -- these failures are those that the names so far stand for; the other names are left
  pub record Together (text : List ℕ) (list : List Failure) (rest : Option X) : Type 0 where
    pub all : all_there (each text) ≡ option_map (λ more. list ++ more) (all_there (left rest))
    pub count : length (each text) ≡ length list + length (left rest)

  long : (text : List ℕ) → length (names_in text) ≡ length (each text)
  long text = count_same (names_in text)
    where
      count_same : (names : List (List ℕ)) → length names ≡ length (map (failure_named nodes) names)
      count_same [] = refl
      count_same (name ∷ more) = ap (λ k. suc k) (count_same more)

  pub begun : (x : X) (text : List ℕ) → text ≡ f x → Together text [] (Some x)
  begun x text is = record {
    all = ap (λ t. all_there (each t)) is ∙ none_before (all_there (each (f x)));
    count = omega (arith, ap (λ t. length (each t)) is);
  }
    where
      none_before : (o : Option (List Failure)) → o ≡ option_map (λ more. [] ++ more) o
      none_before None = refl
      none_before (Some more) = refl

  pub more_named : (text : List ℕ) (list : List Failure) (now rest : Option X) (failure : Failure) → Together text list now
      → left now ≡ Some failure ∷ left rest → Together text (list ++ failure ∷ []) rest
  more_named text list now rest failure before is =
      record {
        all = before.all ∙ ap (λ l. option_map (λ more. list ++ more) (all_there l)) is
            ∙ behind_both list (failure ∷ []) (all_there (left rest));
        count = omega (arith, before.count, ap (λ (l : List (Option Failure)). length l) is, length-append list (failure ∷ []));
      }

  pub unnamed : (text : List ℕ) (list : List Failure) (now rest : Option X) → Together text list now → left now ≡ None ∷ left rest
      → together nodes text ≡ None
  unfolding together
  unnamed text list now rest before is =
      ap (λ o. if nat_lt 16 (length (names_in text)) then None else o)
      (before.all ∙ ap (λ l. option_map (λ more. list ++ more) (all_there l)) is)
      ∙ same_none (nat_lt 16 (length (names_in text)))

  pub too_many : (text : List ℕ) (list : List Failure) (now rest : Option X) (one : Option Failure) → Together text list now
      → left now ≡ one ∷ left rest → length list ≡ 16 → together nodes text ≡ None
  unfolding together
  too_many text list now rest one before is full =
      let more : 16 < length (names_in text) =
      omega (arith, long text, before.count, ap (λ (l : List (Option Failure)). length l) is, full) in
      ap (λ b. if b then None else all_there (each text)) (lt-ltb 16 (length (names_in text)) more)

  pub all_named : (text : List ℕ) (list : List Failure) → Together text list None → length list ≤ 16 → together nodes text ≡ Some list
  unfolding together
  all_named text list before few =
      let low : (16 < length (names_in text)) → ⊥ = λ h. omega (arith, h, long text, before.count, few) in
      ap (λ b. if b then None else all_there (each text))
      (false_from_ne_true (nat_lt 16 (length (names_in text))) (λ e. low (ltb-true 16 (length (names_in text)) e)))
      ∙ before.all ∙ ap (λ (l : List Failure). Some l) (append-nil list)

-- ---- text by text

-- why one text has no failures, and so why there are none for all texts
pub why_unknown : (place : ℕ) (o : Option ℕ) (found : Option (List Failure)) (why : OwnError) → IsNone place found why
    → ((nat_lt 16 place || is_none found) ≡ true → o ≡ Some place) → IsUnknown o why
why_unknown place o found error.Memory none h = tt
why_unknown place o found (error.Unknown at) none h = h none.1 ∙ ap (λ k. Some k) (sym none.0)

module _ (nodes : List ℕ) (all : List (List ℕ)) where
  -- these lists are those of the texts so far, and each of these texts names some; the other texts are left
  pub record OwnSoFar (rest : List (List ℕ)) (lists : List (List Failure)) : Type 0 where
    pub known : unknown_from nodes 1 all ≡ unknown_from nodes (length lists + 1) rest
    pub made : own_failures nodes all ≡ lists ++ own_failures nodes rest

  pub none_yet : OwnSoFar all []
  none_yet = record { known = refl; made = refl }

  pub more_own : (text : List ℕ) (rest more : List (List ℕ)) (list : List Failure) (lists : List (List Failure)) → OwnSoFar rest lists
      → rest ≡ text ∷ more → together nodes text ≡ Some list → length lists + 1 ≤ 16 → OwnSoFar more (lists ++ list ∷ [])
  more_own text rest more list lists before is named few =
      let place = length lists + 1 in
      let next : place + 1 ≡ length (lists ++ list ∷ []) + 1 = omega (arith, length-append lists (list ∷ [])) in
      let low : nat_lt 16 place ≡ false = false_from_ne_true (nat_lt 16 place) (λ e. omega (arith, ltb-true 16 place e, few)) in
      record {
        known = before.known ∙ ap (unknown_from nodes place) is
            ∙ ap (λ b. if b || is_none (together nodes text) then Some place else unknown_from nodes (place + 1) more) low
            ∙ ap (λ o. if false || is_none o then Some place else unknown_from nodes (place + 1) more) named
            ∙ ap (λ p. unknown_from nodes p more) next;
        made = before.made ∙ ap (λ ts. lists ++ own_failures nodes ts) is
            ∙ ap (λ o. lists ++ (unwrap_or o [] ∷ own_failures nodes more)) named
            ∙ sym (append_assoc lists (list ∷ []) (own_failures nodes more));
      }

  pub unknown_at : (text : List ℕ) (rest more : List (List ℕ)) (lists : List (List Failure)) → OwnSoFar rest lists → rest ≡ text ∷ more
      → (nat_lt 16 (length lists + 1) || is_none (together nodes text)) ≡ true → unknown_from nodes 1 all ≡ Some (length lists + 1)
  unknown_at text rest more lists before is fails =
      let place = length lists + 1 in
      before.known ∙ ap (unknown_from nodes place) is
      ∙ ap (λ b. if b then Some place else unknown_from nodes (place + 1) more) fails

  pub all_known : (rest : List (List ℕ)) (lists : List (List Failure)) → OwnSoFar rest lists → rest ≡ [] → unknown_from nodes 1 all ≡ None
  all_known rest lists before is = before.known ∙ ap (unknown_from nodes (length lists + 1)) is

  pub all_made : (rest : List (List ℕ)) (lists : List (List Failure)) → OwnSoFar rest lists → rest ≡ [] → lists ≡ own_failures nodes all
  all_made rest lists before is =
      sym (before.made ∙ ap (λ ts. lists ++ own_failures nodes ts) is ∙ append-nil lists)
