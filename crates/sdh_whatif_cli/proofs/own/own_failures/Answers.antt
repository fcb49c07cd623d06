use Rattle.std.proofs.Common.{◌≡◌, ◌+◌, ◌≤◌, ◌∙◌, ◌∷◌, ◌++◌, [], ℕ, true, false, List, Some, All, codes, length, map, drop, sym, ap, subst, arith}
use Rattle.std.proofs.Common.{length-append}
use Rattle.std.specs.Prelude.{String, string_bytes, Vec}
use Rattle.std.specs.Str.{bytes_eq}
use Rattle.std.proofs.lemmas.List.Elements.{All-nil, All-cons, All-append, All-map}
use Rattle.std.specs.declared.alloc.Global.{Global}
use Rattle.std.proofs.lemmas.List.{at_drop_more, at_drop_all, length-map, map-append}
use Rattle.sdh_shell.specs.Calls.{words_of}
use Rattle.sdh_verdicts.specs.declared.failure.Failure.{Failure}
use Rattle.sdh_verdicts.specs.Failures.{IsFailureIn}
use Rattle.sdh_whatif_cli.specs.Words.{texts_behind, own_texts}
use Rattle.sdh_whatif_cli.specs.Own.{together, IsNone}
use Rattle.sdh_whatif_cli.proofs.Naming.{OwnSoFar, none_yet, more_own, unknown_at, why_unknown, all_known, all_made}
use Rattle.sdh_whatif_cli.proofs.own.own_failures.Goals as goal
use Rattle.sdh_whatif_cli.proofs.own.own_failures.Goals.{then-behind+in-Ok+in_ok-push-in-Ok, else-behind}

-- before the first word there is no failure of the user's own
pub loop-word-init : goal.loop-word-init
loop-word-init c = record {
  made = subst (λ (l : List (Vec Failure Global)). OwnSoFar c.args.map.now (own_texts (words_of c.args.words.now))
      (own_texts (words_of c.args.words.now)) (map (λ list. list.items) l)) (sym c.new-lists.ensures.items)
      (none_yet c.args.map.now (own_texts (words_of c.args.words.now)));
  few = omega (arith, ap (λ (l : List (Vec Failure Global)). length l) c.new-lists.ensures.items);
  short = subst (All (λ (l : Vec Failure Global). length l.items ≤ 16)) (sym c.new-lists.ensures.items) (All-nil _);
  within = subst (All (λ (l : Vec Failure Global). All (IsFailureIn (length c.args.map.now)) l.items)) (sym c.new-lists.ensures.items)
      (All-nil _);
}

-- the text after `own` has no failures
pub returns-in-Err-clause-unknown : goal.returns-in-Err-clause-unknown
returns-in-Err-clause-unknown c =
    let words = c.args.words.now in
    let nodes = c.args.map.now in
    let i = c.loop-word.word-index in
    let lists = map (λ list. list.items) c.loop-word.lists.items in
    let text = string_bytes c.word-item.result in
    let more = texts_behind false (words_of (drop (i + 1) words)) in
    let is : texts_behind c.loop-word.behind (words_of (drop i words)) ≡ text ∷ more =
    ap (λ b. texts_behind b (words_of (drop i words))) c.if-behind.true
    ∙ at_drop_more (λ l. texts_behind true (words_of l)) words i _ c.loop-word-test.true
    ∙ ap (λ (w : String Global). string_bytes w ∷ more) (sym c.word-item.is) in
    let place : c.len.result + 1 ≡ length lists + 1 =
    omega (arith, c.loop-word.lists.ok.0, c.len.ensures, length-map c.loop-word.lists.items (λ list. list.items)) in
    why_unknown (length lists + 1) _ (together nodes text) c.in-Err.why
    (subst (λ k. IsNone k (together nodes text) c.in-Err.why) place
    (subst (λ (t : List ℕ). IsNone (c.len.result + 1) (together nodes t) c.in-Err.why) c.as_bytes.ensures.value c.in-Err.ensures.unknown))
    (unknown_at nodes (own_texts (words_of words)) text _ more lists c.loop-word.invariant.made is)

-- one text more; or a word that is no text: the next word is a text where this word is `own`
pub loop-word-preserved : goal.loop-word-preserved
loop-word-preserved c =
    let words = c.args.words.now in
    let nodes = c.args.map.now in
    let i = c.loop-word.word-index in
    let items = λ (list : Vec Failure Global). list.items in
    let lists = map items c.loop-word.lists.items in
    let all = own_texts (words_of words) in
    elim c.if-behind.branch [
      | then-behind+in-Ok+in_ok-push-in-Ok w ↦
          (let list = w.in-Ok.list in
          let text = string_bytes c.word-item.result in
          let more = texts_behind false (words_of (drop (i + 1) words)) in
          let is : texts_behind c.loop-word.behind (words_of (drop i words)) ≡ text ∷ more =
          ap (λ b. texts_behind b (words_of (drop i words))) w.if-behind.true
          ∙ at_drop_more (λ l. texts_behind true (words_of l)) words i _ c.loop-word-test.true
          ∙ ap (λ (word : String Global). string_bytes word ∷ more) (sym c.word-item.is) in
          let named : together nodes text ≡ Some list.items = ap (together nodes) (sym w.as_bytes.ensures.value) ∙ sym w.in-Ok.ensures.is in
          let size : length lists ≡ length c.loop-word.lists.items = length-map c.loop-word.lists.items items in
          let low : length lists + 1 ≤ 16 = omega (arith, size, c.loop-word.lists.ok.0, w.len.ensures, w.in-Ok.ensures.place) in
          let grown : c.if-behind.lists.items ≡ c.loop-word.lists.items ++ list ∷ [] =
          ap (λ (v : Vec (Vec Failure Global) Global). v.items) w.lists-is ∙ w.in_ok-push-in-Ok.ensures.items in
          let made : OwnSoFar nodes all (texts_behind false (words_of (drop (i + 1) words))) (map items c.if-behind.lists.items) =
          subst (λ ls. OwnSoFar nodes all more ls)
          (sym (ap (map items) grown ∙ map-append items c.loop-word.lists.items (list ∷ [])))
          (more_own nodes all text _ more list.items lists c.loop-word.invariant.made is named low) in
          record {
            made = subst (λ b. OwnSoFar nodes all (texts_behind b (words_of (drop (i + 1) words))) (map items c.if-behind.lists.items))
                (sym w.behind-is) made;
            few = omega (
              arith,
              ap (λ (l : List (Vec Failure Global)). length l) grown,
              length-append c.loop-word.lists.items (list ∷ []),
              size,
              low,
            );
            short = subst (All (λ (l : Vec Failure Global). length l.items ≤ 16)) (sym grown)
                (All-append (λ (l : Vec Failure Global). length l.items ≤ 16) c.loop-word.lists.items (list ∷ []) c.loop-word.invariant.short
                (All-cons (λ (l : Vec Failure Global). length l.items ≤ 16) list [] w.in-Ok.ensures.short (All-nil _)));
            within = subst (All (λ (l : Vec Failure Global). All (IsFailureIn (length nodes)) l.items)) (sym grown)
                (All-append (λ (l : Vec Failure Global). All (IsFailureIn (length nodes)) l.items) c.loop-word.lists.items (list ∷ []) c.loop-word.invariant.within
                (All-cons (λ (l : Vec Failure Global). All (IsFailureIn (length nodes)) l.items) list [] w.in-Ok.ensures.within (All-nil _)));
          })
      | else-behind w ↦
          (let rest : texts_behind c.loop-word.behind (words_of (drop i words)) ≡ texts_behind c.if-behind.behind (words_of (drop (i + 1) words)) =
          ap (λ b. texts_behind b (words_of (drop i words))) w.if-behind.false
          ∙ at_drop_more (λ l. texts_behind false (words_of l)) words i _ c.loop-word-test.true
          ∙ ap (λ (word : String Global). texts_behind (bytes_eq (string_bytes word) (codes "own")) (words_of (drop (i + 1) words)))
          (sym c.word-item.is)
          ∙ ap (λ b. texts_behind b (words_of (drop (i + 1) words))) (sym (w.behind-is ∙ w.eq-behind.ensures ∙ ap (λ t. bytes_eq t (codes "own")) w.as_str.ensures.value)) in
          let same : c.if-behind.lists.items ≡ c.loop-word.lists.items = ap (λ (v : Vec (Vec Failure Global) Global). v.items) w.lists-is in
          record {
            made = subst (λ (l : List (Vec Failure Global)). OwnSoFar nodes all (texts_behind c.if-behind.behind (words_of (drop (i + 1) words))) (map items l)) (sym same)
                (subst (λ ts. OwnSoFar nodes all ts lists) rest c.loop-word.invariant.made);
            few = omega (arith, ap (λ (l : List (Vec Failure Global)). length l) same, c.loop-word.invariant.few);
            short = subst (All (λ (l : Vec Failure Global). length l.items ≤ 16)) (sym same) c.loop-word.invariant.short;
            within = subst (All (λ (l : Vec Failure Global). All (IsFailureIn (length nodes)) l.items)) (sym same) c.loop-word.invariant.within;
          })
    ]

-- the user's own failures are few, and failures of the ring
pub returns-clause-own : goal.returns-clause-own
returns-clause-own c =
    let items = λ (list : Vec Failure Global). list.items in
    let few : length (map items c.loop-word.lists.items) ≤ 16 =
    omega (arith, length-map c.loop-word.lists.items items, c.loop-word.invariant.few) in
    record {
      few = few;
      short = All-map (λ (l : List Failure). length l ≤ 16) items c.loop-word.lists.items c.loop-word.invariant.short;
      within = All-map (All (IsFailureIn (length c.args.map.now))) items c.loop-word.lists.items c.loop-word.invariant.within;
    }

-- no texts are left at the end
pub returns-clause-known : goal.returns-clause-known
returns-clause-known c =
    let words = c.args.words.now in
    all_known c.args.map.now (own_texts (words_of words)) _ _ c.loop-word.invariant.made
    (at_drop_all (λ l. texts_behind c.loop-word.behind (words_of l)) words c.loop-word.word-index (omega (arith, c.loop-word-test.false)))

pub returns-clause-are : goal.returns-clause-are
returns-clause-are c =
    let words = c.args.words.now in
    all_made c.args.map.now (own_texts (words_of words)) _ _ c.loop-word.invariant.made
    (at_drop_all (λ l. texts_behind c.loop-word.behind (words_of l)) words c.loop-word.word-index (omega (arith, c.loop-word-test.false)))
