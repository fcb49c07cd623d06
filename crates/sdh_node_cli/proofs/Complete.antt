-- Where the stream has a plan with the node, and records that it can do, all is done.
use Rattle.std.proofs.Common.{◌≡◌, ◌≢◌, ℕ, ◌<◌, ◌≤◌, List, [], ◌∷◌, ◌++◌, length, drop, get_or, codes, refl, ap, sym, subst, ◌∙◌, arith, inl, inr}
use Rattle.std.proofs.Common.{append_assoc, append-nil}
use Rattle.std.specs.Prelude.{Option, Some, None}
use Rattle.std.specs.Io.KnownBytes.{Consumes, IsAtEnd}
use Rattle.std.proofs.lemmas.Bool.{cases_lt}
use Rattle.std.proofs.lemmas.List.{length-append, get_or_append_left}
use Rattle.std.proofs.lemmas.List.Elements.{All-get_or}
use Rattle.std.proofs.Math.Seq.{get_or-append_seam}
use Rattle.sdh_ringmap.specs.Places.{found_at}
use Rattle.sdh_plan.specs.Planned.{Planned}
use Rattle.sdh_status.specs.declared.Status.{Status}
use Rattle.sdh_status.specs.declared.Status.TheVariants as status
use Rattle.sdh_shell.specs.Reading.{HasNoPlan, TellsPlan}
use Rattle.sdh_shell.specs.Writing.{Parts}
use Rattle.sdh_shell.proofs.Plans.{one_plan}
use Rattle.sdh_plan.specs.Check.{answer}
use Rattle.sdh_plan.specs.Plans.{checks}
use Rattle.sdh_node_cli.specs.Lines.{IsOneLine, whole_line}
use Rattle.sdh_node_cli.specs.declared.words.Ask.{Ask}
use Rattle.sdh_node_cli.specs.declared.ending.Ending.{Ending}
use Rattle.sdh_node_cli.specs.declared.ending.Ending.TheVariants as ending
use Rattle.sdh_node_cli.specs.declared.ending.Flaw.{Flaw}
use Rattle.sdh_node_cli.specs.declared.ending.Flaw.TheVariants as flaw
use Rattle.sdh_node_cli.specs.declared.head.NoHead.{NoHead}
use Rattle.sdh_node_cli.specs.declared.head.NoHead.TheVariants as none
use Rattle.sdh_node_cli.specs.declared.stop.Stop.{Stop}
use Rattle.sdh_node_cli.specs.declared.stop.Stop.TheVariants as stop
use Rattle.sdh_node_cli.specs.Bench.{Bench, new_bench}
use Rattle.sdh_node_cli.specs.Streams.{end_of_plan, EndsPlan, IsPlanDocument, GivenRecord, IsGiven, bytes_of, AreGiven, bench_after, after_records}
use Rattle.sdh_node_cli.specs.Streams.{stream_of, records_max, IsFlawed, EndsIf}
use Rattle.sdh_node_cli.specs.Outcome.{HasNoHead, HasBadHead, RefusesHead, TellsNone, refusal_of, StopsAfter, ending_of, HasPlanDocument, HasServed, IsOutcome, HasAllRecords}
use Rattle.sdh_node_cli.proofs.Unique.{fronts_same, given_first, no_part, no_line, no_refusal, no_more, opened}

-- ---- bytes

-- what was read of bytes that are known
split : (whole : List ℕ) (left now : Option (List ℕ)) (bytes : List ℕ) → left ≡ Some whole → Consumes left now bytes
    → (rest : List ℕ) × (now ≡ Some rest) × (whole ≡ bytes ++ rest)
split whole left now bytes is read = by now (subst (λ l. Consumes l now bytes) is read)
  where
    by : (n : Option (List ℕ)) → Consumes (Some whole) n bytes → (rest : List ℕ) × (n ≡ Some rest) × (whole ≡ bytes ++ rest)
    by None x = absurd x
    by (Some rest) x = (rest, refl, x)

-- the shorter of two fronts is a front of the longer one
front_of : (a b xs ys : List ℕ) → length a ≤ length b → a ++ xs ≡ b ++ ys → (c : List ℕ) × (b ≡ a ++ c)
front_of [] b xs ys few e = (b, refl)
front_of (x ∷ a) [] xs ys few e = absurd (omega (arith, few))
front_of (x ∷ a) (y ∷ b) xs ys few e =
    let rest = front_of a b xs ys (omega (arith, few)) (ap (λ l. drop 1 l) e) in
    let head : y ≡ x = sym (ap (λ l. get_or l 0 0) e) in
    (rest.0, ap (λ z. z ∷ b) head ∙ ap (λ l. x ∷ l) rest.1)

-- ---- options

some_same : {A : Type 0} (a b : A) → ◌≡◌ {A = Option A} (Some a) (Some b) → a ≡ b
some_same a b e = grind arith

some_none : {A : Type 0} (a : A) → ◌≡◌ {A = Option A} (Some a) None → ⊥
some_none a e = grind arith

-- ---- the plan

ends_plan : (document : List ℕ) → IsPlanDocument document → EndsPlan (document ++ end_of_plan)
ends_plan document first = (document, refl, first.lines)

-- a document with its line is no front of another one without the newline byte of its own
not_before : (d e xs ys : List ℕ) → IsPlanDocument d → IsPlanDocument e → length d < length e
    → (d ++ end_of_plan) ++ xs ≡ (e ++ end_of_plan) ++ ys → ⊥
not_before d e xs ys first other less is =
    let line : end_of_plan ≡ codes "end of plan" ++ codes "\n" = refl in
    let cut : (e ++ end_of_plan) ++ ys ≡ (e ++ codes "end of plan") ++ (codes "\n" ++ ys) =
    ap (λ l. l ++ ys) (sym (append_assoc e (codes "end of plan") (codes "\n")))
    ∙ append_assoc (e ++ codes "end of plan") (codes "\n") ys in
    let front = front_of (d ++ end_of_plan) (e ++ codes "end of plan") xs (codes "\n" ++ ys)
    (omega (arith, less, length-append d end_of_plan, length-append e (codes "end of plan"))) (is ∙ cut) in
    other.first (d ++ end_of_plan) front.0 front.1 (ends_plan d first)

-- bytes begin with one plan document
one_document : (d e xs ys : List ℕ) → IsPlanDocument d → IsPlanDocument e → (d ++ end_of_plan) ++ xs ≡ (e ++ end_of_plan) ++ ys → d ≡ e
one_document d e xs ys first other is = elim (cases_lt (length d) (length e)) [
  | inl less ↦ absurd (not_before d e xs ys first other less is)
  | inr more ↦ elim (cases_lt (length e) (length d)) [
    | inl less ↦ absurd (not_before e d ys xs other first less (sym is))
    | inr fewer ↦ (fronts_same d e (end_of_plan ++ xs) (end_of_plan ++ ys) (omega (arith, more, fewer))
        (sym (append_assoc d end_of_plan xs) ∙ is ∙ append_assoc e end_of_plan ys)).0
  ]
]

-- a plan's document isn't refused
not_bad : (document : List ℕ) (plan : Planned) (s : Status) → TellsPlan document plan → HasNoPlan document s → s ≢ status.ReadFault → ⊥
not_bad document plan status.ReadFault tells why other = other refl
not_bad document plan status.TooLong tells why other = omega (arith, tells.0, why)
not_bad document plan status.NotToml tells why other = why.1 tells.1.0 tells.1.1
not_bad document plan (status.BadPlan number place) tells why other =
    clash (answer (checks tells.1.0)) _ tells.1.2
    (ap (λ ms. answer (checks ms)) (some_same tells.1.0 why.1.1.0 (sym tells.1.1.1 ∙ why.1.1.1.1)) ∙ why.1.1.2)
  where
    clash : {A : Type 0} (o : Option A) (a : A) → o ≡ None → o ≡ Some a → ⊥
    clash o a p q = cc
not_bad document plan s tells why other = absurd why

-- ---- records

-- the 65 bytes of a line that is too long don't begin with a record
no_long : (b : Bench) (g : GivenRecord) (x tail rest : List ℕ) → IsGiven b g → IsOneLine tail → length tail ≡ 65
    → bytes_of g ++ x ≡ tail ++ rest → ⊥
no_long b g x tail rest p one long e =
    let k = length g.line in
    let low : k < length tail = omega (arith, p.said.line_is.short, long) in
    let is : g.line ++ 10 ∷ ((g.west ++ g.east) ++ x) ≡ tail ++ rest = sym (opened g.line (g.west ++ g.east) x) ∙ e in
    All-get_or (λ byte. byte ≢ 10) tail k 0 low one
    (sym (get_or_append_left tail rest 0 k low) ∙ ap (λ s. get_or s k 0) (sym is)
    ∙ get_or-append_seam g.line 10 ((g.west ++ g.east) ++ x) 0)

-- what was read of a record that can't be done, with what comes after it, doesn't begin with one that can
no_flaw : (b : Bench) (g : GivenRecord) (x tail rest : List ℕ) (f : Flaw) → IsGiven b g → IsFlawed b f tail → (f ≡ flaw.Cut → rest ≡ [])
    → bytes_of g ++ x ≡ tail ++ rest → ⊥
no_flaw b g x tail rest (flaw.Said why) p n cut e =
    no_refusal b g x n.line (n.more ++ rest) why p n.line_is n.refused
    (e ∙ ap (λ l. l ++ rest) n.tail_is ∙ append_assoc (whole_line n.line) n.more rest)
no_flaw b g x tail rest flaw.Cut p n cut e =
    let all : tail ++ rest ≡ tail = ap (λ l. tail ++ l) (cut refl) ∙ append-nil tail in
    elim n [
      | inl line ↦ no_line b g x tail line.line_is.one (e ∙ all)
      | inr frame ↦ no_part b g x tail p frame (e ∙ all)
    ]
no_flaw b g x tail rest flaw.Long p n cut e = no_long b g x tail rest p n.0 n.1 e
no_flaw b g x tail rest flaw.Many p n cut e = absurd n

-- something was read of it
flaw_some : (b : Bench) (f : Flaw) (tail : List ℕ) → IsFlawed b f tail → 0 < length tail
flaw_some b (flaw.Said why) tail n =
    omega (arith, ap length n.tail_is, length-append (whole_line n.line) n.more, length-append n.line (10 ∷ []))
flaw_some b flaw.Cut tail n = elim n [
  | inl line ↦ line.some
  | inr frame ↦ omega (arith, ap length frame.tail_is, length-append (whole_line frame.line) frame.part, length-append frame.line (10 ∷ []))
]
flaw_some b flaw.Long tail n = omega (arith, n.1)
flaw_some b flaw.Many tail n = absurd n

-- records that can be done, and nothing more, have no record among them that can't be
never_flawed : (b : Bench) (gs hs : List GivenRecord) (f : Flaw) (tail rest : List ℕ) → AreGiven b gs → AreGiven b hs
    → IsFlawed (after_records b gs) f tail → (f ≡ flaw.Cut → rest ≡ []) → stream_of hs ++ [] ≡ stream_of gs ++ (tail ++ rest) → ⊥
never_flawed b [] [] f tail rest p q n cut e = omega (arith, flaw_some b f tail n, ap length e, length-append tail rest)
never_flawed b [] (h ∷ hs) f tail rest p q n cut e =
    no_flaw b h (stream_of hs ++ []) tail rest f q.0 n cut (sym (append_assoc (bytes_of h) (stream_of hs) []) ∙ e)
never_flawed b (g ∷ gs) [] f tail rest p q n cut e =
    omega (
      arith,
      ap length e,
      length-append (bytes_of g ++ stream_of gs) (tail ++ rest),
      length-append (bytes_of g) (stream_of gs),
      length-append (whole_line g.line) (g.west ++ g.east),
      length-append g.line (10 ∷ []),
    )
never_flawed b (g ∷ gs) (h ∷ hs) f tail rest p q n cut e =
    let first = given_first b g h gs hs (tail ++ rest) [] p q (sym e) in
    never_flawed (bench_after g b) gs hs f tail rest p.1 (subst (λ z. AreGiven (bench_after z b) hs) (sym first.0) q.1) n cut (sym first.1)

ends_if : (f : Flaw) (now : Option (List ℕ)) (rest : List ℕ) → EndsIf f now → now ≡ Some rest → f ≡ flaw.Cut → rest ≡ []
ends_if f now rest ends is cut = subst IsAtEnd is (subst (λ (x : Flaw). EndsIf x now) cut ends)

served_done : (b : Bench) (hs gs : List GivenRecord) (why : Stop) (number : ℕ) (tail rest : List ℕ) (now : Option (List ℕ))
    → AreGiven b hs → length hs < records_max → AreGiven b gs → StopsAfter b gs why tail now → now ≡ Some rest
    → stream_of hs ++ [] ≡ stream_of gs ++ (tail ++ rest) → (ending_of why number ≡ ending.Shared status.ReadFault → ⊥)
    → ending_of why number ≡ ending.Shared status.Ok
served_done b hs gs stop.Done number tail rest now q few p so is e other = refl
served_done b hs gs stop.ReadFault number tail rest now q few p so is e other = absurd (other refl)
served_done b hs gs stop.WriteFault number tail rest now q few p (inl x) is e other = absurd x.1
served_done b hs gs stop.WriteFault number tail rest now q few p (inr x) is e other = absurd (let many = x.many in cc)
served_done b hs gs (stop.Bad f) number tail rest now q few p (inl x) is e other =
    absurd (never_flawed b gs hs f tail rest p q x.1.0 (ends_if f now rest x.1.1 is) e)
served_done b hs gs (stop.Bad f) number tail rest now q few p (inr x) is e other =
    absurd (omega (arith, few, x.all, no_more b hs gs [] (tail ++ rest) stop.Done (Some []) q p (refl, refl) e))

-- ---- the outcome

module _ (ask : Ask) (left now : Option (List ℕ)) (has : HasAllRecords ask left) where
  abbrev head : List ℕ
  head = has.document ++ end_of_plan

  -- a front of the stream with no line that ends a plan is shorter than the plan with that line
  no_head : (bytes : List ℕ) → HasNoHead left now bytes → length bytes < length head
  no_head bytes x =
      let s = split (head ++ stream_of has.records) left now bytes has.bytes x.read in
      elim (cases_lt (length bytes) (length head)) [
        | inl less ↦ less
        | inr more ↦ absurd (let front = front_of head bytes (stream_of has.records) s.0 (omega (arith, more)) s.2 in
            x.none head front.0 front.1 (ends_plan has.document has.first))
      ]

  -- the document that was read is that of the plan
  same_document : (document bytes : List ℕ) → IsPlanDocument document → Consumes left now ((document ++ end_of_plan) ++ bytes)
      → has.document ≡ document
  same_document document bytes first read =
      let s = split (head ++ stream_of has.records) left now ((document ++ end_of_plan) ++ bytes) has.bytes read in
      one_document has.document document (stream_of has.records) (bytes ++ s.0) has.first first
      (s.2 ∙ append_assoc (document ++ end_of_plan) bytes s.0)

  refused_never : (s : Status) → RefusesHead left now s → s ≢ status.ReadFault → ⊥
  refused_never status.ReadFault x other = other refl
  refused_never status.TooLong x other =
      omega (arith, no_head x.0 x.1, x.2, has.plan_is.0, length-append has.document end_of_plan)
  refused_never status.NotToml x other = bad status.NotToml x other
    where
      bad : (t : Status) → HasBadHead left now t → t ≢ status.ReadFault → ⊥
      bad t y = not_bad has.document has.plan t has.plan_is
          (subst (λ d. HasNoPlan d t) (sym (same_document y.document [] y.first
          (subst (Consumes left now) (sym (append-nil (y.document ++ end_of_plan))) y.read))) y.why)
  refused_never (status.BadPlan number place) x other = bad (status.BadPlan number place) x other
    where
      bad : (t : Status) → HasBadHead left now t → t ≢ status.ReadFault → ⊥
      bad t y = not_bad has.document has.plan t has.plan_is
          (subst (λ d. HasNoPlan d t) (sym (same_document y.document [] y.first
          (subst (Consumes left now) (sym (append-nil (y.document ++ end_of_plan))) y.read))) y.why)
  refused_never s x other = absurd x

  none_never : (why : NoHead) (how : Ending) → TellsNone left now why → Some how ≡ refusal_of why → how ≢ ending.Shared status.ReadFault → ⊥
  none_never none.Memory how x is other = some_none how is
  none_never none.Cut how x is other =
      let h = x.0 in
      let s = split (head ++ stream_of has.records) left now h.bytes has.bytes h.no_head.read in
      let ended : s.0 ≡ [] = subst IsAtEnd s.1 x.1 in
      omega (arith, no_head h.bytes h.no_head, ap length s.2, ap length ended, length-append h.bytes s.0, length-append head (stream_of has.records))
  none_never (none.Refused s) how x is other =
      refused_never s x (λ e. other (some_same how (ending.Shared s) is ∙ ap ending.Shared e))

  served : (plan : Planned) (document : List ℕ) (how : Ending) (text : Parts) → has.document ≡ document → plan ≡ has.plan
      → HasServed ask plan (document ++ end_of_plan) left now how text → how ≢ ending.Shared status.ReadFault → how ≡ ending.Shared status.Ok
  served plan document how text doc is y other =
      let v = y.served in
      let place : y.at ≡ has.at =
      some_same y.at has.at (sym y.found ∙ ap (λ (p : Planned). found_at p.nodes ask.id) is ∙ has.found) in
      let bench : new_bench ask.mode ask.id y.at plan ≡ new_bench ask.mode ask.id has.at has.plan =
      ap (λ p. new_bench ask.mode ask.id p plan) place ∙ ap (λ p. new_bench ask.mode ask.id has.at p) is in
      let s = split (head ++ stream_of has.records) left now ((document ++ end_of_plan) ++ (stream_of v.records ++ v.tail)) has.bytes v.read in
      let same : stream_of has.records ≡ (stream_of v.records ++ v.tail) ++ s.0 =
      (fronts_same head (document ++ end_of_plan) (stream_of has.records) ((stream_of v.records ++ v.tail) ++ s.0)
      (ap (λ d. length (d ++ end_of_plan)) doc)
      (s.2 ∙ append_assoc (document ++ end_of_plan) (stream_of v.records ++ v.tail) s.0)).1 in
      y.how_is
      ∙ served_done (new_bench ask.mode ask.id has.at has.plan) has.records v.records y.why y.number v.tail s.0 now has.are has.few
      (subst (λ b. AreGiven b v.records) bench v.are) (subst (λ b. StopsAfter b v.records y.why v.tail now) bench v.so) s.1
      (append-nil (stream_of has.records) ∙ same ∙ append_assoc (stream_of v.records) v.tail s.0) (λ e. other (y.how_is ∙ e))

  of_document : (how : Ending) (text : Parts) → HasPlanDocument ask left now how text → how ≢ ending.Shared status.ReadFault
      → how ≡ ending.Shared status.Ok
  of_document how text x other = elim x.of_plan [
    | inl y ↦ absurd (let doc = same_document x.document [] x.first
        (subst (Consumes left now) (sym (append-nil (x.document ++ end_of_plan))) y.read) in
        let is = one_plan x.document x.plan has.plan x.plan_is (subst (λ d. TellsPlan d has.plan) doc has.plan_is) in
        some_none has.at (sym has.found ∙ sym (ap (λ (p : Planned). found_at p.nodes ask.id) is) ∙ y.none))
    | inr y ↦ (let v = y.served in
        let doc = same_document x.document (stream_of v.records ++ v.tail) x.first v.read in
        served x.plan x.document how text doc
        (one_plan x.document x.plan has.plan x.plan_is (subst (λ d. TellsPlan d has.plan) doc has.plan_is)) y other)
  ]

  pub all_done : (how : Ending) (text : Parts) → IsOutcome (Some ask) left now how text → how ≢ ending.Shared status.ReadFault
      → how ≡ ending.Shared status.Ok
  all_done how text (inl x) other = absurd (none_never x.why how x.none x.how_is other)
  all_done how text (inr x) other = of_document how text x other
