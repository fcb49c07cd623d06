-- The bytes of a stream determine its records.
use Rattle.std.proofs.Common.{◌≡◌, ◌≢◌, ℕ, ◌≤◌, List, [], ◌∷◌, ◌++◌, length, drop, get_or, refl, ap, sym, subst, ◌∙◌, arith, ◌⊎◌, inl, inr, append_assoc}
use Rattle.std.specs.Prelude.{Option, Some, None, Result, Ok, Err}
use Rattle.std.proofs.lemmas.List.{length-append}
use Rattle.std.proofs.lemmas.List.Elements.{All-head, All-tail, All-get_or}
use Rattle.std.proofs.Math.Seq.{get_or-append_seam}
use Rattle.sdh_node_cli.specs.Lines.{IsOneLine, whole_line}
use Rattle.sdh_plan.specs.declared.reason.Reason.{Reason}
use Rattle.sdh_node_cli.specs.declared.ending.Flaw.TheVariants as flaw
use Rattle.sdh_node_cli.specs.declared.record.Record.{Record}
use Rattle.sdh_node_cli.specs.declared.stop.Stop.{Stop}
use Rattle.sdh_node_cli.specs.declared.stop.Stop.TheVariants as stop
use Rattle.sdh_node_cli.specs.Records.{record_of}
use Rattle.sdh_node_cli.specs.Bench.{Bench, size_after}
use Rattle.sdh_node_cli.specs.Streams.{GivenRecord, IsGiven, west_of, east_of, refusal, bytes_of, bench_after, AreGiven, after_records, stream_of}
use Rattle.sdh_node_cli.specs.Streams.{IsLine, IsRefusedFor, IsRefusedLine, IsCutLine, IsCutFrame}
use Rattle.sdh_node_cli.specs.Turns.{StopsSo}
use Rattle.sdh_node_cli.specs.Outcome.{StopsAfter}
use Rattle.sdh_node_cli.specs.Laws.{RecordsAreTold}

-- ---- fronts of bytes

-- two lines, and what comes after their newline bytes
lines_same : (l m xs ys : List ℕ) → IsOneLine l → IsOneLine m → l ++ 10 ∷ xs ≡ m ++ 10 ∷ ys → (l ≡ m) × (xs ≡ ys)
lines_same [] [] xs ys a b e = (refl, ap (λ s. drop 1 s) e)
lines_same [] (y ∷ m) xs ys a b e = absurd (All-head (λ byte. byte ≢ 10) y m b (sym (ap (λ s. get_or s 0 0) e)))
lines_same (x ∷ l) [] xs ys a b e = absurd (All-head (λ byte. byte ≢ 10) x l a (ap (λ s. get_or s 0 0) e))
lines_same (x ∷ l) (y ∷ m) xs ys a b e =
    let one = λ (byte : ℕ). byte ≢ 10 in
    let head : x ≡ y = ap (λ s. get_or s 0 0) e in
    let rest : (l ≡ m) × (xs ≡ ys) = lines_same l m xs ys (All-tail one x l a) (All-tail one y m b) (ap (λ s. drop 1 s) e) in
    (ap (λ z. z ∷ l) head ∙ ap (λ s. y ∷ s) rest.0, rest.1)

-- a line without its newline byte doesn't begin with a whole line
never_whole : (l xs tail : List ℕ) → IsOneLine tail → l ++ 10 ∷ xs ≡ tail → ⊥
never_whole l xs tail one e =
    All-get_or (λ byte. byte ≢ 10) tail (length l) 0 (omega (arith, ap length e, length-append l (10 ∷ xs))) one
    (ap (λ s. get_or s (length l) 0) (sym e) ∙ get_or-append_seam l 10 xs 0)

-- two fronts of one length
pub fronts_same : (a b xs ys : List ℕ) → length a ≡ length b → a ++ xs ≡ b ++ ys → (a ≡ b) × (xs ≡ ys)
fronts_same [] [] xs ys n e = (refl, e)
fronts_same [] (y ∷ b) xs ys n e = absurd (omega arith)
fronts_same (x ∷ a) [] xs ys n e = absurd (omega arith)
fronts_same (x ∷ a) (y ∷ b) xs ys n e =
    let head : x ≡ y = ap (λ s. get_or s 0 0) e in
    let rest : (a ≡ b) × (xs ≡ ys) = fronts_same a b xs ys (omega arith) (ap (λ s. drop 1 s) e) in
    (ap (λ z. z ∷ a) head ∙ ap (λ s. y ∷ s) rest.0, rest.1)

-- ---- one record

pub opened : (l frames xs : List ℕ) → (whole_line l ++ frames) ++ xs ≡ l ++ 10 ∷ (frames ++ xs)
opened l frames xs = append_assoc (whole_line l) frames xs ∙ append_assoc l (10 ∷ []) (frames ++ xs)

ok_same : (x : Result Record Reason) (r s : Record) → x ≡ Ok r → x ≡ Ok s → r ≡ s
ok_same x r s p q = cc

reads_same : (b : Bench) (l m : List ℕ) (r s : Record) → l ≡ m → record_of b.circuits b.at l ≡ Ok r → record_of b.circuits b.at m ≡ Ok s → r ≡ s
reads_same b l m r s same p q = ok_same (record_of b.circuits b.at l) r s p (ap (record_of b.circuits b.at) same ∙ q)

parts_same : (g h : GivenRecord) → g.line ≡ h.line → g.record_is ≡ h.record_is → g.west ≡ h.west → g.east ≡ h.east → g ≡ h
parts_same g h a b c d =
    let first : g ≡ record g { line = h.line } = ap (λ (l : List ℕ). record g { line = l }) a in
    let second : record g { line = h.line } ≡ record g { line = h.line; record_is = h.record_is } =
    ap (λ (r : Record). record g { line = h.line; record_is = r }) b in
    let third : record g { line = h.line; record_is = h.record_is } ≡ record h { east = g.east } =
    ap (λ (w : List ℕ). record g { line = h.line; record_is = h.record_is; west = w }) c in
    first ∙ second ∙ third ∙ ap (λ (e : List ℕ). record h { east = e }) d

-- two records, and what comes after them
given_same : (b : Bench) (g h : GivenRecord) (x y : List ℕ) → IsGiven b g → IsGiven b h → bytes_of g ++ x ≡ bytes_of h ++ y → (g ≡ h) × (x ≡ y)
given_same b g h x y p q e =
    let rate = b.node.settings.rate in
    let lines : (g.line ≡ h.line) × ((g.west ++ g.east) ++ x ≡ (h.west ++ h.east) ++ y) =
    lines_same g.line h.line _ _ p.said.line_is.one q.said.line_is.one
    (sym (opened g.line (g.west ++ g.east) x) ∙ e ∙ opened h.line (h.west ++ h.east) y) in
    let r = reads_same b g.line h.line g.record_is h.record_is lines.0 p.said.reads q.said.reads in
    let rest : g.west ++ (g.east ++ x) ≡ h.west ++ (h.east ++ y) = sym (append_assoc g.west g.east x) ∙ lines.1 ∙ append_assoc h.west h.east y in
    let west : (g.west ≡ h.west) × (g.east ++ x ≡ h.east ++ y) =
    fronts_same g.west h.west (g.east ++ x) (h.east ++ y) (p.west_whole ∙ ap (λ s. size_after rate (west_of s)) r ∙ sym q.west_whole) rest in
    let east : (g.east ≡ h.east) × (x ≡ y) =
    fronts_same g.east h.east x y (p.east_whole ∙ ap (λ s. size_after rate (east_of s)) r ∙ sym q.east_whole) west.1 in
    (parts_same g h lines.0 r west.0 east.0, east.1)

-- ---- what a record can't be

none_some : (o : Option Reason) (why : Reason) → o ≡ None → o ≡ Some why → ⊥
none_some o why p q = cc

ok_err : (x : Result Record Reason) (r : Record) (why : Reason) → x ≡ Ok r → x ≡ Err why → ⊥
ok_err x r why p q = cc

-- a part of a record isn't a record and what comes after it
pub no_part : (b : Bench) (g : GivenRecord) (x tail : List ℕ) → IsGiven b g → IsCutFrame b tail → bytes_of g ++ x ≡ tail → ⊥
no_part b g x tail p f e =
    let rate = b.node.settings.rate in
    let lines : (g.line ≡ f.line) × ((g.west ++ g.east) ++ x ≡ f.part) =
    lines_same g.line f.line ((g.west ++ g.east) ++ x) f.part p.said.line_is.one f.said.line_is.one
    (sym (opened g.line (g.west ++ g.east) x) ∙ e ∙ f.tail_is ∙ append_assoc f.line (10 ∷ []) f.part) in
    let r = reads_same b g.line f.line g.record_is f.record_is lines.0 p.said.reads f.said.reads in
    omega (
      arith,
      f.short,
      ap length lines.1,
      length-append (g.west ++ g.east) x,
      length-append g.west g.east,
      p.west_whole,
      p.east_whole,
      ap (λ s. size_after rate (west_of s)) r,
      ap (λ s. size_after rate (east_of s)) r,
    )

pub no_line : (b : Bench) (g : GivenRecord) (x tail : List ℕ) → IsOneLine tail → bytes_of g ++ x ≡ tail → ⊥
no_line b g x tail one e =
    never_whole g.line ((g.west ++ g.east) ++ x) tail one (sym (opened g.line (g.west ++ g.east) x) ∙ e)

-- a record that can't be done isn't a record that can and what comes after it
pub no_refusal : (b : Bench) (g : GivenRecord) (x line more : List ℕ) (why : Reason) → IsGiven b g → IsLine line → IsRefusedFor b line why
    → bytes_of g ++ x ≡ whole_line line ++ more → ⊥
no_refusal b g x line more why p is refused e = by refused
  where
    same : g.line ≡ line
    same = (lines_same g.line line ((g.west ++ g.east) ++ x) more p.said.line_is.one is.one
        (sym (opened g.line (g.west ++ g.east) x) ∙ e ∙ append_assoc line (10 ∷ []) more)).0

    by : IsRefusedFor b line why → ⊥
    by (inl err) = ok_err (record_of b.circuits b.at g.line) g.record_is why p.said.reads (ap (record_of b.circuits b.at) same ∙ err)
    by (inr (r, ok, refused)) =
        none_some (refusal b g.record_is) why p.said.may (ap (refusal b) (reads_same b g.line line g.record_is r same p.said.reads ok) ∙ refused)

no_refused : (b : Bench) (g : GivenRecord) (x tail : List ℕ) (why : Reason) → IsGiven b g → IsRefusedLine b why tail → bytes_of g ++ x ≡ tail → ⊥
no_refused b g x tail why p n e = no_refusal b g x n.line n.more why p n.line_is n.refused (e ∙ n.tail_is)

-- what was read where no more records were done doesn't begin with a record that can be done
no_stop : (b : Bench) (g : GivenRecord) (x tail : List ℕ) (why : Stop) (now : Option (List ℕ)) → IsGiven b g → StopsSo b why tail now
    → bytes_of g ++ x ≡ tail → ⊥
no_stop b g x tail stop.Done now p s e =
    omega (
      arith,
      ap length e,
      ap length s.0,
      length-append (bytes_of g) x,
      length-append (whole_line g.line) (g.west ++ g.east),
      length-append g.line (10 ∷ []),
    )
no_stop b g x tail (stop.Bad (flaw.Said why)) now p s e = no_refused b g x tail why p s.0 e
no_stop b g x tail (stop.Bad flaw.Cut) now p s e = by s.0
  where
    by : IsCutLine tail ⊎ IsCutFrame b tail → ⊥
    by (inl line) = no_line b g x tail line.line_is.one e
    by (inr f) = no_part b g x tail p f e
no_stop b g x tail (stop.Bad flaw.Long) now p s e = no_line b g x tail s.0.0 e
no_stop b g x tail (stop.Bad flaw.Many) now p s e = absurd s.0
no_stop b g x tail stop.ReadFault now p s e = by s
  where
    by : IsLine tail ⊎ IsCutFrame b tail → ⊥
    by (inl line) = no_line b g x tail line.one e
    by (inr f) = no_part b g x tail p f e
no_stop b g x tail stop.WriteFault now p s e = absurd s

-- ---- records, one after the other

pub given_first : (b : Bench) (g h : GivenRecord) (gs hs : List GivenRecord) (x y : List ℕ) → AreGiven b (g ∷ gs) → AreGiven b (h ∷ hs)
    → stream_of (g ∷ gs) ++ x ≡ stream_of (h ∷ hs) ++ y → (g ≡ h) × (stream_of gs ++ x ≡ stream_of hs ++ y)
given_first b g h gs hs x y p q e =
    given_same b g h (stream_of gs ++ x) (stream_of hs ++ y) p.0 q.0
    (sym (append_assoc (bytes_of g) (stream_of gs) x) ∙ e ∙ append_assoc (bytes_of h) (stream_of hs) y)

-- where there are as many records on both sides, they are equal
same_long : (b : Bench) (gs hs : List GivenRecord) (x y : List ℕ) → AreGiven b gs → AreGiven b hs → length gs ≡ length hs
    → stream_of gs ++ x ≡ stream_of hs ++ y → (gs ≡ hs) × (x ≡ y)
same_long b [] [] x y p q n e = (refl, e)
same_long b [] (h ∷ hs) x y p q n e = absurd (omega arith)
same_long b (g ∷ gs) [] x y p q n e = absurd (omega arith)
same_long b (g ∷ gs) (h ∷ hs) x y p q n e =
    let first : (g ≡ h) × (stream_of gs ++ x ≡ stream_of hs ++ y) = given_first b g h gs hs x y p q e in
    let rest : (gs ≡ hs) × (x ≡ y) =
    same_long (bench_after g b) gs hs x y p.1 (subst (λ z. AreGiven (bench_after z b) hs) (sym first.0) q.1) (omega arith) first.1 in
    (ap (λ z. z ∷ gs) first.0 ∙ ap (λ zs. h ∷ zs) rest.0, rest.1)

-- where no more records were done on one side, there aren't more on the other
pub no_more : (b : Bench) (gs hs : List GivenRecord) (x y : List ℕ) (why : Stop) (now : Option (List ℕ)) → AreGiven b gs → AreGiven b hs
    → StopsSo (after_records b gs) why x now → stream_of gs ++ x ≡ stream_of hs ++ y → length hs ≤ length gs
no_more b gs [] x y why now p q s e = omega arith
no_more b [] (h ∷ hs) x y why now p q s e =
    absurd (no_stop b h (stream_of hs ++ y) x why now q.0 s (sym (append_assoc (bytes_of h) (stream_of hs) y) ∙ sym e))
no_more b (g ∷ gs) (h ∷ hs) x y why now p q s e =
    let first : (g ≡ h) × (stream_of gs ++ x ≡ stream_of hs ++ y) = given_first b g h gs hs x y p q e in
    let rest : length hs ≤ length gs =
    no_more (bench_after g b) gs hs x y why now p.1 (subst (λ z. AreGiven (bench_after z b) hs) (sym first.0) q.1) s first.1 in
    omega (arith, rest)

-- so there are as many on both
as_many : (b : Bench) (gs hs : List GivenRecord) (x y : List ℕ) (why how : Stop) (left now : Option (List ℕ)) → AreGiven b gs → AreGiven b hs
    → StopsAfter b gs why x left → StopsAfter b hs how y now → stream_of gs ++ x ≡ stream_of hs ++ y → length gs ≡ length hs
as_many b gs hs x y why how left now p q (inl s) (inl t) e =
    omega (arith, no_more b gs hs x y why left p q s.1 e, no_more b hs gs y x how now q p t.1 (sym e))
as_many b gs hs x y why how left now p q (inl s) (inr t) e =
    absurd (omega (arith, s.0, t.all, no_more b gs hs x y why left p q s.1 e))
as_many b gs hs x y why how left now p q (inr s) (inl t) e =
    absurd (omega (arith, t.0, s.all, no_more b hs gs y x how now q p t.1 (sym e)))
as_many b gs hs x y why how left now p q (inr s) (inr t) e = omega (arith, s.all, t.all)

pub records_are_told : RecordsAreTold
records_are_told b gs hs x y why how left now p q s t e =
    same_long b gs hs x y p q (as_many b gs hs x y why how left now p q s t e) e
