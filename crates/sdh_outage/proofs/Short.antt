-- Each line is short: `LINE_MAX` bytes are room enough.
use Rattle.std.proofs.Common.{◌≡◌, ℕ, ◌+◌, ◌*◌, ◌/◌, ◌%◌, ◌^◌, ◌<◌, ◌≤◌, Bool, true, false, List, [], ◌++◌, length, codes, decimal, refl, arith}
use Rattle.std.specs.Prelude.{Option, Some, None, ◌==◌, if◌then◌else◌}
use Rattle.std.proofs.lemmas.List.{length-append}
use Rattle.std.proofs.lemmas.Fmt.{length-decimal-le}
use Rattle.sdh_circuits.specs.declared.End.{End}
use Rattle.sdh_report.specs.Lines.{end_letter, port_named}
use Rattle.sdh_report.proofs.Short.{digits_32, length-end_letter, length-port_named}
use Rattle.sdh_outage.specs.declared.kind.Kind.{Kind}
use Rattle.sdh_outage.specs.declared.kind.Kind.TheVariants as kind
use Rattle.sdh_outage.specs.declared.change.Change.{Change}
use Rattle.sdh_outage.specs.declared.outage.Outage.{Outage}
use Rattle.sdh_outage.specs.declared.outage.Runs.{Runs}
use Rattle.sdh_outage.specs.declared.outage.Stretch.{Stretch}
use Rattle.sdh_outage.specs.declared.summary.Summary.{Summary}
use Rattle.sdh_outage.specs.Outages.{out}
use Rattle.sdh_outage.specs.Lines.{three_digits, ms_text, rounds_text, stretch_text, runs_text, counts_text, outage_front, of_port}
use Rattle.sdh_outage.specs.Lines.{kind_word, change_line, more_line, foreign_line, summary_line}

one_digit : (n : ℕ) → n < 10 → length (decimal n) ≤ 1
one_digit n h = length-decimal-le 1 n (omega arith) (omega arith) (omega arith)

short-three : (n : ℕ) → n < 1000 → length (three_digits n) ≤ 3
short-three n h =
    let a = decimal (n / 100) in
    let b = decimal (n / 10 % 10) in
    omega (
      arith,
      length-append (a ++ b) (decimal (n % 10)),
      length-append a b,
      one_digit (n / 100) (omega arith),
      one_digit (n / 10 % 10) (omega arith),
      one_digit (n % 10) (omega arith),
    )

-- the text of a number of microseconds with at most `digits` digits before the point
short-ms : (us digits : ℕ) → length (decimal (us / 1000)) ≤ digits → length (ms_text us) ≤ digits + 4
short-ms us digits h =
    let a = decimal (us / 1000) in
    omega (
      arith,
      length-append (a ++ codes ".") (three_digits (us % 1000)),
      length-append a (codes "."),
      short-three (us % 1000) (omega arith),
    )

short-rounds : (rounds : ℕ) (digits : ℕ) → length (decimal rounds) ≤ digits → length (decimal (125 * rounds / 1000)) ≤ digits
    → length (rounds_text rounds) ≤ 2 * digits + 8
short-rounds rounds digits h hm =
    let a = decimal rounds ++ codes " ms " in
    omega (
      arith,
      length-append a (ms_text (125 * rounds)),
      length-append (decimal rounds) (codes " ms "),
      short-ms (125 * rounds) digits hm,
    )

short-stretch : (s : Option Stretch) → ((t : Stretch) → s ≡ Some t → (t.from < 2 ^ 32) × (t.to < 2 ^ 32)) → length (stretch_text s) ≤ 30
short-stretch None small = omega arith
short-stretch (Some t) small =
    let fits = small t refl in
    let a = codes " from " ++ decimal t.from in
    omega (
      arith,
      length-append (a ++ codes " to ") (decimal t.to),
      length-append a (codes " to "),
      length-append (codes " from ") (decimal t.from),
      digits_32 t.from fits.0,
      digits_32 t.to fits.1,
    )

-- the counts are those of 32 bits
pub record IsSmall (o : Outage) : Type 0 where
  pub ais : o.ais < 2 ^ 32
  pub ones : o.ones < 2 ^ 32
  pub jump : o.jump < 2 ^ 32
  pub torn : o.torn < 2 ^ 32
  pub strange : o.strange < 2 ^ 32
  pub foreign : o.foreign < 2 ^ 32
  pub count : o.runs.count < 2 ^ 32
  pub longest : o.runs.longest < 2 ^ 32
  pub stretch : (t : Stretch) → o.stretch ≡ Some t → (t.from < 2 ^ 32) × (t.to < 2 ^ 32)

-- a text with such a number after it
short-number : (text word : List ℕ) (n most : ℕ) → length text + length word ≤ most → n < 2 ^ 32
    → length ((text ++ word) ++ decimal n) ≤ most + 10
short-number text word n most h small =
    omega (arith, length-append (text ++ word) (decimal n), length-append text word, digits_32 n small)

short-counts : (o : Outage) → IsSmall o → length (counts_text o) ≤ 101
short-counts o small =
    let a = codes " ais " ++ decimal o.ais in
    let b = (a ++ codes " ones ") ++ decimal o.ones in
    let c = (b ++ codes " jump ") ++ decimal o.jump in
    let d = (c ++ codes " torn ") ++ decimal o.torn in
    let e = (d ++ codes " strange ") ++ decimal o.strange in
    let la : length a ≤ 15 = omega (arith, length-append (codes " ais ") (decimal o.ais), digits_32 o.ais small.ais) in
    let lb : length b ≤ 31 = short-number a (codes " ones ") o.ones 21 (omega arith) small.ones in
    let lc : length c ≤ 47 = short-number b (codes " jump ") o.jump 37 (omega arith) small.jump in
    let ld : length d ≤ 63 = short-number c (codes " torn ") o.torn 53 (omega arith) small.torn in
    let le : length e ≤ 82 = short-number d (codes " strange ") o.strange 72 (omega arith) small.strange in
    short-number e (codes " foreign ") o.foreign 91 (omega arith) small.foreign

-- a duration of 32 bits
short-rounds_32 : (rounds : ℕ) → rounds < 2 ^ 32 → length (rounds_text rounds) ≤ 28
short-rounds_32 rounds h = short-rounds rounds 10 (digits_32 rounds h) (digits_32 (125 * rounds / 1000) (omega arith))

short-runs : (r : Runs) → r.count < 2 ^ 32 → r.longest < 2 ^ 32 → length (runs_text r) ≤ 53
short-runs r count longest =
    let a = codes " runs " ++ decimal r.count in
    omega (
      arith,
      length-append (a ++ codes " longest ") (rounds_text r.longest),
      length-append a (codes " longest "),
      length-append (codes " runs ") (decimal r.count),
      digits_32 r.count count,
      short-rounds_32 r.longest longest,
    )

pub short-front : (name : List ℕ) (end : End) (o : Outage) → length name ≤ 16 → IsSmall o → length (outage_front name end o) ≤ 223
short-front name end o h small =
    let long : out o < 4 * 2 ^ 32 = omega (arith, small.ais, small.ones, small.strange, small.foreign) in
    let a = port_named name end ++ codes " out " in
    let b = a ++ decimal (out o) in
    let c = b ++ runs_text o.runs in
    let d = c ++ stretch_text o.stretch in
    omega (
      arith,
      length-append d (counts_text o),
      length-append c (stretch_text o.stretch),
      length-append b (runs_text o.runs),
      length-append a (decimal (out o)),
      length-append (port_named name end) (codes " out "),
      length-port_named name end,
      length-decimal-le 11 (out o) (omega arith) (omega arith) (omega arith),
      short-runs o.runs small.count small.longest,
      short-stretch o.stretch small.stretch,
      short-counts o small,
    )

pub length-of_port : (name : List ℕ) (end : End) → length (of_port name end) ≡ 7 + length name
length-of_port name end =
    let a = codes " of " ++ name in
    let b = a ++ codes " " in
    let c = b ++ end_letter end in
    omega (
      arith,
      length-append c (codes "\n"),
      length-append b (end_letter end),
      length-append a (codes " "),
      length-append (codes " of ") name,
      length-end_letter end,
    )

short-word : (k : Kind) → length (kind_word k) ≤ 8
short-word kind.Ais = omega arith
short-word kind.Ones = omega arith
short-word kind.InOrder = omega arith
short-word kind.Jump = omega arith
short-word kind.Torn = omega arith
short-word (kind.Foreign port) = omega arith
short-word kind.Strange = omega arith

pub short-change_line : (c : Change) → c.round < 2 ^ 32 → length (change_line c) ≤ 250
short-change_line c h =
    let a = codes "round " ++ decimal c.round in
    let b = a ++ codes " " in
    omega (
      arith,
      length-append (b ++ kind_word c.kind) (codes "\n"),
      length-append b (kind_word c.kind),
      length-append a (codes " "),
      length-append (codes "round ") (decimal c.round),
      digits_32 c.round h,
      short-word c.kind,
    )

pub short-more_line : (count : ℕ) → count < 2 ^ 32 → length (more_line count) ≤ 250
short-more_line count h =
    omega (
      arith,
      length-append (codes "more " ++ decimal count) (codes "\n"),
      length-append (codes "more ") (decimal count),
      digits_32 count h,
    )

-- the line of foreign bytes, where there is one
short-foreign_if : (none : Bool) (ports : ℕ) → ports < 2 ^ 32
    → length (if none then [] else codes "foreign ports " ++ decimal ports ++ codes "\n") ≤ 25
short-foreign_if true ports h = omega arith
short-foreign_if false ports h =
    omega (
      arith,
      length-append (codes "foreign ports " ++ decimal ports) (codes "\n"),
      length-append (codes "foreign ports ") (decimal ports),
      digits_32 ports h,
    )

short-foreign : (ports : ℕ) → ports < 2 ^ 32 → length (foreign_line ports) ≤ 25
short-foreign ports h = short-foreign_if (ports == 0) ports h

-- the counts of a summary are those of 32 bits
pub record IsSmallSummary (s : Summary) : Type 0 where
  pub longest : s.longest < 2 ^ 32
  pub over : s.over < 2 ^ 32
  pub none : s.none < 2 ^ 32
  pub still : s.still < 2 ^ 32
  pub foreign : s.foreign < 2 ^ 32

pub short-summary_line : (s : Summary) → IsSmallSummary s → length (summary_line s) ≤ 250
short-summary_line s small =
    let a = codes "longest " ++ rounds_text s.longest in
    let b = (a ++ codes " over ") ++ decimal s.over in
    let c = (b ++ codes " none ") ++ decimal s.none in
    let d = (c ++ codes " still ") ++ decimal s.still in
    let la : length a ≤ 36 = omega (arith, length-append (codes "longest ") (rounds_text s.longest), short-rounds_32 s.longest small.longest) in
    let lb : length b ≤ 52 = short-number a (codes " over ") s.over 42 (omega arith) small.over in
    let lc : length c ≤ 68 = short-number b (codes " none ") s.none 58 (omega arith) small.none in
    let ld : length d ≤ 85 = short-number c (codes " still ") s.still 75 (omega arith) small.still in
    omega (
      arith,
      length-append (d ++ codes "\n") (foreign_line s.foreign),
      length-append d (codes "\n"),
      short-foreign s.foreign small.foreign,
    )
