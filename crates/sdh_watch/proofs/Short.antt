-- Each line is short: 96 bytes are room enough.
use Rattle.std.proofs.Common.{◌≡◌, ℕ, ◌+◌, ◌^◌, ◌<◌, ◌≤◌, List, ◌++◌, length, codes, decimal, arith}
use Rattle.std.proofs.lemmas.List.{length-append}
use Rattle.sdh_circuits.specs.declared.End.{End}
use Rattle.sdh_payload.specs.declared.delivered.Delivered.{Delivered}
use Rattle.sdh_payload.specs.declared.delivered.Delivered.TheVariants.{Ais, Chunk}
use Rattle.sdh_watch.specs.Shows.{shown}
use Rattle.sdh_report.specs.Lines.{end_letter}
use Rattle.sdh_report.proofs.Short.{digits_32, length-end_letter}
use Rattle.sdh_path.specs.declared.watch.PathReport.{PathReport}
use Rattle.sdh_path.specs.declared.watch.TraceWord.{TraceWord}
use Rattle.sdh_path.specs.declared.watch.TraceWord.TheVariants as word
use Rattle.sdh_watch.specs.Lines.{trace_word_text, watch_named, path_counts_text, path_report_text, watch_line}

short-word : (w : TraceWord) → length (trace_word_text w) ≤ 8
short-word word.Ok = omega arith
short-word word.Mismatch = omega arith
short-word word.Short = omega arith

length-named : (name : List ℕ) (end : End) → length (watch_named name end) ≡ 8 + length name
length-named name end =
    let a = codes "watch " in
    omega (
      arith,
      length-append (a ++ name ++ codes " ") (end_letter end),
      length-append (a ++ name) (codes " "),
      length-append a name,
      length-end_letter end,
    )

short-counts : (r : PathReport) → r.vcs < 2 ^ 32 → r.b3 < 2 ^ 32 → length (path_counts_text r) ≤ 29
short-counts r hv hb =
    let a = codes " vcs " ++ decimal r.vcs in
    let b = a ++ codes " b3 " in
    omega (
      arith,
      length-append b (decimal r.b3),
      length-append a (codes " b3 "),
      length-append (codes " vcs ") (decimal r.vcs),
      digits_32 r.vcs hv,
      digits_32 r.b3 hb,
    )

short-report : (r : PathReport) → r.vcs < 2 ^ 32 → r.b3 < 2 ^ 32 → r.label < 2 ^ 32 → length (path_report_text r) ≤ 64
short-report r hv hb hl =
    let c = path_counts_text r in
    let d = c ++ codes " label " in
    let e = d ++ decimal r.label in
    let f = e ++ codes " trace " in
    let g = f ++ trace_word_text r.trace in
    omega (
      arith,
      length-append g (codes "\n"),
      length-append f (trace_word_text r.trace),
      length-append e (codes " trace "),
      length-append d (decimal r.label),
      length-append c
          (codes " label "),
      short-counts r hv hb,
      short-word r.trace,
      digits_32 r.label hl,
    )

pub short-watch_line : (name : List ℕ) (end : End) (delivered : Delivered) (r : PathReport) → length name ≤ 16 → r.vcs < 2 ^ 32
    → r.b3 < 2 ^ 32 → r.label < 2 ^ 32 → length (watch_line name end (shown delivered r)) ≤ 96
short-watch_line name end Ais r hn hv hb hl = omega (arith, length-append (watch_named name end) (codes " ais\n"), length-named name end)
short-watch_line name end (Chunk bytes) r hn hv hb hl =
    omega (arith, length-append (watch_named name end) (path_report_text r), length-named name end, short-report r hv hb hl)
