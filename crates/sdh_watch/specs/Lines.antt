-- The lines of watches. The texts are this project's own.
use Rattle.std.specs.Prelude.{ℕ, List, ◌++◌, codes, decimal, Option, Some, None}
use Rattle.std.specs.List.{flat_map}
use Rattle.sdh_circuits.specs.declared.End.{End}
use Rattle.sdh_report.specs.Lines.{settle_line, end_letter}
use Rattle.sdh_path.specs.declared.watch.PathReport.{PathReport}
use Rattle.sdh_path.specs.declared.watch.TraceWord.{TraceWord}
use Rattle.sdh_path.specs.declared.watch.TraceWord.TheVariants as word
use Rattle.sdh_watch.specs.Shows.{WatchLine, Watched}

-- the word of a line for a trace
abbrev pub trace_word_text : TraceWord → List ℕ
trace_word_text word.Ok = codes "ok"
trace_word_text word.Mismatch = codes "mismatch"
trace_word_text word.Short = codes "short"

-- the start of the line of a watch: the word `watch`, and the name and end of the port that it is on
abbrev pub watch_named : List ℕ → End → List ℕ
watch_named name end = codes "watch " ++ name ++ codes " " ++ end_letter end

-- the number of VC-4s, and the number of bits in which their bytes B3 differ from the parities
abbrev pub path_counts_text : PathReport → List ℕ
path_counts_text r = codes " vcs " ++ decimal r.vcs ++ codes " b3 " ++ decimal r.b3

-- the rest of the line of a watch on a port that delivers bytes
abbrev pub path_report_text : PathReport → List ℕ
path_report_text r = path_counts_text r ++ codes " label " ++ decimal r.label ++ codes " trace " ++ trace_word_text r.trace ++ codes "\n"

-- the line of the watch on the port at an end of the circuit of this name, which shows this
abbrev pub watch_line : List ℕ → End → Option PathReport → List ℕ
watch_line name end None = watch_named name end ++ codes " ais\n"
watch_line name end (Some r) = watch_named name end ++ path_report_text r

abbrev pub told_line : WatchLine → List ℕ
told_line w = watch_line w.name w.end w.shows

-- the line of a settle step, and those of its watches
abbrev pub watched_text : Watched → List ℕ
watched_text r = settle_line r.number r.round ++ flat_map told_line r.watches

-- the lines of all settle steps, one after the other
abbrev pub text_of : List Watched → List ℕ
text_of reports = flat_map watched_text reports
