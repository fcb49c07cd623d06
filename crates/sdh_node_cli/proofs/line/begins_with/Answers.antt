use Rattle.std.proofs.Common.{◌++◌, length, drop, ap, sym, ◌∙◌, take-append-drop}
use Rattle.std.proofs.lemmas.Slice.Eq.{bytes_eq-Decides}
use Rattle.sdh_node_cli.proofs.line.begins_with.Goals as goal

pub returns-then-bytes-word : goal.returns-then-bytes-word
returns-then-bytes-word c = λ e.
    let bytes = c.args.bytes.now in
    let word = c.args.word.now in
    sym (take-append-drop (length word) bytes)
    ∙ ap (λ l. l ++ drop (length word) bytes) ((bytes_eq-Decides _ word).0 (sym c.eq.ensures ∙ e))
