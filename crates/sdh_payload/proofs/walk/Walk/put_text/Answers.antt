use Rattle.std.proofs.Common.{◌+◌, ◌++◌, ap, length, sym, take, ◌∙◌, arith}
use Rattle.std.proofs.lemmas.Slice.{take-put_mid}
use Rattle.sdh_payload.proofs.walk.Walk.put_text.Goals as goal

pub returns-clause-bytes : goal.returns-clause-bytes
returns-clause-bytes c =
    take-put_mid c.args.done _ c.args.out.now c.copy_from_slice.new.self (c.args.done + c.args.count)
    (ap (λ n. c.args.done + n) (sym (ap length c.copy_from_slice.ensures.after ∙ c.text_run.ensures.count)))
    (omega (arith, c.requires.room)) ∙ ap (λ l. take c.args.done c.args.out.now ++ l)
    (c.copy_from_slice.ensures.after ∙ c.text_run.ensures.bytes)
