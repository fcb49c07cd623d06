use Rattle.std.proofs.Common.{sym, ◌∙◌}
use Rattle.sdh_payload.proofs.Texts.{text_few}
use Rattle.sdh_path.proofs.watch.Watch.new.Goals as goal

pub padded-requires : goal.padded-requires
padded-requires c = text_few c.args.trace.now (sym c.is_text.ensures ∙ c.if-not-is_text.false)
