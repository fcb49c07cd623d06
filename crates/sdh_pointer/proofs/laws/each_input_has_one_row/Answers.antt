use Rattle.sdh_pointer.proofs.Rows.{each_input_has_one_row}
use Rattle.sdh_pointer.proofs.laws.each_input_has_one_row.Goals as goal

pub returns : goal.returns
returns c = each_input_has_one_row
