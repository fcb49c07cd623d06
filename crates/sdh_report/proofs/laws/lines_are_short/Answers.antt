use Rattle.sdh_report.proofs.Short.{short-settle_line, short-node_line, short-port_line, short-drop_lines, short-table_line}
use Rattle.sdh_report.proofs.Short.{short-count_line}
use Rattle.sdh_report.proofs.laws.lines_are_short.Goals as goal

pub returns : goal.returns
returns c = record {
  settle = short-settle_line;
  node = short-node_line;
  port = short-port_line;
  chunk = short-drop_lines;
  table = short-table_line;
  count = short-count_line;
}
