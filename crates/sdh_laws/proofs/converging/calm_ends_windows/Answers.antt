use Rattle.sdh_laws.proofs.converging.Windows.{calm_ends_windows}
use Rattle.sdh_laws.proofs.converging.calm_ends_windows.Goals as goal

pub returns : goal.returns
returns c = calm_ends_windows
