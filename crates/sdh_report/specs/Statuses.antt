-- The last lines of texts, by how the program ends. They are this project's own.
use Rattle.std.specs.Prelude.{ℕ, List, [], ◌++◌, codes, decimal}
use Rattle.sdh_status.specs.declared.Status.{Status}
use Rattle.sdh_status.specs.declared.Status.TheVariants as status
use Rattle.sdh_report.specs.Lines.{own_line}

-- how `sdhring` is called, which is its answer to words that are none of its commands
abbrev pub usage : List ℕ
usage = codes "usage: sdhring run, check, drop NAME END, big NUMBER"

-- the last line of the text that goes with a status of `sdhring`; there is none after a write fault and where memory ran
-- out
abbrev pub last_line : Status → List ℕ
last_line status.Ok = own_line (codes "done")
last_line status.Usage = own_line usage
last_line status.ReadFault = own_line (codes "read fault")
last_line status.WriteFault = []
last_line status.NotToml = own_line (codes "not toml")
last_line (status.BadPlan reason place) = codes "bad plan " ++ decimal reason ++ codes " at " ++ decimal place ++ codes "\n"
last_line (status.Unsettled k) = codes "unsettled " ++ decimal k ++ codes "\n"
last_line status.PlantFault = own_line (codes "plant fault")
last_line status.TooLong = own_line (codes "too long")
last_line status.NoSuchPort = own_line (codes "no such port")
last_line status.Memory = []
