-- The number of each status. The numbers are this project's own.
use Rattle.std.specs.Prelude.{ℕ}
use Rattle.sdh_status.specs.declared.Status.{Status}
use Rattle.sdh_status.specs.declared.Status.TheVariants as status

-- the number of a status, with which the program ends
abbrev pub number_of : Status → ℕ
number_of status.Ok = 0
number_of status.Usage = 2
number_of status.ReadFault = 3
number_of status.WriteFault = 4
number_of status.NotToml = 5
number_of (status.BadPlan reason place) = 6
number_of (status.Unsettled k) = 7
number_of status.PlantFault = 8
number_of status.TooLong = 9
number_of status.NoSuchPort = 10
number_of status.Memory = 70
