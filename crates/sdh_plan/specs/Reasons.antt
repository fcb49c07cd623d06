-- The numbers of the reasons of `Reason` in texts. They are this project's own.
use Rattle.std.specs.Prelude.{ℕ}
use Rattle.sdh_plan.specs.declared.reason.Reason.{Reason}
use Rattle.sdh_plan.specs.declared.reason.Reason.TheVariants as reason

-- the number of a reason
abbrev pub reason_number : Reason → ℕ
reason_number reason.NodeCount = 1
reason_number reason.NodeId = 2
reason_number reason.Repeat = 3
reason_number reason.Slot = 4
reason_number reason.End = 5
reason_number reason.SameEnds = 6
reason_number reason.Offset = 7
reason_number reason.Text = 8
reason_number reason.Overlap = 9
reason_number reason.Name = 10
reason_number reason.Trace = 11
reason_number reason.UnknownKey = 12
reason_number reason.Rate = 13
reason_number reason.Nodes = 14
reason_number reason.Threshold = 15
reason_number reason.Wait = 16
reason_number reason.Limit = 17
reason_number reason.Circuits = 18
reason_number reason.CircuitField = 19
reason_number reason.Script = 20
reason_number reason.ScriptLength = 21
reason_number reason.StepWord = 22
reason_number reason.StepForm = 23
reason_number reason.StepNode = 24
reason_number reason.StepSide = 25
reason_number reason.StepNumber = 26
reason_number reason.MomentBack = 27
reason_number reason.Settles = 28
reason_number reason.LastStep = 29
reason_number reason.SlipPort = 30
reason_number reason.Slips = 31
