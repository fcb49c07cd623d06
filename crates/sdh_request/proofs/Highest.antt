-- Facts about the highest code that applies, for callers that hand it to a node's rules.
use Rattle.std.proofs.Common.{◌≢◌, ◌≤◌, Bool, true, false, arith}
use Rattle.sdh_ringmap.specs.Requests.{code_number}
use Rattle.sdh_ringmap.specs.declared.terms.Code.TheVariants.{Rr}
use Rattle.sdh_request.specs.declared.Defect.{Defect}
use Rattle.sdh_request.specs.declared.Defect.TheVariants.{None, Sd, Sf}
use Rattle.sdh_request.specs.declared.Command.{Command}
use Rattle.sdh_request.specs.declared.Command.TheVariants.{Clear, Forced, Manual}
use Rattle.sdh_request.specs.Requests.{highest_code}

-- a reverse request is no local request
pub never_rr : (c : Command) (d : Defect) (w : Bool) → highest_code c d w ≢ Rr
never_rr Forced None w e = cc
never_rr Forced Sd w e = cc
never_rr Forced Sf w e = cc
never_rr Manual None w e = cc
never_rr Manual Sd w e = cc
never_rr Manual Sf w e = cc
never_rr Clear Sd w e = cc
never_rr Clear Sf w e = cc
never_rr Clear None true e = cc
never_rr Clear None false e = cc

-- a side that fails asks for at least SF
pub at_least_sf : (c : Command) (w : Bool) → 11 ≤ code_number (highest_code c Sf w)
at_least_sf Forced w = omega arith
at_least_sf Manual w = omega arith
at_least_sf Clear w = omega arith
