use Rattle.std.proofs.Common.{◌≡◌, map, take}
use Rattle.sdh_ringmap.specs.Requests.{code_number}
use Rattle.sdh_restoration.specs.Applied.{highest}
use Rattle.sdh_restoration.proofs.applied.highest.Given as goal

abbrev pub invariant-loop-request : goal.invariant-loop-request
invariant-loop-request l = l.most ≡ highest (map code_number (take l.request-index l.requests))
