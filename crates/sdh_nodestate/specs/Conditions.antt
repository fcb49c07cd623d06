-- What a step of a node requires.
use Rattle.std.specs.Prelude.{◌≡◌, ◌≢◌, ◌<◌, ◌≤◌, true, None, length}
use Rattle.sdh_ringmap.specs.Requests.{code_number}
use Rattle.sdh_ringmap.specs.declared.terms.Code.TheVariants.{Rr}
use Rattle.sdh_nodestate.specs.declared.Needs.{Needs}
use Rattle.sdh_nodestate.specs.Rules.{Scene}

-- needs that a node may have: no local request is a reverse request, and a side that fails asks for at least SF
pub record MayNeed (x : Needs) : Type 0 where
  pub west : x.west ≢ Rr
  pub east : x.east ≢ Rr
  pub west_fails : x.west_fails ≡ true → 11 ≤ code_number x.west
  pub east_fails : x.east_fails ≡ true → 11 ≤ code_number x.east

-- the position is one of the ring, the needs are such as a node may have, and a side that fails hears nothing
pub record MayStep (s : Scene) : Type 0 where
  pub inside : s.at < length s.ids
  pub needs : MayNeed s.needs
  pub west_silent : s.needs.west_fails ≡ true → s.heard.west ≡ None
  pub east_silent : s.needs.east_fails ≡ true → s.heard.east ≡ None
