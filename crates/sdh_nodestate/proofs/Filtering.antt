-- A word that is heard is the last one that came.
use Rattle.std.proofs.Common.{◌≡◌, Bool, true, false, Option, Some, None}
use Rattle.std.specs.Prelude.{◌&&◌, if◌then◌else◌}
use Rattle.sdh_kbytes.specs.declared.K.{K}
use Rattle.sdh_kbytes.specs.Same.{agrees}
use Rattle.sdh_nodestate.specs.Filtering.{Brought, hears, heard_of}

first : (b : Bool) (a k : K) → (if b then Some a else None) ≡ Some k → Some a ≡ Some k
first true a k e = e
first false a k e = cc

last_of : (x y z : Option K) (k : K) → heard_of x y z ≡ Some k → x ≡ Some k
last_of None y z k e = cc
last_of (Some a) None z k e = cc
last_of (Some a) (Some b) None k e = cc
last_of (Some a) (Some b) (Some c) k e = first (agrees a b && agrees a c) a k e

pub heard_last : (b : Brought) (k : K) → hears b ≡ Some k → b.last ≡ Some k
heard_last b k e = last_of b.last b.second b.third k e
