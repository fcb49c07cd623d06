-- What the words ask of a program that does one thing alone.
use Rattle.std.proofs.Common.{◌≡◌, ℕ, Bool, true, List, Some, None, ap}
use Rattle.std.specs.Prelude.{if◌then◌else◌, Option}
use Rattle.sdh_shell.specs.Calls.{is_run, asked_to_run}

abbrev choice : Bool → Option (Unit {0})
choice run = if run then Some tt else None

pub is_asked : (words : List (List ℕ)) → is_run words ≡ true → asked_to_run words ≡ Some tt
is_asked words run = ap choice run
