-- What holds of one result, by what holds of others.
use Rattle.std.proofs.Common.{◌≡◌, arith}
use Rattle.std.specs.Prelude.{Result, Ok, Err, IfOk}

pub on_ok : {A E : Type 0} (r : Result A E) (P Q : A → Type 0) → ((a : A) → P a → Q a) → IfOk r P → IfOk r Q
on_ok (Ok a) P Q h x = h a x
on_ok (Err e) P Q h x = x

pub on_two : {A E : Type 0} (r : Result A E) (P Q R : A → Type 0) → ((a : A) → P a → Q a → R a) → IfOk r P → IfOk r Q → IfOk r R
on_two (Ok a) P Q R h x y = h a x y
on_two (Err e) P Q R h x y = x

-- an error that is passed on is that of the call
pub err_as : {T U E : Type 0} (x y : E) (r : Result T E) → r ≡ Err x → ◌≡◌ {A = Result U E} (Err x) (Err y) → r ≡ Err y
err_as x y r is e = grind arith
