-- An error that `?` hands on.
use mathlib.Core.Path.{◌≡◌, ap}
use Rattle.std.specs.Prelude.{Result, Ok, Err}
use Rattle.std.specs.Result.{IsErr, IsErrAnd}

pub handed_on : {A E : Type 0} {e : E} (r : Result A E) → IsErr r × IsErrAnd r (λ (y : E). y ≡ e) → r ≡ Err e
handed_on (Ok a) h = absurd h.1
handed_on (Err y) h = ap Err h.1
