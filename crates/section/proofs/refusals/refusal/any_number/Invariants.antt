-- `section::refusals::refusal::any_number` meets its contract: what is not yet tried decides for the whole list.
use mathlib.Core.Bool.{Bool}
use mathlib.Core.Path.{◌≡◌}
use lib.Ieee.{Float}
use lib.ListN.{drop}
use Rattle.section.specs.profile.Refusals.{any_of}
use Rattle.section.proofs.refusals.refusal.any_number.Given as goal

abbrev pub invariant-loop-x : goal.invariant-loop-x
invariant-loop-x g l =
    (t : Float → Bool) → ((x : Float) (r : Bool) → goal.F-post g l.test x r → r ≡ t x) → any_of t (drop l.x-index l.l) ≡ any_of t l.l
