-- Legs that no hypot below a number has. Only what functions below the entry points promise each other: no answer is defined by it.
use Rattle.std.specs.Prelude.{false, ◌≡◌, T, Float}
use Rattle.std.specs.Float.{binary64}
use Rattle.std.specs.Float.Ieee.{fits}
use Rattle.arith.specs.F64.{◌≺◌}
use Rattle.arith.specs.Num.{abs}
use Rattle.arith.specs.roots.Roots.{hypot}

-- x is at least so long, or a NaN
abbrev pub Reaches : Float → Float → Type 0
Reaches least x = (abs x ≺ least) ≡ false

-- no legs at least as long as z and r have a hypot below this
abbrev pub Hopeless : Float → Float → Float → Type 0
Hopeless z r least =
    (x y : Float) → T (fits binary64 x) → T (fits binary64 y) → Reaches z x → Reaches r y → (hypot binary64 x y ≺ least) ≡ false
