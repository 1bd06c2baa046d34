-- `arith::hypotenuse::is_infinite` meets its contract: by what a value is.
use Rattle.std.proofs.Common.{◌≡◌, Bool, true, false, sym, refl}
use Rattle.std.proofs.lemmas.Bool.{true≢false}
use Rattle.std.specs.Float.{float_is_infinite}
use lib.Ieee.{binary64, Float, eq, fin, inf, nan, of_bits}
use Rattle.arith.proofs.roots.Root.HypotCore.{infinity}
use Rattle.arith.proofs.hypotenuse.is_infinite.Goals as goal

is_first : (x : Float) → eq x (inf false) ≡ true → eq x (inf false) ≡ float_is_infinite x
unfolding float_is_infinite eq
is_first (inf s) h = h
is_first nan h = absurd (true≢false (sym h))
is_first (fin s m e) h = absurd (true≢false (sym h))

is_second : (x : Float) → eq x (inf false) ≡ false → eq x (inf true) ≡ float_is_infinite x
unfolding float_is_infinite eq
is_second (inf true) h = refl
is_second (inf false) h = absurd (true≢false h)
is_second nan h = refl
is_second (fin s m e) h = refl

lower : of_bits binary64 18442240474082181120 ≡ inf true
unfolding of_bits
lower = refl

pub returns-then-x : goal.returns-then-x
returns-then-x c = let h = rw infinity at c.if-x.true in rw infinity (is_first _ h)

pub returns-else-x : goal.returns-else-x
returns-else-x c = let h = rw infinity at c.if-x.false in rw lower (is_second _ h)
