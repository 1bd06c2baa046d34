-- What the functions below the entry points compute on the way to the refusals.
use Rattle.std.specs.Prelude.{ℕ, Bool, true, false, cond, not, ◌&&◌, List, [], ◌∷◌, ◌≡◌, T, eqb, ltb, Float}
use Rattle.std.specs.Float.Ieee.{neg}
use Rattle.arith.specs.F64.{◌≺◌, ◌≼◌, e_9, limit}
use Rattle.arith.specs.Num.{abs}
use Rattle.section.specs.profile.Refusals.{Test, any_below_axis, any_of, refusal}

-- the first number, or the second where the first is 0
abbrev pub or_else : ℕ → ℕ → ℕ
or_else a b = cond (eqb a 0) b a

-- over the limit, infinite or a NaN: number 4 or 5
abbrev pub beyond_limit : Float → Bool
beyond_limit x = not (abs x ≼ limit)

-- every number is above 0
abbrev pub numbered : List Test → Bool
numbered [] = true
numbered (t ∷ ts) = ltb 0 t.number && numbered ts

-- r is the number of a call's tests, whichever tests of its settings had the number n
abbrev pub WithSettings : ℕ → (List Test → List Test) → ℕ → Type 0
WithSettings n tests r = (settings : List Test) → T (numbered settings) → n ≡ refusal settings → r ≡ refusal (tests settings)

-- none of 4, 5 and 6 applies to a vertex
pub record VertexFine (z r : Float) : Type 0 where
  pub z_within : beyond_limit z ≡ false
  pub r_within : beyond_limit r ≡ false
  pub over : (r ≺ neg e_9) ≡ false

-- nor to a section
pub record SectionFine (s : List Float) : Type 0 where
  pub within : any_of beyond_limit s ≡ false
  pub over : any_below_axis s ≡ false

-- nor to a section, a body's numbers and more
pub record NumbersFine (s numbers extra : List Float) : Type 0 where
  pub section : SectionFine s
  pub numbers_within : any_of beyond_limit numbers ≡ false
  pub extra_within : any_of beyond_limit extra ≡ false
