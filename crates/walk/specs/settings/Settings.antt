-- 02's settings of the walk: agreement tolerance from 1e-9 to 1 mm, most boxes from 1 to 8,192, sampling intervals from 1 to 64.
use Rattle.std.specs.Prelude.{ℕ, Bool, not, ◌&&◌, ◌||◌, List, [], ◌∷◌, ltb, Float}
use Rattle.arith.specs.F64.{◌≼◌, 𝟙, e_9}
use Rattle.section.specs.profile.Refusals.{Test, ◌when◌}
use Rattle.walk.specs.declared.settings.shapes.Settings.{Settings}

abbrev pub settings : Float → ℕ → ℕ → Settings
settings tolerance most intervals = record { tolerance = tolerance; most = most; intervals = intervals }

-- document 01's numbers
abbrev pub finest : Settings
finest = settings e_9 8192 16

-- not from least to greatest: a NaN is not, nor an infinity
abbrev pub out_of_range : Float → Float → Float → Bool
out_of_range least greatest x = not ((least ≼ x) && (x ≼ greatest))

abbrev pub outside : ℕ → ℕ → ℕ → Bool
outside least greatest n = ltb n least || ltb greatest n

-- a setting out of range or not finite
abbrev pub settings_tests : Settings → List Test
settings_tests t =
    (18 when (out_of_range e_9 𝟙 t.tolerance || (outside 1 8192 t.most || outside 1 64 t.intervals))) ∷ []
