-- The library's version as one number: of 1.14.4 it is 11,404.
use Rattle.std.specs.Prelude.{ℕ, ◌*◌, ◌+◌}

abbrev pub version : ℕ → ℕ → ℕ → ℕ
version major minor patch = 10000 * major + 100 * minor + patch
