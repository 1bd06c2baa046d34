-- What the program prints of its input: the store's bytes in one line of lower-case hexadecimal, two digits each, or `refused N`.
use Rattle.std.specs.Prelude.{ℕ, cond, length, eqb}
use mathlib.Core.List.{List, ◌++◌, flat_map}
use Rattle.section.specs.profile.Replies.{Reply, value, turned_down}
use Rattle.store.specs.Bytes.{little_endian}
use Rattle.listings.specs.store_listing.Text.{text, decimal, hex}
use Rattle.loads.specs.Load.{load_answer}

unfoldable pub bytes_line : List ℕ → List ℕ
bytes_line b = flat_map (hex 2) b ++ text "\n"

unfoldable pub refused_line : ℕ → List ℕ
refused_line n = text "refused " ++ decimal n ++ text "\n"

abbrev pub load_text : Reply (List ℕ) → List ℕ
load_text (value b) = bytes_line b
load_text (turned_down n) = refused_line n

-- Seed and vertex count, two little-endian u64, of an input of n bytes that went into a buffer of 16 as far as it reaches. Any
-- other length counts as seed 0.
unfoldable pub seed_of : ℕ → List ℕ → ℕ
seed_of n buffer = cond (eqb n 16) (little_endian 8 buffer 0) 0

unfoldable pub input_text : ℕ → List ℕ → List ℕ
input_text n buffer = load_text (load_answer (seed_of n buffer) (little_endian 8 buffer 8))

-- what the program prints of the whole input
unfoldable pub printed : List ℕ → List ℕ
printed b = input_text (length b) b
