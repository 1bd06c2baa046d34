-- IEEE 754's operations at binary64, each rounded once, and the constants of document 01.
use Rattle.std.specs.Prelude.{Bool, false, from_bits, Float}
use Rattle.std.specs.Float.{inf, binary64}
use Rattle.std.specs.Float.Ieee.{add, sub, mul, div, lt, le}

infixl 65 ◌⊕◌
infixl 65 ◌⊖◌
infixl 70 ◌⊗◌
infixl 70 ◌⊘◌
infix 50 ◌≺◌
infix 50 ◌≼◌
abbrev pub ◌⊕◌ : Float → Float → Float
◌⊕◌ = add binary64

abbrev pub ◌⊖◌ : Float → Float → Float
◌⊖◌ = sub binary64

abbrev pub ◌⊗◌ : Float → Float → Float
◌⊗◌ = mul binary64

abbrev pub ◌⊘◌ : Float → Float → Float
◌⊘◌ = div binary64

-- less, and less or equal: false where a NaN stands; zeros of both signs are equal
abbrev pub ◌≺◌ : Float → Float → Bool
◌≺◌ = lt

abbrev pub ◌≼◌ : Float → Float → Bool
◌≼◌ = le

abbrev pub 𝟘 : Float
𝟘 = from_bits binary64 0x0

abbrev pub 𝟙 : Float
𝟙 = from_bits binary64 0x3ff0000000000000

abbrev pub ½ : Float
½ = from_bits binary64 0x3fe0000000000000

abbrev pub ∞ : Float
∞ = inf false

-- e_9 is 01's 1e-9, the f64 nearest 10 ^ -9, and so on: shown in proofs/Laws/Constants
abbrev pub e_8 : Float
e_8 = from_bits binary64 0x3e45798ee2308c3a

abbrev pub e_9 : Float
e_9 = from_bits binary64 0x3e112e0be826d695

abbrev pub e_12 : Float
e_12 = from_bits binary64 0x3d719799812dea11

abbrev pub e_15 : Float
e_15 = from_bits binary64 0x3cd203af9ee75616

abbrev pub e_18 : Float
e_18 = from_bits binary64 0x3c32725dd1d243ac

abbrev pub e_24 : Float
e_24 = from_bits binary64 0x3af357c299a88ea7

-- 01's limit, 1,048,576 mm
abbrev pub limit : Float
limit = from_bits binary64 0x4130000000000000
