-- The table of what is turned down: the number of each refusal; and the number of a result, 0 where it is a value.
use Rattle.std.specs.Prelude.{ℕ, Result, Ok, Err}
use Rattle.section.specs.declared.shapes.Refusal.{Refusal}
use Rattle.section.specs.declared.shapes.Refusal.TheVariants as refusals

abbrev pub refusal_number : Refusal → ℕ
refusal_number refusals.OddCount = 1
refusal_number refusals.TooFewVertices = 2
refusal_number refusals.TooManyVertices = 3
refusal_number refusals.NotFinite = 4
refusal_number refusals.TooLarge = 5
refusal_number refusals.RadiusBelowAxis = 6
refusal_number refusals.SpaceTooSmall = 7
refusal_number refusals.TooFewKept = 8
refusal_number refusals.NegativeRadius = 9
refusal_number refusals.ReversedBounds = 10
refusal_number refusals.SkewCylinder = 11
refusal_number refusals.StoreLength = 12
refusal_number refusals.BadLink = 13
refusal_number refusals.WrongKind = 14
refusal_number refusals.EmptyStore = 15
refusal_number refusals.TooManyRecords = 16
refusal_number refusals.TooManyBodies = 17
refusal_number refusals.BadSettings = 18
refusal_number refusals.BadSteps = 19
refusal_number refusals.BadSeed = 20
refusal_number refusals.BadLoad = 21
refusal_number refusals.SettersEdit = 22
refusal_number refusals.StoreFull = 23
refusal_number refusals.NoSuchRecord = 24

-- the number that a result is turned down under, 0 where it is a value
abbrev pub refused_by : {A : Type 0} → Result A Refusal → ℕ
refused_by (Ok a) = 0
refused_by (Err e) = refusal_number e
