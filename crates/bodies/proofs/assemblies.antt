-- The loops over the front of an array of bodies; what an assembly that is not turned down was given; the answer and the single
-- verdicts; the first bad body; what stands behind the count.
pub mod Front
pub mod Taken
pub mod Single
pub mod Answer
pub mod FirstBad
pub mod Behind
