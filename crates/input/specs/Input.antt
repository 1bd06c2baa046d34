-- Bytes that are read into a lent buffer, behind those that came before.
use Rattle.std.specs.Prelude.{ℕ, ◌≤◌, List, Option}
use Rattle.std.specs.Io.KnownBytes.{Consumes}
use Rattle.listings.specs.store_listing.Steps.{Written}

-- Some bytes came behind the first n, and r counts all. The new ones stand at place n, as far as the buffer reaches;
-- all else is as it was. They are the next ones of what the reader had, where that is known, and it has the rest left.
pub record ReadsOn (before : List ℕ) (n : ℕ) (after : List ℕ) (r : ℕ) (had left : Option (List ℕ)) : Type 0 where
  pub came : List ℕ
  pub kept : Written before n came after r
  pub taken : Consumes had left came

-- the same of one piece, with which there are `most` at most
pub record ReadsPiece (before : List ℕ) (n most : ℕ) (after : List ℕ) (r : ℕ) (had left : Option (List ℕ)) : Type 0 where
  pub piece : ReadsOn before n after r had left
  pub few : r ≤ most
