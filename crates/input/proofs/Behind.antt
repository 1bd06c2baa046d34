-- What is read behind what was read before.
use Prim.Native.Nat.{ℕ, ◌+◌, ◌≤◌}
use native.Mathlib.Omega.{arith}
use mathlib.Core.List.{List, [], ◌++◌}
use mathlib.Core.Path.{◌≡◌, sym, ap, ◌∙◌}
use lib.ListN.{length, take}
use lib.Seq.{sets, length-take-le}
use Rattle.std.specs.Prelude.{Option, None, Some}
use Rattle.std.specs.Io.KnownBytes.{Consumes, Keeps}
use Rattle.std.proofs.Common.{append_assoc}
use Rattle.listings.proofs.store_listing.Writing.{nothing_written, then}
use Rattle.input.specs.Input.{ReadsOn, ReadsPiece}

keeps_nothing : (had left : Option (List ℕ)) → Keeps had left → Consumes had left []
keeps_nothing None left h = tt
keeps_nothing (Some xs) None h = elim h [ ]
keeps_nothing (Some xs) (Some ys) h = sym h

takes_more :
    (had mid left : Option (List ℕ)) (a b : List ℕ) → Consumes had mid a → Consumes mid left b → Consumes had left (a ++ b)
takes_more None mid left a b h k = tt
takes_more (Some xs) None left a b h k = elim h [ ]
takes_more (Some xs) (Some ys) None a b h k = elim k [ ]
takes_more (Some xs) (Some ys) (Some zs) a b h k =
    h ∙ ap (λ (l : List ℕ). a ++ l) k ∙ sym (append_assoc a b zs)

pub nothing_read :
    {had left : Option (List ℕ)} (l : List ℕ) (n : ℕ) → Keeps had left → ReadsOn l n l n had left
nothing_read {had} {left} l n h =
    record { came = []; kept = nothing_written l n; taken = keeps_nothing had left h }

pub reads_more :
    {before mid after : List ℕ} {n m r : ℕ} {had between left : Option (List ℕ)} → ReadsOn before n mid m had between
    → ReadsOn mid m after r between left → ReadsOn before n after r had left
reads_more {had = had} {between = between} {left = left} first next =
    record {
      came = first.came ++ next.came;
      kept = then first.kept next.kept;
      taken = takes_more had between left first.came next.came first.taken next.taken;
    }

-- one read brought the first n of the piece
pub piece_read :
    {before after : List ℕ} {from most : ℕ} {had left : Option (List ℕ)} (piece : List ℕ) (n : ℕ) → n ≤ length piece
    → after ≡ sets before from (take n piece) → Consumes had left (take n piece) → from + n ≤ most
    → ReadsPiece before from most after (from + n) had left
piece_read piece n within kept taken few =
    record {
      piece =
          record {
            came = take n piece;
            kept = record { text = kept; end = omega (arith, length-take-le n piece within) };
            taken = taken;
          };
      few = few;
    }
