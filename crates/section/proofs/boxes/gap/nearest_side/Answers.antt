-- `section::boxes::gap::nearest_side` meets its contract.
use Rattle.section.specs.profile.Vertices.{upto}
use Rattle.section.proofs.boxes.Passed.{first_side, high_side, last_side, low_side}
use Rattle.section.proofs.boxes.gap.nearest_side.Goals as goal

pub nearer_side-first-requires : goal.nearer_side-first-requires
nearer_side-first-requires c =
    low_side _ _ c.requires.1 c.args.sided.known c.requires.0

pub nearer_side-second-requires : goal.nearer_side-second-requires
nearer_side-second-requires c =
    last_side _ _ c.requires.1 c.args.sided.known c.requires.0

pub nearer_side-third-requires : goal.nearer_side-third-requires
nearer_side-third-requires c =
    high_side _ _ c.requires.1 c.args.sided.known c.requires.0

pub nearer_side-requires : goal.nearer_side-requires
nearer_side-requires c =
    first_side _ _ c.requires.1 c.args.sided.known c.requires.0

pub returns : goal.returns
unfolding upto
returns c =
    rw (
      ← c.nearer_side-first.ensures,
      ← c.nearer_side-second.ensures,
      ← c.nearer_side-third.ensures,
      ← c.nearer_side.ensures,
    )
