-- 02's chuck and work together: two sections and a body give the smaller distance; the first section wins an equal one. The
-- winner's witness, counts and mark come with it, and its vertices are handed back.
use Rattle.std.specs.Prelude.{Bool, true, false, cond, Result, List, ◌++◌, Float}
use Rattle.arith.specs.F64.{◌≺◌}
use Rattle.section.specs.declared.shapes.Refusal.{Refusal}
use Rattle.section.specs.profile.Refusals.{Test, refusal, list_tests, axis_tests}
use Rattle.section.specs.profile.Replies.{Reply, value, turned_down, mapped, reply, told as told_of}
use Rattle.section.specs.convex.Convex.{convex_distance}
use Rattle.section.specs.Demand.{Bounded}
use Rattle.walk.specs.settings.Settings.{finest}
use Rattle.walk.specs.declared.shapes.CountedHit.{CountedHit}
use Rattle.bodies.specs.Bodies.{alone_tests, body_distance, boxes_only, BodyPromised}
use Rattle.bodies.specs.declared.shapes.Body.{Body}
use Rattle.bodies.specs.declared.pairs.shapes.Won.{Won as Winner}
use Rattle.bodies.specs.declared.pairs.shapes.Won.TheVariants.{Chuck, Work}

-- whether the work won, and the winner's hit with its counts and mark
pub record Won : Type 0 where
  pub work : Bool
  pub counted : CountedHit

abbrev pub won : Bool → CountedHit → Won
won work counted = record { work = work; counted = counted }

-- what each case stands for
abbrev pub won_by : Winner → Won
won_by (Chuck h) = won false h
won_by (Work h) = won true h

-- what a result stands for
abbrev pub told : Result Winner Refusal → Reply Won
told r = mapped won_by (told_of r)

-- the smaller distance; the chuck wins an equal one
abbrev pub nearer : CountedHit → CountedHit → Won
nearer chuck work = cond (work.hit.distance ≺ chuck.hit.distance) (won true work) (won false chuck)

-- 1 to 6 of one section
abbrev pub one_section_tests : List Float → List Test
one_section_tests s = list_tests 3 256 s ++ axis_tests s

-- both sections before the body, the chuck's list first
abbrev pub pair_tests : List Float → List Float → List Test → List Test
pair_tests chuck work own = one_section_tests chuck ++ (one_section_tests work ++ own)

-- each distance is the one that section gives by itself
unfoldable pub pair_answer : List Float → List Float → Body → Reply Won
pair_answer chuck work b =
    reply (refusal (pair_tests chuck work (alone_tests b))) (nearer (body_distance chuck b finest) (body_distance work b finest))

-- a convex body counts no box, and may lie below the axis
unfoldable pub pair_convex_answer : List Float → List Float → List Float → Reply Won
pair_convex_answer chuck work c =
    reply (refusal (pair_tests chuck work (list_tests 3 256 c)))
    (nearer (boxes_only 0 (convex_distance c chuck)) (boxes_only 0 (convex_distance c work)))

-- of the chuck's and the work's, the winner's
abbrev pub winner : {A : Type 0} → A → A → Won → A
winner chuck work w = cond w.work work chuck

-- the winner's, or none where the call is turned down
abbrev pub handed_back : {A : Type 0} → A → A → A → Reply Won → A
handed_back chuck work none (value w) = winner chuck work w
handed_back chuck work none (turned_down n) = none

-- demands 1 and 3 of the winner's hit beside its own section
abbrev pub PairPromised : List Float → List Float → Body → Won → Type 0
PairPromised chuck work b w = BodyPromised (winner chuck work w) b finest w.counted

abbrev pub PairConvexPromised : List Float → List Float → Won → Type 0
PairConvexPromised chuck work w = Bounded (winner chuck work w) w.counted.hit
