-- The calls whose bodies C gives as kinds and numbers: the numbers of the lists, before all else; then the call's own order.
use Rattle.std.specs.Prelude.{ℕ, Bool, List, Float, length}
use Rattle.arith.specs.declared.vector.Vec3.{Vec3}
use Rattle.section.specs.profile.Refusals.{refusal}
use Rattle.section.specs.profile.Replies.{Reply}
use Rattle.walk.specs.declared.settings.shapes.Settings.{Settings}
use Rattle.bodies.specs.assemblies.Assemblies.{any_hit}
use Rattle.bodies.specs.pairs.Pairs.{Won, pair_answer}
use Rattle.bodies.specs.moves.Moves.{move_answer}
use Rattle.bodies.specs.declared.moves.shapes.Report.{Report}
use Rattle.bodies.specs.declared.moves.shapes.Travel.{Travel}
use Rattle.capi.specs.lists.Lists.{one_body_tests, lists_tests, body_at, bodies_of}
use Rattle.capi.specs.handing.Interface.{or_else_reply}

unfoldable pub any_hit_of : List Float → List ℕ → List Float → Float → Reply Bool
any_hit_of s kinds numbers clearance =
    or_else_reply (refusal (lists_tests kinds numbers)) (any_hit s (bodies_of kinds numbers) (length kinds) clearance)

unfoldable pub pair_of : List Float → List Float → ℕ → List Float → Reply Won
pair_of chuck work kind numbers =
    or_else_reply (refusal (one_body_tests kind numbers)) (pair_answer chuck work (body_at kind numbers 0))

abbrev pub travel : Vec3 → Vec3 → ℕ → Travel
travel start end steps = record { start = start; end = end; steps = steps }

unfoldable pub move_of : List Float → ℕ → List Float → Float → Travel → Settings → Reply Report
move_of s kind numbers clearance v t =
    or_else_reply (refusal (one_body_tests kind numbers)) (move_answer s (body_at kind numbers 0) clearance v t)
