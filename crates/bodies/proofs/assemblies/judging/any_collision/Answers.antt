-- `bodies::assemblies::judging::any_collision` meets its contract: `any` over the bodies is `any_of`.
use mathlib.Core.Bool.{Bool, ◌||◌}
use mathlib.Core.List.{List}
use mathlib.Core.Path.{◌≡◌, refl, ◌∙◌}
use borrow.Author.Rules.{rules}
use Rattle.std.proofs.lemmas.Iterator.{YieldsList-from_slice}
use Rattle.std.proofs.lemmas.Iterator.Search.{any_from_yields_List}
use Rattle.std.proofs.lemmas.List.Recursion.{same_from_clauses}
use Rattle.std.specs.List.{list_any}
use Rattle.section.specs.profile.Refusals.{any_of}
use Rattle.bodies.specs.assemblies.Steps.{own_collision}
use Rattle.bodies.proofs.assemblies.judging.any_collision.Goals as goal

any_is : {A : Type 0} (test : A → Bool) (l : List A) → list_any test l ≡ any_of test l
unfolding any_of
any_is test = same_from_clauses (list_any test) (any_of test) (λ x b. test x || b) refl (λ _ _. refl) (λ _ _. refl)

pub returns : goal.returns
returns c =
    any_from_yields_List (own_collision c.args.section.now c.args.clearance) _ _ c.any.result c.any.ensures.ran
    (YieldsList-from_slice _ cc) (λ x b q k. search rules)
    ∙ any_is (own_collision c.args.section.now c.args.clearance) c.args.bodies.now
