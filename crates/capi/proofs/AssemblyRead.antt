-- The call of an assembly from C: the bodies read give the answer of the bodies given, since nothing behind the count, and none
-- of more than 64 bodies, is looked at.
use Prim.Native.Nat.{ℕ}
use mathlib.Core.List.{List}
use mathlib.Core.Path.{◌≡◌, ap, sym, subst, ◌∙◌}
use lib.Ieee.{Float}
use lib.ListN.{length, take}
use Rattle.section.specs.profile.Refusals.{refusal}
use Rattle.section.specs.declared.shapes.Refusal.{Refusal}
use Rattle.section.specs.profile.Numbers.{refusal_number}
use Rattle.section.specs.profile.Replies.{turned_down}
use Rattle.bodies.specs.declared.shapes.Body.{Body}
use Rattle.bodies.specs.assemblies.Assemblies.{any_hit}
use Rattle.bodies.proofs.assemblies.Behind.{behind_unseen, too_many_unseen}
use Rattle.capi.specs.lists.Lists.{lists_tests, bodies_of, front_of}
use Rattle.capi.proofs.lists.Taken.{front_cases}
use Rattle.capi.specs.handing.Interface.{or_else_reply}
use Rattle.capi.proofs.handing.Same.{own_refused}
use Rattle.capi.specs.Calls.{any_hit_of}

module _ (s : List Float) (kinds : List ℕ) (numbers : List Float) (clearance : Float) {n : ℕ}
    (e : n ≡ refusal (lists_tests kinds numbers)) where
  abbrev Read : List Body → ℕ → Type 0
  Read bodies k =
      take k bodies ≡ take k (bodies_of kinds numbers)
      → any_hit s bodies (length kinds) clearance ≡ any_hit_of s kinds numbers clearance

  pub by_bodies : n ≡ 0 → (bodies : List Body) {m : ℕ} → m ≡ front_of (length kinds) → Read bodies m
  unfolding any_hit_of
  by_bodies z bodies f =
      subst
      (Read bodies)
      (sym f)
      (front_cases
      (Read bodies)
      (length kinds)
      (λ h t. too_many_unseen s bodies (bodies_of kinds numbers) (length kinds) clearance h ∙ passed)
      (λ h t. behind_unseen s bodies (bodies_of kinds numbers) (length kinds) clearance t ∙ passed))
    where
      passed : any_hit s (bodies_of kinds numbers) (length kinds) clearance ≡ any_hit_of s kinds numbers clearance
      passed = ap (λ (i : ℕ). or_else_reply i (any_hit s (bodies_of kinds numbers) (length kinds) clearance)) (sym z ∙ e)

pub by_lists : (s : List Float) (kinds : List ℕ) (numbers : List Float) (clearance : Float) (e : Refusal)
    → refusal_number e ≡ refusal (lists_tests kinds numbers) → turned_down (refusal_number e) ≡ any_hit_of s kinds numbers clearance
unfolding any_hit_of
by_lists s kinds numbers clearance e h = (own_refused {P = λ _. Unit {0}} e (any_hit s (bodies_of kinds numbers) (length kinds) clearance) h).equal
