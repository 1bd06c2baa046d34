-- The answer and the single verdicts: where nothing is turned down, each body's own verdict is whether it hits, so that anything
-- hits exactly when some body's own verdict is collision, and nothing does exactly when every body's is clear.
use Prim.Native.Nat.{ℕ}
use mathlib.Core.Bool.{Bool, true, false, not, ◌||◌, or-true}
use mathlib.Core.List.{List, ◌∷◌}
use mathlib.Core.Path.{◌≡◌, refl, ap, sym, subst, ◌∙◌}
use lib.Dec.{T}
use lib.Ieee.{Float}
use lib.ListN.{take}
use Rattle.section.specs.profile.Refusals.{refusal, any_of}
use Rattle.section.specs.profile.Replies.{Reply, value}
use Rattle.section.proofs.profile.Each.{All, nil, cons, all_map}
use Rattle.bodies.specs.declared.shapes.Body.{Body}
use Rattle.bodies.specs.verdicts.Verdicts.{body_verdict}
use Rattle.bodies.specs.assemblies.Assemblies.{hits, hit_tests, any_hit}
use Rattle.bodies.specs.assemblies.Steps.{is_collision, own_collision}
use Rattle.bodies.proofs.assemblies.Taken.{each_taken}

-- an element of the list has it
pub data Some {A : Type 0} (P : A → Type 0) : List A → Type 0 where
  here : {x : A} {xs : List A} → P x → Some P (x ∷ xs)
  later : {x : A} {xs : List A} → Some P xs → Some P (x ∷ xs)

-- ---- replies that are true or false
module _ {a b : Bool} where
  value_same : value a ≡ value b → a ≡ b
  value_same = ap is_collision

-- ---- of a list whose elements each have their own answer
module _ {A : Type 0} (test : A → Bool) (own : A → Reply Bool) where
  abbrev Agrees : A → Type 0
  Agrees x = own x ≡ value (test x)

  any_same : {l : List A} → All Agrees l → any_of (λ (x : A). is_collision (own x)) l ≡ any_of test l
  unfolding any_of
  any_same nil = refl
  any_same (cons p h) = rw (p, any_same h)

  some_true : {l : List A} → All Agrees l → any_of test l ≡ true → Some (λ (x : A). own x ≡ value true) l
  unfolding any_of
  some_true nil e = absurd (subst (λ (b : Bool). T (not b)) e tt)
  some_true (cons {x} {xs} p h) e = go (test x) refl (some_true h) e
    where
      go : (b : Bool) → test x ≡ b → (any_of test xs ≡ true → Some (λ (x : A). own x ≡ value true) xs)
          → (b || any_of test xs) ≡ true → Some (λ (x : A). own x ≡ value true) (x ∷ xs)
      go true q f e = here (p ∙ ap value q)
      go false q f e = later (f e)

  true_some : {l : List A} → All Agrees l → Some (λ (x : A). own x ≡ value true) l → any_of test l ≡ true
  unfolding any_of
  true_some nil x3 = elim x3 [ ]
  true_some (cons p h) (here q) = rw (value_same (sym p ∙ q))
  true_some (cons {x} p h) (later q) = rw (true_some h q, or-true)

  all_false : {l : List A} → All Agrees l → any_of test l ≡ false → All (λ (x : A). own x ≡ value false) l
  unfolding any_of
  all_false nil e = nil
  all_false (cons {x} {xs} p h) e = go (test x) refl (all_false h) e
    where
      go : (b : Bool) → test x ≡ b → (any_of test xs ≡ false → All (λ (x : A). own x ≡ value false) xs)
          → (b || any_of test xs) ≡ false → All (λ (x : A). own x ≡ value false) (x ∷ xs)
      go true q f e = absurd (subst T e tt)
      go false q f e = cons (p ∙ ap value q) (f e)

  false_all : {l : List A} → All Agrees l → All (λ (x : A). own x ≡ value false) l → any_of test l ≡ false
  unfolding any_of
  false_all nil nil = refl
  false_all (cons p h) (cons q k) = rw (value_same (sym p ∙ q), false_all h k)

-- ---- of the bodies of an assembly that is not turned down
module _ (s : List Float) (bodies : List Body) (count : ℕ) (clearance : Float)
    (e : refusal (hit_tests s bodies count clearance) ≡ 0) where
  abbrev own : Body → Reply Bool
  own b = body_verdict s b clearance

  -- each body's own verdict
  pub own_verdicts : All (λ (b : Body). body_verdict s b clearance ≡ value (hits s clearance b)) (take count bodies)
  unfolding body_verdict
  own_verdicts = all_map (λ b z. rw z) (each_taken s count clearance bodies e)

  -- judging by the bodies' own verdicts is judging all of them
  pub by_own_verdicts : any_of (own_collision s clearance) (take count bodies) ≡ any_of (hits s clearance) (take count bodies)
  by_own_verdicts = any_same (hits s clearance) own own_verdicts

  answer : any_hit s bodies count clearance ≡ value (any_of (hits s clearance) (take count bodies))
  unfolding any_hit
  answer = rw e

  -- the answer is collision exactly when some body's own verdict is, and clear exactly when every body's is
  pub collision_some : any_hit s bodies count clearance ≡ value true
      → Some (λ (b : Body). body_verdict s b clearance ≡ value true) (take count bodies)
  collision_some h = some_true (hits s clearance) own own_verdicts (value_same (sym answer ∙ h))

  pub some_collision : Some (λ (b : Body). body_verdict s b clearance ≡ value true) (take count bodies)
      → any_hit s bodies count clearance ≡ value true
  some_collision h = answer ∙ ap value (true_some (hits s clearance) own own_verdicts h)

  pub clear_all : any_hit s bodies count clearance ≡ value false
      → All (λ (b : Body). body_verdict s b clearance ≡ value false) (take count bodies)
  clear_all h = all_false (hits s clearance) own own_verdicts (value_same (sym answer ∙ h))

  pub all_clear : All (λ (b : Body). body_verdict s b clearance ≡ value false) (take count bodies)
      → any_hit s bodies count clearance ≡ value false
  all_clear h = answer ∙ ap value (false_all (hits s clearance) own own_verdicts h)
