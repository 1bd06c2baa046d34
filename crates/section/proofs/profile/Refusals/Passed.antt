-- What a call that is not turned down was given, and that such a call is not turned down. By the laws of tests in order.
use Prim.Native.Nat.{ℕ, ◌≤◌}
use mathlib.Core.Bool.{not}
use mathlib.Core.List.{List, [], ◌∷◌, ◌++◌}
use mathlib.Core.Path.{◌≡◌}
use lib.Dec.{T, nltb→le}
use lib.Ieee.{Float}
use Rattle.section.specs.profile.Vertices.{count}
use Rattle.section.specs.profile.Refusals.{Test, refusal, odd, fewer, more, not_finite, over_limit, shape_tests, number_tests, list_tests}
use Rattle.section.proofs.profile.Each.{All, nil, cons, all_map, all_first, none_found, found_none}
use Rattle.section.specs.profile.Steps.{numbered}
use Rattle.section.proofs.profile.Refusals.Ordered.{Passes, none_applies, all_pass}

-- an even count, and from least to most vertices or points
pub record ShapeTaken (least most : ℕ) (l : List Float) : Type 0 where
  pub even : T (not (odd l))
  pub long : T (not (fewer least l))
  pub short : T (not (more most l))

-- finite, and within the limit
pub record NumberTaken (x : Float) : Type 0 where
  pub finite : T (not (not_finite x))
  pub small : T (not (over_limit x))

pub record Taken (least most : ℕ) (lists : List (List Float)) (given : List Float) (rest : List Test) : Type 0 where
  pub shapes : All (ShapeTaken least most) lists
  pub numbers : All NumberTaken given
  pub rest_passes : All Passes rest

module _ {least most : ℕ} where
  joined : (lists : List (List Float)) → All (λ (l : List Float). T (not (odd l))) lists
      → All (λ (l : List Float). T (not (fewer least l))) lists → All (λ (l : List Float). T (not (more most l))) lists
      → All (ShapeTaken least most) lists
  joined [] nil nil nil = nil
  joined (l ∷ lists) (cons e es) (cons f fs) (cons m ms) =
      cons (record { even = e; long = f; short = m }) (joined lists es fs ms)

taken_numbers : (given : List Float) → All (λ (x : Float). T (not (not_finite x))) given
    → All (λ (x : Float). T (not (over_limit x))) given → All NumberTaken given
taken_numbers [] nil nil = nil
taken_numbers (x ∷ given) (cons p ps) (cons q qs) = cons (record { finite = p; small = q }) (taken_numbers given ps qs)

module _ (least most : ℕ) (lists : List (List Float)) (given : List Float) (rest : List Test) where
  -- the table's first five numbers, then the rest
  abbrev tests : List Test
  tests = (shape_tests least most lists ++ number_tests given) ++ rest

  pub taken : T (numbered rest) → refusal tests ≡ 0 → Taken least most lists given rest
  taken h e = go (none_applies tests h e)
    where
      go : All Passes tests → Taken least most lists given rest
      go (cons a (cons b (cons c (cons d (cons f r))))) =
          record {
            shapes = joined lists (none_found odd lists a) (none_found (fewer least) lists b) (none_found (more most) lists c);
            numbers = taken_numbers given (none_found not_finite given d) (none_found over_limit given f);
            rest_passes = r;
          }

  pub passed : Taken least most lists given rest → refusal tests ≡ 0
  passed t =
      all_pass (cons (found_none odd (all_map (λ l s. s.even) t.shapes))
      (cons (found_none (fewer least) (all_map (λ l s. s.long) t.shapes))
      (cons (found_none (more most) (all_map (λ l s. s.short) t.shapes))
      (cons (found_none not_finite (all_map (λ x n. n.finite) t.numbers))
      (cons (found_none over_limit (all_map (λ x n. n.small) t.numbers))
      t.rest_passes)))))

-- how many points or vertices an accepted list has
pub record Counted (least most : ℕ) (l : List Float) : Type 0 where
  pub enough : least ≤ count l
  pub few : count l ≤ most

pub counted : {least most : ℕ} {l : List Float} {lists : List (List Float)} → All (ShapeTaken least most) (l ∷ lists)
    → Counted least most l
counted {least} {most} {l} (cons t ts) =
    record { enough = nltb→le (count l) least t.long; few = nltb→le most (count l) t.short }

pub list_counted : (least most : ℕ) (l : List Float) → refusal (list_tests least most l) ≡ 0 → Counted least most l
list_counted least most l e = counted (taken least most (l ∷ []) l [] tt e).shapes

-- a section beside a body, with whatever numbers and tests follow
pub section_long : (s given : List Float) (rest : List Test) → T (numbered rest)
    → refusal ((shape_tests 3 256 (s ∷ []) ++ number_tests given) ++ rest) ≡ 0 → 3 ≤ count s
section_long s given rest h e = (counted (taken 3 256 (s ∷ []) given rest h e).shapes).enough

-- two lists
pub convex_long : (c s given : List Float) (rest : List Test) → T (numbered rest)
    → refusal ((shape_tests 3 256 (c ∷ s ∷ []) ++ number_tests given) ++ rest) ≡ 0 → (3 ≤ count c) × (3 ≤ count s)
convex_long c s given rest h e = go (taken 3 256 (c ∷ s ∷ []) given rest h e).shapes
  where
    go : All (ShapeTaken 3 256) (c ∷ s ∷ []) → (3 ≤ count c) × (3 ≤ count s)
    go (cons h t) = (nltb→le (count c) 3 h.long, (counted t).enough)

-- what passes with more numbers passes with fewer
pub fewer_numbers : (lists : List (List Float)) (given extra : List Float) (rest : List Test) → T (numbered rest)
    → refusal ((shape_tests 3 256 lists ++ number_tests (given ++ extra)) ++ rest) ≡ 0
    → refusal ((shape_tests 3 256 lists ++ number_tests given) ++ rest) ≡ 0
fewer_numbers lists given extra rest h e =
    let t = taken 3 256 lists (given ++ extra) rest h e in
    passed 3 256 lists given rest
    (record { shapes = t.shapes; numbers = all_first given extra t.numbers; rest_passes = t.rest_passes })
