-- The closest point of a segment, and of two, does not see the sign of a zero: what divides is over 1e-24 or 1e-18, so no zero.
use mathlib.Core.Bool.{Bool, cond, false, not, true}
use mathlib.Core.Path.{refl, subst, ◌≡◌}
use lib.Dec.{T, T_not}
use lib.Ieee.{binary64, fin, Float, neg, of_bits}
use lib.IntN.{ℤ}
use Rattle.arith.specs.F64.{◌⊕◌, ◌⊖◌, ◌⊗◌, ◌⊘◌, ◌≺◌, ◌≼◌, 𝟘, 𝟙, e_18, e_24}
use Rattle.arith.specs.Num.{abs}
use Rattle.section.specs.declared.profile.shapes.Vertex.{Vertex}
use Rattle.section.specs.declared.profile.shapes.Edge.{Edge}
use Rattle.section.specs.segments.Segments.{along, apart, closest, closest_places, closest_point, dot, minus, places, segments}
use Rattle.section.specs.segments.Segments.{unit_clamp}
use Rattle.section.specs.declared.segments.shapes.Places.{Places}
use Rattle.symmetry.specs.Alike.{Like, LikeHit, same, zeros}
use Rattle.symmetry.proofs.Floats.Like.{like_add, like_div, like_hypot, like_le, like_lt, like_mul, like_neg, like_of}
use Rattle.symmetry.proofs.Floats.Like.{like_sub, not_under_zero, zero_under}
use Rattle.symmetry.proofs.Floats.Signs.{like_abs}
use Rattle.symmetry.proofs.Floats.Written.{equal_add, equal_sub, one}
use Rattle.symmetry.proofs.Floats.Ends.{lt→le}
use Rattle.symmetry.proofs.Section.Shapes.{branch, EqualVertex, LikeVertex, on_like, point_of_lem, same_point_lem}
use Rattle.symmetry.proofs.Section.Shapes.{either, same_vertex}

-- ---- what is over a threshold is no zero
pub over_24 : {x y : Float} → Like x y → T (not (x ≼ e_24)) → x ≡ y
over_24 same h = refl
over_24 (zeros {s} {e}) h =
    absurd (T_not (fin s 0 e ≼ e_24) h (lt→le (fin s 0 e) e_24 (unfold of_bits in zero_under s _ e _)))

e_18_over : (s : Bool) (e : ℤ) → (e_18 ≺ fin s 0 e) ≡ false
unfolding of_bits
e_18_over s e = not_under_zero _ _ s e

pub over_18 : {x y : Float} → Like x y → T (e_18 ≺ abs x) → x ≡ y
over_18 same h = refl
over_18 (zeros {s} {e}) h = absurd (go (fin s 0 e ≺ 𝟘) h)
  where
    go : (b : Bool) → T (e_18 ≺ cond b (neg (fin s 0 e)) (fin s 0 e)) → ⊥
    go true h = subst T (e_18_over (not s) e) (unfold neg in h)
    go false h = subst T (e_18_over s e) h

-- ---- vectors
pub dot_like : {a a' b b' : Vertex} → LikeVertex a a' → LikeVertex b b' → Like (dot a b) (dot a' b')
dot_like A B = like_add binary64 (like_mul binary64 A.z B.z) (like_mul binary64 A.r B.r)

module _ {a a' b b' : Vertex} (A : EqualVertex a a') (B : EqualVertex b b') where
  pub minus_like : LikeVertex (minus a b) (minus a' b')
  minus_like = record { z = equal_sub binary64 A.z B.z; r = equal_sub binary64 A.r B.r }

  pub along_like : {t t' : Float} → Like t t' → LikeVertex (along a b t) (along a' b' t')
  along_like T =
      record {
        z = equal_add binary64 A.z (one (like_mul binary64 (equal_sub binary64 B.z A.z) T));
        r = equal_add binary64 A.r (one (like_mul binary64 (equal_sub binary64 B.r A.r) T));
      }

  pub apart_like : Like (apart a b) (apart a' b')
  apart_like = like_of (like_hypot binary64 (equal_sub binary64 A.z B.z) (equal_sub binary64 A.r B.r))

clamp_like : {t t' : Float} → Like t t' → Like (unit_clamp t) (unit_clamp t')
clamp_like l =
    either Like (like_lt l (same {x = 𝟘})) (λ h. same) (λ h. either Like (like_lt (same {x = 𝟙}) l) (λ k. same) (λ k. l))

-- ---- a point and a segment
point_like : {p p' : Vertex} (a b : Vertex) → EqualVertex p p' → LikeVertex (closest_point p a b) (closest_point p' a b)
unfolding closest_point
point_like a b P =
    let d = minus b a in
    branch LikeVertex (dot d d ≼ e_24) (λ h. same_vertex)
    (λ h. along_like same_point_lem same_point_lem
    (clamp_like (like_div binary64 (dot d d) (dot_like (minus_like P same_point_lem) same_vertex))))

pub closest_like : {p p' : Vertex} (e : Edge) → EqualVertex p p' → LikeHit (closest p e) (closest p' e)
unfolding closest
closest_like e P =
    let at = point_like e.a e.b P in
    record { distance = apart_like P (point_of_lem at); witness = on_like e.number at }

-- ---- two segments
pub record LikePlaces (p q : Places) : Type 0 where
  pub s : Like p.s q.s
  pub t : Like p.t q.t

by_same : {x x' y y' : Float} → Like x x' → y ≡ y' → Like (x ⊘ y) (x' ⊘ y')
by_same {x} {x'} {y} l e = subst (λ (z : Float). Like (x ⊘ y) (x' ⊘ z)) e (like_div binary64 y l)

module _ (a : Float) {b b' c c' e e' f f' : Float}
    (B : Like b b') (C : Like c c') (E : Like e e') (F : Like f f') where
  places_like : LikePlaces (closest_places a b c e f) (closest_places a b' c' e' f')
  unfolding closest_places
  places_like =
      branch LikePlaces (a ≼ e_24)
      (λ g. either LikePlaces small (λ h. record { s = same; t = same })
      (λ h. record { s = same; t = clamp_like (by_same F (over_24 E h)) }))
      (λ g. either LikePlaces small (λ h. first_end)
      (λ h. either LikePlaces (like_lt (t_like h) (same {x = 𝟘})) (λ k. first_end)
      (λ k. either LikePlaces (like_lt (same {x = 𝟙}) (t_like h))
      (λ l. record { s = clamp_like (like_div binary64 a (like_sub binary64 B C)); t = same })
      (λ l. record { s = s_like; t = t_like h }))))
    where
      small : (e ≼ e_24) ≡ (e' ≼ e_24)
      small = like_le E (same {x = e_24})

      den_like : Like (a ⊗ e ⊖ b ⊗ b) (a ⊗ e' ⊖ b' ⊗ b')
      den_like = like_sub binary64 (like_mul binary64 same E) (like_mul binary64 B B)

      s_like : Like (cond (e_18 ≺ abs (a ⊗ e ⊖ b ⊗ b)) (unit_clamp ((b ⊗ f ⊖ c ⊗ e) ⊘ (a ⊗ e ⊖ b ⊗ b))) 𝟘)
          (cond (e_18 ≺ abs (a ⊗ e' ⊖ b' ⊗ b')) (unit_clamp ((b' ⊗ f' ⊖ c' ⊗ e') ⊘ (a ⊗ e' ⊖ b' ⊗ b'))) 𝟘)
      s_like =
          either Like (like_lt (same {x = e_18}) (like_abs den_like))
          (λ h. clamp_like
          (by_same (like_sub binary64 (like_mul binary64 B F) (like_mul binary64 C E)) (over_18 den_like h)))
          (λ h. same)

      t_like : T (not (e ≼ e_24))
          → Like ((b ⊗ (cond (e_18 ≺ abs (a ⊗ e ⊖ b ⊗ b)) (unit_clamp ((b ⊗ f ⊖ c ⊗ e) ⊘ (a ⊗ e ⊖ b ⊗ b))) 𝟘) ⊕ f) ⊘ e)
          ((b' ⊗ (cond (e_18 ≺ abs (a ⊗ e' ⊖ b' ⊗ b')) (unit_clamp ((b' ⊗ f' ⊖ c' ⊗ e') ⊘ (a ⊗ e' ⊖ b' ⊗ b'))) 𝟘) ⊕ f') ⊘ e')
      t_like h = by_same (like_add binary64 (like_mul binary64 B s_like) F) (over_24 E h)

      first_end : LikePlaces (places (unit_clamp (neg c ⊘ a)) 𝟘) (places (unit_clamp (neg c' ⊘ a)) 𝟘)
      first_end = record { s = clamp_like (like_div binary64 a (like_neg C)); t = same }

pub segments_like : (e : Edge) {q q' r r' : Vertex} → EqualVertex q q' → EqualVertex r r'
    → LikeHit (segments e q r) (segments e q' r')
unfolding segments
segments_like e Q R =
    let p = e.a in
    let p'' = e.b in
    let D : LikeVertex (minus p'' p) (minus p'' p) = same_vertex in
    let D' = minus_like R Q in
    let S = minus_like (same_point_lem {v = p}) Q in
    let at = places_like (dot (minus p'' p) (minus p'' p)) (dot_like D D') (dot_like D S) (dot_like D' D') (dot_like D' S) in
    let first = along_like (same_point_lem {v = p}) (same_point_lem {v = p''}) at.s in
    record { distance = apart_like (point_of_lem first) (point_of_lem (along_like Q R at.t)); witness = on_like e.number first }
