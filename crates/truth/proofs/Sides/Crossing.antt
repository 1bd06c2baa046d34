-- THE CROSSING LEMMA: between two rational points of which the section holds one, there is a point of an edge; and so some point
-- of an edge is no farther from the first than the second is.
use Prim.Native.Nat.{ℕ, ◌+◌, ◌-◌, ◌*◌, ◌<◌, ◌≤◌}
use mathlib.Core.List.{List}
use mathlib.Core.Logic.{inl, inr, ◌⊎◌}
use mathlib.Core.Path.{◌≡◌, ap, sym}
use native.Mathlib.Nat.{le_of_lt}
use native.Mathlib.Omega.{arith}
use lib.Ieee.{Float, unlike}
use Rattle.arith.proofs.roots.Numbers.{decide}
use Rattle.section.specs.profile.Vertices.{count, end_at, next, vertex_at}
use Rattle.truth.specs.Exact.{place}
use Rattle.truth.specs.Solid.{exact_crosses, exact_inside}
use Rattle.truth.proofs.Sides.Meet.{Meets}
use Rattle.truth.proofs.Sides.Parity.{all_or, edge_parity, round, seen_at}

-- ---- the segment the other way round
pub backwards : (z r z' r' az ar bz br : ℕ) → Meets z' r' z r az ar bz br → Meets z r z' r' az ar bz br
backwards z r z' r' az ar bz br m =
    go m.i m.j m.k (m.i + m.j - m.k) (let l = m.most in omega arith) m.some m.same_z m.same_r
  where
    go : (i j k l : ℕ) → i + j ≡ k + l → 0 < i + j → j * az + i * bz + k * z' ≡ (i + j) * z' + k * z
        → j * ar + i * br + k * r' ≡ (i + j) * r' + k * r
        → Meets z r z' r' az ar bz br
    go i j k l e s f g = record {
      i = i;
      j = j;
      k = l;
      some = s;
      most = omega arith;
      same_z = along (j * az + i * bz) z z' f;
      same_r = along (j * ar + i * br) r r' g;
    }
      where
        along : (x y y' : ℕ) → x + k * y' ≡ (i + j) * y' + k * y → x + l * y ≡ (i + j) * y + l * y'
        along x y y' h = omega (arith, ap (λ t. t * y) e, ap (λ t. t * y') e)

-- ---- edge k of the section has a point on the segment from p to q, and an end above the lower of the two
pub record Crossed (s : List Float) (n z r z' r' : ℕ) : Type 0 where
  pub edge : ℕ
  pub below : edge < count s
  pub meets : Meets z r z' r' (n * place (vertex_at s edge).z) (n * place (vertex_at s edge).r) (n * place (end_at s edge).z)
      (n * place (end_at s edge).r)
  pub higher : ((r < n * place (vertex_at s edge).r) ⊎ (r < n * place (end_at s edge).r))
      ⊎ ((r' < n * place (vertex_at s edge).r) ⊎ (r' < n * place (end_at s edge).r))

module _ (s : List Float) (n : ℕ) where
  abbrev az : ℕ → ℕ
  az k = n * place (vertex_at s k).z

  abbrev ar : ℕ → ℕ
  ar k = n * place (vertex_at s k).r

  upwards : (z r z' r' : ℕ) → r ≤ r'
      → ((k : ℕ) × (k < count s)
      × (Meets z r z' r' (az k) (ar k) (az (next (count s) k)) (ar (next (count s) k))
      × ((r < ar k) ⊎ (r < ar (next (count s) k)))))
      ⊎ (exact_inside s n z r ≡ exact_inside s n z' r')
  unfolding exact_inside
  upwards z r z' r' D = elim (all_or _ Same (count s) (λ k l. one k)) [
    | inl x ↦ inl x
    | inr f ↦ inr
        (round (λ k. exact_crosses n z r (vertex_at s k) (end_at s k)) (λ k. exact_crosses n z' r' (vertex_at s k) (end_at s k))
        (λ k. seen_at z r z' r' D (az k) (ar k)) (count s) f)
  ]
    where
      Same : ℕ → Type 0
      Same k = unlike (exact_crosses n z r (vertex_at s k) (end_at s k)) (exact_crosses n z' r' (vertex_at s k) (end_at s k))
          ≡ unlike (seen_at z r z' r' D (az k) (ar k)) (seen_at z r z' r' D (az (next (count s) k)) (ar (next (count s) k)))

      one : (k : ℕ)
          → (Meets z r z' r' (az k) (ar k) (az (next (count s) k)) (ar (next (count s) k))
          × ((r < ar k) ⊎ (r < ar (next (count s) k)))) ⊎ Same k
      one k = unfold exact_crosses in edge_parity z r z' r' D (az k) (ar k) (az (next (count s) k)) (ar (next (count s) k))

  pub crossing_lemma : (z r z' r' : ℕ) → Crossed s n z r z' r' ⊎ (exact_inside s n z r ≡ exact_inside s n z' r')
  crossing_lemma z r z' r' = elim (decide r r') [
    | inl D ↦ elim (upwards z r z' r' D) [
      | inl x ↦ inl (record { edge = x.0; below = x.1; meets = x.2.0; higher = inl x.2.1 })
      | inr e ↦ inr e
    ]
    | inr D ↦ elim (upwards z' r' z r (le_of_lt D)) [
      | inl x ↦ inl (record { edge = x.0; below = x.1; meets = backwards z r z' r' _ _ _ _ x.2.0; higher = inr x.2.1 })
      | inr e ↦ inr (sym e)
    ]
  ]
