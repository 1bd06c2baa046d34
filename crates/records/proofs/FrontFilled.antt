-- What holds of the array while vertices are copied to its front: at the start, after a turn, and at the end.
use Prim.Native.Nat.{ℕ, ◌+◌, ◌*◌, ◌-◌, ◌<◌, ◌≤◌}
use native.Mathlib.Omega.{arith}
use mathlib.Core.List.{List, [], ◌∷◌, ◌++◌}
use mathlib.Core.Logic.{◌⊎◌, inl, inr}
use mathlib.Core.Path.{◌≡◌, refl, ap, subst, sym}
use lib.ListN.{length, get_or, set, take}
use lib.Seq.{take-length}
use lib.Ieee.{Float}
use Rattle.std.proofs.lemmas.Bool.{cases_lt}
use Rattle.std.proofs.lemmas.Grind.{common_steps}
use Rattle.section.specs.declared.profile.shapes.Vertex.{Vertex}
use Rattle.records.specs.Flattened.{flattened}
use Rattle.records.specs.Steps.{stored}

flattened_snoc : (xs : List Vertex) (v : Vertex) → flattened (xs ++ (v ∷ [])) ≡ flattened xs ++ (v.z ∷ v.r ∷ [])
unfolding flattened
flattened_snoc [] v = refl
flattened_snoc (x ∷ xs) v = ap (λ (l : List Float). x.z ∷ x.r ∷ l) (flattened_snoc xs v)

-- i vertices of xs stand at the front of l, unless there are too many
pub record FrontFilled (xs : List Vertex) (i : ℕ) (l : List Float) : Type 0 where
  pub low : i ≤ length xs
  pub size : length l ≡ 512
  pub front : i ≤ 256 → take (2 * i) l ≡ flattened (take i xs)

pub filled_start : (xs : List Vertex) {l : List Float} → length l ≡ 512 → FrontFilled xs 0 l
unfolding flattened
filled_start xs e = record { low = omega arith; size = e; front = λ h. refl }

two_more : (l : List Float) (i : ℕ) (a b : Float) → 2 * i + 1 < length l
    → take (2 * (i + 1)) (set (set l (2 * i) a) (2 * i + 1) b) ≡ take (2 * i) l ++ (a ∷ b ∷ [])
two_more l i a b h = grind (arith, common_steps)

front_next : {xs : List Vertex} {i : ℕ} {l : List Float} (d : Vertex) → FrontFilled xs i l → i < length xs → i < 256
    → take (2 * (i + 1)) (stored i (get_or xs i d) l) ≡ flattened (take (i + 1) xs)
front_next {xs} {i} {l} d f h k =
    let v : Vertex = get_or xs i d in
    let two = two_more l i v.z v.r (omega (arith, f.size)) in
    let front = f.front (omega arith) in
    grind (arith, common_steps, two, flattened_snoc (take i xs) v, front)

-- a turn, as `put` makes it
pub filled_next : {xs : List Vertex} {i : ℕ} {l m : List Float} (d : Vertex) → FrontFilled xs i l → i < length xs
    → m ≡ stored i (get_or xs i d) l → FrontFilled xs (i + 1) m
filled_next {xs} {i} {l} {m} d f h e =
    record {
      low = omega arith;
      size = grind (arith, common_steps, e, f.size);
      front = λ k. rw e (front_next d f h (omega arith));
    }

-- a later index is nearer to the end
pub nearer : {i n j : ℕ} → i < n → i < j → n - j < n - i
nearer h k = omega arith

-- the front of all vertices is the flattened list
pub front_whole : (xs : List Vertex) (l : List Float) → take (2 * length xs) l ≡ flattened (take (length xs) xs)
    → take (2 * length xs) l ≡ flattened xs
front_whole xs l f = rw take-length at f

-- so at the end the front is that list
pub front_flattened : {xs : List Vertex} {i : ℕ} {l : List Float} → FrontFilled xs i l → length xs ≤ i → length xs ≤ 256
    → take (2 * length xs) l ≡ flattened xs
front_flattened {xs} {i} {l} f h k =
    let e : i ≡ length xs = omega (arith, f.low) in
    let front = rw e at f.front in
    front_whole _ _ (front k)

-- and what is promised on it, and of a refusal where there are more than 256 vertices, is promised on the flattened list
pub answered : {R : Type 0} (P : List Float → R → Type 0) {xs : List Vertex} {i : ℕ} {l : List Float} {refused r : R}
    → FrontFilled xs i l → length xs ≤ i → (256 < length xs → P (flattened xs) refused)
    → (length xs ≤ 256 → P (take (2 * length xs) l) r) → (256 < length xs → r ≡ refused) → P (flattened xs) r
answered {R} P {xs} {l = l} {refused = refused} {r = r} f h three front many = by (cases_lt 256 (length xs))
  where
    by : (256 < length xs) ⊎ (length xs ≤ 256) → P (flattened xs) r
    by (inl k) = subst (λ (x : R). P (flattened xs) x) (sym (many k)) (three k)
    by (inr k) = subst (λ (s : List Float). P s r) (front_flattened f h k) (front k)
