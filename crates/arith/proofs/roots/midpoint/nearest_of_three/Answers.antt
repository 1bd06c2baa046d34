-- `arith::roots::midpoint::nearest_of_three`. e counts from the lower end of three stretches of 8 k, one a candidate; less than 8 k - 10
-- of its stretch lies below e, and the 10 at its end leave room for f.
use Rattle.std.proofs.Common.{◌≡◌, ℕ, zero, suc, ◌+◌, ◌-◌, ◌*◌, ◌%◌, ◌^◌, ◌<◌, ◌≤◌, leb, subst, lt_trans, arith, rules}
use Rattle.std.specs.Int.{from_bool}
use Rattle.arith.specs.roots.Steps.{NearestHalf, NearestOfThree}
use Rattle.arith.proofs.roots.midpoint.nearest_of_three.Goals as goal

-- a difference that does not wrap
plain : (a b : ℕ) → (a + (2 ^ 64 - b)) % 2 ^ 64 < 2 ^ 63 → a < 2 ^ 64 → b < 2 ^ 63 → (a + (2 ^ 64 - b)) % 2 ^ 64 + b ≡ a
plain a b h k l = omega arith

-- the three differences as one
joined : (zh zm zl sh sm sl h t e k : ℕ) → h + sh ≡ zh + 0x20000000 → t + (sm + 0xffffffc0000000) ≡ h * 0x8000000 + zm
    → e + (sl + 0x80000000000000a) ≡ t * 0x20000000 + zl + 12 * k → sh * 2 ^ 56 + sm * 2 ^ 29 + sl ≡ 2 * k * (2 * k)
    → e + 4 * (k * k) + 10 ≡ zh * 2 ^ 56 + zm * 2 ^ 29 + zl + 12 * k
joined zh zm zl sh sm sl h t e k a b d s = omega arith

-- e of k's stretches lies in the one that v counts from 0
record Stretch (k e v : ℕ) : Type 0 where
  count : v < 3
  reached : v * (8 * k) ≤ e
  inside : e - v * (8 * k) < 8 * k - 10
  most : e < 24 * k

stretch : (k e u w : ℕ) → u ≡ from_bool (leb (8 * k) e) → w ≡ from_bool (leb (16 * k) e)
    → e - (u + w) * (8 * k) < 8 * k - 10 → Stretch k e (u + w)
stretch k e u w a b h = search rules

near : (z y j e v : ℕ) → e + 4 * ((j + 1) * (j + 1)) + 10 ≡ z + 12 * (j + 1) → Stretch (j + 1) e v → z ≤ y → y ≤ z + 1
    → NearestHalf y (j + v)
near z y j e zero d s a b = let h = s.inside in record { over = omega arith; under = omega arith }
near z y j e (suc zero) d s a b =
    let g = s.reached in
    let h = s.inside in
    record { over = omega arith; under = omega arith }
near z y j e (suc (suc zero)) d s a b =
    let g = s.reached in
    let h = s.inside in
    record { over = omega arith; under = omega arith }
near z y j e (suc (suc (suc v))) d s a b = let h = s.count in absurd (omega arith)

-- with j for k - 1
choice : (z j e v : ℕ) → e + 4 * ((j + 1) * (j + 1)) + 10 ≡ z + 12 * (j + 1) → Stretch (j + 1) e v
    → NearestOfThree z (j + 1) (j + 1 + v - 1)
choice z j e v d s =
    let c = s.count in
    let at : j + v ≡ j + 1 + v - 1 = omega arith in
    record {
      least = omega arith;
      most = omega arith;
      nearest = subst (λ (x : ℕ). NearestHalf z x) at (near z z j e v d s (omega arith) (omega arith));
      nearest_next = subst (λ (x : ℕ). NearestHalf (z + 1) x) at (near z (z + 1) j e v d s (omega arith) (omega arith));
    }

chosen : (z k e v : ℕ) → 0 < k → e + 4 * (k * k) + 10 ≡ z + 12 * k → Stretch k e v → NearestOfThree z k (k + v - 1)
chosen z k e v p = subst
    (λ (x : ℕ). e + 4 * (x * x) + 10 ≡ z + 12 * x → Stretch x e v → NearestOfThree z x (x + v - 1))
    (let f : k - 1 + 1 ≡ k = omega arith in f) (choice z (k - 1) e v)

pub returns-then-rest-k : goal.returns-then-rest-k
returns-then-rest-k c =
    let z = c.args.z in
    let s = c.square-s.result in
    let k = c.args.k in
    let h = (z.h + 0x20000000 + (2 ^ 64 - s.h)) % 2 ^ 64 in
    let t = (h * 0x8000000 + z.m + (2 ^ 64 - (s.m + 0xffffffc0000000))) % 2 ^ 64 in
    let r = stretch _ _ _ _ c.from.ensures c.from-2.ensures c.if-rest-k.true in
    chosen _ _ _ _ (omega arith)
    (joined z.h z.m z.l s.h s.m s.l h t _ k
    (plain (z.h + 0x20000000) s.h (omega arith) (omega arith) (omega arith))
    (plain (h * 0x8000000 + z.m) (s.m + 0xffffffc0000000) (omega arith) (omega arith) (omega arith))
    (plain (t * 0x20000000 + z.l + 12 * k) (s.l + 0x80000000000000a) (lt_trans r.most (omega arith)) (omega arith) (omega arith))
    c.square-s.ensures.value) r
