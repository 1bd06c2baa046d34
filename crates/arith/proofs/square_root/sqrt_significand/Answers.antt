-- `arith::square_root::sqrt_significand`. The bisection's candidate; the radicand is even and the midpoint's square odd, so that there is no tie.
use Rattle.std.proofs.Common.{◌≡◌, ℕ, ◌+◌, ◌-◌, ◌*◌, ◌^◌, ◌<◌, sym, subst, arith}
use Rattle.arith.specs.roots.Steps.{NearestHalf, RoundsUpAt, RoundsDownAt, RoundsUp, RoundsDown, Rounded}
use Rattle.arith.proofs.square_root.sqrt_significand.Goals as goal

-- 4 * N is even and the midpoint's square odd, so the two are never equal
exact : (m j : ℕ) → j + 1 < 2 ^ 53 → RoundsUpAt (m * 2 ^ 54) 0 j (2 * j + 1)
    → RoundsDownAt (m * 2 ^ 54) 0 (j + 1) (2 * (j + 1) + 1) → NearestHalf (m * 2 ^ 54) (j + 1)
exact m j h u d = record { over = omega arith; under = omega arith }

at : (m j : ℕ) → j + 1 < 2 ^ 53 → RoundsUp (m * 2 ^ 54) 0 j → RoundsDown (m * 2 ^ 54) 0 (j + 1)
    → NearestHalf (m * 2 ^ 54) (j + 1)
at m j h u d = exact m j h (u.low (omega arith)) (d.low h)

found : {z r : ℕ} (m : ℕ) → z ≡ m * 2 ^ 54 → Rounded z 0 (2 ^ 52 - 1) (2 ^ 53 - 1) r → NearestHalf (m * 2 ^ 54) r
found {z} {r} m e h =
    let f : (r - 1) + 1 ≡ r = omega arith in
    let k = subst (λ (x : ℕ). Rounded x 0 (2 ^ 52 - 1) (2 ^ 53 - 1) r) e h in
    subst (λ (x : ℕ). NearestHalf (m * 2 ^ 54) x) f
    (at m (r - 1) (omega arith) k.up (subst (λ (x : ℕ). RoundsDown (m * 2 ^ 54) 0 x) (sym f) k.down))

pub returns : goal.returns
returns c = found c.args.m c.widened.ensures c.bisect.ensures
