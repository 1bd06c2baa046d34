-- What settings that are taken are, and that the finest are taken. By the test's own shape.
use Prim.Native.Nat.{ℕ, ◌≤◌}
use mathlib.Core.Bool.{Bool, true, false, not, ◌&&◌, ◌||◌}
use mathlib.Core.Path.{◌≡◌, refl}
use lib.Dec.{T, ltb, nltb→le}
use lib.Ieee.{le, of_bits}
use Rattle.arith.specs.F64.{◌≼◌, 𝟙, e_9}
use Rattle.section.specs.profile.Refusals.{refusal}
use Rattle.section.proofs.profile.Each.{All, cons}
use Rattle.section.proofs.profile.Refusals.Ordered.{Passes, none_applies}
use Rattle.walk.specs.settings.Settings.{finest, settings_tests, outside}
use Rattle.walk.specs.declared.settings.shapes.Settings.{Settings}

pub record SettingsTaken (t : Settings) : Type 0 where
  pub fine : T (e_9 ≼ t.tolerance)
  pub coarse : T (t.tolerance ≼ 𝟙)
  pub some_box : 1 ≤ t.most
  pub boxes : t.most ≤ 8192
  pub some_interval : 1 ≤ t.intervals
  pub samples : t.intervals ≤ 64

within : (least greatest n : ℕ) → T (not (outside least greatest n)) → (least ≤ n) × (n ≤ greatest)
within least greatest n h = go (ltb n least) (ltb greatest n) (nltb→le n least) (nltb→le greatest n) h
  where
    go : (a b : Bool) → (T (not a) → least ≤ n) → (T (not b) → n ≤ greatest) → T (not (a || b)) → (least ≤ n) × (n ≤ greatest)
    go true b p q h = absurd h
    go false true p q h = absurd h
    go false false p q h = (p tt, q tt)

pub settings_taken : (t : Settings) → refusal (settings_tests t) ≡ 0 → SettingsTaken t
settings_taken t e = first (none_applies (settings_tests t) tt e)
  where
    parts : (a b c d : Bool) → T (not (not (a && b) || (c || d))) → (T a × T b) × (T (not c) × T (not d))
    parts true true false false h = ((tt, tt), (tt, tt))
    parts true true false true h = absurd h
    parts true true true d h = absurd h
    parts true false c d h = absurd h
    parts false b c d h = absurd h

    first : All Passes (settings_tests t) → SettingsTaken t
    first (cons p rest) =
        let r = parts (e_9 ≼ t.tolerance) (t.tolerance ≼ 𝟙) (outside 1 8192 t.most) (outside 1 64 t.intervals) p in
        let m = within 1 8192 t.most r.1.0 in
        let n = within 1 64 t.intervals r.1.1 in
        record {
          fine = r.0.0;
          coarse = r.0.1;
          some_box = m.0;
          boxes = m.1;
          some_interval = n.0;
          samples = n.1;
        }

-- the calls that take no settings turn nothing down for them
pub finest_taken : refusal (settings_tests finest) ≡ 0
unfolding refusal le of_bits
finest_taken = refl
