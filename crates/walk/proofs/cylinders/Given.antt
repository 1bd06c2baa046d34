-- What a call knows of the cylinder that it is given: its numbers are f64, and where it is not turned down, the array of its
-- walk has room. By the cover of its walk.
use Prim.Native.Nat.{ℕ}
use mathlib.Core.Bool.{true}
use mathlib.Core.List.{List, [], ◌++◌}
use mathlib.Core.Path.{◌≡◌, sym, subst, ◌∙◌}
use lib.Dec.{T}
use lib.Ieee.{Float, binary64, fits, of_bits}
use Rattle.section.specs.profile.Refusals.{Test, refusal, axis_tests}
use Rattle.section.specs.profile.Steps.{numbered}
use Rattle.walk.specs.declared.settings.shapes.Settings.{Settings}
use Rattle.walk.specs.settings.Settings.{finest, settings_tests}
use Rattle.walk.proofs.settings.Taken.{SettingsTaken, finest_taken, settings_taken}
use Rattle.section.proofs.profile.Refusals.Ordered.{no_settings}
use Rattle.walk.specs.bands.Axis.{axis}
use Rattle.walk.specs.declared.bands.shapes.Axis.{Axis}
use Rattle.walk.specs.declared.bands.shapes.Cylinder.{Cylinder}
use Rattle.section.proofs.profile.Refusals.Passed.{section_long}
use Rattle.walk.specs.cylinders.Cylinders.{cylinder_numbers, cylinder_own, cylinder_tests}
use Rattle.walk.specs.cylinders.Steps.{Checked, Each, IsF64, Measurable}
use Rattle.walk.proofs.cylinders.Cover.Accepted.{settings_accepted}
use Rattle.walk.proofs.cylinders.Cover.Across.{walk_covers}

abbrev pub Fits : Float → Type 0
Fits x = fits binary64 x ≡ true

pub is_f64 : (x : Float) → Fits x → IsF64 x
is_f64 x e = subst T (sym e) tt

pub f64s : (c : Cylinder) → Fits c.a.x → Fits c.a.y → Fits c.a.z
    → Fits c.b.x → Fits c.b.y → Fits c.b.z → Fits c.radius → Each IsF64 (cylinder_numbers c)
f64s c ax ay az bx by bz r =
    let f = is_f64 in
    (f _ ax, (f _ ay, (f _ az, (f _ bx, (f _ by, (f _ bz, (f _ r, tt)))))))

-- a cylinder that is not turned down, whatever else is given with it; settings that are taken
measurable : {s : List Float} {c : Cylinder} {a : Axis} {extra : List Float} {n r : ℕ} (settings : List Test)
    → T (numbered settings) → T (numbered (settings ++ (axis_tests s ++ cylinder_own c.radius (axis c)))) → (t : Settings) → SettingsTaken t
    → IsF64 t.tolerance → a ≡ axis c → Checked s c extra n r → n ≡ refusal settings → r ≡ 0 → Measurable s c a t
measurable {s} {c} {a} {extra} settings h k t taken g e checked i z =
    let passed : refusal (cylinder_tests s c extra settings) ≡ 0 = sym (checked.number settings h i) ∙ z in
    record {
      along = e;
      walkable = record {
        vertices = section_long s _ (settings ++ (axis_tests s ++ cylinder_own c.radius (axis c))) k passed;
        samples = taken.samples;
        room = (walk_covers s c extra settings k checked.f64s passed t taken g a).room;
      };
    }

-- the query, which tests its settings
pub query_measurable : {s : List Float} {c : Cylinder} {a : Axis} {n r : ℕ} {t : Settings} → IsF64 t.tolerance → a ≡ axis c
    → Checked s c [] n r → n ≡ refusal (settings_tests t) → r ≡ 0 → Measurable s c a t
query_measurable {s} {c} {t = t} g e checked i z =
    measurable (settings_tests t) tt tt t (settings_accepted s c t (sym (checked.number (settings_tests t) tt i) ∙ z)) g e checked i z

-- a call that takes no settings, at the finest
pub finest_measurable : {s : List Float} {c : Cylinder} {a : Axis} {extra : List Float} {r : ℕ} → a ≡ axis c
    → Checked s c extra 0 r → r ≡ 0 → Measurable s c a finest
unfolding of_bits fits
finest_measurable e checked z = measurable [] tt tt finest (settings_taken finest finest_taken) tt e checked no_settings z
