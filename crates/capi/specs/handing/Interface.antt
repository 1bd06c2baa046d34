-- What a C caller gets, said once over what a call answers: the returned number, 0 for a value, and in the lent places the fields
-- of the value. Where the call is turned down they hold what they held.
use Rattle.std.specs.Prelude.{ℕ, zero, suc, ◌≤◌, Bool, true, false, ◌≡◌, List, Float}
use Rattle.section.specs.profile.Replies.{Reply, value, turned_down, OfValue}
use Rattle.section.specs.declared.profile.shapes.CollisionHit.{CollisionHit}
use Rattle.section.specs.builders.Builder.{filled}
use Rattle.section.specs.Demand.{FewEdges}
use Rattle.walk.specs.declared.shapes.CountedHit.{CountedHit}

abbrev pub number_of : {A : Type 0} → Reply A → ℕ
number_of (value a) = 0
number_of (turned_down n) = n

-- a number of the interface's own, before what the call answers
abbrev pub or_else_reply : {A : Type 0} → ℕ → Reply A → Reply A
or_else_reply zero answer = answer
or_else_reply (suc n) answer = turned_down (suc n)

-- what lent places hold at the end, which held this
abbrev pub after : {A B : Type 0} → (A → B) → Reply A → B → B
after fields (value a) held = fields a
after fields (turned_down n) held = held

-- a call with this answer returns n and takes what it was lent from held to end
pub record Gives {A B : Type 0} (fields : A → B) (answer : Reply A) (n : ℕ) (held end : B) : Type 0 where
  pub returned : n ≡ number_of answer
  pub lent : end ≡ after fields answer held

-- a query, of whose value P holds
pub record Measures {A B : Type 0} (P : A → Type 0) (fields : A → B) (answer : Reply A) (n : ℕ) (held end : B) : Type 0 where
  pub gives : Gives fields answer n held end
  pub owed : OfValue P answer

-- a builder, which hands kept back in the space and its count of numbers in a place of its own
pub record Builds (answer : Reply ℕ) (kept : List Float) (n : ℕ) (space₀ space : List Float) (count₀ count : ℕ) : Type 0 where
  pub gives : Gives (λ (k : ℕ). k) answer n count₀ count
  pub space_place : space ≡ filled kept space₀

-- ---- the places, and what a value puts there

-- a collision, or a walk that was cut: 1, otherwise 0
abbrev pub mark : Bool → ℕ
mark true = 1
mark false = 0

-- of a distance
pub record Places : Type 0 where
  pub distance : Float
  pub witness_z : Float
  pub witness_radius : Float
  pub edge : ℕ

abbrev pub places : Float → Float → Float → ℕ → Places
places d z r e = record { distance = d; witness_z = z; witness_radius = r; edge = e }

abbrev pub hit_places : CollisionHit → Places
hit_places h = places h.distance h.witness.z h.witness.r h.witness.edge

-- of a cylinder's counts and mark
pub record Counts : Type 0 where
  pub boxes : ℕ
  pub waiting : ℕ
  pub cut : ℕ

abbrev pub counts : ℕ → ℕ → ℕ → Counts
counts b w c = record { boxes = b; waiting = w; cut = c }

abbrev pub hit_counts : CountedHit → Counts
hit_counts h = counts h.boxes h.waiting (mark h.cut)

-- of a cylinder: those of its hit, and of its counts
pub record CylinderPlaces (Hit : Type 0) : Type 0 where
  pub hit : Hit
  pub counts : Counts

abbrev pub both : {Hit : Type 0} → Hit → Counts → CylinderPlaces Hit
both p c = record { hit = p; counts = c }

abbrev pub cylinder_places : CountedHit → CylinderPlaces Places
cylinder_places h = both (hit_places h.hit) (hit_counts h)

-- its edge and counts are small enough for the places
pub record FitsPlaces (h : CountedHit) : Type 0 where
  pub boxes : h.boxes ≤ 4294967295
  pub waiting : h.waiting ≤ 4294967295
  pub edge : FewEdges h.hit
