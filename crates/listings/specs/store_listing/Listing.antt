-- The listing: `section N`, then a line for each body; of a refused store only `refused N at K`. Each line ends in a
-- newline.
use Rattle.std.specs.Prelude.{ℕ, ◌||◌, cond, ◌≡◌, length, take, drop, Float, Result}
use mathlib.Core.List.{List, [], ◌++◌, flat_map}
use Rattle.section.specs.profile.Vertices.{count}
use Rattle.section.specs.profile.Replies.{Reply, value, turned_down}
use Rattle.section.specs.Answers.{sphere_answer, box_answer}
use Rattle.section.specs.declared.profile.shapes.Aabb.{Aabb}
use Rattle.section.specs.declared.profile.shapes.Sphere.{Sphere}
use Rattle.section.specs.declared.profile.shapes.CollisionHit.{CollisionHit}
use Rattle.store.specs.Records.{number}
use Rattle.store.specs.Kinds.{is_sphere, is_box}
use Rattle.store.specs.Store.{and_then, vertices, length_answer, store_answer, chained}
use Rattle.listings.specs.store_listing.Text.{text, decimal, bits}
use Rattle.store.specs.Answers.{StoreAnswer, Accepted, Refused as Turned}
use Rattle.store.specs.declared.answers.RefusedStore.{RefusedStore}
use Rattle.listings.specs.store_listing.Answers.{ListAnswer, Bytes, NotListed, told}

-- kind 2: sphere x, y, z, radius
abbrev pub sphere_at : List ℕ → ℕ → Sphere
sphere_at b k =
    record {
      center = record { x = number b k 0; y = number b k 1; z = number b k 2 };
      radius = number b k 3;
    }

-- kind 3: box z0, z1, r0, r1
abbrev pub box_at : List ℕ → ℕ → Aabb
box_at b k = record { z0 = number b k 0; z1 = number b k 1; r0 = number b k 2; r1 = number b k 3 }

-- a body's answer is that of its query; the section being accepted, a refusal is the body's own
unfoldable pub body_answer : List ℕ → List Float → ℕ → Reply CollisionHit
body_answer b s k = cond (is_sphere b k) (sphere_answer s (sphere_at b k)) (box_answer s (box_at b k))

unfoldable pub field_text : Float → List ℕ
field_text x = text " " ++ bits x

unfoldable pub edge_text : ℕ → List ℕ
edge_text k = text " " ++ decimal k

-- distance, witness z, witness radius, edge
unfoldable pub hit_text : CollisionHit → List ℕ
hit_text h =
    field_text h.distance ++ field_text h.witness.z ++ field_text h.witness.r ++ edge_text h.witness.edge

abbrev pub answer_text : Reply CollisionHit → List ℕ
answer_text (value h) = hit_text h
answer_text (turned_down n) = text " refused " ++ decimal n

-- the line of a body begins with its record index; other records have none
unfoldable pub body_line : List ℕ → List Float → ℕ → List ℕ
body_line b s k = decimal k ++ answer_text (body_answer b s k) ++ text "\n"

abbrev pub record_line : List ℕ → List Float → ℕ → List ℕ
record_line b s k = cond (is_sphere b k || is_box b k) (body_line b s k) []

-- the vertex count
unfoldable pub section_line : List Float → List ℕ
section_line s = text "section " ++ decimal (count s) ++ text "\n"

unfoldable pub refusal_line : ℕ → ℕ → List ℕ
refusal_line n k = text "refused " ++ decimal n ++ text " at " ++ decimal k ++ text "\n"

-- of the chained records ks with the section s
unfoldable pub accepted_text : List ℕ → List Float → List ℕ → List ℕ
accepted_text b s ks = section_line s ++ flat_map (record_line b s) ks

abbrev pub listing_of : List ℕ → StoreAnswer → List ℕ
listing_of b Accepted = accepted_text b (vertices b (chained b)) (chained b)
listing_of b (Turned n k) = refusal_line n k

-- 01's listing of a store, any bytes whatever
unfoldable pub listing : List ℕ → List ℕ
listing b = listing_of b (store_answer b)

-- Of an input of n bytes that went into a buffer for the largest store, as far as it reaches. A refused length decides;
-- of any other length the whole input is there.
unfoldable pub input_listing : ℕ → List ℕ → List ℕ
input_listing n buffer = let b = take n buffer in listing_of b (and_then (length_answer n) (store_answer b))

-- what `list_store` answers: how many bytes the listing has, or the refusal
abbrev pub list_answer : StoreAnswer → List ℕ → ListAnswer
list_answer Accepted l = Bytes (length l)
list_answer (Turned n k) l = NotListed n k

-- what the lent text then holds: the listing at its front and the rest as it was, or all as it was
abbrev pub text_after : StoreAnswer → List ℕ → List ℕ → List ℕ
text_after Accepted l given = l ++ drop (length l) given
text_after (Turned n k) l given = given

pub record StoreListed (b given : List ℕ) (r : Result ℕ RefusedStore) (after : List ℕ) : Type 0 where
  pub answer : told r ≡ list_answer (store_answer b) (listing b)
  pub buffer : after ≡ text_after (store_answer b) (listing b) given

-- r counts the bytes of l; they stand at the front, and the rest is as it was given
pub record Prints (l given after : List ℕ) (r : ℕ) : Type 0 where
  pub count : r ≡ length l
  pub front : after ≡ l ++ drop (length l) given
