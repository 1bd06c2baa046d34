-- The pieces of a line and the room that they take.
use Prim.Native.Nat.{ℕ, ◌+◌, ◌<◌, ◌≤◌}
use native.Mathlib.Omega.{arith}
use mathlib.Core.List.{List, ◌++◌, flat_map}
use mathlib.Core.Path.{◌≡◌, sym, ap, ◌∙◌}
use lib.ListN.{length, take, drop, get_or, length-append, take-append-drop}
use lib.Ieee.{Float}
use Rattle.section.specs.declared.profile.shapes.CollisionHit.{CollisionHit}
use Rattle.std.specs.Prelude.{Result, Ok, Err}
use Rattle.section.specs.declared.shapes.Refusal.{Refusal}
use Rattle.section.specs.profile.Numbers.{refusal_number}
use Rattle.section.specs.profile.Replies.{told}
use Rattle.listings.specs.store_listing.Text.{text, decimal}
use Rattle.listings.specs.store_listing.Listing.{body_answer, field_text, edge_text, hit_text, answer_text, body_line}
use Rattle.listings.specs.store_listing.Steps.{Written}
use Rattle.listings.proofs.store_listing.Digits.{length_bits}
use Rattle.store.proofs.Lists.{flat_map_append, flat_map_more}
use Rattle.listings.proofs.store_listing.Writing.{then, room_first, room_next}

-- ---- an answer
pub length_field : (x : Float) → length (field_text x) ≡ 17
unfolding field_text text
length_field x = omega (arith, length_bits x)

pub length_edge : (k : ℕ) → length (edge_text k) ≡ 1 + length (decimal k)
unfolding edge_text text
length_edge k = omega (arith, length-append (text " ") (decimal k))

pub length_hit : (h : CollisionHit) → length (hit_text h) ≡ 52 + length (decimal h.witness.edge)
unfolding hit_text
length_hit h =
    simp length-append (omega (
      arith,
      length_field h.distance,
      length_field h.witness.z,
      length_field h.witness.r,
      length_edge h.witness.edge,
    ))

module _ (at : ℕ) (a : Result CollisionHit Refusal) {most : ℕ} (room : at + length (answer_text (told a)) ≤ most) where
  pub hit_room : {h : CollisionHit} → a ≡ Ok h → at + length (hit_text h) ≤ most
  hit_room e = rw e at room

  pub refused_room :
      {e : Refusal} {n : ℕ} → a ≡ Err e → n ≡ refusal_number e → at + length (text " refused " ++ decimal n) ≤ most
  refused_room is same = rw (is, ← same) at room

-- ---- the line of a body, by the answer of its query
pub line_of :
    (b : List ℕ) (s : List Float) (k : ℕ) (a : Result CollisionHit Refusal) → told a ≡ body_answer b s k
    → body_line b s k ≡ decimal k ++ answer_text (told a) ++ text "\n"
unfolding body_line
line_of b s k a e = rw (← e)

-- ---- line behind line
module _ (f : ℕ → List ℕ) (ks : List ℕ) (i : ℕ) (more : i < length ks) where
  split_lines : flat_map f ks ≡ flat_map f (take i ks) ++ f (get_or ks i 0) ++ flat_map f (drop (i + 1) ks)
  split_lines =
      ap (flat_map f) (sym (take-append-drop (i + 1) ks))
      ∙ flat_map_append f (take (i + 1) ks) (drop (i + 1) ks)
      ∙ ap (λ (l : List ℕ). l ++ flat_map f (drop (i + 1) ks)) (flat_map_more f ks i 0 more)

  module _ {before now : List ℕ} {from at : ℕ} (written : Written before from (flat_map f (take i ks)) now at) where
    pub line_room : from + length (flat_map f ks) ≤ length before → at + length (f (get_or ks i 0)) ≤ length now
    line_room h =
        room_next written (f (get_or ks i 0))
        (room_first from (flat_map f (take i ks) ++ f (get_or ks i 0)) (flat_map f (drop (i + 1) ks)) (rw split_lines at h))

    pub line_more :
        {after : List ℕ} {r : ℕ} → Written now at (f (get_or ks i 0)) after r
        → Written before from (flat_map f (take (i + 1) ks)) after r
    line_more next = rw (flat_map_more f ks i 0 more) (then written next)
