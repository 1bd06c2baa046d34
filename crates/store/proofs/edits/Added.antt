-- An add: the chain is the old one with the new record behind it, and the section the old one with the new record's
-- vertex behind it, if it is one. Idea: only the last record's next changes among the chained ones.
use Prim.Native.Nat.{ℕ, suc, ◌+◌, ◌*◌, ◌/◌, ◌%◌, ◌<◌, ◌≤◌}
use native.Mathlib.Omega.{arith}
use mathlib.Core.Bool.{Bool, true, false, cond}
use mathlib.Core.List.{List, [], ◌∷◌, ◌++◌}
use mathlib.Core.Logic.{◌⊎◌, inl, inr}
use mathlib.Core.Path.{◌≡◌, refl, sym, ap, ◌∙◌}
use lib.ListN.{length, take, length-take}
use lib.Dec.{ltb}
use borrow.Author.Tests.{ltb-true, ltb-false}
use Rattle.store.specs.Records.{records, next}
use Rattle.store.specs.Chain.{whole, chain, follow, member}
use Rattle.store.specs.Store.{chained, vertex_numbers, vertices}
use Rattle.store.proofs.Ending.{counted_enough}
use Rattle.store.specs.edits.Written.{free_record, last_record, ending, appended, length_then}
use Rattle.store.specs.declared.edits.shapes.Place.TheVariants.{Add}
use Rattle.store.proofs.edits.Fields.{SameFrom, same_next}
use Rattle.store.proofs.edits.Members.{not_both}
use Rattle.store.proofs.edits.Placing.{same_then, same_back, same_later, in_front, ending_next, ending_rest}
use Rattle.store.proofs.edits.Placing.{appended_size, appended_other, appended_old, appended_link, appended_new}
use Rattle.store.proofs.edits.Sections.{same_vertex, same_vertices, vertices_more}
use Rattle.store.proofs.edits.Growing.{chain_grown}
use Rattle.store.proofs.edits.Free.{free_bound, free_unreached}
use Rattle.store.proofs.edits.Good.{Good, count, room, within, chained_whole}
use Rattle.store.proofs.edits.Replaced.{at_or_not}

-- a record more may be counted down, whether the store got a record more or not
enough :
    (b : List ℕ) (r : ℕ) → 1 ≤ r → (records b ≡ r) ⊎ (records b ≡ suc r) → chain b ≡ follow b (suc r) [] 0
unfolding chain
enough b r some (inl e) =
    sym (counted_enough b 1 (omega arith)) ∙ ap (λ (n : ℕ). follow b n [] 0) (rw e (omega arith))
enough b r some (inr e) = ap (λ (n : ℕ). follow b n [] 0) e

-- the length afterwards has room for the record m
record Fits (n m then : ℕ) : Type 0 where
  pub fits : m * 40 + 40 ≤ then
  pub keeps : n ≤ then
  pub within : then ≤ 20480
  pub grows : (then / 40 ≡ n / 40) ⊎ (then / 40 ≡ suc (n / 40))

fitting :
    (n m : ℕ) → n % 40 ≡ 0 → m ≤ n / 40 → n / 40 ≤ 512 → m < 512 → Fits n m (cond (ltb m (n / 40)) n (n + 40))
fitting n m even bound most small = go (ltb m (n / 40)) refl
  where
    go : (old : Bool) → ltb m (n / 40) ≡ old → Fits n m (cond old n (n + 40))
    go true e =
        let less : m < n / 40 = ltb-true m (n / 40) e in
        record { fits = omega arith; keeps = omega arith; within = omega arith; grows = inl refl }
    go false e =
        let past : n / 40 ≤ m = ltb-false m (n / 40) e in
        record { fits = omega arith; keeps = omega arith; within = omega arith; grows = inr (omega arith) }

module _ (s : List ℕ) (n : ℕ) (g : Good s n) (bytes : List ℕ) (forty : length bytes ≡ 40)
    (free : free_record (take n s) < 512)
  where
    abbrev b : List ℕ
    b = take n s

    abbrev m : ℕ
    m = free_record b

    abbrev t : ℕ
    t = last_record b

    abbrev then : ℕ
    then = length_then s n Add

    abbrev w : List ℕ
    w = appended s m t bytes

    abbrev b' : List ℕ
    b' = take then w

    fit : Fits n m then
    unfolding length_then
    fit =
        rw (count g)
        (fitting n m g.even (rw (count g) at (free_bound b g.chain)) g.most free)

    new : member m (chained b) ≡ false
    new = free_unreached b g.chain

    t_held : member t (chained b) ≡ true
    unfolding last_record
    t_held = g.chain.held

    t_ends : next b t ≡ 0
    unfolding last_record
    t_ends = g.chain.ends

    not_m : (j : ℕ) → member j (chained b) ≡ true → j ≡ m → ⊥
    not_m j e q = not_both e (ap (λ (i : ℕ). member i (chained b)) q ∙ new)

    other : m ≡ t → ⊥
    other e = not_m t t_held (sym e)

    wide : length w ≡ 20480
    wide = appended_size s bytes m t forty other ∙ g.space

    count' : records b' ≡ then / 40
    count' = ap (λ (i : ℕ). i / 40) (length-take then w ∙ omega (arith, wide, fit.within))

    -- a record of the old chain, in front of the new space
    from_front : (f j : ℕ) → member j (chained b) ≡ true → SameFrom f w j s j → SameFrom f b' j b j
    from_front f j e same =
        let old : j * 40 + 40 ≤ n = room g j e in
        same_then (in_front f then w j (omega (arith, fit.keeps))) (same_then same (same_back (in_front f n s j old)))

    pub added_record : SameFrom 0 b' m (ending bytes) 0
    added_record =
        same_then (in_front 0 then w m fit.fits)
        (appended_new s bytes m t forty other 0 (omega (arith, fit.fits, fit.within, g.space)))

    link : next b' t ≡ m
    link =
        let old : t * 40 + 40 ≤ n = room g t t_held in
        same_next (in_front 0 then w t (omega (arith, fit.keeps)))
        ∙ appended_link s bytes m t forty other (omega (arith, within g, g.space))

    same_nexts : (j : ℕ) → member j (chained b) ≡ true → (next b j ≡ 0 → ⊥) → next b' j ≡ next b j
    same_nexts j e more =
        same_next (from_front 0 j e (appended_other s bytes m t forty other 0 j (not_m j e) (λ q. more (ap (next b) q ∙ t_ends))))

    grown : chain b' ≡ whole (chained b ++ (m ∷ []))
    unfolding last_record
    grown =
        chain_grown b b' (chained b) g.links m g.chain
        (enough b' (records b) (omega (arith, count g, g.some)) sizes)
        (omega (arith, count g, count', fit.keeps)) new (omega (arith, count', fit.fits)) link
        (same_next added_record ∙ ending_next bytes forty) same_nexts
      where
        sizes : (records b' ≡ records b) ⊎ (records b' ≡ suc (records b))
        sizes = rw (count', count g) fit.grows

    -- the old chain, and the new record at its end
    pub added_chain : chained b' ≡ chained b ++ (m ∷ [])
    added_chain = chained_whole b' (chained b ++ (m ∷ [])) grown

    pub added_section : vertices b' (chained b') ≡ vertices b (chained b) ++ vertex_numbers bytes 0
    added_section = rw added_chain (vertices_more b' (chained b) m ∙ rw (old, this))
      where
        old : vertices b' (chained b) ≡ vertices b (chained b)
        old =
            same_vertices b' b (chained b) λ j e.
            at_or_not (λ (i : ℕ). member i (chained b) ≡ true → vertex_numbers b' i ≡ vertex_numbers b i) t j
            (λ q. same_vertex (from_front 4 t q (appended_old s bytes m t forty other)))
            (λ not_t q. same_vertex (from_front 4 j q (appended_other s bytes m t forty other 4 j (not_m j q) not_t))) e

        this : vertex_numbers b' m ≡ vertex_numbers bytes 0
        this = same_vertex (same_then (same_later added_record) (ending_rest bytes forty))
