-- No edit changes a byte outside its record and, for an add, the one next field; nor the size of the space. Idea: a run of
-- bytes that is put into a list leaves all others.
use Prim.Native.Nat.{ℕ, ◌+◌, ◌*◌}
use native.Mathlib.Omega.{arith}
use mathlib.Core.Bool.{Bool, true, false, ◌&&◌, ◌||◌}
use mathlib.Core.List.{List}
use mathlib.Core.Path.{◌≡◌, refl, ◌∙◌}
use lib.ListN.{length, get_or, take}
use lib.Seq.{sets, length-sets}
use lib.Dec.{leb, ltb}
use borrow.Author.Tests.{leb-false, ltb-false}
use Rattle.store.specs.edits.Written.{free_record, last_record, next_bytes, ending, written, among, touches}
use Rattle.store.specs.edits.Series.{Space, store, edited, Forty}
use Rattle.store.specs.declared.edits.shapes.Place.{Place}
use Rattle.store.specs.declared.edits.shapes.Place.TheVariants.{Record, Add}
use Rattle.store.specs.declared.edits.shapes.Edit.{Edit}
use Rattle.store.proofs.edits.Fields.{sets_before, sets_behind}
use Rattle.store.proofs.edits.Placing.{ending_size}
use Rattle.store.proofs.edits.Answered.{by_answer}

outside :
    (vs l : List ℕ) (p n i : ℕ) → length vs ≡ n → among p n i ≡ false → get_or (sets l p vs) i 0 ≡ get_or l i 0
outside vs l p n i size e = go (leb p i) refl e
  where
    go : (from : Bool) → leb p i ≡ from → (from && ltb i (p + n)) ≡ false → get_or (sets l p vs) i 0 ≡ get_or l i 0
    go true f t = sets_behind vs l p i (omega (arith, ltb-false i (p + n) t))
    go false f t = sets_before vs l p i (leb-false p i f)

pub neither : (p q : Bool) → (p || q) ≡ false → (p ≡ false) × (q ≡ false)
neither true q e = absurd (let z : ◌≡◌ {A = ℕ} 0 1 = cc in omega arith)
neither false q e = (refl, e)

same_byte :
    (s : List ℕ) (n : ℕ) (place : Place) (bytes : List ℕ) → length bytes ≡ 40 → (i : ℕ)
    → touches (take n s) place i ≡ false → get_or (written s n place bytes) i 0 ≡ get_or s i 0
unfolding written touches
same_byte s n (Record k) bytes forty i e = outside bytes s (k * 40) 40 i forty e
same_byte s n Add bytes forty i e =
    let m = free_record (take n s) in
    let t = last_record (take n s) in
    let both = neither (among (m * 40) 40 i) (among (t * 40) 4 i) e in
    outside (next_bytes m) (sets s (m * 40) (ending bytes)) (t * 40) 4 i refl both.1
    ∙ outside (ending bytes) s (m * 40) 40 i (ending_size bytes forty) both.0

pub other_bytes :
    (h : Space) (e : Edit) → Forty e → (i : ℕ) → touches (store h) e.place i ≡ false
    → get_or (edited h e).all i 0 ≡ get_or h.all i 0
other_bytes h e forty i q =
    by_answer h e (λ (g : Space). get_or g.all i 0 ≡ get_or h.all i 0) refl
    (λ p. same_byte h.all h.size e.place e.bytes forty i q)

same_length : (s : List ℕ) (n : ℕ) (place : Place) (bytes : List ℕ) → length (written s n place bytes) ≡ length s
unfolding written
same_length s n (Record k) bytes = length-sets s (k * 40) bytes
same_length s n Add bytes =
    let m = free_record (take n s) in
    length-sets (sets s (m * 40) (ending bytes)) (last_record (take n s) * 40) (next_bytes m)
    ∙ length-sets s (m * 40) (ending bytes)

pub same_space : (h : Space) (e : Edit) → length (edited h e).all ≡ length h.all
same_space h e =
    by_answer h e (λ (g : Space). length g.all ≡ length h.all) refl
    (λ p. same_length h.all h.size e.place e.bytes)
