-- What is written reads back: the low bytes of a number, wherever they stand, and the fields of a record at its place. By one
-- byte more, and by which fields stand before.
use Prim.Native.Nat.{ℕ, zero, suc, ◌+◌, ◌*◌, ◌/◌, ◌%◌, ◌^◌, ◌<◌}
use native.Mathlib.Nat.{pow-suc}
use native.Mathlib.Omega.{arith}
use mathlib.Core.List.{List, [], ◌∷◌, ◌++◌, append_assoc}
use mathlib.Core.Path.{◌≡◌, refl, sym, ap, ap₂, ◌∙◌}
use lib.ListN.{length, length-append}
use lib.Seq.{get_or-append_seam}
use lib.Ieee.{binary64, of_bits}
use Rattle.store.specs.Bytes.{little_endian, low_bytes}
use Rattle.store.specs.Records.{next, kind, number, record_bytes}

-- ---- a number
pub length_low : (n x : ℕ) → length (low_bytes n x) ≡ n
unfolding low_bytes
length_low zero x = refl
length_low (suc n) x = ap suc (length_low n (x / 256))

fewer : (n x : ℕ) → x < 256 ^ suc n → x / 256 < 256 ^ n
fewer n x h = let e = pow-suc 256 n in omega (arith, e)

low_back : (n x : ℕ) (p q : List ℕ) → x < 256 ^ n → little_endian n (p ++ (low_bytes n x ++ q)) (length p) ≡ x
unfolding little_endian low_bytes
low_back zero x p q h = omega arith
low_back (suc n) x p q h =
    let y = x % 256 in
    let z = low_bytes n (x / 256) ++ q in
    let rest : little_endian n (p ++ (y ∷ z)) (length p + 1) ≡ x / 256 =
    ap₂ (little_endian n) (sym (append_assoc p (y ∷ []) z)) (sym (length-append p (y ∷ [])))
    ∙ low_back n (x / 256) (p ++ (y ∷ [])) q (fewer n x h) in
    rw (get_or-append_seam p y z 0, rest) (omega arith)

pub read_back :
    (n x i : ℕ) (b p q : List ℕ) → b ≡ p ++ (low_bytes n x ++ q) → length p ≡ i → x < 256 ^ n → little_endian n b i ≡ x
read_back n x i b p q e l h = ap₂ (little_endian n) e (sym l) ∙ low_back n x p q h

-- ---- a record
-- the field of n bytes of a record r, behind the fields u
field_back :
    (n x i : ℕ) (p u w q r : List ℕ) → r ≡ u ++ (low_bytes n x ++ w) → length p + length u ≡ i → x < 256 ^ n
    → little_endian n (p ++ (r ++ q)) i ≡ x
field_back n x i p u w q r e l h =
    let v = low_bytes n x in
    let inner : r ++ q ≡ u ++ (v ++ (w ++ q)) =
    ap (λ (k : List ℕ). k ++ q) e ∙ append_assoc u (v ++ w) q ∙ ap (λ (k : List ℕ). u ++ k) (append_assoc v w q) in
    let whole = ap (λ (k : List ℕ). p ++ k) inner ∙ sym (append_assoc p u (v ++ (w ++ q))) in
    read_back n x i (p ++ (r ++ q)) (p ++ u) (w ++ q) whole (length-append p u ∙ l) h

pub length_record : (m t a b c d : ℕ) → length (record_bytes m t a b c d) ≡ 40
unfolding record_bytes low_bytes
length_record m t a b c d = refl

-- the fields are lists of literal length, so that computing splits the record
module _ (m t a b c d k : ℕ) (p q : List ℕ) (at : length p ≡ k * 40) where
  pub next_back : m < 2 ^ 32 → next (p ++ (record_bytes m t a b c d ++ q)) k ≡ m
  unfolding next record_bytes low_bytes
  next_back h =
      let w = low_bytes 4 t ++ low_bytes 8 a ++ low_bytes 8 b ++ low_bytes 8 c ++ low_bytes 8 d in
      field_back 4 m (k * 40) p [] w q (record_bytes m t a b c d) refl (omega (arith, at)) h

  pub kind_back : t < 2 ^ 32 → kind (p ++ (record_bytes m t a b c d ++ q)) k ≡ t
  unfolding kind record_bytes low_bytes
  kind_back h =
      let w = low_bytes 8 a ++ low_bytes 8 b ++ low_bytes 8 c ++ low_bytes 8 d in
      field_back 4 t (k * 40 + 4) p (low_bytes 4 m) w q (record_bytes m t a b c d) refl (omega (arith, at)) h

  pub first_back : a < 2 ^ 64 → number (p ++ (record_bytes m t a b c d ++ q)) k 0 ≡ of_bits binary64 a
  unfolding number record_bytes low_bytes
  first_back h =
      let u = low_bytes 4 m ++ low_bytes 4 t in
      let w = low_bytes 8 b ++ low_bytes 8 c ++ low_bytes 8 d in
      ap (of_bits binary64)
      (field_back 8 a (k * 40 + 8 + 0 * 8) p u w q (record_bytes m t a b c d) refl (omega (arith, at)) h)

  pub second_back : b < 2 ^ 64 → number (p ++ (record_bytes m t a b c d ++ q)) k 1 ≡ of_bits binary64 b
  unfolding number record_bytes low_bytes
  second_back h =
      let u = low_bytes 4 m ++ low_bytes 4 t ++ low_bytes 8 a in
      let w = low_bytes 8 c ++ low_bytes 8 d in
      ap (of_bits binary64)
      (field_back 8 b (k * 40 + 8 + 1 * 8) p u w q (record_bytes m t a b c d) refl (omega (arith, at)) h)

  pub third_back : c < 2 ^ 64 → number (p ++ (record_bytes m t a b c d ++ q)) k 2 ≡ of_bits binary64 c
  unfolding number record_bytes low_bytes
  third_back h =
      let u = low_bytes 4 m ++ low_bytes 4 t ++ low_bytes 8 a ++ low_bytes 8 b in
      ap (of_bits binary64)
      (field_back 8 c (k * 40 + 8 + 2 * 8) p u (low_bytes 8 d) q (record_bytes m t a b c d) refl (omega (arith, at)) h)

  pub fourth_back : d < 2 ^ 64 → number (p ++ (record_bytes m t a b c d ++ q)) k 3 ≡ of_bits binary64 d
  unfolding number record_bytes low_bytes
  fourth_back h =
      let u = low_bytes 4 m ++ low_bytes 4 t ++ low_bytes 8 a ++ low_bytes 8 b ++ low_bytes 8 c in
      ap (of_bits binary64)
      (field_back 8 d (k * 40 + 8 + 3 * 8) p u [] q (record_bytes m t a b c d) refl (omega (arith, at)) h)
