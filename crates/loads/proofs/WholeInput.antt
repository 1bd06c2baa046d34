-- An input that went into a buffer of 16 bytes as far as it reaches prints as the whole input: of 16 bytes all are there, and any
-- other length counts as seed 0, which decides.
use Prim.Native.Nat.{ℕ}
use native.Mathlib.Omega.{arith}
use mathlib.Core.Bool.{Bool, true, false, cond}
use mathlib.Core.List.{List}
use mathlib.Core.Path.{◌≡◌, refl, sym, ap, ◌∙◌}
use lib.ListN.{length, take}
use lib.Seq.{take_all}
use lib.Dec.{eqb}
use borrow.Author.Tests.{eqb-true}
use Rattle.section.specs.profile.Refusals.{refusal}
use Rattle.store.specs.Bytes.{little_endian}
use Rattle.loads.specs.Load.{load_answer}
use Rattle.loads.specs.Printed.{load_text, seed_of, input_text, printed}

-- seed 0 is turned down whatever the count
unseeded : (m n : ℕ) → load_answer 0 m ≡ load_answer 0 n
unfolding load_answer refusal
unseeded m n = refl

pub input_printed :
    (b buffer : List ℕ) → length buffer ≡ 16 → take 16 b ≡ take (length b) buffer → input_text (length b) buffer ≡ printed b
unfolding input_text printed seed_of
input_printed b buffer room front = go (eqb (length b) 16) refl
  where
    go :
        (t : Bool) → eqb (length b) 16 ≡ t
        → load_text (load_answer (cond t (little_endian 8 buffer 0) 0) (little_endian 8 buffer 8))
        ≡ load_text (load_answer (cond t (little_endian 8 b 0) 0) (little_endian 8 b 8))
    go true e =
        let size : length b ≡ 16 = eqb-true (length b) 16 e in
        let same : buffer ≡ b =
        sym (take_all (length b) buffer (omega (arith, size, room))) ∙ sym front ∙ take_all 16 b (omega (arith, size)) in
        ap (λ (l : List ℕ). load_text (load_answer (little_endian 8 l 0) (little_endian 8 l 8))) same
    go false e = ap load_text (unseeded (little_endian 8 buffer 8) (little_endian 8 b 8))
