-- `capi::lists::lists::bodies_of` meets its contract: the first i bodies are read.
use native.Mathlib.Omega.{arith}
use Prim.Native.Nat.{ℕ}
use native.Mathlib.Nat.{le_of_eq, le_trans, lt_of_lt_of_le}
use mathlib.Core.Path.{◌≡◌, ap, sym, ◌∙◌}
use lib.ListN.{take, length-set}
use Rattle.capi.specs.lists.Lists.{bodies_of}
use Rattle.capi.proofs.lists.BodiesRead.{read_more}
use Rattle.capi.proofs.lists.lists.bodies_of.Goals as goal

pub loop-i-preserved : goal.loop-i-preserved
loop-i-preserved c =
    let a = c.args in
    let h = c.loop-i-test.true in
    let kept = length-set c.loop-i.bodies c.loop-i.i c.body_at.result in (
      c.loop-i.invariant.0,
      le_trans c.loop-i.invariant.1 (le_of_eq (sym kept)),
      c.loop-i.invariant.2,
      kept ∙ c.loop-i.invariant.3,
      read_more a.kinds.now a.numbers.now c.loop-i.bodies c.loop-i.i (lt_of_lt_of_le h c.loop-i.invariant.0)
          (lt_of_lt_of_le h c.loop-i.invariant.1) c.loop-i.invariant.4 c.body_at.ensures,
    )

pub returns : goal.returns
returns c =
    let a = c.args in
    let end : c.loop-i.i ≡ a.n = omega arith in
    ap (λ (k : ℕ). take k c.loop-i.bodies) (sym end)
    ∙ c.loop-i.invariant.4
    ∙ ap (λ (k : ℕ). take k (bodies_of a.kinds.now a.numbers.now)) end
