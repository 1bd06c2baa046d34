-- `section::refusals::refusal::shapes_refusal` meets its contract.
use borrow.Author.Tests.{eq-eqb, le-ltb, lt-ltb, ne_eqb}
use Rattle.section.specs.profile.Refusals.{any_of, refusal}
use Rattle.section.proofs.refusals.refusal.shapes_refusal.Goals as goal

pub returns-then-c-eq1 : goal.returns-then-c-eq1
unfolding refusal any_of
returns-then-c-eq1 c = rw (eq-eqb _ _ c.if-c-eq1.true)

pub returns-then-s-eq1 : goal.returns-then-s-eq1
unfolding refusal any_of
returns-then-s-eq1 c = rw (ne_eqb _ _ c.if-c-eq1.false, eq-eqb _ _ c.if-s-eq1.true)

pub returns-then-n-lt3 : goal.returns-then-n-lt3
unfolding refusal any_of
returns-then-n-lt3 c = rw (ne_eqb _ _ c.if-c-eq1.false, ne_eqb _ _ c.if-s-eq1.false, lt-ltb _ _ c.if-n-lt3.true)

pub returns-then-m-lt3 : goal.returns-then-m-lt3
unfolding refusal any_of
returns-then-m-lt3 c =
    rw (
      ne_eqb _ _ c.if-c-eq1.false,
      ne_eqb _ _ c.if-s-eq1.false,
      le-ltb _ _ c.if-n-lt3.false,
      lt-ltb _ _ c.if-m-lt3.true,
    )

pub returns-then-n-gt256 : goal.returns-then-n-gt256
unfolding refusal any_of
returns-then-n-gt256 c =
    rw (
      ne_eqb _ _ c.if-c-eq1.false,
      ne_eqb _ _ c.if-s-eq1.false,
      le-ltb _ _ c.if-n-lt3.false,
      le-ltb _ _ c.if-m-lt3.false,
      lt-ltb _ _ c.if-n-gt256.true,
    )

pub returns-then-m-gt256 : goal.returns-then-m-gt256
unfolding refusal any_of
returns-then-m-gt256 c =
    rw (
      ne_eqb _ _ c.if-c-eq1.false,
      ne_eqb _ _ c.if-s-eq1.false,
      le-ltb _ _ c.if-n-lt3.false,
      le-ltb _ _ c.if-m-lt3.false,
      le-ltb _ _ c.if-n-gt256.false,
      lt-ltb _ _ c.if-m-gt256.true,
    )

pub returns : goal.returns
unfolding refusal any_of
returns c =
    rw (
      ne_eqb _ _ c.if-c-eq1.false,
      ne_eqb _ _ c.if-s-eq1.false,
      le-ltb _ _ c.if-n-lt3.false,
      le-ltb _ _ c.if-m-lt3.false,
      le-ltb _ _ c.if-n-gt256.false,
      le-ltb _ _ c.if-m-gt256.false,
    )
