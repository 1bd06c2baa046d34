-- `store::reader::reader::length_answer`. One return for each test.
use borrow.Author.Tests.{eq-eqb, ne_eqb, lt-ltb, le-ltb}
use Rattle.section.specs.profile.Refusals.{refusal}
use Rattle.store.specs.Store.{length_answer}
use Rattle.store.proofs.reader.reader.length_answer.Goals as goal

pub returns-then-n-gt0 : goal.returns-then-n-gt0
unfolding length_answer refusal
returns-then-n-gt0 c = rw (c.into.ensures, lt-ltb _ _ c.if-n-gt0.true)

pub returns-then-n-eq0 : goal.returns-then-n-eq0
unfolding length_answer refusal
returns-then-n-eq0 c = rw (c.into-then-n-eq0.ensures, le-ltb _ _ c.if-n-gt0.false, eq-eqb _ _ c.if-n-eq0.true)

pub returns-then-n-gt512 : goal.returns-then-n-gt512
unfolding length_answer refusal
returns-then-n-gt512 c =
    rw (
      c.into-then-n-gt512.ensures,
      le-ltb _ _ c.if-n-gt0.false,
      ne_eqb _ _ c.if-n-eq0.false,
      lt-ltb _ _ c.if-n-gt512.true,
    )

pub returns : goal.returns
unfolding length_answer refusal
returns c =
    rw (le-ltb _ _ c.if-n-gt0.false, ne_eqb _ _ c.if-n-eq0.false, le-ltb _ _ c.if-n-gt512.false)
