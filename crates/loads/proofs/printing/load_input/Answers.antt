-- `loads::printing::load_input` prints what its definition says.
use Rattle.loads.specs.Printed.{input_text}
use Rattle.loads.proofs.Answered.{asked_printed}
use Rattle.loads.proofs.printing.load_input.Goals as goal

pub returns : goal.returns
unfolding input_text
returns c =
    asked_printed c.seed_of-seed.ensures c.u64_at-vertices.ensures c.put_answer.ensures
