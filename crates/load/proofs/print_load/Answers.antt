-- `load::print_load` writes what is printed of all that it read.
use Rattle.std.proofs.Common.{rules}
use Rattle.loads.specs.Printed.{input_text, printed}
use Rattle.loads.proofs.WholeInput.{input_printed}
use Rattle.input.proofs.Whole.{whole_written}
use Rattle.load.proofs.print_load.Goals as goal

pub returns : goal.returns
returns g c =
    whole_written 16 input_text printed (λ after seed. input_printed seed after) _ _ _ _ _ _ _ _ _ _ _ (search rules) (search rules)
    c.in_ok-length.ensures.ok c.in_ok-length.ensures.whole c.load_input-n.ensures c.write_all.ensures.bytes
