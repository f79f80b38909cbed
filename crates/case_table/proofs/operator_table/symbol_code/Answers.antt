use Rattle.case_table.proofs.Names.{no_text}
use Rattle.case_table.proofs.operator_table.symbol_code.Goals as goal

pub returns-in-Err : goal.returns-in-Err
returns-in-Err c = no_text c.args.name.now c.in-Err.ensures.cases.0
