use Rattle.lisp_code.proofs.Balance.{paths_are_short}
use Rattle.lisp_code.proofs.Reaching.{only_called_are_there}
use Rattle.lisp_code.proofs.code_laws.functions_are_few_and_near.Goals as goal

pub returns-clause-few : goal.returns-clause-few
returns-clause-few c = only_called_are_there

pub returns-clause-near : goal.returns-clause-near
returns-clause-near c = paths_are_short
