use Rattle.std.proofs.Common.{rules, tests}
use Rattle.std.proofs.lemmas.Iterator.{YieldsList-from_slice}
use Rattle.std.proofs.lemmas.Iterator.Search.{all_from_yields_List}
use Rattle.bundle_json.proofs.ValueLaws.{is_object}
use Rattle.bundle_json.proofs.values.are_objects.Goals as goal

pub returns : goal.returns
returns c = all_from_yields_List is_object _ _ _ c.all.ensures.ran (YieldsList-from_slice c.args.list.now cc) (λ x b q k. search (rules, tests))
