use Rattle.lisp_library.proofs.Made.{grows_either, stands_as, form_made}
use Rattle.clvm_tree.proofs.NodeLaws.{grows_on}
use Rattle.lisp_library.proofs.currying.form.Goals as goal

pub returns-clause-grows : goal.returns-clause-grows
returns-clause-grows c =
    grows_on _ _ _ (grows_on _ _ _ (grows_on _ _ _ c.in_ok-quote.ensures.ok.grows c.in_ok-end.ensures.ok.grows) c.in_ok-operands.ensures.ok.grows)
    (grows_either _ _ _ c.pair-4.result c.pair-4.ensures.ok c.pair-4.ensures.out_of_memory)

pub returns-clause-stands : goal.returns-clause-stands
returns-clause-stands c =
    stands_as c.pair-3.new.self c.pair-4.new.self _ _ c.pair-4.result c.pair-4.ensures.ok
    (form_made c.args.trees.now c.pair.new.self c.pair-2.new.self c.pair-3.new.self _ _ _ _ _ _ _ _ (record {
      operator_known = c.requires.operator_known;
      last_known = c.requires.last_known;
      one_is = c.one.ensures.stands;
      end_is = c.nil.ensures.stands;
      adds_quote = c.in_ok-quote.ensures.ok;
      adds_behind = c.in_ok-end.ensures.ok;
      adds_operands = c.in_ok-operands.ensures.ok;
    }))
