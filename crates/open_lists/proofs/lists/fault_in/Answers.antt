use Rattle.std.proofs.Common.{[], ◌∷◌, ◌++◌, None, refl, sym, subst, arith}
use Rattle.clvm_spec.specs.Grammar.{Breaks}
use Rattle.open_lists.specs.declared.fault.Fault.TheVariants.{At}
use Rattle.open_lists.specs.Lists.{resumed}
use Rattle.open_lists.specs.Faults.{IsFirstFault}
use Rattle.open_lists.proofs.FaultLaws.{none_left}
use Rattle.open_lists.proofs.lists.fault_in.Goals as goal

pub returns-in-Some-told : goal.returns-in-Some-told
returns-in-Some-told g c = λ r.
    let at = r.placed c.args.place in
    c.lists.invariant r c.in-Some-told.fault (c.args.list.now ∷ []) at
    (λ depth. subst (λ l. IsFirstFault r c.in-Some-told.fault (resumed r depth (l ++ c.args.list.now ∷ []) (Breaks c.args.kind None at))) (sym (none_left c.lists.rest.now (omega arith))) (c.in-Some-told.ensures r [] depth at)) 0

pub returns-in-None : goal.returns-in-None
returns-in-None g c = λ r.
    let at = r.placed c.args.place in
    c.lists.invariant r (At c.args.kind c.args.place) (c.args.list.now ∷ []) at
    (λ depth. subst (λ l. IsFirstFault r (At c.args.kind c.args.place) (resumed r depth (l ++ c.args.list.now ∷ []) (Breaks c.args.kind None at))) (sym (none_left c.lists.rest.now (omega arith)))
    (c.in-None.ensures r (At c.args.kind c.args.place) [] at (λ d. refl) depth)) 0
