use Rattle.std.proofs.Common.{[], ◌∷◌, ◌+◌, ◌∙◌, ap, sym, arith}
use Rattle.std.proofs.lemmas.List.{append-nil}
use Rattle.clvm_spec.specs.Tree.{Atom}
use Rattle.clvm_spec.specs.Outcomes.{Gives, Enough}
use Rattle.clvm_spec.specs.OperatorTable.{within}
use Rattle.clvm_eval.proofs.QuickLaws.{enough, small_is}
use Rattle.clvm_eval.proofs.quick.small_number.Goals as goal

pub returns : goal.returns
returns c =
    let left = c.args.left in
    let cost = c.args.cost + 10 in
    record {
      grows = ([], sym (append-nil c.args.trees.now));
      few = omega arith;
      is = record {
        known = c.byte.ensures.known;
        gives =
            ap (within left) (small_is c.args.cost c.args.number c.requires.some c.requires.small)
            ∙ enough left (Atom (c.args.number ∷ [])) cost 0 9 c.if-not-suffices.ensures
            ∙ ap (λ tree. Enough (Gives tree cost 0 9)) (sym c.byte.ensures.stands);
      };
    }
