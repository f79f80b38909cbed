use Rattle.std.proofs.Common.{◌≡◌, drop}
use Rattle.std.specs.List.{list_all}
use Rattle.cond_spec.specs.Signing.{to_sign}
use Rattle.block_judge.specs.Signatures.{is_in}
use Rattle.block_judge.proofs.signing.are_signed.Given as goal

abbrev pub invariant-loop-condition : goal.invariant-loop-condition
invariant-loop-condition l =
    list_all (λ condition. list_all (is_in l.attested) (to_sign l.genesis l.coin condition)) (drop l.condition-index l.conditions)
    ≡ list_all (λ condition. list_all (is_in l.attested) (to_sign l.genesis l.coin condition)) l.conditions
