use Rattle.std.proofs.Common.{◌≡◌, not, drop}
use Rattle.std.specs.List.{list_all}
use Rattle.cond_spec.specs.Acts.{of_spend}
use Rattle.cond_spec.specs.Signing.{to_sign}
use Rattle.judge_spec.specs.Facts.{acts_of}
use Rattle.block_judge.specs.Signatures.{is_in}
use Rattle.block_judge.proofs.PlaceLaws.{place_from}
use Rattle.block_judge.proofs.signing.unsigned.Given as goal

abbrev pub invariant-loop-place : goal.invariant-loop-place
invariant-loop-place l =
    place_from (λ facts. not (list_all (is_in l.attested) (of_spend (to_sign l.genesis) (acts_of facts)))) l.place (drop l.place l.list)
    ≡ place_from (λ facts. not (list_all (is_in l.attested) (of_spend (to_sign l.genesis) (acts_of facts)))) 0 l.list
