use Rattle.std.proofs.Common.{◌∙◌}
use Rattle.cond_parse.proofs.ReadingLaws.{no_one, lacks_behind}
use Rattle.cond_parse.proofs.PartLaws.{behind_amount, behind_puzzle_hash, behind_parent, behind_id}
use Rattle.cond_parse.proofs.parts.party.Goals as goal

pub returns-in_err-id : goal.returns-in_err-id
returns-in_err-id c = no_one _ c.in_err-id.field-0.0 _ c.from_residual.ensures.1 (λ make.
    c.in_err-id.ensures.takes (behind_id c.args.side make))

pub returns-in_err-parent : goal.returns-in_err-parent
returns-in_err-parent c = no_one _ c.in_err-parent.field-0.0 _ c.from_residual-in_err-parent.ensures.1 (λ make.
    lacks_behind _ _ _ (c.in_ok-id.ensures.takes (behind_id c.args.side make)) (c.in_err-parent.ensures.takes (behind_parent c.args.side make c.in_ok-id.id)))

pub returns-in_err-puzzle_hash : goal.returns-in_err-puzzle_hash
returns-in_err-puzzle_hash c = no_one _ c.in_err-puzzle_hash.field-0.0 _ c.from_residual-in_err-puzzle_hash.ensures.1 (λ make.
    let id = c.in_ok-id.id in
    lacks_behind _ _ _ (c.in_ok-id.ensures.takes (behind_id c.args.side make) ∙ c.in_ok-parent.ensures.takes (behind_parent c.args.side make id))
    (c.in_err-puzzle_hash.ensures.takes (behind_puzzle_hash c.args.side make id c.in_ok-parent.parent)))

pub returns-in_err-amount : goal.returns-in_err-amount
returns-in_err-amount c = no_one _ c.in_err-amount.field-0.0 _ c.from_residual-in_err-amount.ensures.1 (λ make.
    let id = c.in_ok-id.id in
    let parent = c.in_ok-parent.parent in
    lacks_behind _ _ _
    (c.in_ok-id.ensures.takes (behind_id c.args.side make) ∙ c.in_ok-parent.ensures.takes (behind_parent c.args.side make id) ∙ c.in_ok-puzzle_hash.ensures.takes (behind_puzzle_hash c.args.side make id parent))
    (c.in_err-amount.ensures.takes (behind_amount make id parent c.in_ok-puzzle_hash.puzzle_hash)))
