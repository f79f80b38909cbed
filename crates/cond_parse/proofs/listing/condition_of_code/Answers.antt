use Rattle.std.proofs.Common.{◌≡◌, refl, arith}
use Rattle.clvm_tree.specs.Nodes.{tree_at}
use Rattle.cond_spec.specs.declared.condition.Condition.TheVariants.{AggSigParent, AggSigPuzzle, AggSigAmount, AggSigPuzzleAmount, AggSigParentAmount, AggSigParentPuzzle, AggSigUnsafe, AggSigMe, CreateCoin, ReserveFee, CreateCoinAnnouncement, AssertCoinAnnouncement, CreatePuzzleAnnouncement, AssertPuzzleAnnouncement, AssertConcurrentSpend, AssertConcurrentPuzzle, SendMessage, ReceiveMessage, AssertMyCoinId, AssertMyParentId, AssertMyPuzzleHash, AssertMyAmount, AssertMyBirthSeconds, AssertMyBirthHeight, AssertSecondsRelative, AssertSecondsAbsolute, AssertHeightRelative, AssertHeightAbsolute, AssertBeforeSecondsRelative, AssertBeforeSecondsAbsolute, AssertBeforeHeightRelative, AssertBeforeHeightAbsolute}
use Rattle.cond_parse.proofs.ReadingLaws.{no_condition}
use Rattle.cond_parse.proofs.listing.condition_of_code.Goals as goal

pub returns-in_err-key : goal.returns-in_err-key
returns-in_err-key c =
    let code : c.args.code ≡ 43 = omega arith in
    no_condition c.args.code 43 (tree_at c.args.trees.now c.args.operands.0) _ c.in_err-key.field-0.0 _ code c.from_residual.ensures.1 (c.in_err-key.ensures AggSigParent) refl

pub returns-in_err-key-2 : goal.returns-in_err-key-2
returns-in_err-key-2 c =
    let code : c.args.code ≡ 44 = omega arith in
    no_condition c.args.code 44 (tree_at c.args.trees.now c.args.operands.0) _ c.in_err-key-2.field-0.0 _ code c.from_residual-in_err-key-2.ensures.1 (c.in_err-key-2.ensures AggSigPuzzle) refl

pub returns-in_err-key-3 : goal.returns-in_err-key-3
returns-in_err-key-3 c =
    let code : c.args.code ≡ 45 = omega arith in
    no_condition c.args.code 45 (tree_at c.args.trees.now c.args.operands.0) _ c.in_err-key-3.field-0.0 _ code c.from_residual-in_err-key-3.ensures.1 (c.in_err-key-3.ensures AggSigAmount) refl

pub returns-in_err-key-4 : goal.returns-in_err-key-4
returns-in_err-key-4 c =
    let code : c.args.code ≡ 46 = omega arith in
    no_condition c.args.code 46 (tree_at c.args.trees.now c.args.operands.0) _ c.in_err-key-4.field-0.0 _ code c.from_residual-in_err-key-4.ensures.1 (c.in_err-key-4.ensures AggSigPuzzleAmount) refl

pub returns-in_err-key-5 : goal.returns-in_err-key-5
returns-in_err-key-5 c =
    let code : c.args.code ≡ 47 = omega arith in
    no_condition c.args.code 47 (tree_at c.args.trees.now c.args.operands.0) _ c.in_err-key-5.field-0.0 _ code c.from_residual-in_err-key-5.ensures.1 (c.in_err-key-5.ensures AggSigParentAmount) refl

pub returns-in_err-key-6 : goal.returns-in_err-key-6
returns-in_err-key-6 c =
    let code : c.args.code ≡ 48 = omega arith in
    no_condition c.args.code 48 (tree_at c.args.trees.now c.args.operands.0) _ c.in_err-key-6.field-0.0 _ code c.from_residual-in_err-key-6.ensures.1 (c.in_err-key-6.ensures AggSigParentPuzzle) refl

pub returns-in_err-key-7 : goal.returns-in_err-key-7
returns-in_err-key-7 c =
    let code : c.args.code ≡ 49 = omega arith in
    no_condition c.args.code 49 (tree_at c.args.trees.now c.args.operands.0) _ c.in_err-key-7.field-0.0 _ code c.from_residual-in_err-key-7.ensures.1 (c.in_err-key-7.ensures AggSigUnsafe) refl

pub returns-in_err-key-8 : goal.returns-in_err-key-8
returns-in_err-key-8 c =
    let code : c.args.code ≡ 50 = omega arith in
    no_condition c.args.code 50 (tree_at c.args.trees.now c.args.operands.0) _ c.in_err-key-8.field-0.0 _ code c.from_residual-in_err-key-8.ensures.1 (c.in_err-key-8.ensures AggSigMe) refl

pub returns-in_err-puzzle_hash : goal.returns-in_err-puzzle_hash
returns-in_err-puzzle_hash c =
    let code : c.args.code ≡ 51 = omega arith in
    no_condition c.args.code 51 (tree_at c.args.trees.now c.args.operands.0) _ c.in_err-puzzle_hash.field-0.0 _ code c.from_residual-in_err-puzzle_hash.ensures.1 (c.in_err-puzzle_hash.ensures CreateCoin) refl

pub returns-in_err-one_amount : goal.returns-in_err-one_amount
returns-in_err-one_amount c =
    let code : c.args.code ≡ 52 = omega arith in
    no_condition c.args.code 52 (tree_at c.args.trees.now c.args.operands.0) _ c.in_err-one_amount.field-0.0 _ code c.from_residual-in_err-one_amount.ensures.1 (c.in_err-one_amount.ensures ReserveFee) refl

pub returns-in_err-one_text : goal.returns-in_err-one_text
returns-in_err-one_text c =
    let code : c.args.code ≡ 60 = omega arith in
    no_condition c.args.code 60 (tree_at c.args.trees.now c.args.operands.0) _ c.in_err-one_text.field-0.0 _ code c.from_residual-in_err-one_text.ensures.1 (c.in_err-one_text.ensures CreateCoinAnnouncement) refl

pub returns-in_err-one_hash : goal.returns-in_err-one_hash
returns-in_err-one_hash c =
    let code : c.args.code ≡ 61 = omega arith in
    no_condition c.args.code 61 (tree_at c.args.trees.now c.args.operands.0) _ c.in_err-one_hash.field-0.0 _ code c.from_residual-in_err-one_hash.ensures.1 (c.in_err-one_hash.ensures AssertCoinAnnouncement) refl

pub returns-in_err-one_text-2 : goal.returns-in_err-one_text-2
returns-in_err-one_text-2 c =
    let code : c.args.code ≡ 62 = omega arith in
    no_condition c.args.code 62 (tree_at c.args.trees.now c.args.operands.0) _ c.in_err-one_text-2.field-0.0 _ code c.from_residual-in_err-one_text-2.ensures.1 (c.in_err-one_text-2.ensures CreatePuzzleAnnouncement) refl

pub returns-in_err-one_hash-2 : goal.returns-in_err-one_hash-2
returns-in_err-one_hash-2 c =
    let code : c.args.code ≡ 63 = omega arith in
    no_condition c.args.code 63 (tree_at c.args.trees.now c.args.operands.0) _ c.in_err-one_hash-2.field-0.0 _ code c.from_residual-in_err-one_hash-2.ensures.1 (c.in_err-one_hash-2.ensures AssertPuzzleAnnouncement) refl

pub returns-in_err-one_hash-3 : goal.returns-in_err-one_hash-3
returns-in_err-one_hash-3 c =
    let code : c.args.code ≡ 64 = omega arith in
    no_condition c.args.code 64 (tree_at c.args.trees.now c.args.operands.0) _ c.in_err-one_hash-3.field-0.0 _ code c.from_residual-in_err-one_hash-3.ensures.1 (c.in_err-one_hash-3.ensures AssertConcurrentSpend) refl

pub returns-in_err-one_hash-4 : goal.returns-in_err-one_hash-4
returns-in_err-one_hash-4 c =
    let code : c.args.code ≡ 65 = omega arith in
    no_condition c.args.code 65 (tree_at c.args.trees.now c.args.operands.0) _ c.in_err-one_hash-4.field-0.0 _ code c.from_residual-in_err-one_hash-4.ensures.1 (c.in_err-one_hash-4.ensures AssertConcurrentPuzzle) refl

pub returns-in_err-mode : goal.returns-in_err-mode
returns-in_err-mode c =
    let code : c.args.code ≡ 66 = omega arith in
    no_condition c.args.code 66 (tree_at c.args.trees.now c.args.operands.0) _ c.in_err-mode.field-0.0 _ code c.from_residual-in_err-mode.ensures.1 (c.in_err-mode.ensures SendMessage) refl

pub returns-in_err-mode-2 : goal.returns-in_err-mode-2
returns-in_err-mode-2 c =
    let code : c.args.code ≡ 67 = omega arith in
    no_condition c.args.code 67 (tree_at c.args.trees.now c.args.operands.0) _ c.in_err-mode-2.field-0.0 _ code c.from_residual-in_err-mode-2.ensures.1 (c.in_err-mode-2.ensures ReceiveMessage) refl

pub returns-in_err-one_hash-5 : goal.returns-in_err-one_hash-5
returns-in_err-one_hash-5 c =
    let code : c.args.code ≡ 70 = omega arith in
    no_condition c.args.code 70 (tree_at c.args.trees.now c.args.operands.0) _ c.in_err-one_hash-5.field-0.0 _ code c.from_residual-in_err-one_hash-5.ensures.1 (c.in_err-one_hash-5.ensures AssertMyCoinId) refl

pub returns-in_err-one_hash-6 : goal.returns-in_err-one_hash-6
returns-in_err-one_hash-6 c =
    let code : c.args.code ≡ 71 = omega arith in
    no_condition c.args.code 71 (tree_at c.args.trees.now c.args.operands.0) _ c.in_err-one_hash-6.field-0.0 _ code c.from_residual-in_err-one_hash-6.ensures.1 (c.in_err-one_hash-6.ensures AssertMyParentId) refl

pub returns-in_err-one_hash-7 : goal.returns-in_err-one_hash-7
returns-in_err-one_hash-7 c =
    let code : c.args.code ≡ 72 = omega arith in
    no_condition c.args.code 72 (tree_at c.args.trees.now c.args.operands.0) _ c.in_err-one_hash-7.field-0.0 _ code c.from_residual-in_err-one_hash-7.ensures.1 (c.in_err-one_hash-7.ensures AssertMyPuzzleHash) refl

pub returns-in_err-one_amount-2 : goal.returns-in_err-one_amount-2
returns-in_err-one_amount-2 c =
    let code : c.args.code ≡ 73 = omega arith in
    no_condition c.args.code 73 (tree_at c.args.trees.now c.args.operands.0) _ c.in_err-one_amount-2.field-0.0 _ code c.from_residual-in_err-one_amount-2.ensures.1 (c.in_err-one_amount-2.ensures AssertMyAmount) refl

pub returns-in_err-one_moment : goal.returns-in_err-one_moment
returns-in_err-one_moment c =
    let code : c.args.code ≡ 74 = omega arith in
    no_condition c.args.code 74 (tree_at c.args.trees.now c.args.operands.0) _ c.in_err-one_moment.field-0.0 _ code c.from_residual-in_err-one_moment.ensures.1 (c.in_err-one_moment.ensures AssertMyBirthSeconds) refl

pub returns-in_err-one_moment-2 : goal.returns-in_err-one_moment-2
returns-in_err-one_moment-2 c =
    let code : c.args.code ≡ 75 = omega arith in
    no_condition c.args.code 75 (tree_at c.args.trees.now c.args.operands.0) _ c.in_err-one_moment-2.field-0.0 _ code c.from_residual-in_err-one_moment-2.ensures.1 (c.in_err-one_moment-2.ensures AssertMyBirthHeight) refl

pub returns-in_err-one_moment-3 : goal.returns-in_err-one_moment-3
returns-in_err-one_moment-3 c =
    let code : c.args.code ≡ 80 = omega arith in
    no_condition c.args.code 80 (tree_at c.args.trees.now c.args.operands.0) _ c.in_err-one_moment-3.field-0.0 _ code c.from_residual-in_err-one_moment-3.ensures.1 (c.in_err-one_moment-3.ensures AssertSecondsRelative) refl

pub returns-in_err-one_moment-4 : goal.returns-in_err-one_moment-4
returns-in_err-one_moment-4 c =
    let code : c.args.code ≡ 81 = omega arith in
    no_condition c.args.code 81 (tree_at c.args.trees.now c.args.operands.0) _ c.in_err-one_moment-4.field-0.0 _ code c.from_residual-in_err-one_moment-4.ensures.1 (c.in_err-one_moment-4.ensures AssertSecondsAbsolute) refl

pub returns-in_err-one_moment-5 : goal.returns-in_err-one_moment-5
returns-in_err-one_moment-5 c =
    let code : c.args.code ≡ 82 = omega arith in
    no_condition c.args.code 82 (tree_at c.args.trees.now c.args.operands.0) _ c.in_err-one_moment-5.field-0.0 _ code c.from_residual-in_err-one_moment-5.ensures.1 (c.in_err-one_moment-5.ensures AssertHeightRelative) refl

pub returns-in_err-one_moment-6 : goal.returns-in_err-one_moment-6
returns-in_err-one_moment-6 c =
    let code : c.args.code ≡ 83 = omega arith in
    no_condition c.args.code 83 (tree_at c.args.trees.now c.args.operands.0) _ c.in_err-one_moment-6.field-0.0 _ code c.from_residual-in_err-one_moment-6.ensures.1 (c.in_err-one_moment-6.ensures AssertHeightAbsolute) refl

pub returns-in_err-one_moment-7 : goal.returns-in_err-one_moment-7
returns-in_err-one_moment-7 c =
    let code : c.args.code ≡ 84 = omega arith in
    no_condition c.args.code 84 (tree_at c.args.trees.now c.args.operands.0) _ c.in_err-one_moment-7.field-0.0 _ code c.from_residual-in_err-one_moment-7.ensures.1 (c.in_err-one_moment-7.ensures AssertBeforeSecondsRelative) refl

pub returns-in_err-one_moment-8 : goal.returns-in_err-one_moment-8
returns-in_err-one_moment-8 c =
    let code : c.args.code ≡ 85 = omega arith in
    no_condition c.args.code 85 (tree_at c.args.trees.now c.args.operands.0) _ c.in_err-one_moment-8.field-0.0 _ code c.from_residual-in_err-one_moment-8.ensures.1 (c.in_err-one_moment-8.ensures AssertBeforeSecondsAbsolute) refl

pub returns-in_err-one_moment-9 : goal.returns-in_err-one_moment-9
returns-in_err-one_moment-9 c =
    let code : c.args.code ≡ 86 = omega arith in
    no_condition c.args.code 86 (tree_at c.args.trees.now c.args.operands.0) _ c.in_err-one_moment-9.field-0.0 _ code c.from_residual-in_err-one_moment-9.ensures.1 (c.in_err-one_moment-9.ensures AssertBeforeHeightRelative) refl

pub returns-in_err-one_moment-10 : goal.returns-in_err-one_moment-10
returns-in_err-one_moment-10 c =
    let code : c.args.code ≡ 87 = omega arith in
    no_condition c.args.code 87 (tree_at c.args.trees.now c.args.operands.0) _ c.in_err-one_moment-10.field-0.0 _ code c.from_residual-in_err-one_moment-10.ensures.1 (c.in_err-one_moment-10.ensures AssertBeforeHeightAbsolute) refl
