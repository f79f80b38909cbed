-- What conditions cost at most.
use Rattle.std.proofs.Common.{◌*◌, ◌≤◌, List, [], ◌∷◌, length, arith}
use Rattle.std.proofs.lemmas.List.Sums.{sum_by-cons}
use Rattle.cond_spec.specs.declared.condition.Condition.{Condition}
use Rattle.cond_spec.specs.declared.condition.Condition.TheVariants.{Remark, AggSigParent, AggSigPuzzle, AggSigAmount, AggSigPuzzleAmount, AggSigParentAmount, AggSigParentPuzzle, AggSigUnsafe, AggSigMe, CreateCoin, ReserveFee, CreateCoinAnnouncement, AssertCoinAnnouncement, CreatePuzzleAnnouncement, AssertPuzzleAnnouncement, AssertConcurrentSpend, AssertConcurrentPuzzle, SendMessage, ReceiveMessage, AssertMyCoinId, AssertMyParentId, AssertMyPuzzleHash, AssertMyAmount, AssertMyBirthSeconds, AssertMyBirthHeight, AssertEphemeral, AssertSecondsRelative, AssertSecondsAbsolute, AssertHeightRelative, AssertHeightAbsolute, AssertBeforeSecondsRelative, AssertBeforeSecondsAbsolute, AssertBeforeHeightRelative, AssertBeforeHeightAbsolute}
use Rattle.cond_spec.specs.ConditionTable.{cost_of_condition}
use Rattle.cond_spec.specs.Conditions.{cost_of_conditions}

one-most : (condition : Condition) → cost_of_condition condition ≤ 1_800_000
one-most Remark = omega arith
one-most (AggSigParent k t) = omega arith
one-most (AggSigPuzzle k t) = omega arith
one-most (AggSigAmount k t) = omega arith
one-most (AggSigPuzzleAmount k t) = omega arith
one-most (AggSigParentAmount k t) = omega arith
one-most (AggSigParentPuzzle k t) = omega arith
one-most (AggSigUnsafe k t) = omega arith
one-most (AggSigMe k t) = omega arith
one-most (CreateCoin h n) = omega arith
one-most (ReserveFee n) = omega arith
one-most (CreateCoinAnnouncement t) = omega arith
one-most (AssertCoinAnnouncement h) = omega arith
one-most (CreatePuzzleAnnouncement t) = omega arith
one-most (AssertPuzzleAnnouncement h) = omega arith
one-most (AssertConcurrentSpend h) = omega arith
one-most (AssertConcurrentPuzzle h) = omega arith
one-most (SendMessage m t p) = omega arith
one-most (ReceiveMessage m t p) = omega arith
one-most (AssertMyCoinId h) = omega arith
one-most (AssertMyParentId h) = omega arith
one-most (AssertMyPuzzleHash h) = omega arith
one-most (AssertMyAmount n) = omega arith
one-most (AssertMyBirthSeconds n) = omega arith
one-most (AssertMyBirthHeight n) = omega arith
one-most AssertEphemeral = omega arith
one-most (AssertSecondsRelative n) = omega arith
one-most (AssertSecondsAbsolute n) = omega arith
one-most (AssertHeightRelative n) = omega arith
one-most (AssertHeightAbsolute n) = omega arith
one-most (AssertBeforeSecondsRelative n) = omega arith
one-most (AssertBeforeSecondsAbsolute n) = omega arith
one-most (AssertBeforeHeightRelative n) = omega arith
one-most (AssertBeforeHeightAbsolute n) = omega arith

pub costs_most : (conditions : List Condition) → cost_of_conditions conditions ≤ length conditions * 1_800_000
costs_most [] = omega arith
costs_most (condition ∷ conditions) =
    let one = one-most condition in
    let others = costs_most conditions in
    let sum = sum_by-cons cost_of_condition condition conditions in
    omega arith
