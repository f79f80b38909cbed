use Rattle.std.proofs.Common.{refl}
use Rattle.cond_spec.specs.declared.condition.Condition.TheVariants.{Remark, AggSigParent, AggSigPuzzle, AggSigAmount, AggSigPuzzleAmount, AggSigParentAmount, AggSigParentPuzzle, AggSigUnsafe, AggSigMe, CreateCoin, ReserveFee, CreateCoinAnnouncement, AssertCoinAnnouncement, CreatePuzzleAnnouncement, AssertPuzzleAnnouncement, AssertConcurrentSpend, AssertConcurrentPuzzle, SendMessage, ReceiveMessage, AssertMyCoinId, AssertMyParentId, AssertMyPuzzleHash, AssertMyAmount, AssertMyBirthSeconds, AssertMyBirthHeight, AssertEphemeral, AssertSecondsRelative, AssertSecondsAbsolute, AssertHeightRelative, AssertHeightAbsolute, AssertBeforeSecondsRelative, AssertBeforeSecondsAbsolute, AssertBeforeHeightRelative, AssertBeforeHeightAbsolute}
use Rattle.cond_parse.proofs.laws.columns_are_the_definitions.Goals as goal

pub returns-clause-kinds : goal.returns-clause-kinds
returns-clause-kinds c = ((Remark, refl), ((AggSigParent, refl), ((AggSigPuzzle, refl), ((AggSigAmount, refl), ((AggSigPuzzleAmount, refl), ((AggSigParentAmount, refl), ((AggSigParentPuzzle, refl), ((AggSigUnsafe, refl), ((AggSigMe, refl), ((CreateCoin, refl), ((ReserveFee, refl), ((CreateCoinAnnouncement, refl), ((AssertCoinAnnouncement, refl), ((CreatePuzzleAnnouncement, refl), ((AssertPuzzleAnnouncement, refl), ((AssertConcurrentSpend, refl), ((AssertConcurrentPuzzle, refl), ((SendMessage, refl), ((ReceiveMessage, refl), ((AssertMyCoinId, refl), ((AssertMyParentId, refl), ((AssertMyPuzzleHash, refl), ((AssertMyAmount, refl), ((AssertMyBirthSeconds, refl), ((AssertMyBirthHeight, refl), ((AssertEphemeral, refl), ((AssertSecondsRelative, refl), ((AssertSecondsAbsolute, refl), ((AssertHeightRelative, refl), ((AssertHeightAbsolute, refl), ((AssertBeforeSecondsRelative, refl), ((AssertBeforeSecondsAbsolute, refl), ((AssertBeforeHeightRelative, refl), ((AssertBeforeHeightAbsolute, refl), tt))))))))))))))))))))))))))))))))))
