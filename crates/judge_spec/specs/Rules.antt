-- The numbers of the rules. Source: this project's own.
use Rattle.std.specs.Prelude.{ℕ}
use Rattle.judge_spec.specs.declared.rule.Rule.{Rule}
use Rattle.judge_spec.specs.declared.rule.Rule.TheVariants.{NoSpend, SpentTwice, WrongPuzzleHash, RunFails, TooCostly, RunIsWide, MalformedCondition, UnknownCondition, SameOutput, WrongOwnFact, UnknownCoin, SpentInChain, WrongBirth, TooEarly, TooLate, UnmadeAnnouncement, AbsentSpend, NotEphemeral, UnevenMessage, CreatesTooMuch, LacksReservedFee, NotAttested, CoinExists, InPool, LeavesCoins, LowerRate, SmallRaise, PoolIsFull, NotABlock, NotNext, NotLater, TooFarBack}

abbrev pub number_of : Rule → ℕ
number_of NoSpend = 1
number_of SpentTwice = 2
number_of WrongPuzzleHash = 3
number_of RunFails = 4
number_of TooCostly = 5
number_of RunIsWide = 6
number_of MalformedCondition = 7
number_of UnknownCondition = 8
number_of SameOutput = 9
number_of WrongOwnFact = 10
number_of UnknownCoin = 11
number_of SpentInChain = 12
number_of WrongBirth = 13
number_of TooEarly = 14
number_of TooLate = 15
number_of UnmadeAnnouncement = 16
number_of AbsentSpend = 17
number_of NotEphemeral = 18
number_of UnevenMessage = 19
number_of CreatesTooMuch = 20
number_of LacksReservedFee = 21
number_of NotAttested = 22
number_of CoinExists = 23
number_of InPool = 30
number_of LeavesCoins = 31
number_of LowerRate = 32
number_of SmallRaise = 33
number_of PoolIsFull = 34
number_of NotABlock = 40
number_of NotNext = 41
number_of NotLater = 42
number_of TooFarBack = 43
