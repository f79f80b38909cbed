-- What a run comes to in words. Source: this project's own.
use Rattle.std.specs.Prelude.{ℕ, List, ◌++◌, length, nat_le, if◌then◌else◌, codes}
use Rattle.std.specs.Fmt.{decimal}
use Rattle.hex.specs.Hex.{encode_lower}
use Rattle.clvm_spec.specs.declared.fuel.Fuel.{Fuel}
use Rattle.clvm_spec.specs.declared.fuel.Which.{Which}
use Rattle.clvm_spec.specs.declared.fuel.Which.TheVariants as which
use Rattle.clvm_spec.specs.declared.limits.TheConstants.{MOST_WRITTEN}
use Rattle.clvm_spec.specs.Tree.{Tree}
use Rattle.clvm_spec.specs.Spelling.{spelling}
use Rattle.clvm_spec.specs.Text.{printed}
use Rattle.clvm_spec.specs.Lines.{line_feed}
use Rattle.clvm_spec.specs.Outcomes.{Why, NoStep, NotAList, WrongCount, WrongOperand, Raised, ZeroDivisor, WrongShift, NoOperator, Outcome, Done, Failed, Spent, Wide}
use Rattle.clvm_spec.specs.Evaluation.{run_outcome, run_cost, fuel_of}
use Rattle.tool_eval.specs.declared.Style.{Style}
use Rattle.tool_eval.specs.declared.Style.TheVariants.{Hexadecimal, Text}

-- a tree in the style that is asked for
abbrev pub styled : Style → Tree → List ℕ
styled Hexadecimal tree = encode_lower (spelling tree)
styled Text tree = printed tree

-- A tree whose spelling has more than 33,554,432 bytes isn't written.
abbrev pub tree_words : Style → Tree → List ℕ
tree_words style tree = if nat_le (length (spelling tree)) MOST_WRITTEN then styled style tree else codes "too-long"

abbrev pub why_words : Style → Why → List ℕ
why_words style NoStep = codes "path"
why_words style NotAList = codes "list"
why_words style WrongCount = codes "count"
why_words style (WrongOperand place) = codes "operand " ++ decimal place
why_words style (Raised tree) = codes "raised " ++ tree_words style tree
why_words style ZeroDivisor = codes "zero"
why_words style WrongShift = codes "shift"
why_words style NoOperator = codes "operator"

abbrev pub which_words : Which → List ℕ
which_words which.Cost = codes "cost"
which_words which.Pairs = codes "pairs"
which_words which.Bytes = codes "bytes"
which_words which.Depth = codes "depth"

abbrev pub done_words : Style → Tree → ℕ → List ℕ
done_words style value cost = codes "value " ++ tree_words style value ++ codes " cost " ++ decimal cost

abbrev pub failed_words : Style → Why → Tree → List ℕ
failed_words style why form = codes "failed " ++ why_words style why ++ codes " " ++ tree_words style form

abbrev pub spent_words : Which → List ℕ
spent_words count = codes "spent " ++ which_words count

abbrev pub outcome_words : Style → Fuel → Outcome → List ℕ
outcome_words style fuel (Done value left) = done_words style value (run_cost fuel left)
outcome_words style fuel (Failed why form) = failed_words style why form
outcome_words style fuel (Spent count) = spent_words count
outcome_words style fuel Wide = codes "wide"

-- the line of a program's run on an environment
abbrev pub run_line : Style → ℕ → Tree → Tree → List ℕ
run_line style cost program env = outcome_words style (fuel_of cost) (run_outcome program env (fuel_of cost)) ++ line_feed
