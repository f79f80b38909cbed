-- What the words behind `eval` say: an environment, the most cost of the run, and whether its trees are told as text.
-- Source: this project's own.
use Rattle.std.specs.Prelude.{ℕ, List, [], ◌∷◌, Option, Some, None, option_map, option_and_then, if◌then◌else◌, nat_le, codes}
use Rattle.std.specs.Str.Parse.{digits_value}
use Rattle.clvm_input.specs.Words.{word_of}
use Rattle.tool_words.specs.declared.limits.TheConstants.{MOST_COST, USUAL_COST}
use Rattle.tool_words.specs.Rows.{Text, Row, Item, is_among, flags_in, value_of, others_in, said_in}
use Rattle.tool_words.specs.declared.said.Command.{Command}
use Rattle.tool_words.specs.declared.said.Command.TheVariants.{Eval}

abbrev pub eval_row : Row
eval_row = record { flags = codes "text" ∷ []; numbers = codes "cost" ∷ []; least = 1; most = 1 }

-- a number, where it is in its range
abbrev pub up_to : ℕ → ℕ → Option ℕ
up_to most number = if nat_le number most then Some number else None

abbrev pub cost_of : Option Text → Option ℕ
cost_of None = Some USUAL_COST
cost_of (Some digits) = up_to MOST_COST (digits_value 10 digits)

-- the bytes of the one word
abbrev pub env_of : List Text → Option (List ℕ)
env_of [] = None
env_of (word ∷ []) = word_of word
env_of (word ∷ other ∷ words) = None

abbrev pub eval_in : List Item → Option Command
eval_in items = option_and_then (λ cost. option_map (λ env. Eval cost (is_among (flags_in items) (codes "text")) env)
    (env_of (others_in items))) (cost_of (value_of (codes "cost") items))

-- the command, by the words behind its name
abbrev pub eval_of : List Text → Option Command
eval_of words = option_and_then eval_in (said_in eval_row words)
