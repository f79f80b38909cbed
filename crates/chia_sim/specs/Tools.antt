-- What the commands on one CLVM input write. Source: this project's own.
use Rattle.std.specs.Prelude.{◌≡◌, ℕ, Bool, true, false, List, ◌++◌, map, Result, Ok, Err, string_bytes}
use Rattle.hex.specs.Hex.{encode_lower}
use Rattle.clvm_spec.specs.Tree.{Tree}
use Rattle.clvm_spec.specs.Hashing.{tree_hash}
use Rattle.clvm_spec.specs.Spelled.{spelled_tree}
use Rattle.clvm_spec.specs.Lines.{line_feed}
use Rattle.clvm_input.specs.Inputs.{clvm_input}
use Rattle.clvm_input.specs.Tools.{tool_answer}
use Rattle.tool_eval.specs.Outcomes.{run_line}
use Rattle.tool_eval.specs.declared.Style.{Style}
use Rattle.tool_eval.specs.declared.Style.TheVariants.{Hexadecimal, Text}
use Rattle.tool_curry.specs.Lines.{curry_line}
use Rattle.chia_sim.specs.declared.answer.Answer.{Answer}
use Rattle.chia_sim.specs.declared.answer.Answer.TheVariants.{Output, Refusal}

-- the tree hash of a tree
abbrev pub hash_line : Tree → List ℕ
hash_line tree = encode_lower (tree_hash tree) ++ line_feed

abbrev pub style_of : Bool → Style
style_of true = Text
style_of false = Hexadecimal

-- Each command's line for the tree that an input spells, or the words of the input's fault.
abbrev pub hash_of_input : List ℕ → Result (List ℕ) (List ℕ)
hash_of_input input = tool_answer hash_line (clvm_input input)

abbrev pub eval_of_input : ℕ → Bool → List ℕ → List ℕ → Result (List ℕ) (List ℕ)
eval_of_input cost as_text env input = tool_answer (λ program. run_line (style_of as_text) cost program (spelled_tree env)) (clvm_input input)

abbrev pub curry_of_input : List (List ℕ) → List ℕ → Result (List ℕ) (List ℕ)
curry_of_input arguments input = tool_answer (λ program. curry_line program (map spelled_tree arguments)) (clvm_input input)

-- The text is the output of a command that says this, or the line of the words that it refuses the input with.
abbrev pub Says : Result (List ℕ) (List ℕ) → Answer → Type 0
Says said (Output text) = said ≡ Ok (string_bytes text)
Says said (Refusal text) = (words : List ℕ) × (said ≡ Err words) × (string_bytes text ≡ words ++ line_feed)
