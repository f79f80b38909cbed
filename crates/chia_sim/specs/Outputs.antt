-- What each command writes for an input, and where it refuses one. This project's own.
use Rattle.std.specs.Prelude.{◌≡◌, ℕ, List, Some, None, Ok, Err, IsSome, IsOk, codes}
use Rattle.pool_spec.specs.History.{Session, Entry, IsLegal}
use Rattle.session_spec.specs.FirstForm.{first_form_of}
use Rattle.session_spec.specs.Texts.{output_of}
use Rattle.tool_words.specs.declared.said.Command.{Command}
use Rattle.tool_words.specs.declared.said.Command.TheVariants as command
use Rattle.chia_sim.specs.Tools.{hash_of_input, eval_of_input, curry_of_input}

-- The input is a session, and these bytes are the output of one legal history of it.
pub record IsPlayed (input output : List ℕ) : Type 0 where
  pub session : Session
  pub of_input : first_form_of input ≡ Some session
  pub history : List Entry
  pub legal : IsLegal session history
  pub text : output ≡ output_of history

-- These bytes are what the command writes for the input.
abbrev pub HasOutput : Command → List ℕ → List ℕ → Type 0
HasOutput command.Session input output = IsPlayed input output
HasOutput command.Hash input output = hash_of_input input ≡ Ok output
HasOutput (command.Eval cost as_text env) input output = eval_of_input cost as_text env input ≡ Ok output
HasOutput (command.Curry arguments) input output = curry_of_input arguments input ≡ Ok output

-- The input isn't of the command's form; these words say why.
abbrev pub HasFault : Command → List ℕ → List ℕ → Type 0
HasFault command.Session input words = (first_form_of input ≡ None) × (words ≡ codes "unbuilt")
HasFault command.Hash input words = hash_of_input input ≡ Err words
HasFault (command.Eval cost as_text env) input words = eval_of_input cost as_text env input ≡ Err words
HasFault (command.Curry arguments) input words = curry_of_input arguments input ≡ Err words

-- The input is of the command's form.
abbrev pub IsInForm : Command → List ℕ → Type 0
IsInForm command.Session input = IsSome (first_form_of input)
IsInForm command.Hash input = IsOk (hash_of_input input)
IsInForm (command.Eval cost as_text env) input = IsOk (eval_of_input cost as_text env input)
IsInForm (command.Curry arguments) input = IsOk (curry_of_input arguments input)
