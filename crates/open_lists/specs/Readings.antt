-- How a program's forms and places stand for those of a language. This project's own.
use Rattle.std.specs.Prelude.{◌≡◌, Option, option_map}
use Rattle.clvm_spec.specs.Grammar.{Language}

pub record Reading (F P M Q : Type 0) (unknown : F → Option P) : Type 0 where
  pub language : Language M Q
  -- what a form means, and which place a place is
  pub meant : F → M
  pub placed : P → Q
  -- The program finds the first symbol of a form that the language doesn't know.
  pub finds : (form : F) → language.unknown (meant form) ≡ option_map placed (unknown form)
