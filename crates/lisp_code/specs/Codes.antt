-- Code, by what can be told of it: where a constant or a path is known, what is made of it is shorter. Where parameters and
-- functions stand isn't known yet. Source: this project's own, over the operators of the CLVM reference.
use Rattle.std.specs.Prelude.{ℕ, ◌==◌, List, [], ◌∷◌, ◌++◌, if◌then◌else◌}
use Rattle.clvm_spec.specs.declared.op_codes.TheConstants.{CHOICE, FIRST, NEW_PAIR, RAISE, REST}
use Rattle.clvm_spec.specs.Tree.{Tree, Pair, nil}
use Rattle.lisp_spec.specs.Parameters.{Side, ToFirst, ToRest}
use Rattle.lisp_spec.specs.Environments.{step_code}

mutual
  pub data Code : Type 0 where
    Constant : Tree → Code
    -- what stands at a path of the argument
    Path : List Side → Code
    Other : Piece → Code

  pub data Piece : Type 0 where
    -- an operator on operands
    Operates : ℕ → Parts → Piece
    -- Only one of the two is run.
    Chooses : (test second third : Code) → Piece
    -- a function, by its name, on the list of its operands
    Calls : List ℕ → Code → Piece

  pub data Parts : Type 0 where
    NoPart : Parts
    Part : (first : Code) (more : Parts) → Parts

abbrev pub parts_of : List Code → Parts
parts_of [] = NoPart
parts_of (first ∷ more) = Part first (parts_of more)

abbrev pub operates : ℕ → List Code → Code
operates code operands = Other (Operates code (parts_of operands))

abbrev pub fails : Code
fails = operates RAISE []

-- The pair of two constants is a constant.
abbrev pub pair_of : Code → Code → Code
pair_of (Constant first) (Constant rest) = Constant (Pair first rest)
pair_of first rest = operates NEW_PAIR (first ∷ rest ∷ [])

abbrev pub list_of : List Code → Code
list_of [] = Constant nil
list_of (first ∷ more) = pair_of first (list_of more)

-- A step from a path is a longer path.
abbrev pub step_of : Side → Code → Code
step_of side (Path path) = Path (path ++ side ∷ [])
step_of side (Constant tree) = operates (step_code side) (Constant tree ∷ [])
step_of side (Other piece) = operates (step_code side) (Other piece ∷ [])

-- an operator on operands
abbrev pub operation_of : ℕ → List Code → Code
operation_of code (a ∷ []) =
    if code == FIRST then step_of ToFirst a else if code == REST then step_of ToRest a else operates code (a ∷ [])
operation_of code (a ∷ b ∷ []) = if code == NEW_PAIR then pair_of a b else operates code (a ∷ b ∷ [])
operation_of code operands = operates code operands

-- Two constants may both be there.
abbrev pub choice_of : Code → Code → Code → Code
choice_of test (Constant a) (Constant b) = operates CHOICE (test ∷ Constant a ∷ Constant b ∷ [])
choice_of test second third = Other (Chooses test second third)

abbrev pub call_of : List ℕ → List Code → Code
call_of name operands = Other (Calls name (list_of operands))

-- ---- functions

-- the names of the functions that a code calls
abbrev mutual
  pub functions_called : Code → List (List ℕ)
  functions_called (Constant tree) = []
  functions_called (Path path) = []
  functions_called (Other piece) = called_by_piece piece

  pub called_by_piece : Piece → List (List ℕ)
  called_by_piece (Operates code operands) = called_by_all operands
  called_by_piece (Chooses test second third) = functions_called test ++ (functions_called second ++ functions_called third)
  called_by_piece (Calls name operands) = name ∷ functions_called operands

  pub called_by_all : Parts → List (List ℕ)
  called_by_all NoPart = []
  called_by_all (Part first more) = functions_called first ++ called_by_all more
