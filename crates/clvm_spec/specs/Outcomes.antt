-- How an operator and a run come out. Source: CLVM reference; that the four counts of fuel and 128 bits are limits
-- is this project's own.
use Rattle.std.specs.Prelude.{ℕ}
use Rattle.clvm_spec.specs.declared.fuel.Fuel.{Fuel}
use Rattle.clvm_spec.specs.declared.fuel.Which.{Which}
use Rattle.clvm_spec.specs.Tree.{Tree}

-- why a form fails
pub data Why : Type 0 where
  -- A path steps into an atom.
  NoStep : Why
  -- The operands are no list ended by nil.
  NotAList : Why
  -- There are too few operands or too many.
  WrongCount : Why
  -- An atom stands where a pair is needed, or a pair where an atom is, or a part of an atom isn't within it.
  WrongOperand : ℕ → Why
  -- The program itself fails, with the list of its operands.
  Raised : Tree → Why
  ZeroDivisor : Why
  -- A shift by more than the limit, either way.
  WrongShift : Why
  -- There is no operator of that code, or a pair stands where the operator does.
  NoOperator : Why

-- what an operator gives of its operands
pub data Applied : Type 0 where
  -- a value, with its cost, the new pairs, and the bytes of new atoms
  Gives : (value : Tree) (cost pairs bytes : ℕ) → Applied
  Fails : Why → Applied
  -- a number that 128 bits don't hold
  TooWide : Applied

-- the same within what is left of the fuel
pub data WithinFuel : Type 0 where
  Enough : Applied → WithinFuel
  -- That count doesn't suffice.
  Lacks : Which → WithinFuel

-- how the evaluation of a program ends
pub data Outcome : Type 0 where
  -- the value, and what is left of the fuel
  Done : (value : Tree) (left : Fuel) → Outcome
  -- The form that fails is the path, or the pair of the step.
  Failed : (why : Why) (form : Tree) → Outcome
  Spent : Which → Outcome
  Wide : Outcome
