-- Expressions written out, each part before what is made of it. This project's own.
use Rattle.std.specs.Prelude.{ℕ, List, [], ◌∷◌, ◌++◌, map, Ok}
use Rattle.clvm_spec.specs.Tree.{Tree, nil}
use Rattle.lisp_read.specs.Views.{form_of}
use Rattle.lisp_spec.specs.Quoted.{quoted_form}
use Rattle.lisp_spec.specs.ModuleFaults.{Judged, ◌>>=◌}
use Rattle.lisp_spec.specs.Expressions as spec
use Rattle.lisp_syntax.specs.declared.node.Node.{Node}
use Rattle.lisp_syntax.specs.declared.node.Node.TheVariants as node

pub data Mark : Type 0 where
  Literal : Tree → Mark
  Name : (name : List ℕ) → Mark
  Choice : Mark
  Listing : Mark
  Operation : (code : ℕ) → Mark
  FunctionCall : (name : List ℕ) → Mark
  InlineCall : (name : List ℕ) → Mark
  Filled : Mark
  NoMore : Mark
  Operand : Mark
  Plain : Tree → Mark
  Both : Mark
  Unquoted : Mark

abbrev mutual
  pub written : spec.Expression → List Mark
  written (spec.Literal tree) = Literal tree ∷ []
  written (spec.Name name) = Name name ∷ []
  written (spec.Choice condition second third) = written condition ++ (written second ++ (written third ++ Choice ∷ []))
  written (spec.Listing operands) = written_operands operands ++ Listing ∷ []
  written (spec.Operation code operands) = written_operands operands ++ Operation code ∷ []
  written (spec.FunctionCall name operands) = written_operands operands ++ FunctionCall name ∷ []
  written (spec.InlineCall name operands) = written_operands operands ++ InlineCall name ∷ []
  written (spec.Filled template) = written_template template ++ Filled ∷ []

  pub written_operands : spec.Operands → List Mark
  written_operands spec.NoMore = NoMore ∷ []
  written_operands (spec.Operand first more) = written first ++ (written_operands more ++ Operand ∷ [])

  pub written_template : spec.Template → List Mark
  written_template (spec.Plain tree) = Plain tree ∷ []
  written_template (spec.Both first rest) = written_template first ++ (written_template rest ++ Both ∷ [])
  written_template (spec.Unquoted e) = written e ++ Unquoted ∷ []

-- what a node of the program is
abbrev pub mark_of : Node → Mark
mark_of (node.Literal form) = Literal (quoted_form (form_of form.now))
mark_of (node.Name name) = Name name.now
mark_of node.Choice = Choice
mark_of node.Listing = Listing
mark_of (node.Operation code) = Operation code
mark_of (node.FunctionCall name) = FunctionCall name.now
mark_of (node.InlineCall name) = InlineCall name.now
mark_of node.Filled = Filled
mark_of node.NoMore = NoMore
mark_of node.Operand = Operand
mark_of (node.Plain form) = Plain (quoted_form (form_of form.now))
mark_of node.Both = Both
mark_of node.Unquoted = Unquoted

abbrev pub marks_of : List Node → List Mark
marks_of nodes = map mark_of nodes

-- ---- what is judged, written out

abbrev pub marked : Judged spec.Expression → Judged (List Mark)
marked judged = judged >>= λ e. Ok (written e)

abbrev pub operands_marked : Judged spec.Operands → Judged (List Mark)
operands_marked judged = judged >>= λ operands. Ok (written_operands operands)

abbrev pub template_marked : Judged spec.Template → Judged (List Mark)
template_marked judged = judged >>= λ template. Ok (written_template template)

abbrev pub unquoted_marked : Judged spec.Expression → Judged (List Mark)
unquoted_marked judged = template_marked (judged >>= λ e. Ok (spec.Unquoted e))

-- ---- read back

-- what is made of the marks so far
pub data Piece : Type 0 where
  Whole : spec.Expression → Piece
  Row : spec.Operands → Piece
  Part : spec.Template → Piece

-- A mark takes its parts off the stack and puts on what is made of them.
abbrev pub put : Mark → List Piece → List Piece
put (Literal tree) stack = Whole (spec.Literal tree) ∷ stack
put (Name name) stack = Whole (spec.Name name) ∷ stack
put Choice (Whole third ∷ Whole second ∷ Whole condition ∷ stack) = Whole (spec.Choice condition second third) ∷ stack
put Listing (Row operands ∷ stack) = Whole (spec.Listing operands) ∷ stack
put (Operation code) (Row operands ∷ stack) = Whole (spec.Operation code operands) ∷ stack
put (FunctionCall name) (Row operands ∷ stack) = Whole (spec.FunctionCall name operands) ∷ stack
put (InlineCall name) (Row operands ∷ stack) = Whole (spec.InlineCall name operands) ∷ stack
put Filled (Part template ∷ stack) = Whole (spec.Filled template) ∷ stack
put NoMore stack = Row spec.NoMore ∷ stack
put Operand (Row more ∷ Whole first ∷ stack) = Row (spec.Operand first more) ∷ stack
put (Plain tree) stack = Part (spec.Plain tree) ∷ stack
put Both (Part rest ∷ Part first ∷ stack) = Part (spec.Both first rest) ∷ stack
put Unquoted (Whole e ∷ stack) = Part (spec.Unquoted e) ∷ stack
put mark stack = stack

abbrev pub put_all : List Piece → List Mark → List Piece
put_all stack [] = stack
put_all stack (mark ∷ marks) = put_all (put mark stack) marks

abbrev pub last_whole : List Piece → spec.Expression
last_whole (Whole e ∷ stack) = e
last_whole stack = spec.Literal nil

-- the expression that is written so
abbrev pub expression_in : List Mark → spec.Expression
expression_in marks = last_whole (put_all [] marks)
