-- How a step of a run changes its state. This project's own.
use Rattle.std.specs.Prelude.{◌≡◌, ℕ, suc, ◌+◌, ◌-◌, ◌<◌, ◌≤◌, ◌^◌, false, Some, None, Result, MatchResult, MatchOption, Option, List, [], ◌∷◌, ◌++◌, length, take, drop}
use Rattle.clvm_spec.specs.declared.fuel.Fuel.{Fuel}
use Rattle.clvm_spec.specs.Tree.{Tree, Atom}
use Rattle.clvm_spec.specs.ProperList.{elements}
use Rattle.clvm_spec.specs.Outcomes.{Outcome, Done}
use Rattle.clvm_spec.specs.Evaluation.{if_done, is_byte, evaluation}
use Rattle.clvm_spec.specs.OperatorTable.{quote_code}
use Rattle.clvm_spec.specs.Spending.{exceeds, fuel_less, paid}
use Rattle.clvm_tree.specs.Nodes.{tree_at, IsKnown, AreKnown, HasParts}
use Rattle.clvm_tree.specs.Operators.{trees_at, spending_of}
use Rattle.clvm_tree.specs.declared.Node.{Node}
use Rattle.clvm_tree.specs.declared.operators.Answer.{Answer}
use Rattle.clvm_eval.specs.declared.RunFault.{RunFault}
use Rattle.clvm_eval.specs.declared.evaluate.Begun.{Begun}
use Rattle.clvm_eval.specs.declared.evaluate.Begun.TheVariants as begun
use Rattle.clvm_eval.specs.declared.state.Frame.{Frame}
use Rattle.clvm_eval.specs.declared.state.State.{State}
use Rattle.clvm_eval.specs.declared.state.Step.{Step}
use Rattle.clvm_eval.specs.declared.state.Step.TheVariants as step
use Rattle.clvm_eval.specs.Runs.{IsRunFault}
use Rattle.clvm_eval.specs.OpenForms.{OpenForm, form_outcome, goes_through}

-- ---- what stands for what

-- the form of a frame, by the nodes of its operands, of which those from a place on are values
abbrev pub form_of : List Tree → ℕ → Frame → List Node → ℕ → OpenForm
form_of trees depth frame operands place = record {
  code = tree_at trees frame.code.0;
  form = tree_at trees frame.form.0;
  env = tree_at trees frame.env.0;
  depth = depth;
  programs = trees_at trees (take frame.programs operands);
  values = trees_at trees (drop place operands);
}

-- where one of the operands awaits its value
abbrev pub waiting_form : List Tree → ℕ → Frame → List Node → OpenForm
waiting_form trees depth frame operands = form_of trees depth frame operands (frame.programs + 1)

-- where none does
abbrev pub open_form : List Tree → ℕ → Frame → List Node → OpenForm
open_form trees depth frame operands = form_of trees depth frame operands frame.programs

-- each form one deeper than the one around it, with its own operands
abbrev pub waiting_forms : List Tree → ℕ → List Frame → List Node → List OpenForm
waiting_forms trees depth [] operands = []
waiting_forms trees depth (frame ∷ frames) operands =
    waiting_form trees depth frame (take frame.count operands) ∷ waiting_forms trees (suc depth) frames (drop frame.count operands)

-- how many operands all of them have
abbrev pub operand_count : List Frame → ℕ
operand_count [] = 0
operand_count (frame ∷ frames) = frame.count + operand_count frames

-- what a value for the innermost form comes to
abbrev pub goes_out : List Tree → State → Tree → Fuel → Outcome
goes_out trees state = goes_through (waiting_forms trees 0 state.frames.items state.operands.items) Done

-- the last operands, as many as the form has
abbrev pub last_operands : State → Frame → List Node
last_operands state frame = drop (length state.operands.items - frame.count) state.operands.items

abbrev pub outcome_of : List Tree → State → Step → Outcome
outcome_of trees state (step.Done value) = Done (tree_at trees value.0) state.left
outcome_of trees state (step.Open frame) =
    if_done (form_outcome (open_form trees (length state.frames.items) frame (last_operands state frame)) state.left) (goes_out trees state)

-- what evaluating a program comes to, whose value the innermost form awaits
abbrev pub outcome_with : List Tree → State → ℕ → ℕ → Outcome
outcome_with trees state program env =
    if_done (evaluation (tree_at trees program) (tree_at trees env) (length state.frames.items) state.left) (goes_out trees state)

-- ---- what is known of a state

pub record IsFrame (trees : List Tree) (frame : Frame) : Type 0 where
  pub code : IsKnown trees frame.code.0
  pub form : IsKnown trees frame.form.0
  pub env : IsKnown trees frame.env.0
  pub few : frame.count ≤ length trees

-- One of its operands awaits its value.
pub record IsWaiting (trees : List Tree) (frame : Frame) : Type 0 where
  pub sound : IsFrame trees frame
  pub awaits : frame.programs < frame.count

abbrev pub AreWaiting : List Tree → List Frame → Type 0
AreWaiting trees [] = Unit {0}
AreWaiting trees (frame ∷ frames) = IsWaiting trees frame × AreWaiting trees frames

-- Behind the operands of the frames there are so many more.
pub record IsState (trees : List Tree) (state : State) (more : ℕ) : Type 0 where
  pub frames : AreWaiting trees state.frames.items
  pub operands : AreKnown trees state.operands.items
  pub whole : operand_count state.frames.items + more ≡ length state.operands.items
  pub room : length trees + state.left.pairs + state.left.bytes < 2 ^ 30

pub record IsOpen (trees : List Tree) (run : State) (frame : Frame) : Type 0 where
  pub state : IsState trees run frame.count
  pub sound : IsFrame trees frame
  pub within : frame.programs ≤ frame.count

-- The value is there that the innermost form awaits, or that of the run where none does.
pub record HasValue (trees : List Tree) (run : State) (value : ℕ) : Type 0 where
  pub state : IsState trees run 0
  pub known : IsKnown trees value

abbrev pub IsStep : List Tree → State → Step → Type 0
IsStep trees state (step.Done value) = IsKnown trees value.0
IsStep trees state (step.Open frame) = IsOpen trees state frame

-- The run has gone on, at some cost, and all comes to this.
pub record Advances (old new : List Tree) (before after : State) (whole : Outcome) (next : Step) : Type 0 where
  pub sound : IsStep new after next
  pub room : length new + after.left.pairs + after.left.bytes ≤ length old + before.left.pairs + before.left.bytes
  pub cheaper : after.left.cost < before.left.cost
  pub same : outcome_of new after next ≡ whole

-- An operator has given a value for the innermost form, at some cost, and all comes to what it is given.
pub record Yields (old new : List Tree) (before after : State) (whole : Outcome) (value : Node) : Type 0 where
  pub there : HasValue new after value.0
  pub room : length new + after.left.pairs + after.left.bytes ≤ length old + before.left.pairs + before.left.bytes
  pub cheaper : after.left.cost < before.left.cost
  pub same : goes_out new after (tree_at new value.0) after.left ≡ whole

-- the same of what an open form comes to: what its operator gives
abbrev pub YieldsOf : Frame → (old new : List Tree) (before after : State) → Node → Type 0
YieldsOf frame old new before after value = Yields old new before after (outcome_of old before (step.Open frame)) value

-- its fault
abbrev pub IsFaultOf : Frame → (old new : List Tree) → State → RunFault → Type 0
IsFaultOf frame old new before fault = IsRunFault new (outcome_of old before (step.Open frame)) fault

-- the nodes after it: those of a list that is raised are new, and what was made before memory was wanting
abbrev pub FewNodes : (old new : List Tree) → State → Type 0
FewNodes old new before = length new ≤ length old + length old + before.left.pairs + before.left.bytes

-- Where the trees stay as they are: the run goes on, or the fault is that of all.
abbrev pub StepsTo : List Tree → State → State → Outcome → Result Step RunFault → Type 0
StepsTo trees before after whole result = MatchResult result (Advances trees trees before after whole) (IsRunFault trees whole)

-- ---- small steps

-- The value is given to the innermost form, or ends the run.
pub record Gives (trees : List Tree) (before after : State) (value : ℕ) (next : Step) : Type 0 where
  pub sound : IsStep trees after next
  pub left : after.left ≡ before.left
  pub same : outcome_of trees after next ≡ goes_out trees before (tree_at trees value) before.left

pub record Pays (cost : ℕ) (old new : Fuel) : Type 0 where
  pub enough : exceeds cost old.cost ≡ false
  pub is : new ≡ paid cost old

-- The node is an operator form with this code and these operands.
pub record IsForm (trees : List Tree) (form code operands : ℕ) : Type 0 where
  pub parts : HasParts trees form code operands
  pub bytes : List ℕ
  pub is_atom : tree_at trees code ≡ Atom bytes
  pub no_quote : is_byte quote_code bytes ≡ false

-- The program has this value, at whatever depth, which is paid.
pub record IsValueOf (trees : List Tree) (program env : ℕ) (old new : Fuel) (value : ℕ) : Type 0 where
  pub known : IsKnown trees value
  pub done : (depth : ℕ) → evaluation (tree_at trees program) (tree_at trees env) depth old ≡ Done (tree_at trees value) new
  pub cost : ℕ
  pub some : 0 < cost
  pub paid : Pays cost old new

-- It is an operator form, and nothing is paid.
pub record IsUnpaidForm (trees : List Tree) (program : ℕ) (old new : Fuel) (code operands : ℕ) : Type 0 where
  pub form : IsForm trees program code operands
  pub unpaid : new ≡ old

abbrev pub IsBegun : List Tree → ℕ → ℕ → Fuel → Fuel → Begun → Type 0
IsBegun trees program env old new (begun.Value value) = IsValueOf trees program env old new value.0
IsBegun trees program env old new (begun.Form code operands) = IsUnpaidForm trees program old new code.0 operands.0

-- The program fails so, at whatever depth.
abbrev pub FailsSo : List Tree → ℕ → ℕ → Fuel → RunFault → Type 0
FailsSo trees program env left fault = (depth : ℕ) → IsRunFault trees (evaluation (tree_at trees program) (tree_at trees env) depth left) fault

abbrev pub Begins : List Tree → ℕ → ℕ → Fuel → Fuel → Result Begun RunFault → Type 0
Begins trees program env old new result = MatchResult result (IsBegun trees program env old new) (FailsSo trees program env old)

-- The nodes are those of the elements of a list, so many.
pub record AreElements (trees : List Tree) (list : ℕ) (nodes : List Node) : Type 0 where
  pub are : elements (tree_at trees list) ≡ Some (trees_at trees nodes)
  pub few : length nodes ≤ list
  pub known : AreKnown trees nodes

-- So many operands have been added, the elements of the list.
pub record AddsElements (trees : List Tree) (list : ℕ) (old new : List Node) (count : ℕ) : Type 0 where
  pub nodes : List Node
  pub added : new ≡ old ++ nodes
  pub count_is : count ≡ length nodes
  pub elements : AreElements trees list nodes

abbrev pub AddsOperands : List Tree → ℕ → List Node → List Node → Option ℕ → Type 0
AddsOperands trees list old new result = MatchOption result (elements (tree_at trees list) ≡ None) (AddsElements trees list old new)

-- The operands are taken away, and what the answer uses of the fuel.
pub record TakesAnswer (start : ℕ) (answer : Answer) (old new : State) : Type 0 where
  pub frames : new.frames.items ≡ old.frames.items
  pub operands : new.operands.items ≡ take start old.operands.items
  pub left : new.left ≡ fuel_less (spending_of answer) old.left
