-- One more frame, and what an expression is once its turn is taken.
use Rattle.std.proofs.Common.{◌≡◌, ℕ, zero, suc, ◌+◌, ◌<◌, ◌≤◌, Bool, true, false, List, [], ◌∷◌, ◌++◌, Result, Ok, Err, codes, Bor, refl, ap, ap₂, sym, subst, ◌∙◌, arith}
use Rattle.std.proofs.lemmas.Bool.{cond-true, cond-false}
use Rattle.lisp_read.specs.declared.form.Form as declared
use Rattle.lisp_read.specs.Views.{form_of}
use Rattle.lisp_read.specs.Copies.{size}
use Rattle.lisp_spec.specs.Forms.{Form, Atom, Symbol, Pair, Place}
use Rattle.lisp_read.specs.FormLists.{form_elements, is_symbol, AreThree}
use Rattle.lisp_spec.specs.Parameters.{path_of}
use Rattle.lisp_spec.specs.Macros as faults
use Rattle.lisp_spec.specs.MacroBodies.{MacroCall, BodyValue, Gives, Stops, if_given, template_value, headed_value, expression_value, branch_value, unless_astray, parameter_or, body_value}
use Rattle.lisp_macro.specs.Operators.{row_of, head_of, head_at, suits}
use Rattle.lisp_macro.specs.Values.{IsAstray}
use Rattle.lisp_macro.specs.declared.operators.Head.{Head}
use Rattle.lisp_macro.specs.declared.operators.Head.TheVariants as heads
use Rattle.lisp_macro.specs.declared.fault.Stop.TheVariants as stops
use Rattle.lisp_macro.proofs.OperandLaws.{operands_applied}
use Rattle.lisp_spec.proofs.BodySteps.{step_law}
use Rattle.lisp_macro.specs.declared.body.Frame.{Frame}
use Rattle.lisp_macro.specs.declared.body.Frame.TheVariants.{Operand, Behind, Apply, Branches, Front}
use Rattle.lisp_macro.specs.declared.operators.Operator.{Operator}
use Rattle.lisp_macro.specs.declared.body.Next.{Next}
use Rattle.lisp_macro.specs.declared.body.Next.TheVariants.{Evaluates, Fills, Lists, Gives as Given}
use Rattle.lisp_macro.specs.declared.fault.Stop.{Stop}
use Rattle.lisp_macro.specs.Evaluations.{operand_list, frame_goes, worked_off, next_value, frame_left, frames_left, next_left, GoesOn, IsStop, StepsTo}

pub left_push : (frames : List Frame) (frame : Frame) → frames_left (frames ++ frame ∷ []) ≡ frames_left frames + frame_left frame
left_push [] frame = omega arith
left_push (f ∷ frames) frame = omega (arith, left_push frames frame)

module _ (call : MacroCall) where
  pub worked_push : (frames : List Frame) (frame : Frame) (v : BodyValue) → worked_off call (frames ++ frame ∷ []) v ≡ worked_off call frames (if_given v (frame_goes call frame))
  worked_push [] frame v = refl
  worked_push (f ∷ frames) frame v = ap (λ w. if_given w (frame_goes call f)) (worked_push frames frame v)

  -- What stops stops all.
  pub all_stops : (frames : List Frame) (fault : faults.MacroFault) (left : ℕ) → worked_off call frames (Stops fault left) ≡ Stops fault left
  all_stops [] fault left = refl
  all_stops (f ∷ frames) fault left = ap (λ w. if_given w (frame_goes call f)) (all_stops frames fault left)

  -- A frame is put on, and goes on with what is next.
  pub pushed : (before after : List Frame) (frame : Frame) (left : ℕ) (part : BodyValue) (work : ℕ) (next : Next) → after ≡ before ++ frame ∷ [] →
      if_given (next_value call next left) (frame_goes call frame) ≡ part → frame_left frame + next_left next < work → GoesOn call before after left part work next
  pushed before after frame left part work next is same less = record {
    same = ap (λ fs. worked_off call fs (next_value call next left)) is ∙ worked_push before frame (next_value call next left) ∙ ap (worked_off call before) same;
    less = omega (arith, less, ap frames_left is, left_push before frame);
  }

  -- The frames stay as they are.
  pub kept : (frames : List Frame) (left : ℕ) (part : BodyValue) (work : ℕ) (next : Next) → next_value call next left ≡ part → next_left next < work → GoesOn call frames frames left part work next
  kept frames left part work next same less = record { same = ap (worked_off call frames) same; less = omega (arith, less) }

  pub steps_more : (before after : List Frame) (left : ℕ) (part : BodyValue) (work more : ℕ) (result : Result Next Stop) → work ≤ more → StepsTo call before after left part work result → StepsTo call before after left part more result
  steps_more before after left part work more (Ok next) h g = record { same = g.same; less = omega (arith, h, g.less) }
  steps_more before after left part work more (Err stop) h g = g

-- ---- turns

pub spent : (call : MacroCall) (expression : Form) (turns : ℕ) → turns ≡ 0 → body_value call expression turns ≡ Stops faults.TurnsSpent turns
spent call expression turns is = ap (body_value call expression) is ∙ step_law call expression 0 ∙ ap (Stops faults.TurnsSpent) (sym is)

pub taken : (call : MacroCall) (expression : Form) (turns left : ℕ) → turns ≡ suc left → body_value call expression turns ≡ expression_value (body_value call) call expression left
taken call expression turns left is = ap (body_value call expression) is ∙ step_law call expression (suc left)

-- ---- parts of forms

-- a pair, by the forms in its boxes
pub whole : (form : Form) (at : Place) (a b first rest : Form) → form ≡ Pair at a b → first ≡ a → rest ≡ b → form ≡ Pair at first rest
whole form at a b first rest is f r = is ∙ sym (ap₂ (Pair at) f r)

module _ (call : MacroCall) (before after : List Frame) (left : ℕ) where
  abbrev evaluate : Form → ℕ → BodyValue
  evaluate = body_value call

  -- the first of the list waits for the values behind it
  pub listed : (form : Form) (at : Place) (first rest : Bor declared.Form) → form ≡ Pair at (form_of first.now) (form_of rest.now) → after ≡ before ++ Operand first ∷ [] →
      GoesOn call before after left (operand_list (body_value call) call.place form left) (size form) (Lists rest)
  listed form at first rest is push = pushed call before after (Operand first) left _ _ (Lists rest) push (ap (λ f. operand_list (body_value call) call.place f left) (sym is)) (omega (arith, ap size is))

  -- the first of a template's pair waits for the rest
  pub filled : (form : Form) (at : Place) (first rest : Bor declared.Form) → form ≡ Pair at (form_of first.now) (form_of rest.now) → is_symbol (codes "unquote") (form_of first.now) ≡ false → after ≡ before ++ Front at first ∷ [] →
      GoesOn call before after left (template_value (body_value call) form left) (size form) (Fills rest)
  filled form at first rest is other push =
      pushed call before after (Front at first) left _ _ (Fills rest) push
      (sym (ap (λ f. template_value (body_value call) f left) is ∙ cond-false (is_symbol (codes "unquote") (form_of first.now)) _ _ other)) (omega (arith, ap size is))

  -- a frame goes on with a value: an operand is evaluated, or a template's first is filled
  pub operand_resumed : (frame : Frame) (operand : Bor declared.Form) (value : Bor Form) → frame ≡ Operand operand → after ≡ before ++ Behind call.place value ∷ [] →
      GoesOn call before after left (frame_goes call frame value.now left) (frame_left frame) (Evaluates operand)
  operand_resumed frame operand value is push =
      pushed call before after (Behind call.place value) left _ _ (Evaluates operand) push (ap (λ f. frame_goes call f value.now left) (sym is)) (omega (arith, ap frame_left is))

  pub front_resumed : (frame : Frame) (place : Place) (template : Bor declared.Form) (value : Bor Form) → frame ≡ Front place template → after ≡ before ++ Behind place value ∷ [] →
      GoesOn call before after left (frame_goes call frame value.now left) (frame_left frame) (Fills template)
  front_resumed frame place template value is push =
      pushed call before after (Behind place value) left _ _ (Fills template) push (ap (λ f. frame_goes call f value.now left) (sym is)) (omega (arith, ap frame_left is))

  -- the condition of `if`, for which its branches wait
  pub branched : (head : Head) (rest : Form) (condition second third : Bor declared.Form) → head ≡ heads.Branches → AreThree rest (form_of condition.now) (form_of second.now) (form_of third.now) → after ≡ before ++ Branches second third ∷ [] →
      GoesOn call before after left (headed_value evaluate call.place (head_of head) rest left) (size rest + 2) (Evaluates condition)
  branched head rest condition second third is three push =
      pushed call before after (Branches second third) left _ _ (Evaluates condition) push
      (ap (λ o. branch_value evaluate o left) (sym three.elements) ∙ ap (λ h. headed_value evaluate call.place (head_of h) rest left) (sym is)) (omega (arith, three.small))

  -- the operands of an operator, which waits for the list of their values
  pub operated : (head : Head) (operator : Operator) (rest : Bor declared.Form) → head ≡ heads.Operation operator → suits (row_of operator).count (form_elements (form_of rest.now)) ≡ true → after ≡ before ++ Apply operator ∷ [] →
      GoesOn call before after left (headed_value evaluate call.place (head_of head) (form_of rest.now) left) (size (form_of rest.now) + 2) (Lists rest)
  operated head operator rest is suit push =
      pushed call before after (Apply operator) left _ _ (Lists rest) push
      (operands_applied evaluate call.place operator (form_of rest.now) left suit ∙ ap (λ h. headed_value evaluate call.place (head_of h) (form_of rest.now) left) (sym is)) (omega arith)

-- ---- expressions, once their turns are taken

by_head : (evaluate : Form → ℕ → BodyValue) (call : MacroCall) (at : Place) (head rest : Form) (left : ℕ) → expression_value evaluate call (Pair at head rest) left ≡ headed_value evaluate call.place (head_at head) rest left
by_head evaluate call at (Atom place bytes) rest left = refl
by_head evaluate call at (Symbol place name) rest left = refl
by_head evaluate call at (Pair place first more) rest left = refl

module _ (call : MacroCall) (expression : Form) (turns left : ℕ) (turn : turns ≡ suc left) where
  -- an atom, or a symbol with what it stands for
  pub leaf_evaluated : (frames : List Frame) (leaf : Form) (value : Bor Form) → expression ≡ leaf → 0 < size leaf → expression_value (body_value call) call leaf left ≡ Gives value.now left →
      GoesOn call frames frames left (body_value call expression turns) (size expression) (Given value)
  leaf_evaluated frames leaf value is large made =
      kept call frames left _ _ (Given value) (sym (ap (λ e. body_value call e turns) is ∙ taken call leaf turns left turn ∙ made)) (omega (arith, large, ap size is))

  pub symbol_astray : (at : Place) (name : List ℕ) (stop : Stop) → expression ≡ Symbol at name → IsAstray (parameter_or (Symbol at name) (path_of name call.params) call.operands) stop → IsStop (body_value call expression turns) left stop
  symbol_astray at name stops.TurnsSpent is astray = absurd astray
  symbol_astray at name stops.BadMacro is astray = ap (λ e. body_value call e turns) is ∙ taken call (Symbol at name) turns left turn ∙ ap (λ found. unless_astray found left) astray
  symbol_astray at name stops.OutOfMemory is astray = tt

  pub headed_evaluated : (before after : List Frame) (at : Place) (head rest : Form) (kind : Head) (result : Result Next Stop) → expression ≡ Pair at head rest → head_of kind ≡ head_at head →
      StepsTo call before after left (headed_value (body_value call) call.place (head_of kind) rest left) (size rest + 2) result → StepsTo call before after left (body_value call expression turns) (size expression) result
  headed_evaluated before after at head rest kind result is kind_is steps =
      subst (λ part. StepsTo call before after left part (size expression) result)
      (ap (λ h. headed_value (body_value call) call.place h rest left) kind_is ∙ sym (ap (λ e. body_value call e turns) is ∙ taken call (Pair at head rest) turns left turn ∙ by_head (body_value call) call at head rest left))
      (steps_more call before after left _ (size rest + 2) (size expression) result (omega (arith, ap size is)) steps)

-- ---- the innermost frame

-- taken off, it goes on with the value
pub popped_same : (call : MacroCall) (frames popped : List Frame) (frame : Frame) (next : Next) (value : Bor Form) (left : ℕ) (whole : BodyValue) → frames ≡ popped ++ frame ∷ [] → next ≡ Given value →
    worked_off call frames (next_value call next left) ≡ whole → worked_off call popped (frame_goes call frame value.now left) ≡ whole
popped_same call frames popped frame next value left whole off is same =
    sym (worked_push call popped frame (Gives value.now left)) ∙ ap (λ fs. worked_off call fs (Gives value.now left)) (sym off) ∙ ap (λ n. worked_off call frames (next_value call n left)) (sym is) ∙ same

-- What a part stops with, all stops with.
pub stop_is : (call : MacroCall) (frames : List Frame) (part whole : BodyValue) (left : ℕ) (stop : Stop) → worked_off call frames part ≡ whole → IsStop part left stop → IsStop whole left stop
stop_is call frames part whole left stops.TurnsSpent same is = sym same ∙ ap (worked_off call frames) is ∙ all_stops call frames faults.TurnsSpent left
stop_is call frames part whole left stops.BadMacro same is = sym same ∙ ap (worked_off call frames) is ∙ all_stops call frames faults.BadMacro left
stop_is call frames part whole left stops.OutOfMemory same is = tt
