-- How far a body is evaluated, on forms: what waits in frames goes on with each value. This project's own.
use Rattle.std.specs.Prelude.{◌≡◌, ℕ, ◌+◌, ◌<◌, List, [], ◌∷◌, Result, MatchResult}
use Rattle.lisp_read.specs.Views.{form_of}
use Rattle.lisp_read.specs.Copies.{size}
use Rattle.lisp_spec.specs.Forms.{Form, Atom, Symbol, Pair, Place}
use Rattle.lisp_spec.specs.Macros as faults
use Rattle.lisp_spec.specs.MacroBodies.{MacroCall, BodyValue, BodyEvaluator, Stops, if_given, unless_astray, chosen, template_value, body_value}
use Rattle.lisp_spec.specs.MacroBodies as body
use Rattle.lisp_macro.specs.Operators.{list_applied}
use Rattle.lisp_macro.specs.declared.body.Frame.{Frame}
use Rattle.lisp_macro.specs.declared.body.Frame.TheVariants.{Operand, Behind, Apply, Branches, Front}
use Rattle.lisp_macro.specs.declared.body.Next.{Next}
use Rattle.lisp_macro.specs.declared.body.Next.TheVariants.{Evaluates, Fills, Lists, Gives}
use Rattle.lisp_macro.specs.declared.fault.Stop.{Stop}
use Rattle.lisp_macro.specs.declared.fault.Stop.TheVariants.{TurnsSpent, BadMacro, OutOfMemory}

-- a value, on to which another is put
abbrev pub put_on : Place → BodyValue → Form → BodyValue
put_on place first rest = if_given first (λ front left. body.Gives (Pair place front rest) left)

-- the list of the operands' values, the last of them evaluated first
abbrev pub operand_list : BodyEvaluator → Place → Form → ℕ → BodyValue
operand_list evaluate place (Atom at bytes) left = body.Gives (Atom place []) left
operand_list evaluate place (Symbol at name) left = body.Gives (Atom place []) left
operand_list evaluate place (Pair at first rest) left = if_given (operand_list evaluate place rest left) (λ behind after. put_on place (evaluate first after) behind)

module _ (call : MacroCall) where
  -- what a frame goes on to with a value
  abbrev pub frame_goes : Frame → Form → ℕ → BodyValue
  frame_goes (Operand form) behind left = put_on call.place (body_value call (form_of form.now) left) behind
  frame_goes (Behind place rest) first left = body.Gives (Pair place first rest.now) left
  frame_goes (Apply operator) list left = unless_astray (list_applied operator call.place list) left
  frame_goes (Branches second third) condition left = body_value call (chosen condition (form_of second.now) (form_of third.now)) left
  frame_goes (Front place template) behind left = put_on place (template_value (body_value call) (form_of template.now) left) behind

  -- the frames from the outermost to the innermost, which goes on first
  abbrev pub worked_off : List Frame → BodyValue → BodyValue
  worked_off [] value = value
  worked_off (frame ∷ inner) value = if_given (worked_off inner value) (frame_goes frame)

  abbrev pub next_value : Next → ℕ → BodyValue
  next_value (Evaluates form) left = body_value call (form_of form.now) left
  next_value (Fills template) left = template_value (body_value call) (form_of template.now) left
  next_value (Lists list) left = operand_list (body_value call) call.place (form_of list.now) left
  next_value (Gives value) left = body.Gives value.now left

-- ---- what is left to do

abbrev pub frame_left : Frame → ℕ
frame_left (Operand form) = size (form_of form.now) + 2
frame_left (Behind place rest) = 1
frame_left (Apply operator) = 1
frame_left (Branches second third) = size (form_of second.now) + size (form_of third.now) + 1
frame_left (Front place template) = size (form_of template.now) + 2

abbrev pub frames_left : List Frame → ℕ
frames_left [] = 0
frames_left (frame ∷ inner) = frame_left frame + frames_left inner

abbrev pub next_left : Next → ℕ
next_left (Evaluates form) = size (form_of form.now)
next_left (Fills template) = size (form_of template.now)
next_left (Lists list) = size (form_of list.now)
next_left (Gives value) = 0

-- ---- steps

-- All comes to the same, and there is less to do.
pub record GoesOn (call : MacroCall) (before after : List Frame) (left : ℕ) (part : BodyValue) (work : ℕ) (next : Next) : Type 0 where
  pub same : worked_off call after (next_value call next left) ≡ worked_off call before part
  pub less : frames_left after + next_left next < frames_left before + work

-- The part stops so. Memory alone may be wanting at any time.
abbrev pub IsStop : BodyValue → ℕ → Stop → Type 0
IsStop part left TurnsSpent = part ≡ Stops faults.TurnsSpent left
IsStop part left BadMacro = part ≡ Stops faults.BadMacro left
IsStop part left OutOfMemory = Unit {0}

-- A step of this part, with so many turns left behind it, and with so much to do before.
abbrev pub StepsTo : MacroCall → List Frame → List Frame → ℕ → BodyValue → ℕ → Result Next Stop → Type 0
StepsTo call before after left part work result = MatchResult result (GoesOn call before after left part work) (IsStop part left)
