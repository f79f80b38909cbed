-- What is read in a scope names only what the scope has, and no operator of it is `q`.
use Rattle.std.proofs.Common.{◌≡◌, ◌==◌, true, false, [], ◌∷◌, List, Option, Some, None, refl}
use Rattle.lisp_spec.specs.Forms.{Form}
use Rattle.lisp_spec.specs.Parameters.{Side, ToFirst, ToRest}
use Rattle.lisp_spec.specs.ModuleFaults.{is_among}
use Rattle.lisp_spec.specs.Expressions.{Expression, Literal, Name, Choice, Listing, Operation, FunctionCall, InlineCall, Filled, Operands, NoMore, Operand, Template, Plain, Both, Unquoted, Scope}
use Rattle.lisp_spec.specs.Scopes.{IsExpression}
use Rattle.lisp_spec.specs.Environments.{step_code, part_of, operand_at}
use Rattle.lisp_spec.proofs.OperatorCodes.{operator_is_not_q}
use Rattle.lisp_spec.proofs.Reading.{IsRead, read_atom, read_symbol, quotes_rest, quotes_one, templates, chooses, lists, operates, calls_inline, calls_function, AreOperands, read_none, read_more, IsTemplate, plain_atom, plain_symbol, unquotes, parts, is_read}

module _ (scope : Scope) where
  abbrev mutual
    pub IsSound : Expression → Type 0
    IsSound (Literal tree) = Unit {0}
    IsSound (Name name) = is_among name scope.symbols ≡ true
    IsSound (Choice condition second third) = IsSound condition × IsSound second × IsSound third
    IsSound (Listing operands) = AreSound operands
    IsSound (Operation code operands) = ((code == 1) ≡ false) × AreSound operands
    IsSound (FunctionCall name operands) = (is_among name scope.functions ≡ true) × AreSound operands
    IsSound (InlineCall name operands) = (is_among name scope.inlines ≡ true) × AreSound operands
    IsSound (Filled template) = IsSoundTemplate template

    pub AreSound : Operands → Type 0
    AreSound NoMore = Unit {0}
    AreSound (Operand first more) = IsSound first × AreSound more

    pub IsSoundTemplate : Template → Type 0
    IsSoundTemplate (Plain tree) = Unit {0}
    IsSoundTemplate (Both first rest) = IsSoundTemplate first × IsSoundTemplate rest
    IsSoundTemplate (Unquoted e) = IsSound e

  mutual
    sound : (f : Form) (e : Expression) → IsRead scope f e → IsSound e
    sound f e (read_atom at bytes) = tt
    sound f e (read_symbol at name among) = among
    sound f e (quotes_rest at place name behind is) = tt
    sound f e (quotes_one at place next end name g is) = tt
    sound f e (templates at place next end name g t is h) = template_sound g t h
    sound f e (chooses at place first second third end name g h k a b c is p q r) = (sound g a p, sound h b q, sound k c r)
    sound f e (lists at place name behind found is h) = operands_sound behind found h
    sound f e (operates at place name code behind found is may h) = (operator_is_not_q name code is, operands_sound behind found h)
    sound f e (calls_inline at place name behind found is among h) = (among, operands_sound behind found h)
    sound f e (calls_function at place name behind found is isnt among h) = (among, operands_sound behind found h)

    operands_sound : (f : Form) (found : Operands) → AreOperands scope f found → AreSound found
    operands_sound f found (read_none at) = tt
    operands_sound f found (read_more at g rest e more p q) = (sound g e p, operands_sound rest more q)

    template_sound : (f : Form) (t : Template) → IsTemplate scope f t → IsSoundTemplate t
    template_sound f t (plain_atom at bytes) = tt
    template_sound f t (plain_symbol at name) = tt
    template_sound f t (unquotes at next end head g e is h) = sound g e h
    template_sound f t (parts at first rest a b is p q) = (template_sound first a p, template_sound rest b q)

  pub is_sound : (f : Form) (e : Expression) → IsExpression scope f e → IsSound e
  is_sound f e h = sound f e (is_read scope f e h)

  -- ---- parts of operands

  step_is_not_q : (side : Side) → (step_code side == 1) ≡ false
  step_is_not_q ToFirst = refl
  step_is_not_q ToRest = refl

  part_sound : (path : List Side) (e : Expression) → IsSound e → IsSound (part_of path e)
  part_sound [] e h = h
  part_sound (side ∷ path) e h = part_sound path (Operation (step_code side) (Operand e NoMore)) (step_is_not_q side, (h, tt))

  abbrev pub IsSoundOption : Option Expression → Type 0
  IsSoundOption None = Unit {0}
  IsSoundOption (Some e) = IsSound e

  pub sound_at : (path : List Side) (operands : Operands) → AreSound operands → IsSoundOption (operand_at path operands)
  sound_at [] operands h = h
  sound_at (side ∷ path) NoMore h = tt
  sound_at (ToFirst ∷ path) (Operand first more) h = part_sound path first h.0
  sound_at (ToRest ∷ path) (Operand first more) h = sound_at path more h.1
