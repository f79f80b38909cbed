-- An expression that is written out is read back.
use Rattle.std.proofs.Common.{◌≡◌, List, [], ◌∷◌, ◌++◌, refl, sym, ap, ◌∙◌, append_assoc, append-nil}
use Rattle.lisp_spec.specs.Expressions.{Expression, Literal, Name, Choice, Listing, Operation, FunctionCall, InlineCall, Filled, Operands, NoMore, Operand, Template, Plain, Both, Unquoted}
use Rattle.lisp_syntax.specs.Marks.{Mark, written, written_operands, written_template, Piece, Whole, Row, Part, put_all, last_whole, expression_in}
use Rattle.lisp_syntax.specs.Marks as mark

-- one part, and two, before a mark
behind_one : (a : List Mark) (m : Mark) (marks : List Mark) → (a ++ m ∷ []) ++ marks ≡ a ++ m ∷ marks
behind_one a m marks = append_assoc a (m ∷ []) marks

behind_two : (a b : List Mark) (m : Mark) (marks : List Mark) → (a ++ (b ++ m ∷ [])) ++ marks ≡ a ++ (b ++ m ∷ marks)
behind_two a b m marks = append_assoc a (b ++ m ∷ []) marks ∙ ap (λ more. a ++ more) (behind_one b m marks)

behind_three : (a b c : List Mark) (m : Mark) (marks : List Mark) → (a ++ (b ++ (c ++ m ∷ []))) ++ marks ≡ a ++ (b ++ (c ++ m ∷ marks))
behind_three a b c m marks = append_assoc a (b ++ (c ++ m ∷ [])) marks ∙ ap (λ more. a ++ more) (behind_two b c m marks)

mutual
  put_expression : (e : Expression) (stack : List Piece) (marks : List Mark) → put_all stack (written e ++ marks) ≡ put_all (Whole e ∷ stack) marks
  put_expression (Literal tree) stack marks = refl
  put_expression (Name name) stack marks = refl
  put_expression (Choice a b c) stack marks =
      ap (put_all stack) (behind_three (written a) (written b) (written c) mark.Choice marks)
      ∙ put_expression a stack (written b ++ (written c ++ mark.Choice ∷ marks))
      ∙ put_expression b (Whole a ∷ stack) (written c ++ mark.Choice ∷ marks)
      ∙ put_expression c (Whole b ∷ Whole a ∷ stack) (mark.Choice ∷ marks)
  put_expression (Listing operands) stack marks =
      ap (put_all stack) (behind_one (written_operands operands) mark.Listing marks) ∙ put_operands operands stack (mark.Listing ∷ marks)
  put_expression (Operation code operands) stack marks =
      ap (put_all stack) (behind_one (written_operands operands) (mark.Operation code) marks) ∙ put_operands operands stack (mark.Operation code ∷ marks)
  put_expression (FunctionCall name operands) stack marks =
      ap (put_all stack) (behind_one (written_operands operands) (mark.FunctionCall name) marks) ∙ put_operands operands stack (mark.FunctionCall name ∷ marks)
  put_expression (InlineCall name operands) stack marks =
      ap (put_all stack) (behind_one (written_operands operands) (mark.InlineCall name) marks) ∙ put_operands operands stack (mark.InlineCall name ∷ marks)
  put_expression (Filled template) stack marks =
      ap (put_all stack) (behind_one (written_template template) mark.Filled marks) ∙ put_template template stack (mark.Filled ∷ marks)

  put_operands : (operands : Operands) (stack : List Piece) (marks : List Mark) → put_all stack (written_operands operands ++ marks) ≡ put_all (Row operands ∷ stack) marks
  put_operands NoMore stack marks = refl
  put_operands (Operand first more) stack marks =
      ap (put_all stack) (behind_two (written first) (written_operands more) mark.Operand marks)
      ∙ put_expression first stack (written_operands more ++ mark.Operand ∷ marks)
      ∙ put_operands more (Whole first ∷ stack) (mark.Operand ∷ marks)

  put_template : (template : Template) (stack : List Piece) (marks : List Mark) → put_all stack (written_template template ++ marks) ≡ put_all (Part template ∷ stack) marks
  put_template (Plain tree) stack marks = refl
  put_template (Both first rest) stack marks =
      ap (put_all stack) (behind_two (written_template first) (written_template rest) mark.Both marks)
      ∙ put_template first stack (written_template rest ++ mark.Both ∷ marks)
      ∙ put_template rest (Part first ∷ stack) (mark.Both ∷ marks)
  put_template (Unquoted e) stack marks =
      ap (put_all stack) (behind_one (written e) mark.Unquoted marks) ∙ put_expression e stack (mark.Unquoted ∷ marks)

pub reads_back : (e : Expression) → expression_in (written e) ≡ e
reads_back e = ap last_whole (ap (put_all []) (sym (append-nil (written e))) ∙ put_expression e [] [])
