-- One more level, and what each part of a form is expanded to.
use Rattle.std.proofs.Common.{◌≡◌, ℕ, zero, suc, nat_lt, ◌+◌, ◌*◌, ◌<◌, ◌≤◌, Bool, true, false, List, [], ◌∷◌, ◌++◌, Option, Some, None, codes, refl, ap, sym, ◌∙◌, arith}
use Rattle.std.proofs.lemmas.Bool.{cond-true, cond-false, ltb-false}
use Rattle.lisp_read.specs.declared.form.Form as declared_form
use Rattle.lisp_read.specs.Views.{form_of}
use Rattle.lisp_read.specs.Copies.{size}
use Rattle.lisp_spec.specs.Forms.{Form, Atom, Symbol, Pair, Place}
use Rattle.lisp_spec.specs.FormParts.{Part, Expression, Operands, Template, OneTemplate}
use Rattle.lisp_read.specs.FormLists.{is_symbol, is_empty}
use Rattle.lisp_spec.specs.Macros as faults
use Rattle.lisp_spec.specs.Macros.{Macro, MacroFault, nesting_limit}
use Rattle.lisp_spec.specs.Weights.{form_weight, weight_limit}
use Rattle.lisp_spec.specs.MacroBodies.{BodyValue, Gives, Stops, body_value}
use Rattle.lisp_spec.specs.Expansion.{Expanded, Expands, Breaks, PairKind, Calls, Behind, Kept, if_expanded, nesting, within_limits, limited, kind_of, pair_expanded, call_given, written_at, with_rest, with_both, expanded_by, expanded_again, expanded_part}
use Rattle.lisp_spec.proofs.ExpansionSteps.{expansion_step_law}
use Rattle.lisp_macro.specs.declared.fault.MacroFault as declared
use Rattle.lisp_macro.specs.declared.fault.MacroFault.TheVariants as seen_fault
use Rattle.lisp_macro.specs.Faults.{IsMacroFault}
use Rattle.lisp_macro.specs.declared.walk.Part as seen_part
use Rattle.lisp_macro.specs.declared.walk.Part.TheVariants as seen
use Rattle.lisp_macro.specs.declared.walk.Level.{Level}
use Rattle.lisp_macro.specs.declared.walk.Level.TheVariants.{First, Rest}
use Rattle.lisp_macro.specs.declared.walk.Next.{Next}
use Rattle.lisp_macro.specs.declared.walk.Next.TheVariants.{Looks, Has}
use Rattle.lisp_macro.specs.Walks.{part_of, level_goes, walked_off, next_expanded, level_left, levels_left, next_left, call_work, GoesOn}

breaks_not : (fault : MacroFault) (place : Place) (turns left : ℕ) (form : Form) → Breaks fault place turns ≡ Expands form left → ⊥
breaks_not fault place turns left form e = absurd cc

expands_same : (form other : Form) (turns left : ℕ) → Expands form turns ≡ Expands other left → form ≡ other
expands_same form other turns left e = cc

pub left_push : (levels : List Level) (level : Level) → levels_left (levels ++ level ∷ []) ≡ levels_left levels + level_left level
left_push [] level = omega arith
left_push (l ∷ levels) level = omega (arith, left_push levels level)

module _ (macros : List Macro) where
  pub walked_push : (levels : List Level) (level : Level) (e : Expanded) → walked_off macros (levels ++ level ∷ []) e ≡ walked_off macros levels (if_expanded e (level_goes macros level))
  walked_push [] level e = refl
  walked_push (l ∷ levels) level e = ap (λ x. if_expanded x (level_goes macros l)) (walked_push levels level e)

  -- What breaks breaks all.
  pub all_breaks : (levels : List Level) (fault : MacroFault) (place : Place) (left : ℕ) → walked_off macros levels (Breaks fault place left) ≡ Breaks fault place left
  all_breaks [] fault place left = refl
  all_breaks (l ∷ levels) fault place left = ap (λ x. if_expanded x (level_goes macros l)) (all_breaks levels fault place left)

  -- A level is put on, and goes on with what is next.
  pub pushed : (before after : List Level) (level : Level) (turns : ℕ) (part : Expanded) (work : ℕ) (next : Next) → after ≡ before ++ level ∷ [] →
      if_expanded (next_expanded macros next turns) (level_goes macros level) ≡ part → level_left level + next_left next < work → GoesOn macros before after turns turns part work next
  pushed before after level turns part work next is same less = record {
    same = ap (λ ls. walked_off macros ls (next_expanded macros next turns)) is ∙ walked_push before level (next_expanded macros next turns) ∙ ap (walked_off macros before) same;
    less = omega (arith, less, ap levels_left is, left_push before level);
  }

  -- ---- parts

  abbrev again : Place → Form → ℕ → Expanded
  again = expanded_again macros

  law : (part : Part) (outer : Option Place) (form : Form) (turns : ℕ) → expanded_part macros part outer form turns ≡ expanded_by macros again part outer form turns
  law = expansion_step_law macros

  -- both parts of a pair, the first before the rest
  both_law : (one other : Part) (outer : Option Place) (at : Place) (first rest : Form) (turns : ℕ) →
      with_both at (expanded_by macros again one outer first turns) (expanded_by macros again other outer rest) ≡ if_expanded (expanded_part macros one outer first turns) (λ front left. with_rest at front (expanded_part macros other outer rest left))
  both_law one other outer at first rest turns i = with_both at (sym (law one outer first turns) i) (λ left. sym (law other outer rest left) i)

  pub operands_law : (outer : Option Place) (at : Place) (first rest : Form) (turns : ℕ) →
      if_expanded (expanded_part macros Expression outer first turns) (λ front left. with_rest at front (expanded_part macros Operands outer rest left)) ≡ expanded_part macros Operands outer (Pair at first rest) turns
  operands_law outer at first rest turns = sym (law Operands outer (Pair at first rest) turns ∙ both_law Expression Operands outer at first rest turns)

  pub template_law : (outer : Option Place) (at : Place) (first rest : Form) (turns : ℕ) → is_symbol (codes "unquote") first ≡ false →
      if_expanded (expanded_part macros Template outer first turns) (λ front left. with_rest at front (expanded_part macros Template outer rest left)) ≡ expanded_part macros Template outer (Pair at first rest) turns
  template_law outer at first rest turns other =
      sym (law Template outer (Pair at first rest) turns ∙ cond-false (is_symbol (codes "unquote") first) _ _ other ∙ both_law Template Template outer at first rest turns)

  pub unquote_law : (outer : Option Place) (at : Place) (first rest : Form) (turns : ℕ) → is_symbol (codes "unquote") first ≡ true →
      with_rest at first (expanded_part macros Operands outer rest turns) ≡ expanded_part macros Template outer (Pair at first rest) turns
  unquote_law outer at first rest turns one =
      sym (law Template outer (Pair at first rest) turns ∙ cond-true (is_symbol (codes "unquote") first) _ _ one ∙ ap (with_rest at first) (sym (law Operands outer rest turns)))

  pub one_template_law : (outer : Option Place) (at : Place) (template end : Form) (turns : ℕ) → is_empty end ≡ true →
      if_expanded (expanded_part macros Template outer template turns) (λ front left. with_rest at front (expanded_part macros OneTemplate outer end left)) ≡ expanded_part macros OneTemplate outer (Pair at template end) turns
  one_template_law outer at template (Atom place []) turns one = sym (law OneTemplate outer (Pair at template (Atom place [])) turns ∙ both_law Template OneTemplate outer at template (Atom place []) turns)
  one_template_law outer at template (Atom place (b ∷ bytes)) turns one = absurd cc
  one_template_law outer at template (Symbol place name) turns one = absurd cc
  one_template_law outer at template (Pair place first rest) turns one = absurd cc

  pub no_template_law : (outer : Option Place) (at : Place) (template end : Form) (turns : ℕ) → is_empty end ≡ false → Expands (Pair at template end) turns ≡ expanded_part macros OneTemplate outer (Pair at template end) turns
  no_template_law outer at template end turns none = sym (law OneTemplate outer (Pair at template end) turns ∙ cond-false (is_empty end) _ _ none)

  pub atom_law : (part : Part) (outer : Option Place) (at : Place) (bytes : List ℕ) (turns : ℕ) → Expands (Atom at bytes) turns ≡ expanded_part macros part outer (Atom at bytes) turns
  atom_law Expression outer at bytes turns = sym (law Expression outer (Atom at bytes) turns)
  atom_law Operands outer at bytes turns = sym (law Operands outer (Atom at bytes) turns)
  atom_law Template outer at bytes turns = sym (law Template outer (Atom at bytes) turns)
  atom_law OneTemplate outer at bytes turns = sym (law OneTemplate outer (Atom at bytes) turns)

  pub symbol_law : (part : Part) (outer : Option Place) (at : Place) (name : List ℕ) (turns : ℕ) → Expands (Symbol at name) turns ≡ expanded_part macros part outer (Symbol at name) turns
  symbol_law Expression outer at name turns = sym (law Expression outer (Symbol at name) turns)
  symbol_law Operands outer at name turns = sym (law Operands outer (Symbol at name) turns)
  symbol_law Template outer at name turns = sym (law Template outer (Symbol at name) turns)
  symbol_law OneTemplate outer at name turns = sym (law OneTemplate outer (Symbol at name) turns)

  -- ---- expressions

  module _ (outer : Option Place) (at : Place) (head rest : Form) (turns : ℕ) where
    abbrev by_kind : PairKind → Expanded
    by_kind kind =
        pair_expanded kind (λ macro. if_expanded (call_given macro rest (written_at outer at) turns) (again (written_at outer at)))
        (λ part. with_rest at head (expanded_by macros again part outer rest turns)) (Expands (Pair at head rest) turns)

    kind_law : (kind : PairKind) → kind_of macros head rest ≡ kind → expanded_part macros Expression outer (Pair at head rest) turns ≡ by_kind kind
    kind_law kind is = law Expression outer (Pair at head rest) turns ∙ ap by_kind is

    pub kept_law : kind_of macros head rest ≡ Kept → Expands (Pair at head rest) turns ≡ expanded_part macros Expression outer (Pair at head rest) turns
    kept_law is = sym (kind_law Kept is)

    pub behind_law : (part : Part) → kind_of macros head rest ≡ Behind part → with_rest at head (expanded_part macros part outer rest turns) ≡ expanded_part macros Expression outer (Pair at head rest) turns
    behind_law part is = sym (kind_law (Behind part) is ∙ ap (with_rest at head) (sym (law part outer rest turns)))

    pub call_law : (macro : Macro) (given : Form) (left : ℕ) → kind_of macros head rest ≡ Calls macro → call_given macro rest (written_at outer at) turns ≡ Expands given left →
        expanded_part macros Expression (Some (written_at outer at)) given left ≡ expanded_part macros Expression outer (Pair at head rest) turns
    call_law macro given left is e = sym (kind_law (Calls macro) is ∙ ap (λ g. if_expanded g (again (written_at outer at))) e)

    pub call_fault : (macro : Macro) (left : ℕ) (fault : declared.MacroFault) → kind_of macros head rest ≡ Calls macro → IsMacroFault (call_given macro rest (written_at outer at) turns) left fault →
        IsMacroFault (expanded_part macros Expression outer (Pair at head rest) turns) left fault
    call_fault macro left (seen_fault.TurnsSpent place) is e = kind_law (Calls macro) is ∙ ap (λ g. if_expanded g (again (written_at outer at))) e
    call_fault macro left (seen_fault.BadMacro place) is e = kind_law (Calls macro) is ∙ ap (λ g. if_expanded g (again (written_at outer at))) e
    call_fault macro left (seen_fault.TooLarge place) is e = kind_law (Calls macro) is ∙ ap (λ g. if_expanded g (again (written_at outer at))) e
    call_fault macro left seen_fault.OutOfMemory is e = tt

  -- ---- the innermost level

  -- taken off, it goes on with the part
  pub popped_same : (levels popped : List Level) (level : Level) (next : Next) (form : declared_form.Form) (left : ℕ) (whole : Expanded) → levels ≡ popped ++ level ∷ [] → next ≡ Has form →
      walked_off macros levels (next_expanded macros next left) ≡ whole → walked_off macros popped (level_goes macros level (form_of form) left) ≡ whole
  popped_same levels popped level next form left whole off is same =
      sym (walked_push popped level (Expands (form_of form) left)) ∙ ap (λ ls. walked_off macros ls (Expands (form_of form) left)) (sym off) ∙ ap (λ n. walked_off macros levels (next_expanded macros n left)) (sym is) ∙ same

  -- What a part breaks with, all breaks with.
  pub fault_is : (levels : List Level) (part whole : Expanded) (left : ℕ) (fault : declared.MacroFault) → walked_off macros levels part ≡ whole → IsMacroFault part left fault → IsMacroFault whole left fault
  fault_is levels part whole left (seen_fault.TurnsSpent place) same is = sym same ∙ ap (walked_off macros levels) is ∙ all_breaks levels faults.TurnsSpent place left
  fault_is levels part whole left (seen_fault.BadMacro place) same is = sym same ∙ ap (walked_off macros levels) is ∙ all_breaks levels faults.BadMacro place left
  fault_is levels part whole left (seen_fault.TooLarge place) same is = sym same ∙ ap (walked_off macros levels) is ∙ all_breaks levels faults.TooLarge place left
  fault_is levels part whole left seen_fault.OutOfMemory same is = tt

-- ---- what a call gives is small

size_of_weight : (form : Form) → size form ≤ 3 * form_weight form
size_of_weight (Atom at bytes) = omega arith
size_of_weight (Symbol at name) = omega arith
size_of_weight (Pair at first rest) = omega (arith, size_of_weight first, size_of_weight rest)

light : (place : Place) (form result : Form) (turns left : ℕ) (deep heavy : Bool) → nat_lt nesting_limit (nesting form) ≡ deep → nat_lt weight_limit (form_weight form) ≡ heavy → within_limits place form turns ≡ Expands result left → form_weight result ≤ weight_limit
light place form result turns left true heavy d h e = absurd (breaks_not _ _ _ _ _ (sym (cond-true (nat_lt nesting_limit (nesting form)) _ _ d) ∙ e))
light place form result turns left false true d h e = absurd (breaks_not _ _ _ _ _ (sym (cond-false (nat_lt nesting_limit (nesting form)) _ _ d ∙ cond-true (nat_lt weight_limit (form_weight form)) _ _ h) ∙ e))
light place form result turns left false false d h e =
    let same : form ≡ result = expands_same _ _ _ _ (sym (cond-false (nat_lt nesting_limit (nesting form)) _ _ d ∙ cond-false (nat_lt weight_limit (form_weight form)) _ _ h) ∙ e) in
    let few : form_weight form ≤ weight_limit = omega (arith, ltb-false weight_limit (form_weight form) h) in
    omega (arith, few, ap form_weight same)

limited_light : (place : Place) (value : BodyValue) (result : Form) (left : ℕ) → limited place value ≡ Expands result left → form_weight result ≤ weight_limit
limited_light place (Gives form turns) result left e = light place form result turns left (nat_lt nesting_limit (nesting form)) (nat_lt weight_limit (form_weight form)) refl refl e
limited_light place (Stops fault turns) result left e = absurd (breaks_not _ _ _ _ _ e)

-- What a call gives has few parts.
pub given_small : (macro : Macro) (operands : Form) (place : Place) (turns : ℕ) (result : Form) (left : ℕ) → call_given macro operands place turns ≡ Expands result left → size result < call_work
given_small macro operands place zero result left e = absurd (breaks_not _ _ _ _ _ e)
given_small macro operands place (suc turns) result left e =
    let few = limited_light place (body_value (record { params = macro.params; operands = operands; place = place }) macro.body turns) result left e in
    omega (arith, few, size_of_weight result)

-- ---- steps

module _ (macros : List Macro) (before after : List Level) (turns : ℕ) (outer : Option Place) (at : Place) (first rest : Form) (form : declared_form.Form) where
  pub operands_looked : form_of form ≡ first → after ≡ before ++ First at seen.Operands outer rest ∷ [] →
      GoesOn macros before after turns turns (expanded_part macros Operands outer (Pair at first rest) turns) (size (Pair at first rest)) (Looks seen.Expression outer form)
  operands_looked is push =
      pushed macros before after (First at seen.Operands outer rest) turns _ _ (Looks seen.Expression outer form) push
      (ap (λ f. if_expanded (expanded_part macros Expression outer f turns) (λ front left. with_rest at front (expanded_part macros Operands outer rest left))) is ∙ operands_law macros outer at first rest turns) (omega (arith, ap size is))

  pub template_looked : form_of form ≡ first → is_symbol (codes "unquote") first ≡ false → after ≡ before ++ First at seen.Template outer rest ∷ [] →
      GoesOn macros before after turns turns (expanded_part macros Template outer (Pair at first rest) turns) (size (Pair at first rest)) (Looks seen.Template outer form)
  template_looked is other push =
      pushed macros before after (First at seen.Template outer rest) turns _ _ (Looks seen.Template outer form) push
      (ap (λ f. if_expanded (expanded_part macros Template outer f turns) (λ front left. with_rest at front (expanded_part macros Template outer rest left))) is ∙ template_law macros outer at first rest turns other) (omega (arith, ap size is))

  pub unquote_looked : form_of form ≡ rest → is_symbol (codes "unquote") first ≡ true → after ≡ before ++ Rest at first ∷ [] →
      GoesOn macros before after turns turns (expanded_part macros Template outer (Pair at first rest) turns) (size (Pair at first rest)) (Looks seen.Operands outer form)
  unquote_looked is one push =
      pushed macros before after (Rest at first) turns _ _ (Looks seen.Operands outer form) push
      (ap (λ f. with_rest at first (expanded_part macros Operands outer f turns)) is ∙ unquote_law macros outer at first rest turns one) (omega (arith, ap size is))

  pub one_template_looked : form_of form ≡ first → is_empty rest ≡ true → after ≡ before ++ First at seen.OneTemplate outer rest ∷ [] →
      GoesOn macros before after turns turns (expanded_part macros OneTemplate outer (Pair at first rest) turns) (size (Pair at first rest)) (Looks seen.Template outer form)
  one_template_looked is one push =
      pushed macros before after (First at seen.OneTemplate outer rest) turns _ _ (Looks seen.Template outer form) push
      (ap (λ f. if_expanded (expanded_part macros Template outer f turns) (λ front left. with_rest at front (expanded_part macros OneTemplate outer rest left))) is ∙ one_template_law macros outer at first rest turns one) (omega (arith, ap size is))

  pub behind_looked : (part : seen_part.Part) → form_of form ≡ rest → kind_of macros first rest ≡ Behind (part_of part) → after ≡ before ++ Rest at first ∷ [] →
      GoesOn macros before after turns turns (expanded_part macros Expression outer (Pair at first rest) turns) (size (Pair at first rest)) (Looks part outer form)
  behind_looked part is kind push =
      pushed macros before after (Rest at first) turns _ _ (Looks part outer form) push
      (ap (λ f. with_rest at first (expanded_part macros (part_of part) outer f turns)) is ∙ behind_law macros outer at first rest turns (part_of part) kind) (omega (arith, ap size is))

  -- a pair that stays as it is
  pub kept_whole : (part : Expanded) → form_of form ≡ Pair at first rest → Expands (Pair at first rest) turns ≡ part → GoesOn macros before before turns turns part (size (Pair at first rest)) (Has form)
  kept_whole part is same = record { same = ap (walked_off macros before) (ap (λ f. Expands f turns) is ∙ same); less = omega arith }

  -- what a call gives
  pub call_looked : (macro : Macro) (left : ℕ) → kind_of macros first rest ≡ Calls macro → call_given macro rest (written_at outer at) turns ≡ Expands (form_of form) left → left < turns →
      GoesOn macros before before turns left (expanded_part macros Expression outer (Pair at first rest) turns) (size (Pair at first rest)) (Looks seen.Expression (Some (written_at outer at)) form)
  call_looked macro left kind given fewer = record {
    same = ap (walked_off macros before) (call_law macros outer at first rest turns macro (form_of form) left kind given);
    less = omega (arith, fewer, given_small macro rest (written_at outer at) turns (form_of form) left given);
  }

size_some : (form : Form) → 0 < size form
size_some (Atom at bytes) = omega arith
size_some (Symbol at name) = omega arith
size_some (Pair at first rest) = omega arith

-- an atom or a symbol stays as it is
pub leaf_looked : (macros : List Macro) (levels : List Level) (turns : ℕ) (part : Part) (outer : Option Place) (leaf all : Form) (form : declared_form.Form) → form_of form ≡ leaf → leaf ≡ all → Expands leaf turns ≡ expanded_part macros part outer leaf turns →
    GoesOn macros levels levels turns turns (expanded_part macros part outer all turns) (size all) (Has form)
leaf_looked macros levels turns part outer leaf all form is all_is same = record {
  same = ap (walked_off macros levels) (ap (λ f. Expands f turns) is ∙ same ∙ ap (λ f. expanded_part macros part outer f turns) all_is);
  less = omega (arith, size_some all);
}

-- a level goes on with its first: the rest is looked at
pub first_done : (macros : List Macro) (before after : List Level) (turns : ℕ) (level : Level) (at : Place) (part : seen_part.Part) (outer : Option Place) (rest front done : Form) (form : declared_form.Form) → level ≡ First at part outer rest → form_of form ≡ rest → done ≡ front →
    after ≡ before ++ Rest at done ∷ [] → GoesOn macros before after turns turns (level_goes macros level front turns) (level_left level) (Looks part outer form)
first_done macros before after turns level at part outer rest front done form is rest_is done_is push =
    pushed macros before after (Rest at done) turns _ _ (Looks part outer form) push
    (ap (λ d. with_rest at d (expanded_part macros (part_of part) outer (form_of form) turns)) done_is ∙ ap (λ r. with_rest at front (expanded_part macros (part_of part) outer r turns)) rest_is ∙ ap (λ l. level_goes macros l front turns) (sym is))
    (omega (arith, ap level_left is, ap size rest_is))
