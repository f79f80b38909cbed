-- One walk down the parameters and the operands finds what stands at the parameter's path.
use Rattle.std.proofs.Common.{◌≡◌, ℕ, ◌+◌, Bool, true, false, cond, List, [], ◌∷◌, ◌++◌, map, Option, Some, None, option_map, option_and_then, find, bytes_eq, refl, ap, ap₂, sym, ◌∙◌, arith}
use Rattle.lisp_read.specs.Views.{form_of}
use Rattle.lisp_read.specs.Copies.{size}
use Rattle.lisp_spec.specs.Forms.{Form, Atom, Symbol, Pair, Place}
use Rattle.lisp_spec.specs.Parameters.{Side, ToFirst, ToRest, Parameter, below, parameters, path_of}
use Rattle.lisp_spec.specs.MacroBodies.{form_at, parameter_or}
use Rattle.lisp_macro.specs.Values.{first_part, rest_part}
use Rattle.lisp_macro.specs.Bindings.{part_of, or_else, named_in}
use Rattle.lisp_macro.specs.declared.call.Part.{Part}
use Rattle.lisp_macro.specs.declared.call.Found.{Found}
use Rattle.lisp_macro.specs.Found.{found_of, part_named, parts_named, parts_left}

or_else-assoc : {A : Type 0} (a b c : Option A) → or_else (or_else a b) c ≡ or_else a (or_else b c)
or_else-assoc (Some a) b c = refl
or_else-assoc None b c = refl

or_else-none : {A : Type 0} (a : Option A) → or_else a None ≡ a
or_else-none (Some a) = refl
or_else-none None = refl

map-or_else : {A B : Type 0} (f : A → B) (a b : Option A) → option_map f (or_else a b) ≡ or_else (option_map f a) (option_map f b)
map-or_else f (Some a) b = refl
map-or_else f None b = refl

map-map : {A B C : Type 0} (f : B → C) (g : A → B) (a : Option A) → option_map f (option_map g a) ≡ option_map (λ x. f (g x)) a
map-map f g (Some a) = refl
map-map f g None = refl

map-same : {A B : Type 0} (f g : A → B) (a : Option A) → ((x : A) → f x ≡ g x) → option_map f a ≡ option_map g a
map-same f g (Some a) h = ap Some (h a)
map-same f g None h = refl

module _ (name : List ℕ) where
  abbrev named : Parameter → Bool
  named p = bytes_eq p.name name

  -- the value where the test holds, else what is found further on
  find_more : (b : Bool) (p : Parameter) (found other : Option Parameter) → cond b (Some p) (or_else found other) ≡ or_else (cond b (Some p) found) other
  find_more true p found other = refl
  find_more false p found other = refl

  find-append : (ps qs : List Parameter) → find named (ps ++ qs) ≡ or_else (find named ps) (find named qs)
  find-append [] qs = refl
  find-append (p ∷ ps) qs = ap (cond (named p) (Some p)) (find-append ps qs) ∙ find_more (named p) p (find named ps) (find named qs)

  map_cond : (b : Bool) (side : Side) (p : Parameter) (found : Option Parameter) → cond b (Some (below side p)) (option_map (below side) found) ≡ option_map (below side) (cond b (Some p) found)
  map_cond true side p found = refl
  map_cond false side p found = refl

  find-below : (side : Side) (ps : List Parameter) → find named (map (below side) ps) ≡ option_map (below side) (find named ps)
  find-below side [] = refl
  find-below side (p ∷ ps) = ap (cond (named p) (Some (below side p))) (find-below side ps) ∙ map_cond (named p) side p (find named ps)

  -- what stands at the path of what is found, in what stands there
  abbrev stands : Option Form → Option Parameter → Option (Option Form)
  stands operand found = option_map (λ (p : Parameter). option_and_then (form_at p.path) operand) found

  at_first : (operand : Option Form) (path : List Side) → option_and_then (form_at (ToFirst ∷ path)) operand ≡ option_and_then (form_at path) (option_and_then first_part operand)
  at_first None path = refl
  at_first (Some (Atom at bytes)) path = refl
  at_first (Some (Symbol at n)) path = refl
  at_first (Some (Pair at first rest)) path = refl

  at_rest : (operand : Option Form) (path : List Side) → option_and_then (form_at (ToRest ∷ path)) operand ≡ option_and_then (form_at path) (option_and_then rest_part operand)
  at_rest None path = refl
  at_rest (Some (Atom at bytes)) path = refl
  at_rest (Some (Symbol at n)) path = refl
  at_rest (Some (Pair at first rest)) path = refl

  at_top : (operand : Option Form) → option_and_then (form_at []) operand ≡ operand
  at_top None = refl
  at_top (Some form) = refl

  stands_cond : (b : Bool) (p : Parameter) (operand : Option Form) → p.path ≡ [] → stands operand (cond b (Some p) None) ≡ cond b (Some operand) None
  stands_cond true p operand top = ap Some (ap (λ path. option_and_then (form_at path) operand) top ∙ at_top operand)
  stands_cond false p operand top = refl

  walked : (params : Form) (operand : Option Form) → named_in name params operand ≡ stands operand (find named (parameters params))
  walked (Atom at bytes) operand = refl
  walked (Symbol at other) operand = sym (stands_cond (bytes_eq other name) (record { name = other; place = at; path = [] }) operand refl)
  walked (Pair at first rest) operand =
      let ps = parameters first in let qs = parameters rest in
      ap₂ or_else (walked first (option_and_then first_part operand)) (walked rest (option_and_then rest_part operand))
      ∙ ap₂ or_else (part ToFirst ps first_part (at_first operand)) (part ToRest qs rest_part (at_rest operand))
      ∙ sym (map-or_else (λ (p : Parameter). option_and_then (form_at p.path) operand) (find named (map (below ToFirst) ps)) (find named (map (below ToRest) qs)))
      ∙ ap (stands operand) (sym (find-append (map (below ToFirst) ps) (map (below ToRest) qs)))
    where
      part : (side : Side) (ps : List Parameter) (step : Form → Option Form) → ((path : List Side) → option_and_then (form_at (side ∷ path)) operand ≡ option_and_then (form_at path) (option_and_then step operand)) →
          stands (option_and_then step operand) (find named ps) ≡ stands operand (find named (map (below side) ps))
      part side ps step at_side =
          sym (ap (stands operand) (find-below side ps) ∙ map-map (λ (p : Parameter). option_and_then (form_at p.path) operand) (below side) (find named ps)
          ∙ map-same (λ (p : Parameter). option_and_then (form_at (side ∷ p.path)) operand) (λ (p : Parameter). option_and_then (form_at p.path) (option_and_then step operand)) (find named ps) (λ p. at_side p.path))

  pub named_is : (params operands : Form) → named_in name params (Some operands) ≡ option_map (λ path. form_at path operands) (path_of name params)
  named_is params operands = walked params (Some operands) ∙ sym (map-map (λ path. form_at path operands) (λ (p : Parameter). p.path) (find named (parameters params)))

  -- what a symbol stands for by what is found
  abbrev parameter_is : Form → Option (Option Form) → Option Form
  parameter_is symbol None = Some symbol
  parameter_is symbol (Some part) = part

  by_path : (symbol operands : Form) (path : Option (List Side)) → parameter_or symbol path operands ≡ parameter_is symbol (option_map (λ path. form_at path operands) path)
  by_path symbol operands None = refl
  by_path symbol operands (Some path) = refl

  pub symbol_stands : (symbol params operands : Form) (found same : Found) → found_of found ≡ named_in name params (Some operands) → found ≡ same → parameter_or symbol (path_of name params) operands ≡ parameter_is symbol (found_of same)
  symbol_stands symbol params operands found same is e =
      by_path symbol operands (path_of name params) ∙ ap (parameter_is symbol) (sym (named_is params operands) ∙ sym is ∙ ap found_of e)

  -- ---- parts that are still to be looked through

  pub parts_push : (parts : List Part) (part : Part) → parts_named name (parts ++ part ∷ []) ≡ or_else (part_named name part) (parts_named name parts)
  parts_push [] part = sym (or_else-none (part_named name part))
  parts_push (p ∷ parts) part = ap (λ found. or_else found (part_named name p)) (parts_push parts part) ∙ or_else-assoc (part_named name part) (parts_named name parts) (part_named name p)

  -- the last part, taken off
  pub popped : (parts rest : List Part) (part : Part) (form : Form) (whole : Option (Option Form)) → parts ≡ rest ++ part ∷ [] → form_of part.params.now ≡ form → parts_named name parts ≡ whole → or_else (named_in name form (part_of part.operand)) (parts_named name rest) ≡ whole
  popped parts rest part form whole off is same =
      ap (λ f. or_else (named_in name f (part_of part.operand)) (parts_named name rest)) (sym is) ∙ sym (parts_push rest part) ∙ ap (parts_named name) (sym off) ∙ same

  -- the rest and the first of a pair, put on in the place of the pair
  pub both_put : (rest middle all : List Part) (part behind front : Part) (at : Place) (whole : Option (Option Form)) →
      middle ≡ rest ++ behind ∷ [] → all ≡ middle ++ front ∷ [] → part_of behind.operand ≡ option_and_then rest_part (part_of part.operand) → part_of front.operand ≡ option_and_then first_part (part_of part.operand) →
      or_else (named_in name (Pair at (form_of front.params.now) (form_of behind.params.now)) (part_of part.operand)) (parts_named name rest) ≡ whole → parts_named name all ≡ whole
  both_put rest middle all part behind front at whole one two behind_is front_is same =
      ap (parts_named name) two ∙ parts_push middle front ∙ ap₂ (λ operand ps. or_else (named_in name (form_of front.params.now) operand) (parts_named name ps)) front_is one
      ∙ ap (or_else (named_in name (form_of front.params.now) (option_and_then first_part (part_of part.operand)))) (parts_push rest behind ∙ ap (λ operand. or_else (named_in name (form_of behind.params.now) operand) (parts_named name rest)) behind_is)
      ∙ sym (or_else-assoc (named_in name (form_of front.params.now) (option_and_then first_part (part_of part.operand))) (named_in name (form_of behind.params.now) (option_and_then rest_part (part_of part.operand))) (parts_named name rest))
      ∙ same

pub left_push : (parts : List Part) (part : Part) → parts_left (parts ++ part ∷ []) ≡ parts_left parts + size (form_of part.params.now)
left_push [] part = omega arith
left_push (p ∷ parts) part = omega (arith, left_push parts part)
