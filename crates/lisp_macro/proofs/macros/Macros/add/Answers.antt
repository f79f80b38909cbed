use Rattle.std.proofs.Common.{◌≡◌, None, List, [], ◌∷◌, ◌++◌, ap, sym, ◌∙◌}
use Rattle.lisp_spec.specs.Macros.{macro_named}
use Rattle.lisp_macro.specs.declared.macros.Definition.{Definition}
use Rattle.lisp_macro.specs.Defined.{macro_with, macros_of}
use Rattle.lisp_macro.proofs.MacroLaws.{added_last}
use Rattle.lisp_macro.proofs.macros.Macros.add.Goals as goal

pub returns-clause-ok : goal.returns-clause-ok
returns-clause-ok c =
    let entries = c.self.inside.definitions.entries in
    let name = c.from_vec-name.result in
    let definition : Definition = record { params = c.args.params; body = c.args.body } in
    let is : name ≡ c.args.name.now = c.from_vec-name.ensures ∙ c.in_ok-from_slice.ensures.items in
    let none : macro_named name (macros_of entries) ≡ None = ap (λ n. macro_named n (macros_of entries)) is ∙ ap (macro_named c.args.name.now) c.self.view_is ∙ c.requires in
    ap macros_of c.in_ok-insert.ensures.entries ∙ added_last entries name definition none
    ∙ ap (λ n. macros_of entries ++ macro_with n definition ∷ []) is
    ∙ ap (λ ms. ms ++ macro_with c.args.name.now definition ∷ []) c.self.view_is
