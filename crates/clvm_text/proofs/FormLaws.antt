-- Forms in trees that grow.
use Rattle.std.proofs.Common.{◌≡◌, ℕ, suc, List, [], ◌∷◌, ◌++◌, refl, sym, ◌∙◌, ap, arith}
use Rattle.clvm_spec.specs.Tree.{Tree}
use Rattle.clvm_spec.specs.Grammar as grammar
use Rattle.clvm_spec.specs.Text.{Names, ParsedTree, clvm}
use Rattle.clvm_tree.specs.Nodes.{Grows}
use Rattle.clvm_tree.proofs.NodeLaws.{stays, grows_length}
use Rattle.open_lists.specs.declared.list.Reach.{Reach}
use Rattle.open_lists.specs.declared.list.Reach.TheVariants.{Elements, Dot, Last}
use Rattle.open_lists.specs.Lists.{behind, form_in, resumed}
use Rattle.open_lists.specs.Held.{last_held, forms_held, held}
use Rattle.clvm_text.specs.declared.form.Form.{Form}
use Rattle.clvm_text.specs.declared.form.Form.TheVariants as form
use Rattle.clvm_text.specs.Forms.{formed, IsKnownForm, AreKnownForms}
use Rattle.clvm_text.specs.Parsing.{From, Lists, reading}

pub formed-grows : (a b : List Tree) (f : Form) → Grows a b → IsKnownForm a f → formed b f ≡ formed a f
formed-grows a b (form.Tree node) grows h = ap Names (stays a b node.0 grows h)
formed-grows a b (form.Unknown from) grows h = refl

pub known-grows : (a b : List Tree) (f : Form) → Grows a b → IsKnownForm a f → IsKnownForm b f
known-grows a b (form.Tree node) grows h = omega (arith, h, grows_length a b grows)
known-grows a b (form.Unknown from) grows h = tt

pub all-grow : (a b : List Tree) (forms : List Form) → Grows a b → AreKnownForms a forms → AreKnownForms b forms
all-grow a b [] grows h = tt
all-grow a b (f ∷ forms) grows h = (known-grows a b f grows h.0, all-grow a b forms grows h.1)

-- ---- some forms behind others

pub known_both : (trees : List Tree) (forms more : List Form) → AreKnownForms trees forms → AreKnownForms trees more → AreKnownForms trees (forms ++ more)
known_both trees [] more h k = k
known_both trees (f ∷ forms) more h k = (h.0, known_both trees forms more h.1 k)

pub known_front : (trees : List Tree) (forms more : List Form) → AreKnownForms trees (forms ++ more) → AreKnownForms trees forms
known_front trees [] more h = tt
known_front trees (f ∷ forms) more h = (h.0, known_front trees forms more h.1)

pub known_back : (trees : List Tree) (forms more : List Form) → AreKnownForms trees (forms ++ more) → AreKnownForms trees more
known_back trees [] more h = h
known_back trees (f ∷ forms) more h = known_back trees forms more h.1

-- ---- open lists

module _ (a b : List Tree) (grows : Grows a b) where
  behind-grows : (place : From) (forms : List Form) (parsed : ParsedTree) → AreKnownForms a forms → behind (reading a) place forms parsed ≡ behind (reading b) place forms parsed
  behind-grows place [] parsed h = refl
  behind-grows place (f ∷ forms) parsed h =
      ap (grammar.behind clvm place.now (formed a f)) (behind-grows place forms parsed h.1) ∙ ap (λ m. grammar.behind clvm place.now m (behind (reading b) place forms parsed)) (sym (formed-grows a b f grows h.0))

  form-grows : (depth : ℕ) (place : From) (reach : Reach Form From) (parsed : ParsedTree) → form_in (reading a) depth place reach parsed ≡ form_in (reading b) depth place reach parsed
  form-grows depth place Elements parsed = refl
  form-grows depth place (Dot dot) parsed = refl
  form-grows depth place (Last dot f) parsed = refl

  pub resumed-grows : (depth : ℕ) (lists : Lists) (parsed : ParsedTree) → AreKnownForms a (held lists) → resumed (reading a) depth lists parsed ≡ resumed (reading b) depth lists parsed
  resumed-grows depth [] parsed h = refl
  resumed-grows depth (list ∷ inner) parsed h =
      let forms = known_front a list.forms.items (last_held list.reach) (known_front a (forms_held list) (held inner) h) in
      ap (λ p. behind (reading a) list.place list.forms.items (form_in (reading a) (suc depth) list.place list.reach p)) (resumed-grows (suc depth) inner parsed (known_back a (forms_held list) (held inner) h))
      ∙ ap (behind (reading a) list.place list.forms.items) (form-grows (suc depth) list.place list.reach (resumed (reading b) (suc depth) inner parsed))
      ∙ behind-grows list.place list.forms.items (form_in (reading b) (suc depth) list.place list.reach (resumed (reading b) (suc depth) inner parsed)) forms
