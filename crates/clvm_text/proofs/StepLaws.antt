-- What a token leads to.
use Rattle.std.specs.Prelude.{Option, Result, Ok, Err, IfOk, IfErr}
use Rattle.std.proofs.Common.{◌≡◌, ℕ, ◌+◌, ◌≤◌, List, [], ◌∷◌, ◌++◌, length, None, sym, ◌∙◌, ap, subst, arith, length-append, append-nil}
use Rattle.clvm_spec.specs.Tree.{Tree, Atom}
use Rattle.clvm_spec.specs.Tokens.{Token, Literal, Symbol, Closing}
use Rattle.clvm_spec.specs.Grammar.{Parses}
use Rattle.clvm_spec.specs.Text.{Named, Names, clvm}
use Rattle.clvm_tree.specs.Nodes.{Grows}
use Rattle.open_lists.specs.declared.fault.Fault.{Fault}
use Rattle.open_lists.specs.declared.list.OpenList.{OpenList}
use Rattle.open_lists.specs.Lists.{whole, resumed}
use Rattle.open_lists.specs.Held.{last_held, forms_held, held, handed}
use Rattle.open_lists.specs.Faults.{IsBroken}
use Rattle.open_lists.specs.Steps as steps
use Rattle.open_lists.proofs.StepLaws.{literal_leads, symbol_leads}
use Rattle.clvm_text.specs.declared.form.Form.{Form}
use Rattle.clvm_text.specs.Forms.{formed, unknown_of, IsKnownForm, AreKnownForms, Makes}
use Rattle.clvm_text.specs.Parsing.{From, Lists, reading, read_at, Leads, Stops, IsWholeOf}
use Rattle.clvm_text.proofs.FormLaws.{all-grow, known_both, known_front, resumed-grows}

-- The token is that form, next in these lists, in trees that have grown: all but what the lists then do.
pub record IsPut (token : Token) (from : List ℕ) (old : List Tree) (before outer : Lists) (new : List Tree) (form : Form) : Type 0 where
  pub told : Named
  pub grows : Grows old new
  pub few : length new + length (held outer) + 1 ≤ length old + length (held before) + 2
  pub known : IsKnownForm new form
  pub others : AreKnownForms old (held outer)
  pub stands : formed new form ≡ told
  pub reads : (rest : List ℕ) → read_at token from old before rest ≡ resumed (reading old) 0 outer (Parses told rest)

module _ (token : Token) (from : List ℕ) (old : List Tree) (before outer : Lists) (new : List Tree) (form : Form) (put : IsPut token from old before outer new form) where
  read_put : (rest : List ℕ) → read_at token from old before rest ≡ resumed (reading new) 0 outer (Parses (formed new form) rest)
  read_put rest =
      put.reads rest ∙ resumed-grows old new put.grows 0 outer (Parses put.told rest) put.others ∙ ap (λ f. resumed (reading new) 0 outer (Parses f rest)) (sym put.stands)

  pub put_leads : (after : Lists) (result : Result (Option Form) (Fault From)) → IfOk result (steps.Puts Named (List ℕ) unknown_of form outer after) → IfOk result (λ done. held after ++ handed done ≡ held outer ++ form ∷ []) →
      IfOk result (Leads token from old before new after)
  put_leads after (Ok done) puts holds = record {
    few = omega (arith, put.few, ap length holds, length-append (held outer) (form ∷ []));
    known = subst (AreKnownForms new) (sym holds) (known_both new (held outer) (form ∷ []) (all-grow old new (held outer) put.grows put.others) (put.known, tt));
    leads = λ rest. subst (steps.Leads (reading new) after rest done) (sym (read_put rest)) (puts (reading new) rest);
  }
  put_leads after (Err fault) puts holds = tt

  pub put_stops : (result : Result (Option Form) (Fault From)) → IfErr result (steps.PutStops Named (List ℕ) unknown_of form outer) → IfErr result (Stops token from old before new)
  put_stops (Ok _) stops = tt
  put_stops (Err fault) stops = λ rest. subst (IsBroken (reading new) fault) (sym (read_put rest)) (stops (reading new) rest)

-- A token that is no form leads from lists to others with the same forms.
pub goes_on : (token : Token) (from : List ℕ) (trees : List Tree) (before after : Lists) → AreKnownForms trees (held before) → held after ≡ held before →
    ((rest : List ℕ) → steps.Leads (reading trees) after rest None (read_at token from trees before rest)) → Leads token from trees before trees after None
goes_on token from trees before after known same leads =
    let all = append-nil (held after) ∙ same in record { few = omega (arith, ap length all); known = subst (AreKnownForms trees) (sym all) known; leads = leads }

-- A token that is a form by itself.
pub leaf : (token : Token) (from : List ℕ) (old new : List Tree) (lists : Lists) (form : Form) (told : Named) → Makes old new form told → AreKnownForms old (held lists) → ((rest : List ℕ) → read_at token from old lists rest ≡ resumed (reading old) 0 lists (Parses told rest)) →
    IsPut token from old lists lists new form
leaf token from old new lists form told makes known reads = record {
  told = told;
  grows = makes.grows;
  few = omega (arith, makes.few);
  known = makes.known;
  others = known;
  stands = makes.stands;
  reads = reads;
}

pub literal : (token : Token) (from bytes : List ℕ) (old new : List Tree) (lists : Lists) (form : Form) → token ≡ Literal bytes → Makes old new form (Names (Atom bytes)) → AreKnownForms old (held lists) → IsPut token from old lists lists new form
literal token from bytes old new lists form is makes known =
    leaf token from old new lists form (Names (Atom bytes)) makes known (λ rest. ap (λ t. read_at t from old lists rest) is ∙ literal_leads (reading old) lists bytes from rest)

pub symbol : (token : Token) (from name : List ℕ) (old new : List Tree) (lists : Lists) (form : Form) → token ≡ Symbol name → Makes old new form (clvm.symbol from name) → AreKnownForms old (held lists) → IsPut token from old lists lists new form
symbol token from name old new lists form is makes known =
    leaf token from old new lists form (clvm.symbol from name) makes known (λ rest. ap (λ t. read_at t from old lists rest) is ∙ symbol_leads (reading old) lists name from rest)

-- A list that ends is the next form of the one around it.
pub closing : (from : List ℕ) (old new : List Tree) (before outer : Lists) (list : OpenList Form From) (form : Form) → Grows old new → length new ≤ length old + length list.forms.items → IsKnownForm new form → IsWholeOf old list new form →
    AreKnownForms old (held before) → held before ≡ held outer ++ forms_held list → ((rest : List ℕ) → read_at Closing from old before rest ≡ resumed (reading old) 0 outer (Parses (whole (reading old) list) rest)) → IsPut Closing from old before outer new form
closing from old new before outer list form grows few known is_whole all holds reads = record {
  told = whole (reading old) list;
  grows = grows;
  few = omega (arith, few, ap length holds, length-append (held outer) (forms_held list), length-append list.forms.items (last_held list.reach));
  known = known;
  others = known_front old (held outer) (forms_held list) (subst (AreKnownForms old) holds all);
  stands = is_whole;
  reads = reads;
}
