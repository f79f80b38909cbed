-- Where the steps of reading lead to.
use Rattle.std.specs.Prelude.{Option, Result, Ok, Err, IfOk, IfErr}
use Rattle.std.proofs.Common.{◌≡◌, ℕ, List, sym, ◌∙◌, ap, subst}
use Rattle.clvm_spec.specs.Tokens.{Token, Literal, Took}
use Rattle.clvm_spec.specs.Tokens as tokens
use Rattle.clvm_spec.specs.Grammar.{Parses}
use Rattle.open_lists.specs.declared.fault.Fault.{Fault}
use Rattle.open_lists.specs.Lists.{resumed, told}
use Rattle.open_lists.specs.Faults.{IsBroken}
use Rattle.open_lists.specs.Steps.{Leads, Puts, PutStops}
use Rattle.open_lists.proofs.StepLaws.{literal_leads, symbol_leads}
use Rattle.lisp_read.specs.declared.place.Place.{Place}
use Rattle.lisp_read.specs.declared.form.Form as seen
use Rattle.lisp_read.specs.declared.form.Form.TheVariants as seen_as
use Rattle.lisp_read.specs.Forms.{Form, Atom, Symbol}
use Rattle.lisp_read.specs.Views.{form_of}
use Rattle.lisp_read.specs.Grammar.{Places}
use Rattle.lisp_read.specs.Parsing.{no_unknown, reading, Lists, StepLeads, StepStops}

-- A token at that place is this form, next in the lists.
abbrev pub IsPut : Token → Place → Lists → seen.Form → Lists → Type 0
IsPut token place items form outer =
    (there : Places) (from rest : List ℕ) → there from ≡ place → told (reading there) 0 items (Took token from rest) ≡ resumed (reading there) 0 outer (Parses (form_of form) rest)

pub put_leads : (token : Token) (place : Place) (items outer new : Lists) (form : seen.Form) (result : Result (Option seen.Form) (Fault Place)) → IfOk result (Puts Form Place no_unknown form outer new) → IsPut token place items form outer → IfOk result (StepLeads token place items new)
put_leads token place items outer new form (Ok done) h put = λ there from rest e. subst (Leads (reading there) new rest done) (sym (put there from rest e)) (h (reading there) rest)
put_leads token place items outer new form (Err fault) h put = tt

pub put_stops : (token : Token) (place : Place) (items outer : Lists) (form : seen.Form) (result : Result (Option seen.Form) (Fault Place)) → IfErr result (PutStops Form Place no_unknown form outer) → IsPut token place items form outer → IfErr result (StepStops token place items)
put_stops token place items outer form (Ok _) h put = tt
put_stops token place items outer form (Err fault) h put = λ there from rest e. subst (IsBroken (reading there) fault) (sym (put there from rest e)) (h (reading there) rest)

pub literal_put : (items : Lists) (place : Place) (bytes word : List ℕ) (token : Token) → token ≡ Literal bytes → word ≡ bytes → IsPut token place items (seen_as.Atom place word) items
literal_put items place bytes word token t w = λ there from rest e.
    ap (λ k. told (reading there) 0 items (Took k from rest)) t ∙ literal_leads (reading there) items bytes from rest
    ∙ ap (λ p. resumed (reading there) 0 items (Parses (Atom p bytes) rest)) e ∙ ap (λ b. resumed (reading there) 0 items (Parses (Atom place b) rest)) (sym w)

pub symbol_put : (items : Lists) (place : Place) (name word : List ℕ) (token : Token) → token ≡ tokens.Symbol name → word ≡ name → IsPut token place items (seen_as.Symbol place word) items
symbol_put items place name word token t w = λ there from rest e.
    ap (λ k. told (reading there) 0 items (Took k from rest)) t ∙ symbol_leads (reading there) items name from rest
    ∙ ap (λ p. resumed (reading there) 0 items (Parses (Symbol p name) rest)) e ∙ ap (λ n. resumed (reading there) 0 items (Parses (Symbol place n) rest)) (sym w)
