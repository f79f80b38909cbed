-- Tokens take bytes, so what bounds the forms of a text is no part of them.
use Rattle.std.proofs.Common.{◌≡◌, ℕ, zero, suc, ◌<◌, ◌≤◌, List, [], ◌∷◌, length, refl, sym, ap, arith}
use Rattle.clvm_spec.specs.Tokens.{Front, Took, Unread, AtEnd, token_of}
use Rattle.clvm_spec.specs.Grammar.{Parses, Breaks, form_at, list_from}
use Rattle.clvm_spec.proofs.ScanLaws.{Less, less_front, none_left}
use Rattle.clvm_spec.proofs.GrammarLaws.{Shrinks, shrinks_form, shrinks_from}
use Rattle.lisp_read.specs.Forms.{Form}
use Rattle.lisp_read.specs.Grammar.{place_in, Places, chialisp, ParsedForm, Read, Reads, with_form, with_forms, forms_at, forms_within, forms_from, forms_of}

module _ (there : Places) where
  same_more : (n : ℕ) (f g : List ℕ → Read) (parsed : ParsedForm) → ((rest : List ℕ) → length rest < n → f rest ≡ g rest) → Shrinks n parsed → with_forms f parsed ≡ with_forms g parsed
  same_more n f g (Parses form rest) e h = ap (with_form form) (e rest h)
  same_more n f g (Breaks kind unknown place) e h = refl

  same_forms : (n : ℕ) (f g : List ℕ → Read) (front : Front) → ((rest : List ℕ) → length rest < n → f rest ≡ g rest) → Less n front → forms_at there f front ≡ forms_at there g front
  same_forms n f g AtEnd e h = refl
  same_forms n f g (Unread kind from) e h = refl
  same_forms n f g (Took token from rest) e h =
      let list = list_from (chialisp there) in
      same_more n f g (form_at (chialisp there) list 0 (Took token from rest)) e (shrinks_form (chialisp there) list n 0 (Took token from rest) (shrinks_from (chialisp there)) h)

  no_bytes : (text : List ℕ) → length text ≤ 0 → token_of text ≡ AtEnd
  no_bytes [] h = none_left
  no_bytes (b ∷ text) h = absurd (omega (arith, h))

  forms_bound : (c d : ℕ) (text : List ℕ) → length text ≤ c → length text ≤ d → forms_within there c text ≡ forms_within there d text
  forms_bound zero zero text lc ld = refl
  forms_bound zero (suc d) text lc ld = ap (forms_at there (forms_within there d)) (sym (no_bytes text lc))
  forms_bound (suc c) zero text lc ld = ap (forms_at there (forms_within there c)) (no_bytes text ld)
  forms_bound (suc c) (suc d) text lc ld =
      same_forms (length text) (forms_within there c) (forms_within there d) (token_of text)
      (λ rest less. forms_bound c d rest (omega (arith, less, lc)) (omega (arith, less, ld))) (less_front text (length text) (token_of text) refl (omega arith))

  -- The forms of the rest of a text begin with the one that its first token begins.
  pub forms_step : (text : List ℕ) → forms_from there text ≡ forms_at there (forms_from there) (token_of text)
  forms_step text =
      same_forms (length text) (forms_within there (length text)) (forms_from there) (token_of text)
      (λ rest less. forms_bound (length text) (suc (length rest)) rest (omega (arith, less)) (omega arith))
      (less_front text (length text) (token_of text) refl (omega arith))

-- All forms of a text are those from its front on.
pub forms_start : (number : ℕ) (text : List ℕ) → forms_of number text ≡ forms_from (place_in number text) text
unfolding forms_of
forms_start number text = refl

pub same_forms_read : (forms others : List Form) → Reads forms ≡ Reads others → forms ≡ others
same_forms_read forms others e = cc
