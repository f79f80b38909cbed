-- The form of a text, with what stands behind it.
use Rattle.std.proofs.Common.{◌≡◌, ℕ, ◌+◌, ◌≤◌, List, [], ◌∷◌, length, Some, None, refl, sym, ◌∙◌, ap, subst, arith, append-nil}
use Rattle.std.specs.Prelude.{Option}
use Rattle.clvm_spec.specs.declared.scan_kind.ScanKind.TheVariants as kind
use Rattle.clvm_spec.specs.Tree.{Tree}
use Rattle.clvm_spec.specs.Places.{place_of}
use Rattle.clvm_spec.specs.Tokens.{Token, Front, Took, Unread, AtEnd, token_of}
use Rattle.clvm_spec.specs.Grammar.{Parses}
use Rattle.clvm_spec.specs.Text.{Names, form_of, Unnamed, at_last, whole, scanned}
use Rattle.clvm_tree.specs.Nodes.{tree_at}
use Rattle.clvm_tree.specs.declared.Node.{Node}
use Rattle.open_lists.specs.declared.fault.Fault.{Fault}
use Rattle.open_lists.specs.declared.fault.Fault.TheVariants.{At, Unknown, OutOfMemory}
use Rattle.open_lists.specs.Lists.{told}
use Rattle.open_lists.specs.Held.{held}
use Rattle.open_lists.specs.Faults.{IsFirstFault, IsBroken}
use Rattle.open_lists.proofs.FaultLaws.{broken}
use Rattle.open_lists.proofs.StepLaws.{end_told}
use Rattle.clvm_text.specs.declared.form.Form.{Form}
use Rattle.clvm_text.specs.declared.form.Form.TheVariants as form
use Rattle.clvm_text.specs.Forms.{formed, AreKnownForms}
use Rattle.clvm_text.specs.Parsing.{From, Lists, reading, Leads, Stops}
use Rattle.clvm_text.specs.Scans.{IsFormAt, IsFormFault, answered, IsTextFault}
use Rattle.clvm_text.proofs.FormLaws.{known_back}

-- ---- the first form

end_as_unread : (trees : List Tree) (lists : Lists) → told (reading trees) 0 lists AtEnd ≡ told (reading trees) 0 lists (Unread kind.End [])
end_as_unread trees [] = refl
end_as_unread trees (list ∷ inner) = end_told (reading trees) (list ∷ inner) (omega arith)

pub unread_fault : (trees : List Tree) (text rest : List ℕ) (lists : Lists) (front : Front) (fault : Fault From) → form_of text ≡ told (reading trees) 0 lists (token_of rest) → token_of rest ≡ front →
    IsFirstFault (reading trees) fault (told (reading trees) 0 lists front) → IsFormFault trees text fault
unread_fault trees text rest lists front fault same is h =
    broken (reading trees) fault (form_of text) (subst (IsFirstFault (reading trees) fault) (sym (same ∙ ap (told (reading trees) 0 lists) is)) h)

pub end_fault : (trees : List Tree) (text rest : List ℕ) (lists : Lists) (fault : Fault From) → form_of text ≡ told (reading trees) 0 lists (token_of rest) → token_of rest ≡ AtEnd →
    IsFirstFault (reading trees) fault (told (reading trees) 0 lists (Unread kind.End [])) → IsFormFault trees text fault
end_fault trees text rest lists fault same is h = unread_fault trees text rest lists AtEnd fault same is (subst (IsFirstFault (reading trees) fault) (sym (end_as_unread trees lists)) h)

pub token_fault : (old new : List Tree) (text rest from behind : List ℕ) (lists : Lists) (token : Token) (fault : Fault From) → form_of text ≡ told (reading old) 0 lists (token_of rest) → token_of rest ≡ Took token from behind →
    Stops token from old lists new fault → IsFormFault new text fault
token_fault old new text rest from behind lists token fault same is stops = subst (IsBroken (reading new) fault) (sym (same ∙ ap (told (reading old) 0 lists) is)) (stops behind)

module _ (old new : List Tree) (text rest from behind : List ℕ) (before after : Lists) (token : Token) (done : Option Form) (same : form_of text ≡ told (reading old) 0 before (token_of rest)) (is : token_of rest ≡ Took token from behind) (leads : Leads token from old before new after done) where
  pub found_form : (found : Form) → done ≡ Some found → IsFormAt new text found behind
  found_form found e =
      let l = subst (Leads token from old before new after) e leads in record { known = (known_back new (held after) (found ∷ []) l.known).0; found = same ∙ ap (told (reading old) 0 before) is ∙ (l.leads behind).1 }

  pub goes_form : done ≡ None → (length new + length (held after) ≤ length old + length (held before) + 2) × AreKnownForms new (held after) × (form_of text ≡ told (reading new) 0 after (token_of behind))
  goes_form e =
      let l = subst (Leads token from old before new after) e leads in
      let all = append-nil (held after) in
      (omega (arith, l.few, ap length all), subst (AreKnownForms new) all l.known, same ∙ ap (told (reading old) 0 before) is ∙ (l.leads behind).1)

-- ---- the whole text

scanned_is : (text : List ℕ) → scanned text ≡ whole text (form_of text)
unfolding scanned
scanned_is text = refl

-- what stands behind the form
pub last_is : (trees : List Tree) (bytes text : List ℕ) (found : Form) (tree : Node) (rest : List ℕ) (front : Front) → bytes ≡ text → IsFormAt trees bytes found rest → found ≡ form.Tree tree → token_of rest ≡ front →
    scanned text ≡ at_last bytes (Names (tree_at trees tree.0)) front
last_is trees bytes text found tree rest front same at is e =
    ap scanned (sym same) ∙ scanned_is bytes ∙ ap (whole bytes) (at.found ∙ ap (λ f. Parses (formed trees f) rest) is) ∙ ap (at_last bytes (Names (tree_at trees tree.0))) e

-- The form has an unknown name.
pub unknown_is : (trees : List Tree) (bytes text : List ℕ) (found : Form) (from : From) (rest : List ℕ) → bytes ≡ text → IsFormAt trees bytes found rest → found ≡ form.Unknown from → scanned text ≡ Unnamed (place_of bytes from.now)
unknown_is trees bytes text found from rest same at is = ap scanned (sym same) ∙ scanned_is bytes ∙ ap (whole bytes) (at.found ∙ ap (λ f. Parses (formed trees f) rest) is)

fault_is : (trees : List Tree) (text : List ℕ) (fault : Fault From) → IsFormFault trees text fault → IsTextFault text (answered text fault)
fault_is trees text (At what from) h = scanned_is text ∙ ap (whole text) h
fault_is trees text (Unknown name) h = scanned_is text ∙ ap (whole text) h.0.is
fault_is trees text OutOfMemory h = tt

pub text_fault : (trees : List Tree) (bytes text : List ℕ) (fault : Fault From) → bytes ≡ text → IsFormFault trees bytes fault → IsTextFault text (answered bytes fault)
text_fault trees bytes text fault same h = subst (λ t. IsTextFault t (answered bytes fault)) same (fault_is trees bytes fault h)
