-- What too few operands give.
use Rattle.std.proofs.Common.{◌≡◌, ℕ, ◌<◌, List, [], ◌∷◌, length, Option, Some, None, ap, ◌∙◌, refl, arith}
use Rattle.std.specs.Prelude.{option_and_then}
use Rattle.clvm_spec.specs.Tree.{Tree, list_tree}
use Rattle.case_table.specs.Conditions.{Kind, NoOperand, KeyAndText, HashAndAmount, Amount, Text, Hash, Moment, MessageTo, MessageFrom, least_count}
use Rattle.coin_facts.specs.Atoms.{hash_of, key_of, amount_of}
use Rattle.cond_spec.specs.declared.condition.Condition.{Condition}
use Rattle.cond_spec.specs.declared.party.Party.{Party}
use Rattle.cond_spec.specs.Operands.{text_of, mode_of, moment_of, one, two}
use Rattle.cond_spec.specs.Parties.{sender_side, receiver_side, message}
use Rattle.cond_parse.specs.Kinds.{HasKind}

none_then : {A B : Type 0} (read : Option A) (next : A → Option B) → ((a : A) → next a ≡ None) → option_and_then next read ≡ None
none_then None next h = refl
none_then (Some a) next h = h a

no_one : {A : Type 0} (form : Tree → Option A) (make : A → Condition) (operands : List Tree) → length operands < 1 → one form make (list_tree operands) ≡ None
no_one form make [] h = refl
no_one form make (x ∷ xs) h = absurd (omega arith)

no_two : {A B : Type 0} (form : Tree → Option A) (second : Tree → Option B) (make : A → B → Condition) (operands : List Tree) → length operands < 2 → two form second make (list_tree operands) ≡ None
no_two form second make [] h = refl
no_two form second make (x ∷ []) h = none_then (form x) _ (λ a. refl)
no_two form second make (x ∷ y ∷ xs) h = absurd (omega arith)

no_message : (side : ℕ → ℕ) (make : ℕ → List ℕ → Party → Condition) (operands : List Tree) → length operands < 2 → message side make (list_tree operands) ≡ None
no_message side make [] h = refl
no_message side make (x ∷ []) h = none_then (mode_of x) _ (λ a. refl)
no_message side make (x ∷ y ∷ xs) h = absurd (omega arith)

pub too_few : (kind : Kind) (read : Tree → Option Condition) (operands : List Tree) → HasKind kind read → length operands < least_count kind → read (list_tree operands) ≡ None
too_few NoOperand read operands h few = absurd (omega arith)
too_few KeyAndText read operands h few = ap (λ r. r (list_tree operands)) h.1 ∙ no_two key_of text_of h.0 operands few
too_few HashAndAmount read operands h few = ap (λ r. r (list_tree operands)) h.1 ∙ no_two hash_of amount_of h.0 operands few
too_few Amount read operands h few = ap (λ r. r (list_tree operands)) h.1 ∙ no_one amount_of h.0 operands few
too_few Text read operands h few = ap (λ r. r (list_tree operands)) h.1 ∙ no_one text_of h.0 operands few
too_few Hash read operands h few = ap (λ r. r (list_tree operands)) h.1 ∙ no_one hash_of h.0 operands few
too_few Moment read operands h few = ap (λ r. r (list_tree operands)) h.1 ∙ no_one moment_of h.0 operands few
too_few MessageTo read operands h few = ap (λ r. r (list_tree operands)) h.1 ∙ no_message receiver_side h.0 operands few
too_few MessageFrom read operands h few = ap (λ r. r (list_tree operands)) h.1 ∙ no_message sender_side h.0 operands few
