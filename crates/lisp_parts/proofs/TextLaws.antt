-- Texts and their one form.
use Rattle.std.proofs.Common.{◌≡◌, ℕ, ◌≤◌, length, Bool, true, false, cond, List, [], ◌∷◌, Option, Some, None, refl, subst, lit≤}
use Rattle.std.specs.Prelude.{codes, bytes_eq}
use Rattle.std.specs.Fmt.{digits}
use Rattle.lisp_spec.specs.Forms.{Form}
use Rattle.lisp_read.specs.FormLists.{the_only}
use Rattle.lisp_spec.specs.BuiltIns.{built_in, condition_codes_text, tree_hash_text}
use Rattle.lisp_spec.specs.ModuleFaults.{Judged}
use Rattle.lisp_spec.specs.Inclusion.{Texts, longest_text}
use Rattle.ports_io.specs.Outside.{IsTextOf}
use Rattle.lisp_parts.specs.declared.fault.PartsFault.{PartsFault}
use Rattle.lisp_parts.specs.declared.fault.PartsFault.TheVariants.{Read, NotAModule, NameTwice, IncludeMissing, LibraryFault, OutOfMemory}
use Rattle.lisp_parts.specs.Faults.{IsFaultOf, SaysNothing}
use Rattle.lisp_parts.specs.Symbols.{HasAsciiSymbols, HaveAsciiSymbols}

pub only_is_ascii : (forms : List Form) (form : Form) → the_only forms ≡ Some form → HaveAsciiSymbols forms → HasAsciiSymbols form
only_is_ascii [] form e a = absurd cc
only_is_ascii (f ∷ []) form e a = let same : f ≡ form = cc in subst HasAsciiSymbols same a.0
only_is_ascii (f ∷ g ∷ more) form e a = absurd cc

-- an answer that is no other than what is told
pub some_answer : (name : List ℕ) (library : Option Texts) → (answer : Option (List ℕ)) × IsTextOf name library answer
some_answer name None = (None, tt)
some_answer name (Some texts) = (texts name, refl)

pub nothing_is_said : {A : Type 0} (judged : Judged A) (f : PartsFault) → SaysNothing f → IsFaultOf judged f
nothing_is_said judged (Read what place) s = absurd s
nothing_is_said judged (NotAModule place) s = absurd s
nothing_is_said judged (NameTwice place) s = absurd s
nothing_is_said judged (IncludeMissing place) s = absurd s
nothing_is_said judged LibraryFault s = tt
nothing_is_said judged OutOfMemory s = tt

-- ---- built-in texts are short

conditions_are_short : length condition_codes_text ≤ longest_text
unfolding digits
conditions_are_short = lit≤ tt

hashes_are_short : length tree_hash_text ≤ longest_text
hashes_are_short = lit≤ tt

first_of_two : (a b : Bool) (text : List ℕ) → cond a (Some condition_codes_text) (cond b (Some tree_hash_text) None) ≡ Some text → length text ≤ longest_text
first_of_two true b text e = let same : condition_codes_text ≡ text = cc in subst (λ t. length t ≤ longest_text) same conditions_are_short
first_of_two false true text e = let same : tree_hash_text ≡ text = cc in subst (λ t. length t ≤ longest_text) same hashes_are_short
first_of_two false false text e = absurd cc

pub built_in_is_short : (name text : List ℕ) → built_in name ≡ Some text → length text ≤ longest_text
unfolding built_in
built_in_is_short name text e = first_of_two (bytes_eq name (codes "condition_codes.clib")) (bytes_eq name (codes "tree_hash.clib")) text e
