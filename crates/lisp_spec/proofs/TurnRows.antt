-- The turns of a module: how many there are, and that all its calls have them together. The outcomes are worked out by
-- hand.
use Rattle.std.specs.Prelude.{◌≡◌, ℕ, refl, replicate, List, [], ◌∷◌, ◌++◌, Ok, Err, codes}
use Rattle.clvm_spec.specs.Numbers.{shortest_atom, without_sign_bytes}
use Rattle.clvm_spec.specs.Tokens.{token_of, word_token}
use Rattle.clvm_spec.specs.OperatorTable.{operator_named}
use Rattle.lisp_read.specs.Grammar.{forms_of}
use Rattle.lisp_spec.specs.Forms.{Form, Atom}
use Rattle.lisp_read.specs.FormLists.{headed}
use Rattle.lisp_spec.specs.Macros as macros
use Rattle.lisp_spec.specs.Heads.{head_of}
use Rattle.lisp_spec.specs.Macros.{Macro, turns_of_a_module}
use Rattle.lisp_spec.specs.MacroBodies.{body_head, body_value}
use Rattle.lisp_spec.specs.Expansion.{Expands, Breaks, expanded_part, expansion}
use Rattle.lisp_spec.specs.ModuleFaults.{TurnsSpent, fault}
use Rattle.lisp_spec.specs.Definitions.{Written, Function}
use Rattle.lisp_spec.specs.Inclusion.{Parts}
use Rattle.lisp_spec.specs.ModuleOf.{Draft, expanded_all, draft_with}
use Rattle.lisp_spec.proofs.MacroCases.{defmacro, at}

-- Each call of this macro takes two turns: one of its own, and one for its body.
one : List Macro
one = defmacro "one" "()" "1" ∷ []

call_at : ℕ → Form
call_at place = headed (at place) (codes "one") []

list_of : List Form → Form
list_of operands = headed (at 0) (codes "list") operands

value : Form
value = Atom (at 0) (1 ∷ [])

-- 5,000 calls take all turns of a module, and one more call finds none.
all_turns :
    (expansion one (list_of (replicate 5_000 (call_at 3))) turns_of_a_module ≡ Expands (list_of (replicate 5_000 value)) 0)
    × (expansion one (list_of (replicate 5_000 (call_at 3) ++ call_at 7 ∷ [])) turns_of_a_module ≡ Breaks macros.TurnsSpent (at 7) 0)
unfolding one call_at list_of value without_sign_bytes shortest_atom token_of word_token forms_of operator_named head_of body_head body_value expanded_part
all_turns = (refl, refl)

written : Form → Written
written body = record { role = Function; place = at 1; name = codes "g"; name_place = at 2; params = Atom (at 3) []; body = body }

-- A definition has the turns that those before it left.
later_definitions :
    (expanded_all one (written (call_at 5) ∷ written (call_at 6) ∷ []) 4 ≡ Ok (written value ∷ written value ∷ [], 0))
    × (expanded_all one (written (call_at 5) ∷ written (call_at 6) ∷ []) 3 ≡ Err (fault TurnsSpent (at 6)))
    × (expanded_all one (written (call_at 5) ∷ written (call_at 6) ∷ []) 1 ≡ Err (fault TurnsSpent (at 5)))
unfolding one call_at list_of value written without_sign_bytes shortest_atom token_of word_token forms_of operator_named head_of body_head body_value expanded_part
later_definitions = (refl, refl, refl)

many : Form
many = list_of (replicate 2_500 (call_at 3))

parts : Form → Parts
parts body = record { params = Atom (at 0) []; definitions = []; body = body }

done : Form → Draft
done body = record { params = Atom (at 0) []; definitions = written (list_of (replicate 2_500 value)) ∷ written (list_of (replicate 2_499 value)) ∷ []; body = body; body_place = at 7 }

-- The body has those that all definitions left.
body_comes_last :
    (draft_with one (parts (call_at 7)) (written many ∷ written (list_of (replicate 2_499 (call_at 3))) ∷ []) ≡ Ok (done value))
    × (draft_with one (parts (call_at 7)) (written many ∷ written many ∷ []) ≡ Err (fault TurnsSpent (at 7)))
unfolding one call_at list_of value written many parts done without_sign_bytes shortest_atom token_of word_token forms_of operator_named head_of body_head body_value expanded_part
body_comes_last = (refl, refl)
