-- Code in which inlines are expanded to a depth. Past it stands code that never ends, which says nothing, as the source
-- at such a count.
use Rattle.std.proofs.Common.{◌≡◌, ℕ, zero, suc, ◌≤◌, List, [], ◌∷◌, length, map}
use Rattle.clvm_spec.specs.Tree.{Tree, nil}
use Rattle.lisp_spec.specs.Modules.{Module}
use Rattle.lisp_spec.specs.Scopes.{body_of}
use Rattle.clvm_spec.specs.Currying.{quote_of}
use Rattle.lisp_code.specs.Names.{function_names}
use Rattle.lisp_code.specs.Pieces.{operator_code, path_code}
use Rattle.lisp_code.specs.Codes.{Code, Constant, operates, functions_called}
use Rattle.lisp_code.specs.Frames.{Function, Frame, Bare, Wrapped, frame_of, reached, table}
use Rattle.lisp_code.specs.Code.{Codes, body_code, expression_code, function_of, whole_code}

-- `(a 1 1)` run on itself
abbrev pub itself : Tree
itself = operator_code 2 (path_code [] ∷ path_code [] ∷ [])

abbrev pub looping : Tree
looping = operator_code 2 (quote_of itself ∷ quote_of itself ∷ [])

abbrev pub loops : Code
loops = operates 2 (Constant itself ∷ Constant itself ∷ [])

abbrev pub code_within : Module → ℕ → Codes
code_within source zero = expression_code source (λ e names. loops)
code_within source (suc depth) = expression_code source (code_within source depth)

abbrev pub own_code : Module → ℕ → Code
own_code source depth = body_code (code_within source depth) (body_of source source.params source.body) (function_names source.params)

abbrev pub coded : Module → ℕ → List Function
coded source depth = map (function_of source (code_within source depth)) source.functions

abbrev pub reached_at : Module → ℕ → List Function
reached_at source depth = reached (length (coded source depth)) (functions_called (own_code source depth)) (coded source depth)

abbrev pub frame_at : Module → ℕ → Frame
frame_at source depth = frame_of (reached_at source depth)

abbrev pub table_of : Frame → Tree
table_of Bare = nil
table_of (Wrapped places) = table (Wrapped places) places

unfoldable pub module_code : Module → ℕ → Tree
module_code source depth = whole_code source (code_within source depth)

abbrev pub IsSettled : Module → ℕ → Type 0
IsSettled source depth = (more : ℕ) → depth ≤ more → module_code source more ≡ module_code source depth
