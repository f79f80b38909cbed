-- The laws on the turns of an expansion.
use Rattle.std.proofs.Common.{◌≡◌, ℕ, zero, suc, ◌<◌, ◌≤◌, Bool, true, false, cond, ltb, List, Option, Some, codes, refl, ap, ◌∙◌, arith}
use Rattle.lisp_spec.specs.Forms.{Form, Atom, Symbol, Pair, Place}
use Rattle.lisp_read.specs.FormLists.{is_symbol, is_empty}
use Rattle.lisp_spec.specs.Weights.{form_weight, weight_limit}
use Rattle.lisp_spec.specs.Macros.{Macro, nesting_limit}
use Rattle.lisp_spec.specs.MacroBodies.{BodyValue, Gives, Stops}
use Rattle.lisp_spec.specs.FormParts.{Part, Expression, Operands, Template, OneTemplate}
use Rattle.lisp_spec.specs.Expansion.{Expanded, Expands, Breaks, if_expanded, nesting, limited, call_given, PairKind, Calls, Behind, Kept, kind_of, Again, written_at, pair_expanded, with_rest, with_both, expanded_by, again_within, expanded_part, expanded_again}
use Rattle.lisp_spec.specs.ExpansionLaws.{ExpansionBoundIsEnough, ExpansionIsItsStep}
use Rattle.lisp_spec.proofs.BodySteps.{AtMost, body_falls}

-- ---- what is left

-- No more is left than these turns.
unfoldable pub Leaves : ℕ → Expanded → Type 0
Leaves n (Expands form left) = left ≤ n
Leaves n (Breaks fault place left) = left ≤ n

if_expanded_leaves : (n : ℕ) (v : Expanded) (go : Form → ℕ → Expanded) → Leaves n v → ((form : Form) (left : ℕ) → left ≤ n → Leaves n (go form left)) → Leaves n (if_expanded v go)
unfolding Leaves
if_expanded_leaves n (Expands form left) go h k = k form left h
if_expanded_leaves n (Breaks fault place left) go h k = h

cond_leaves : (n : ℕ) (b : Bool) (v w : Expanded) → Leaves n v → Leaves n w → Leaves n (cond b v w)
cond_leaves n true v w h k = h
cond_leaves n false v w h k = k

limited_leaves : (n : ℕ) (place : Place) (v : BodyValue) → AtMost n v → Leaves n (limited place v)
unfolding Leaves AtMost
limited_leaves n place (Gives form left) h = cond_leaves n (ltb nesting_limit (nesting form)) _ _ h (cond_leaves n (ltb weight_limit (form_weight form)) _ _ h h)
limited_leaves n place (Stops fault left) h = h

call_leaves : (macro : Macro) (operands : Form) (place : Place) (n turns : ℕ) → turns ≤ n → Leaves n (call_given macro operands place turns)
unfolding Leaves
call_leaves macro operands place n zero h = h
call_leaves macro operands place n (suc left) h = limited_leaves n place _ (body_falls _ macro.body n left (omega (arith, h)))

pair_leaves : (n : ℕ) (kind : PairKind) (called : Macro → Expanded) (behind : Part → Expanded) (kept : Expanded) → ((macro : Macro) → Leaves n (called macro)) → ((part : Part) → Leaves n (behind part)) → Leaves n kept → Leaves n (pair_expanded kind called behind kept)
pair_leaves n (Calls macro) called behind kept c b k = c macro
pair_leaves n (Behind part) called behind kept c b k = b part
pair_leaves n Kept called behind kept c b k = k

with_rest_leaves : (n : ℕ) (place : Place) (first : Form) (rest : Expanded) → Leaves n rest → Leaves n (with_rest place first rest)
unfolding Leaves
with_rest_leaves n place first rest h = if_expanded_leaves n rest _ h (λ behind left k. k)

with_both_leaves : (n : ℕ) (place : Place) (first : Expanded) (rest : ℕ → Expanded) → Leaves n first → ((left : ℕ) → left ≤ n → Leaves n (rest left)) → Leaves n (with_both place first rest)
with_both_leaves n place first rest h k = if_expanded_leaves n first _ h (λ front left a. with_rest_leaves n place front (rest left) (k left a))

-- what leaves no more than there is
abbrev pub Lessens : (Form → ℕ → Expanded) → Type 0
Lessens expand = (form : Form) (n left : ℕ) → left ≤ n → Leaves n (expand form left)

module _ (macros : List Macro) (again : Again) (lessens : (place : Place) → Lessens (again place)) where
  expanded_lessens : (part : Part) (outer : Option Place) → Lessens (expanded_by macros again part outer)
  unfolding Leaves
  expanded_lessens part outer (Atom at bytes) n left h = h
  expanded_lessens part outer (Symbol at name) n left h = h
  expanded_lessens Expression outer (Pair at head rest) n left h =
      pair_leaves n (kind_of macros head rest) _ _ _
      (λ macro. if_expanded_leaves n _ _ (call_leaves macro rest (written_at outer at) n left h) (λ form after k. lessens (written_at outer at) form n after k))
      (λ part. with_rest_leaves n at head _ (expanded_lessens part outer rest n left h)) h
  expanded_lessens Operands outer (Pair at first rest) n left h =
      with_both_leaves n at _ _ (expanded_lessens Expression outer first n left h) (λ after k. expanded_lessens Operands outer rest n after k)
  expanded_lessens Template outer (Pair at first rest) n left h =
      cond_leaves n (is_symbol (codes "unquote") first) _ _
      (with_rest_leaves n at first _ (expanded_lessens Operands outer rest n left h))
      (with_both_leaves n at _ _ (expanded_lessens Template outer first n left h) (λ after k. expanded_lessens Template outer rest n after k))
  expanded_lessens OneTemplate outer (Pair at form end) n left h =
      cond_leaves n (is_empty end) _ (Expands (Pair at form end) left) (with_both_leaves n at _ (Expands end) (expanded_lessens Template outer form n left h) (λ after k. k)) h

again_lessens : (bound : ℕ) (macros : List Macro) (place : Place) → Lessens (again_within bound macros place)
unfolding Leaves
again_lessens zero macros place form n left h = omega arith
again_lessens (suc bound) macros place form n left h = expanded_lessens macros (again_within bound macros) (again_lessens bound macros) Expression (Some place) form n left h

pub part_lessens : (macros : List Macro) (part : Part) (outer : Option Place) → Lessens (expanded_part macros part outer)
unfolding expanded_part
part_lessens macros part outer form n left h = expanded_lessens macros (again_within left macros) (again_lessens left macros) part outer form n left h

-- ---- the bound on results within each other

-- A form leaves fewer than these turns; a fault may leave any.
Below : ℕ → Expanded → Type 0
Below n (Expands form left) = left < n
Below n (Breaks fault place left) = 0 ≤ n

if_expanded_same : (n : ℕ) (v : Expanded) (go go' : Form → ℕ → Expanded) → Below n v → ((form : Form) (left : ℕ) → left < n → go form left ≡ go' form left) → if_expanded v go ≡ if_expanded v go'
unfolding Below
if_expanded_same n (Expands form left) go go' h k = k form left h
if_expanded_same n (Breaks fault place left) go go' h k = refl

cond_below : (n : ℕ) (b : Bool) (v w : Expanded) → Below n v → Below n w → Below n (cond b v w)
cond_below n true v w h k = h
cond_below n false v w h k = k

limited_below : (n left : ℕ) (place : Place) (v : BodyValue) → left < n → AtMost left v → Below n (limited place v)
unfolding Below AtMost
limited_below n left place (Gives form after) h k =
    let fault : 0 ≤ n = omega (arith, h) in
    let form_is : after < n = omega (arith, h, k) in
    cond_below n (ltb nesting_limit (nesting form)) _ _ fault (cond_below n (ltb weight_limit (form_weight form)) _ _ fault form_is)
limited_below n left place (Stops fault after) h k = omega (arith, h)

-- A call takes a turn.
call_below : (macro : Macro) (operands : Form) (place : Place) (n turns : ℕ) → turns ≤ n → Below n (call_given macro operands place turns)
unfolding Below
call_below macro operands place n zero h = h
call_below macro operands place n (suc left) h = limited_below n left place _ (omega (arith, h)) (body_falls _ macro.body left left (omega arith))

given_same : (n : ℕ) (v v' : Expanded) (go go' : Form → ℕ → Expanded) → v ≡ v' → Leaves n v → ((form : Form) (left : ℕ) → left ≤ n → go form left ≡ go' form left) → if_expanded v go ≡ if_expanded v' go'
unfolding Leaves
given_same n (Expands form left) v' go go' e h k = k form left h ∙ ap (λ w. if_expanded w go') e
given_same n (Breaks fault place left) v' go go' e h k = ap (λ w. if_expanded w go') e

cond_same : (b : Bool) (v w v' w' : Expanded) → v ≡ v' → w ≡ w' → cond b v w ≡ cond b v' w'
cond_same b v w v' w' e f = λ i. cond b (e i) (f i)

pair_same : (kind : PairKind) (called called' : Macro → Expanded) (behind behind' : Part → Expanded) (kept : Expanded) → ((macro : Macro) → called macro ≡ called' macro) → ((part : Part) → behind part ≡ behind' part) → pair_expanded kind called behind kept ≡ pair_expanded kind called' behind' kept
pair_same (Calls macro) called called' behind behind' kept c b = c macro
pair_same (Behind part) called called' behind behind' kept c b = b part
pair_same Kept called called' behind behind' kept c b = refl

with_both_same : (n : ℕ) (place : Place) (first first' : Expanded) (rest rest' : ℕ → Expanded) → first ≡ first' → Leaves n first → ((left : ℕ) → left ≤ n → rest left ≡ rest' left) → with_both place first rest ≡ with_both place first' rest'
with_both_same n place first first' rest rest' e h k =
    given_same n first first' (λ front left. with_rest place front (rest left)) (λ front left. with_rest place front (rest' left)) e h (λ front left a. ap (with_rest place front) (k left a))

module _ (n : ℕ) (macros : List Macro) (again again' : Again) (lessens : (place : Place) → Lessens (again place)) (same : (place : Place) (form : Form) (left : ℕ) → left < n → again place form left ≡ again' place form left) where
  expanded_same : (part : Part) (outer : Option Place) (form : Form) (left : ℕ) → left ≤ n → expanded_by macros again part outer form left ≡ expanded_by macros again' part outer form left
  expanded_same part outer (Atom at bytes) left h = refl
  expanded_same part outer (Symbol at name) left h = refl
  expanded_same Expression outer (Pair at head rest) left h =
      pair_same (kind_of macros head rest) _ _ _ _ (Expands (Pair at head rest) left)
      (λ macro. if_expanded_same n (call_given macro rest (written_at outer at) left) (again (written_at outer at)) (again' (written_at outer at)) (call_below macro rest (written_at outer at) n left h) (same (written_at outer at)))
      (λ part. ap (with_rest at head) (expanded_same part outer rest left h))
  expanded_same Operands outer (Pair at first rest) left h =
      with_both_same n at _ _ (expanded_by macros again Operands outer rest) (expanded_by macros again' Operands outer rest) (expanded_same Expression outer first left h)
      (expanded_lessens macros again lessens Expression outer first n left h) (λ after k. expanded_same Operands outer rest after k)
  expanded_same Template outer (Pair at first rest) left h =
      cond_same (is_symbol (codes "unquote") first) _ _ _ _ (ap (with_rest at first) (expanded_same Operands outer rest left h))
      (with_both_same n at _ _ (expanded_by macros again Template outer rest) (expanded_by macros again' Template outer rest) (expanded_same Template outer first left h)
      (expanded_lessens macros again lessens Template outer first n left h) (λ after k. expanded_same Template outer rest after k))
  expanded_same OneTemplate outer (Pair at form end) left h =
      cond_same (is_empty end) _ _ _ _ (ap (λ v. with_both at v (Expands end)) (expanded_same Template outer form left h)) refl

again_same : (turns bound more : ℕ) (macros : List Macro) → turns ≤ bound → turns ≤ more → (place : Place) (form : Form) (left : ℕ) → left < turns → again_within bound macros place form left ≡ again_within more macros place form left
again_same zero bound more macros h k place form left below = absurd (omega (arith, below))
again_same (suc turns) zero more macros h k place form left below = absurd (omega (arith, h))
again_same (suc turns) (suc bound) zero macros h k place form left below = absurd (omega (arith, k))
again_same (suc turns) (suc bound) (suc more) macros h k place form left below =
    expanded_same turns macros (again_within bound macros) (again_within more macros) (again_lessens bound macros)
    (again_same turns bound more macros (omega (arith, h)) (omega (arith, k))) Expression (Some place) form left (omega (arith, below))

pub expansion_bound_law : ExpansionBoundIsEnough
unfolding expanded_part
expansion_bound_law macros part outer form bound turns h =
    expanded_same turns macros (again_within bound macros) (again_within turns macros) (again_lessens bound macros)
    (again_same turns bound turns macros h (omega arith)) part outer form turns (omega arith)

again_is_part : (turns : ℕ) (macros : List Macro) (place : Place) (form : Form) (left : ℕ) → left < turns → again_within turns macros place form left ≡ expanded_again macros place form left
again_is_part zero macros place form left h = absurd (omega (arith, h))
again_is_part (suc turns) macros place form left h = expansion_bound_law macros Expression (Some place) form turns left (omega (arith, h))

pub expansion_step_law : ExpansionIsItsStep
unfolding expanded_part
expansion_step_law macros part outer form turns =
    expanded_same turns macros (again_within turns macros) (expanded_again macros) (again_lessens turns macros)
    (again_is_part turns macros) part outer form turns (omega arith)
