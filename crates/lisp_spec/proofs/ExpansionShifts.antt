-- What an expansion gives with more turns, and where its faults stand.
use Rattle.std.proofs.Common.{◌≡◌, ℕ, zero, suc, ◌+◌, ◌≤◌, Bool, true, false, cond, ltb, List, Option, Some, codes, refl, sym, ap, subst, arith}
use Rattle.lisp_spec.specs.Forms.{Form, Atom, Symbol, Pair, Place}
use Rattle.lisp_read.specs.FormLists.{is_symbol, is_empty}
use Rattle.lisp_spec.specs.Weights.{form_weight, weight_limit}
use Rattle.lisp_spec.specs.Macros.{Macro, MacroFault, TurnsSpent, BadMacro, TooLarge, nesting_limit}
use Rattle.lisp_spec.specs.MacroBodies.{MacroCall, BodyValue, Gives, Stops, body_value}
use Rattle.lisp_spec.specs.FormParts.{Part, Expression, Operands, Template, OneTemplate}
use Rattle.lisp_spec.specs.Expansion.{Expanded, Expands, Breaks, if_expanded, nesting, within_limits, limited, call_given, PairKind, Calls, Behind, Kept, kind_of, Again, written_at, pair_expanded, with_rest, with_both, expanded_by, again_within, expanded_part}
use Rattle.lisp_spec.specs.ExpansionLaws.{TurnsFall, FaultsLeaveNoMore, MoreTurnsKeepForms, MoreTurnsKeepFaults, SpentTurnsLeaveNone, FaultsStandAtTheWrittenCall}
use Rattle.lisp_spec.proofs.BodyShifts.{Shifted, body_shifted}
use Rattle.lisp_spec.proofs.ExpansionSteps.{Leaves, part_lessens}

-- ---- more turns

-- With so many more turns there is the same, with as many more left.
Moved : ℕ → Expanded → Expanded → Type 0
Moved more (Expands form left) other = other ≡ Expands form (more + left)
Moved more (Breaks TurnsSpent place left) other = left ≡ 0
Moved more (Breaks BadMacro place left) other = other ≡ Breaks BadMacro place (more + left)
Moved more (Breaks TooLarge place left) other = other ≡ Breaks TooLarge place (more + left)

abbrev Moves : ℕ → (Form → ℕ → Expanded) → (Form → ℕ → Expanded) → Type 0
Moves more go other = (form : Form) (left : ℕ) → Moved more (go form left) (other form (more + left))

if_expanded_moved : (more : ℕ) (v w : Expanded) (go go' : Form → ℕ → Expanded) → Moved more v w → Moves more go go' → Moved more (if_expanded v go) (if_expanded w go')
unfolding Moved
if_expanded_moved more (Expands form left) w go go' e h = subst (λ u. Moved more (go form left) (if_expanded u go')) (sym e) (h form left)
if_expanded_moved more (Breaks TurnsSpent place left) w go go' e h = e
if_expanded_moved more (Breaks BadMacro place left) w go go' e h = ap (λ u. if_expanded u go') e
if_expanded_moved more (Breaks TooLarge place left) w go go' e h = ap (λ u. if_expanded u go') e

cond_moved : (more : ℕ) (b : Bool) (v w v' w' : Expanded) → Moved more v v' → Moved more w w' → Moved more (cond b v w) (cond b v' w')
cond_moved more true v w v' w' h k = h
cond_moved more false v w v' w' h k = k

within_moved : (more : ℕ) (place : Place) (form : Form) (left : ℕ) → Moved more (within_limits place form left) (within_limits place form (more + left))
unfolding Moved
within_moved more place form left =
    cond_moved more (ltb nesting_limit (nesting form)) (Breaks BadMacro place left) _ (Breaks BadMacro place (more + left)) _ refl
    (cond_moved more (ltb weight_limit (form_weight form)) (Breaks TooLarge place left) (Expands form left) (Breaks TooLarge place (more + left)) (Expands form (more + left)) refl refl)

limited_moved : (more : ℕ) (place : Place) (v w : BodyValue) → Shifted more v w → Moved more (limited place v) (limited place w)
unfolding Moved Shifted
limited_moved more place (Gives form left) w e = subst (λ u. Moved more (within_limits place form left) (limited place u)) (sym e) (within_moved more place form left)
limited_moved more place (Stops TurnsSpent left) w e = e
limited_moved more place (Stops BadMacro left) w e = ap (limited place) e
limited_moved more place (Stops TooLarge left) w e = ap (limited place) e

call_moved : (more : ℕ) (macro : Macro) (operands : Form) (place : Place) (turns : ℕ) → Moved more (call_given macro operands place turns) (call_given macro operands place (more + turns))
unfolding Moved
call_moved more macro operands place zero = refl
call_moved more macro operands place (suc left) =
    let moved : suc (more + left) ≡ more + suc left = omega arith in
    let call : MacroCall = record { params = macro.params; operands = operands; place = place } in
    subst (λ turns. Moved more (call_given macro operands place (suc left)) (call_given macro operands place turns)) moved
    (limited_moved more place (body_value call macro.body left) (body_value call macro.body (more + left)) (body_shifted more call macro.body left))

pair_moved : (more : ℕ) (kind : PairKind) (called called' : Macro → Expanded) (behind behind' : Part → Expanded) (kept kept' : Expanded) → ((macro : Macro) → Moved more (called macro) (called' macro)) → ((part : Part) → Moved more (behind part) (behind' part)) → Moved more kept kept' →
    Moved more (pair_expanded kind called behind kept) (pair_expanded kind called' behind' kept')
pair_moved more (Calls macro) called called' behind behind' kept kept' c b k = c macro
pair_moved more (Behind part) called called' behind behind' kept kept' c b k = b part
pair_moved more Kept called called' behind behind' kept kept' c b k = k

with_rest_moved : (more : ℕ) (place : Place) (first : Form) (rest rest' : Expanded) → Moved more rest rest' → Moved more (with_rest place first rest) (with_rest place first rest')
unfolding Moved
with_rest_moved more place first rest rest' h =
    if_expanded_moved more rest rest' (λ behind left. Expands (Pair place first behind) left) (λ behind left. Expands (Pair place first behind) left) h (λ behind left. refl)

with_both_moved : (more : ℕ) (place : Place) (first first' : Expanded) (rest rest' : ℕ → Expanded) → Moved more first first' → ((left : ℕ) → Moved more (rest left) (rest' (more + left))) → Moved more (with_both place first rest) (with_both place first' rest')
with_both_moved more place first first' rest rest' h k =
    if_expanded_moved more first first' (λ front left. with_rest place front (rest left)) (λ front left. with_rest place front (rest' left)) h
    (λ front left. with_rest_moved more place front (rest left) (rest' (more + left)) (k left))

module _ (more : ℕ) (macros : List Macro) (again again' : Again) (moves : (place : Place) → Moves more (again place) (again' place)) where
  expanded_moved : (part : Part) (outer : Option Place) → Moves more (expanded_by macros again part outer) (expanded_by macros again' part outer)
  unfolding Moved
  expanded_moved part outer (Atom at bytes) left = refl
  expanded_moved part outer (Symbol at name) left = refl
  expanded_moved Expression outer (Pair at head rest) left =
      pair_moved more (kind_of macros head rest) _ _ _ _ (Expands (Pair at head rest) left) (Expands (Pair at head rest) (more + left))
      (λ macro. if_expanded_moved more (call_given macro rest (written_at outer at) left) (call_given macro rest (written_at outer at) (more + left)) (again (written_at outer at)) (again' (written_at outer at))
      (call_moved more macro rest (written_at outer at) left) (moves (written_at outer at)))
      (λ part. with_rest_moved more at head (expanded_by macros again part outer rest left) (expanded_by macros again' part outer rest (more + left)) (expanded_moved part outer rest left)) refl
  expanded_moved Operands outer (Pair at first rest) left =
      with_both_moved more at _ _ (expanded_by macros again Operands outer rest) (expanded_by macros again' Operands outer rest) (expanded_moved Expression outer first left) (expanded_moved Operands outer rest)
  expanded_moved Template outer (Pair at first rest) left =
      cond_moved more (is_symbol (codes "unquote") first) _ _ _ _
      (with_rest_moved more at first (expanded_by macros again Operands outer rest left) (expanded_by macros again' Operands outer rest (more + left)) (expanded_moved Operands outer rest left))
      (with_both_moved more at _ _ (expanded_by macros again Template outer rest) (expanded_by macros again' Template outer rest) (expanded_moved Template outer first left) (expanded_moved Template outer rest))
  expanded_moved OneTemplate outer (Pair at form end) left =
      cond_moved more (is_empty end) _ (Expands (Pair at form end) left) _ (Expands (Pair at form end) (more + left))
      (with_both_moved more at _ _ (Expands end) (Expands end) (expanded_moved Template outer form left) (λ after. refl)) refl

again_moved : (more bound wider : ℕ) (macros : List Macro) → bound ≤ wider → (place : Place) → Moves more (again_within bound macros place) (again_within wider macros place)
unfolding Moved
again_moved more zero wider macros h place form left = refl
again_moved more (suc bound) zero macros h place form left = absurd (omega (arith, h))
again_moved more (suc bound) (suc wider) macros h place form left =
    expanded_moved more macros (again_within bound macros) (again_within wider macros) (again_moved more bound wider macros (omega (arith, h))) Expression (Some place) form left

part_moved : (more : ℕ) (macros : List Macro) (part : Part) (outer : Option Place) → Moves more (expanded_part macros part outer) (expanded_part macros part outer)
unfolding expanded_part
part_moved more macros part outer form left =
    expanded_moved more macros (again_within left macros) (again_within (more + left) macros) (again_moved more left (more + left) macros (omega arith)) part outer form left

pub more_turns_law : MoreTurnsKeepForms
unfolding Moved
more_turns_law macros part outer form result turns more left e =
    subst (λ v. Moved more v (expanded_part macros part outer form (more + turns))) e (part_moved more macros part outer form turns)

fault_moved : (more : ℕ) (fault : MacroFault) (place : Place) (left : ℕ) (other : Expanded) → ¬ (fault ≡ TurnsSpent) → Moved more (Breaks fault place left) other → other ≡ Breaks fault place (more + left)
unfolding Moved
fault_moved more TurnsSpent place left other n h = absurd (n refl)
fault_moved more BadMacro place left other n h = h
fault_moved more TooLarge place left other n h = h

pub more_turns_fault_law : MoreTurnsKeepFaults
more_turns_fault_law macros part outer form turns more left fault place n e =
    fault_moved more fault place left _ n (subst (λ v. Moved more v (expanded_part macros part outer form (more + turns))) e (part_moved more macros part outer form turns))

pub spent_law : SpentTurnsLeaveNone
unfolding Moved
spent_law macros part outer form turns left place e =
    subst (λ v. Moved 0 v (expanded_part macros part outer form (0 + turns))) e (part_moved 0 macros part outer form turns)

pub turns_fall_law : TurnsFall
unfolding Leaves
turns_fall_law macros part outer form result turns left e = subst (Leaves turns) e (part_lessens macros part outer form turns turns (omega arith))

pub faults_fall_law : FaultsLeaveNoMore
unfolding Leaves
faults_fall_law macros part outer form turns left fault place e = subst (Leaves turns) e (part_lessens macros part outer form turns turns (omega arith))

-- ---- places

-- A fault stands at this place.
StandsAt : Place → Expanded → Type 0
StandsAt place (Expands form left) = place ≡ place
StandsAt place (Breaks fault at left) = at ≡ place

if_expanded_stands : (place : Place) (v : Expanded) (go : Form → ℕ → Expanded) → StandsAt place v → ((form : Form) (left : ℕ) → StandsAt place (go form left)) → StandsAt place (if_expanded v go)
unfolding StandsAt
if_expanded_stands place (Expands form left) go h k = k form left
if_expanded_stands place (Breaks fault at left) go h k = h

cond_stands : (place : Place) (b : Bool) (v w : Expanded) → StandsAt place v → StandsAt place w → StandsAt place (cond b v w)
cond_stands place true v w h k = h
cond_stands place false v w h k = k

call_stands : (macro : Macro) (operands : Form) (place : Place) (turns : ℕ) → StandsAt place (call_given macro operands place turns)
unfolding StandsAt
call_stands macro operands place zero = refl
call_stands macro operands place (suc left) = go (body_value _ macro.body left)
  where
    go : (v : BodyValue) → StandsAt place (limited place v)
    go (Gives form left) = cond_stands place (ltb nesting_limit (nesting form)) (Breaks BadMacro place left) _ refl (cond_stands place (ltb weight_limit (form_weight form)) (Breaks TooLarge place left) (Expands form left) refl refl)
    go (Stops fault left) = refl

pair_stands : (place : Place) (kind : PairKind) (called : Macro → Expanded) (behind : Part → Expanded) (kept : Expanded) → ((macro : Macro) → StandsAt place (called macro)) → ((part : Part) → StandsAt place (behind part)) → StandsAt place kept → StandsAt place (pair_expanded kind called behind kept)
pair_stands place (Calls macro) called behind kept c b k = c macro
pair_stands place (Behind part) called behind kept c b k = b part
pair_stands place Kept called behind kept c b k = k

with_rest_stands : (place at : Place) (first : Form) (rest : Expanded) → StandsAt place rest → StandsAt place (with_rest at first rest)
unfolding StandsAt
with_rest_stands place at first rest h = if_expanded_stands place rest _ h (λ behind left. refl)

with_both_stands : (place at : Place) (first : Expanded) (rest : ℕ → Expanded) → StandsAt place first → ((left : ℕ) → StandsAt place (rest left)) → StandsAt place (with_both at first rest)
with_both_stands place at first rest h k = if_expanded_stands place first _ h (λ front left. with_rest_stands place at front (rest left) (k left))

module _ (macros : List Macro) (again : Again) (place : Place) (stands : (form : Form) (left : ℕ) → StandsAt place (again place form left)) where
  expanded_stands : (part : Part) (form : Form) (left : ℕ) → StandsAt place (expanded_by macros again part (Some place) form left)
  unfolding StandsAt
  expanded_stands part (Atom at bytes) left = refl
  expanded_stands part (Symbol at name) left = refl
  expanded_stands Expression (Pair at head rest) left =
      pair_stands place (kind_of macros head rest) _ _ (Expands (Pair at head rest) left)
      (λ macro. if_expanded_stands place (call_given macro rest place left) (again place) (call_stands macro rest place left) stands)
      (λ part. with_rest_stands place at head _ (expanded_stands part rest left)) refl
  expanded_stands Operands (Pair at first rest) left = with_both_stands place at _ _ (expanded_stands Expression first left) (expanded_stands Operands rest)
  expanded_stands Template (Pair at first rest) left =
      cond_stands place (is_symbol (codes "unquote") first) _ _ (with_rest_stands place at first _ (expanded_stands Operands rest left))
      (with_both_stands place at _ _ (expanded_stands Template first left) (expanded_stands Template rest))
  expanded_stands OneTemplate (Pair at form end) left =
      cond_stands place (is_empty end) _ (Expands (Pair at form end) left) (with_both_stands place at _ (Expands end) (expanded_stands Template form left) (λ after. refl)) refl

again_stands : (bound : ℕ) (macros : List Macro) (place : Place) (form : Form) (left : ℕ) → StandsAt place (again_within bound macros place form left)
unfolding StandsAt
again_stands zero macros place form left = refl
again_stands (suc bound) macros place form left = expanded_stands macros (again_within bound macros) place (again_stands bound macros place) Expression form left

pub written_call_law : FaultsStandAtTheWrittenCall
unfolding StandsAt expanded_part
written_call_law macros part outer form turns left fault place e =
    subst (StandsAt outer) e (expanded_stands macros (again_within turns macros) outer (again_stands turns macros outer) part form turns)
