-- What is expanded has no call any more.
use Rattle.std.proofs.Common.{◌≡◌, ℕ, zero, suc, Bool, true, false, cond, List, [], ◌∷◌, Option, Some, None, option_map, is_some, codes, refl, sym, ap, ◌∙◌, subst}
use Rattle.lisp_spec.specs.Forms.{Form, Atom, Symbol, Pair, Place}
use Rattle.lisp_read.specs.FormLists.{form_elements, is_symbol, is_empty}
use Rattle.lisp_spec.specs.declared.head.Head.{Head}
use Rattle.lisp_spec.specs.declared.head.Head.TheVariants.{QuotesRest, QuotesOne, Templates, Unquotes, Chooses, Lists, Operates, Calls as CallsName}
use Rattle.lisp_spec.specs.Heads.{head_of}
use Rattle.lisp_spec.specs.Macros.{Macro, macro_named}
use Rattle.lisp_spec.specs.FormParts.{Part, Expression, Operands, Template, OneTemplate}
use Rattle.lisp_spec.specs.Expansion.{Expanded, Expands, Breaks, if_expanded, call_given, PairKind, Calls, Behind, Kept, call_kind, headed_kind, kind_of, Again, written_at, call_expanded, pair_expanded, with_rest, with_both, expanded_by, again_within, expanded_part}
use Rattle.lisp_spec.specs.ExpansionLaws.{WhatIsExpandedIsSettled, WithoutMacrosAllIsSettled}

-- ---- forms without calls

data Nothing : Type 0 where
  nothing : Nothing

abbrev Either : Bool → Type 0 → Type 0 → Type 0
Either true A B = A
Either false A B = B

abbrev KindHasNoCall : PairKind → (Part → Type 0) → Type 0
KindHasNoCall (Calls macro) behind = ⊥
KindHasNoCall (Behind part) behind = behind part
KindHasNoCall Kept behind = Nothing

-- Where a form is looked at so, nothing of it is a call.
abbrev HasNoCall : List Macro → Part → Form → Type 0
HasNoCall macros part (Atom at bytes) = Nothing
HasNoCall macros part (Symbol at name) = Nothing
HasNoCall macros Expression (Pair at head rest) = KindHasNoCall (kind_of macros head rest) (λ part. HasNoCall macros part rest)
HasNoCall macros Operands (Pair at first rest) = HasNoCall macros Expression first × HasNoCall macros Operands rest
HasNoCall macros Template (Pair at first rest) = Either (is_symbol (codes "unquote") first) (HasNoCall macros Operands rest) (HasNoCall macros Template first × HasNoCall macros Template rest)
HasNoCall macros OneTemplate (Pair at form end) = Either (is_empty end) (HasNoCall macros Template form) Nothing

-- ---- they are kept

pair_kept : (kind : PairKind) (called : Macro → Expanded) (behind : Part → Expanded) (kept : Expanded) (free : Part → Type 0) → KindHasNoCall kind free → ((part : Part) → free part → behind part ≡ kept) → pair_expanded kind called behind kept ≡ kept
pair_kept (Calls macro) called behind kept free h k = absurd h
pair_kept (Behind part) called behind kept free h k = k part h
pair_kept Kept called behind kept free h k = refl

either_kept : (b : Bool) (A B : Type 0) (v w kept : Expanded) → Either b A B → (A → v ≡ kept) → (B → w ≡ kept) → cond b v w ≡ kept
either_kept true A B v w kept h f g = f h
either_kept false A B v w kept h f g = g h

both_kept : (place : Place) (first : Form) (rest : Form) (turns : ℕ) (v : Expanded) (w : ℕ → Expanded) → v ≡ Expands first turns → w turns ≡ Expands rest turns → with_both place v w ≡ Expands (Pair place first rest) turns
both_kept place first rest turns v w e f = ap (λ u. with_both place u w) e ∙ ap (with_rest place first) f

module _ (macros : List Macro) (again : Again) where
  kept : (part : Part) (outer : Option Place) (form : Form) (turns : ℕ) → HasNoCall macros part form → expanded_by macros again part outer form turns ≡ Expands form turns
  kept part outer (Atom at bytes) turns h = refl
  kept part outer (Symbol at name) turns h = refl
  kept Expression outer (Pair at head rest) turns h =
      pair_kept (kind_of macros head rest) _ _ (Expands (Pair at head rest) turns) (λ part. HasNoCall macros part rest) h (λ part k. ap (with_rest at head) (kept part outer rest turns k))
  kept Operands outer (Pair at first rest) turns h =
      both_kept at first rest turns _ (expanded_by macros again Operands outer rest) (kept Expression outer first turns h.0) (kept Operands outer rest turns h.1)
  kept Template outer (Pair at first rest) turns h =
      either_kept (is_symbol (codes "unquote") first) (HasNoCall macros Operands rest) (HasNoCall macros Template first × HasNoCall macros Template rest) _ _ (Expands (Pair at first rest) turns) h
      (λ k. ap (with_rest at first) (kept Operands outer rest turns k))
      (λ k. both_kept at first rest turns _ (expanded_by macros again Template outer rest) (kept Template outer first turns k.0) (kept Template outer rest turns k.1))
  kept OneTemplate outer (Pair at form end) turns h =
      either_kept (is_empty end) (HasNoCall macros Template form) Nothing _ (Expands (Pair at form end) turns) (Expands (Pair at form end) turns) h
      (λ k. both_kept at form end turns _ (Expands end) (kept Template outer form turns k) refl) (λ k. refl)

-- ---- without macros

call_has_none : (proper : Bool) (free : Part → Type 0) → ((part : Part) → free part) → KindHasNoCall (call_kind None proper) free
call_has_none true free h = h Operands
call_has_none false free h = h Operands

headed_has_none : (head : Head) (proper : Bool) (free : Part → Type 0) → ((part : Part) → free part) → KindHasNoCall (headed_kind head (call_kind None proper)) free
headed_has_none QuotesRest proper free h = nothing
headed_has_none QuotesOne proper free h = nothing
headed_has_none Templates proper free h = h OneTemplate
headed_has_none Unquotes proper free h = call_has_none proper free h
headed_has_none Chooses proper free h = call_has_none proper free h
headed_has_none Lists proper free h = call_has_none proper free h
headed_has_none (Operates code) proper free h = call_has_none proper free h
headed_has_none CallsName proper free h = call_has_none proper free h

kind_has_none : (head rest : Form) (free : Part → Type 0) → ((part : Part) → free part) → KindHasNoCall (kind_of [] head rest) free
kind_has_none (Atom at bytes) rest free h = h Operands
kind_has_none (Symbol at name) rest free h = headed_has_none (head_of name) (is_some (form_elements rest)) free h
kind_has_none (Pair at first more) rest free h = h Operands

either : (b : Bool) (A B : Type 0) → A → B → Either b A B
either true A B a b = a
either false A B a b = b

has_none : (part : Part) (form : Form) → HasNoCall [] part form
has_none part (Atom at bytes) = nothing
has_none part (Symbol at name) = nothing
has_none Expression (Pair at head rest) = kind_has_none head rest (λ part. HasNoCall [] part rest) (λ part. has_none part rest)
has_none Operands (Pair at first rest) = (has_none Expression first, has_none Operands rest)
has_none Template (Pair at first rest) = either (is_symbol (codes "unquote") first) _ _ (has_none Operands rest) (has_none Template first, has_none Template rest)
has_none OneTemplate (Pair at form end) = either (is_empty end) _ _ (has_none Template form) nothing

pub without_macros_law : WithoutMacrosAllIsSettled
unfolding expanded_part
without_macros_law part outer form turns = kept [] (again_within turns []) part outer form turns (has_none part form)

-- ---- what is expanded has none

Frees : List Macro → Part → Expanded → Type 0
Frees macros part (Expands form left) = HasNoCall macros part form
Frees macros part (Breaks fault place left) = Nothing

-- These parts keep whether a list is proper.
abbrev IsSpine : Part → Type 0
IsSpine Expression = ⊥
IsSpine Operands = Nothing
IsSpine Template = ⊥
IsSpine OneTemplate = Nothing

abbrev proper : Form → Bool
proper form = is_some (form_elements form)

KeepsSpine : Form → Expanded → Type 0
KeepsSpine rest (Expands form left) = proper form ≡ proper rest
KeepsSpine rest (Breaks fault place left) = Nothing

some_map : (f : List Form → List Form) (x : Option (List Form)) → is_some (option_map f x) ≡ is_some x
some_map f None = refl
some_map f (Some y) = refl

pair_proper : (at : Place) (front behind first rest : Form) → proper behind ≡ proper rest → proper (Pair at front behind) ≡ proper (Pair at first rest)
pair_proper at front behind first rest e =
    some_map (λ m. front ∷ m) (form_elements behind) ∙ e ∙ sym (some_map (λ m. first ∷ m) (form_elements rest))

with_rest_spine : (at : Place) (front first rest : Form) (v : Expanded) → KeepsSpine rest v → KeepsSpine (Pair at first rest) (with_rest at front v)
unfolding KeepsSpine
with_rest_spine at front first rest (Expands behind left) h = pair_proper at front behind first rest h
with_rest_spine at front first rest (Breaks fault place left) h = nothing

with_both_spine : (at : Place) (first rest : Form) (v : Expanded) (w : ℕ → Expanded) → ((left : ℕ) → KeepsSpine rest (w left)) → KeepsSpine (Pair at first rest) (with_both at v w)
unfolding KeepsSpine
with_both_spine at first rest (Expands front left) w h = with_rest_spine at front first rest (w left) (h left)
with_both_spine at first rest (Breaks fault place left) w h = nothing

cond_spine : (rest : Form) (b : Bool) (v w : Expanded) → KeepsSpine rest v → KeepsSpine rest w → KeepsSpine rest (cond b v w)
cond_spine rest true v w h k = h
cond_spine rest false v w h k = k

-- A form that isn't the symbol `unquote` isn't expanded to it, in a template.
IsOther : Expanded → Type 0
IsOther (Expands form left) = is_symbol (codes "unquote") form ≡ false
IsOther (Breaks fault place left) = Nothing

with_rest_other : (at : Place) (first : Form) (v : Expanded) → IsOther (with_rest at first v)
unfolding IsOther
with_rest_other at first (Expands behind left) = refl
with_rest_other at first (Breaks fault place left) = nothing

with_both_other : (at : Place) (v : Expanded) (w : ℕ → Expanded) → IsOther (with_both at v w)
unfolding IsOther
with_both_other at (Expands front left) w = with_rest_other at front (w left)
with_both_other at (Breaks fault place left) w = nothing

cond_other : (b : Bool) (v w : Expanded) → IsOther v → IsOther w → IsOther (cond b v w)
cond_other true v w h k = h
cond_other false v w h k = k

-- What follows a head settles what the pair is, as far as it is a proper list.
kind_same : (macros : List Macro) (head rest behind : Form) → proper behind ≡ proper rest → kind_of macros head behind ≡ kind_of macros head rest
kind_same macros (Atom at bytes) rest behind e = refl
kind_same macros (Symbol at name) rest behind e = ap (λ b. headed_kind (head_of name) (call_kind (macro_named name macros) b)) e
kind_same macros (Pair at first more) rest behind e = refl

abbrev SpineKind : PairKind → Type 0
SpineKind (Calls macro) = Nothing
SpineKind (Behind part) = IsSpine part
SpineKind Kept = Nothing

call_spine : (macro : Option Macro) (d : Bool) → SpineKind (call_kind macro d)
call_spine None true = nothing
call_spine None false = nothing
call_spine (Some macro) true = nothing
call_spine (Some macro) false = nothing

headed_spine : (head : Head) (kind : PairKind) → SpineKind kind → SpineKind (headed_kind head kind)
headed_spine QuotesRest kind h = nothing
headed_spine QuotesOne kind h = nothing
headed_spine Templates kind h = nothing
headed_spine Unquotes kind h = h
headed_spine Chooses kind h = h
headed_spine Lists kind h = h
headed_spine (Operates code) kind h = h
headed_spine CallsName kind h = h

kind_spine : (macros : List Macro) (head rest : Form) → SpineKind (kind_of macros head rest)
kind_spine macros (Atom at bytes) rest = nothing
kind_spine macros (Symbol at name) rest = headed_spine (head_of name) (call_kind (macro_named name macros) (proper rest)) (call_spine (macro_named name macros) (proper rest))
kind_spine macros (Pair at first more) rest = nothing

behind_frees : (macros : List Macro) (at : Place) (head rest : Form) (part : Part) (v : Expanded) → kind_of macros head rest ≡ Behind part → Frees macros part v → KeepsSpine rest v → Frees macros Expression (with_rest at head v)
unfolding Frees KeepsSpine
behind_frees macros at head rest part (Expands behind left) e h s =
    subst (λ (kind : PairKind). KindHasNoCall kind (λ part. HasNoCall macros part behind)) (sym (kind_same macros head rest behind s ∙ e)) h
behind_frees macros at head rest part (Breaks fault place left) e h s = nothing

pair_frees : (macros : List Macro) (at : Place) (head rest : Form) (turns : ℕ) (called : Macro → Expanded) (behind : Part → Expanded) (kind : PairKind) → kind_of macros head rest ≡ kind → SpineKind kind →
    ((macro : Macro) → Frees macros Expression (called macro)) → ((part : Part) → Frees macros part (behind part)) → ((part : Part) → IsSpine part → KeepsSpine rest (behind part)) →
    Frees macros Expression (pair_expanded kind called (λ part. with_rest at head (behind part)) (Expands (Pair at head rest) turns))
unfolding Frees
pair_frees macros at head rest turns called behind (Calls macro) e s c b k = c macro
pair_frees macros at head rest turns called behind (Behind part) e s c b k = behind_frees macros at head rest part (behind part) e (b part) (k part s)
pair_frees macros at head rest turns called behind Kept e s c b k = subst (λ (kind : PairKind). KindHasNoCall kind (λ part. HasNoCall macros part rest)) (sym e) nothing

operands_free : (macros : List Macro) (at : Place) (front : Form) (v : Expanded) → HasNoCall macros Expression front → Frees macros Operands v → Frees macros Operands (with_rest at front v)
unfolding Frees
operands_free macros at front (Expands behind left) h k = (h, k)
operands_free macros at front (Breaks fault place left) h k = nothing

all_operands_free : (macros : List Macro) (at : Place) (v : Expanded) (w : ℕ → Expanded) → Frees macros Expression v → ((left : ℕ) → Frees macros Operands (w left)) → Frees macros Operands (with_both at v w)
unfolding Frees
all_operands_free macros at (Expands front left) w h k = operands_free macros at front (w left) h (k left)
all_operands_free macros at (Breaks fault place left) w h k = nothing

unquote_frees : (macros : List Macro) (at : Place) (first : Form) (v : Expanded) → is_symbol (codes "unquote") first ≡ true → Frees macros Operands v → Frees macros Template (with_rest at first v)
unfolding Frees
unquote_frees macros at first (Expands behind left) e h = subst (λ b. Either b (HasNoCall macros Operands behind) (HasNoCall macros Template first × HasNoCall macros Template behind)) (sym e) h
unquote_frees macros at first (Breaks fault place left) e h = nothing

template_frees : (macros : List Macro) (at : Place) (front : Form) (v : Expanded) → is_symbol (codes "unquote") front ≡ false → HasNoCall macros Template front → Frees macros Template v → Frees macros Template (with_rest at front v)
unfolding Frees
template_frees macros at front (Expands behind left) e h k = subst (λ b. Either b (HasNoCall macros Operands behind) (HasNoCall macros Template front × HasNoCall macros Template behind)) (sym e) (h, k)
template_frees macros at front (Breaks fault place left) e h k = nothing

both_templates_free : (macros : List Macro) (at : Place) (v : Expanded) (w : ℕ → Expanded) → IsOther v → Frees macros Template v → ((left : ℕ) → Frees macros Template (w left)) → Frees macros Template (with_both at v w)
unfolding Frees IsOther
both_templates_free macros at (Expands front left) w o h k = template_frees macros at front (w left) o h (k left)
both_templates_free macros at (Breaks fault place left) w o h k = nothing

template_pair_frees : (macros : List Macro) (first : Form) (v w : Expanded) (b : Bool) → (b ≡ true → Frees macros Template v) → (b ≡ false → Frees macros Template w) → Frees macros Template (cond b v w)
template_pair_frees macros first v w true h k = h refl
template_pair_frees macros first v w false h k = k refl

only_frees : (macros : List Macro) (at : Place) (end : Form) (v : Expanded) → Frees macros Template v → Frees macros OneTemplate (with_both at v (Expands end))
unfolding Frees
only_frees macros at end (Expands form left) h = go (is_empty end)
  where
    go : (b : Bool) → Either b (HasNoCall macros Template form) Nothing
    go true = h
    go false = nothing
only_frees macros at end (Breaks fault place left) h = nothing

only_pair_frees : (macros : List Macro) (at : Place) (form end : Form) (turns : ℕ) (v : Expanded) (b : Bool) → is_empty end ≡ b → Frees macros OneTemplate v → Frees macros OneTemplate (cond b v (Expands (Pair at form end) turns))
unfolding Frees
only_pair_frees macros at form end turns v true e h = h
only_pair_frees macros at form end turns v false e h = subst (λ b. Either b (HasNoCall macros Template form) Nothing) (sym e) nothing

module _ (macros : List Macro) (again : Again) (frees : (place : Place) (form : Form) (left : ℕ) → Frees macros Expression (again place form left)) where
  keeps_spine : (part : Part) → IsSpine part → (outer : Option Place) (form : Form) (turns : ℕ) → KeepsSpine form (expanded_by macros again part outer form turns)
  unfolding KeepsSpine
  keeps_spine part s outer (Atom at bytes) turns = refl
  keeps_spine part s outer (Symbol at name) turns = refl
  keeps_spine Expression s outer (Pair at first rest) turns = absurd s
  keeps_spine Operands s outer (Pair at first rest) turns = with_both_spine at first rest _ (expanded_by macros again Operands outer rest) (λ left. keeps_spine Operands s outer rest left)
  keeps_spine Template s outer (Pair at first rest) turns = absurd s
  keeps_spine OneTemplate s outer (Pair at form end) turns =
      cond_spine (Pair at form end) (is_empty end) _ (Expands (Pair at form end) turns) (with_both_spine at form end _ (Expands end) (λ left. refl)) refl

  is_other : (outer : Option Place) (form : Form) (turns : ℕ) → is_symbol (codes "unquote") form ≡ false → IsOther (expanded_by macros again Template outer form turns)
  unfolding IsOther
  is_other outer (Atom at bytes) turns e = refl
  is_other outer (Symbol at name) turns e = e
  is_other outer (Pair at first rest) turns e = cond_other (is_symbol (codes "unquote") first) _ _ (with_rest_other at first _) (with_both_other at (expanded_by macros again Template outer first turns) (expanded_by macros again Template outer rest))

  after_call : (v : Expanded) (place : Place) → Frees macros Expression (if_expanded v (again place))
  unfolding Frees
  after_call (Expands form left) place = frees place form left
  after_call (Breaks fault at left) place = nothing

  expanded_frees : (part : Part) (outer : Option Place) (form : Form) (turns : ℕ) → Frees macros part (expanded_by macros again part outer form turns)
  unfolding Frees
  expanded_frees part outer (Atom at bytes) turns = nothing
  expanded_frees part outer (Symbol at name) turns = nothing
  expanded_frees Expression outer (Pair at head rest) turns =
      pair_frees macros at head rest turns (λ macro. call_expanded again macro rest (written_at outer at) turns) (λ part. expanded_by macros again part outer rest turns) (kind_of macros head rest) refl (kind_spine macros head rest)
      (λ macro. after_call (call_given macro rest (written_at outer at) turns) (written_at outer at))
      (λ part. expanded_frees part outer rest turns)
      (λ part s. keeps_spine part s outer rest turns)
  expanded_frees Operands outer (Pair at first rest) turns =
      all_operands_free macros at _ (expanded_by macros again Operands outer rest) (expanded_frees Expression outer first turns) (λ left. expanded_frees Operands outer rest left)
  expanded_frees Template outer (Pair at first rest) turns =
      template_pair_frees macros first _ _ (is_symbol (codes "unquote") first)
      (λ e. unquote_frees macros at first _ e (expanded_frees Operands outer rest turns))
      (λ e. both_templates_free macros at _ (expanded_by macros again Template outer rest) (is_other outer first turns e) (expanded_frees Template outer first turns) (λ left. expanded_frees Template outer rest left))
  expanded_frees OneTemplate outer (Pair at form end) turns =
      only_pair_frees macros at form end turns _ (is_empty end) refl (only_frees macros at end _ (expanded_frees Template outer form turns))

again_frees : (bound : ℕ) (macros : List Macro) (place : Place) (form : Form) (left : ℕ) → Frees macros Expression (again_within bound macros place form left)
unfolding Frees
again_frees zero macros place form left = nothing
again_frees (suc bound) macros place form left = expanded_frees macros (again_within bound macros) (again_frees bound macros) Expression (Some place) form left

pub settled_law : WhatIsExpandedIsSettled
unfolding Frees expanded_part
settled_law macros part outer other form result turns left more e =
    kept macros (again_within more macros) part other result more
    (subst (Frees macros part) e (expanded_frees macros (again_within turns macros) (again_frees turns macros) part outer form turns))
