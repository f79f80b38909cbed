-- The first fault, by the lists from the outermost on.
use Rattle.std.proofs.Common.{◌≡◌, ℕ, suc, Bool, true, false, cond, List, [], ◌∷◌, length, None, Some, refl, sym, ◌∙◌, ap, subst, arith}
use Rattle.std.specs.Prelude.{Option, option_map}
use Rattle.std.specs.Option.{option_or}
use Rattle.clvm_spec.specs.declared.scan_kind.ScanKind.{ScanKind}
use Rattle.clvm_spec.specs.declared.scan_kind.ScanKind.TheVariants as kind
use Rattle.clvm_spec.specs.Grammar.{Parsed, Breaks, is_dots_fault, behind_dot, with_rest, list_from}
use Rattle.clvm_spec.specs.Grammar as grammar
use Rattle.open_lists.specs.declared.fault.Fault.{Fault}
use Rattle.open_lists.specs.declared.fault.Fault.TheVariants.{At, Unknown, OutOfMemory}
use Rattle.open_lists.specs.declared.list.Reach.{Reach}
use Rattle.open_lists.specs.declared.list.Reach.TheVariants.{Elements, Dot, Last}
use Rattle.open_lists.specs.declared.list.OpenList.{OpenList}
use Rattle.open_lists.specs.Readings.{Reading}
use Rattle.open_lists.specs.Reaches.{dot_of}
use Rattle.open_lists.specs.Lists.{behind, form_in, resumed}
use Rattle.open_lists.specs.Faults.{first_unknown, IsUnknown, IsFirstFault, IsBroken, Tells, Keeps}

-- What breaks is a dot's fault where this is one.
record BreaksAs {M Q : Type 0} (what : ScanKind) (parsed : Parsed M Q) : Type 0 where
  told : ScanKind
  unknown : Option Q
  at : Q
  is : parsed ≡ Breaks told unknown at
  same : is_dots_fault told ≡ is_dots_fault what

module _ {F P M Q : Type 0} {unknown : F → Option P} (r : Reading F P M Q unknown) where
  abbrev after_form : P → F → Parsed M Q → Parsed M Q
  after_form place form parsed = grammar.behind r.language (r.placed place) (r.meant form) parsed

  -- ---- forms without an unknown symbol, and with one

  passes : (place : P) (form : F) (what : ScanKind) (u : Option Q) (at : Q) → unknown form ≡ None → after_form place form (Breaks what u at) ≡ Breaks what u at
  passes place form what u at e = ap (λ o. Breaks what (option_or o u) at) (r.finds form ∙ ap (option_map r.placed) e)

  tells : (place : P) (form : F) (what : ScanKind) (u : Option Q) (at : Q) (name : P) → unknown form ≡ Some name → after_form place form (Breaks what u at) ≡ Breaks what (Some (r.placed name)) at
  tells place form what u at name e = ap (λ o. Breaks what (option_or o u) at) (r.finds form ∙ ap (option_map r.placed) e)

  abbrev Passes : P → List F → ScanKind → Option Q → Q → Type 0
  Passes place forms what u at = first_unknown unknown forms ≡ None → behind r place forms (Breaks what u at) ≡ Breaks what u at

  passes_form : (place : P) (form : F) (forms : List F) (what : ScanKind) (u : Option Q) (at : Q) (o : Option P) → unknown form ≡ o → Passes place forms what u at → option_or o (first_unknown unknown forms) ≡ None →
      after_form place form (behind r place forms (Breaks what u at)) ≡ Breaks what u at
  passes_form place form forms what u at None e more h = ap (after_form place form) (more h) ∙ passes place form what u at e
  passes_form place form forms what u at (Some name) e more h = cc

  passes_all : (place : P) (forms : List F) (what : ScanKind) (u : Option Q) (at : Q) → Passes place forms what u at
  passes_all place [] what u at = λ h. refl
  passes_all place (form ∷ forms) what u at = λ h. passes_form place form forms what u at (unknown form) refl (passes_all place forms what u at) h

  -- Whatever stands before it, what breaks still breaks so.
  some_behind : (place : P) (forms : List F) (what : ScanKind) (u : Option Q) (at : Q) → (w : Option Q) × (behind r place forms (Breaks what u at) ≡ Breaks what w at)
  some_behind place [] what u at = (u, refl)
  some_behind place (form ∷ forms) what u at = let more = some_behind place forms what u at in (option_or (r.language.unknown (r.meant form)) more.0, ap (after_form place form) more.1)

  abbrev TellsFirst : P → List F → ScanKind → Option Q → Q → P → Type 0
  TellsFirst place forms what u at name = first_unknown unknown forms ≡ Some name → behind r place forms (Breaks what u at) ≡ Breaks what (Some (r.placed name)) at

  tells_form : (place : P) (form : F) (forms : List F) (what : ScanKind) (u : Option Q) (at : Q) (name : P) (o : Option P) → unknown form ≡ o → TellsFirst place forms what u at name → option_or o (first_unknown unknown forms) ≡ Some name →
      after_form place form (behind r place forms (Breaks what u at)) ≡ Breaks what (Some (r.placed name)) at
  tells_form place form forms what u at name None e more h = ap (after_form place form) (more h) ∙ passes place form what (Some (r.placed name)) at e
  tells_form place form forms what u at name (Some other) e more h =
      let some = some_behind place forms what u at in
      ap (after_form place form) some.1 ∙ tells place form what some.0 at name (e ∙ h)

  tells_first : (place : P) (forms : List F) (what : ScanKind) (u : Option Q) (at : Q) (name : P) → TellsFirst place forms what u at name
  tells_first place [] what u at name = λ h. cc
  tells_first place (form ∷ forms) what u at name = λ h. tells_form place form forms what u at name (unknown form) refl (tells_first place forms what u at name) h

  -- ---- what a list makes of what is wrong within it

  as_last : (dot : P) (what : ScanKind) (told : ScanKind) (u : Option Q) (at : Q) (dots : Bool) → is_dots_fault what ≡ dots → is_dots_fault told ≡ is_dots_fault what →
      behind_dot {Form = M} (r.placed dot) told u at ≡ cond dots (Breaks kind.Dot None (r.placed dot)) (Breaks told u at)
  as_last dot what told u at dots e same = ap (λ t. cond t (Breaks kind.Dot None (r.placed dot)) (Breaks told u at)) (same ∙ e)

  in_dot : (depth : ℕ) (place : P) (reach : Reach F P) (dot : P) (what : ScanKind) (u : Option Q) (at : Q) → dot_of reach ≡ Some dot → form_in r depth place reach (Breaks what u at) ≡ behind_dot (r.placed dot) what u at
  in_dot depth place Elements dot what u at e = cc
  in_dot depth place (Dot d) dot what u at e = let same : d ≡ dot = cc in ap (λ p. behind_dot (r.placed p) what u at) same
  in_dot depth place (Last d form) dot what u at e = let same : d ≡ dot = cc in ap (λ p. behind_dot (r.placed p) what u at) same

  in_none : (depth : ℕ) (place : P) (reach : Reach F P) (what : ScanKind) (u : Option Q) (at : Q) → dot_of reach ≡ None → form_in r depth place reach (Breaks what u at) ≡ Breaks what u at
  in_none depth place Elements what u at e = refl
  in_none depth place (Dot d) what u at e = cc
  in_none depth place (Last d form) what u at e = cc

  breaks_dot : (dot : P) (what : ScanKind) (parsed : Parsed M Q) (told : ScanKind) (u : Option Q) (at : Q) (dots : Bool) → is_dots_fault what ≡ dots → is_dots_fault told ≡ is_dots_fault what →
      parsed ≡ behind_dot (r.placed dot) told u at → BreaksAs what parsed
  breaks_dot dot what parsed told u at true e same is = record { told = kind.Dot; unknown = None; at = r.placed dot; is = is ∙ as_last dot what told u at true e same; same = sym e }
  breaks_dot dot what parsed told u at false e same is = record { told = told; unknown = u; at = at; is = is ∙ as_last dot what told u at false e same; same = same }

  breaks_in : (what : ScanKind) (depth : ℕ) (place : P) (reach : Reach F P) (parsed : Parsed M Q) (o : Option P) → dot_of reach ≡ o → BreaksAs what parsed → BreaksAs what (form_in r depth place reach parsed)
  breaks_in what depth place reach parsed None e b = record { told = b.told; unknown = b.unknown; at = b.at; is = ap (form_in r depth place reach) b.is ∙ in_none depth place reach b.told b.unknown b.at e; same = b.same }
  breaks_in what depth place reach parsed (Some dot) e b =
      breaks_dot dot what (form_in r depth place reach parsed) b.told b.unknown b.at (is_dots_fault what) refl b.same (ap (form_in r depth place reach) b.is ∙ in_dot depth place reach dot b.told b.unknown b.at e)

  breaks_behind : (what : ScanKind) (place : P) (forms : List F) (parsed : Parsed M Q) → BreaksAs what parsed → BreaksAs what (behind r place forms parsed)
  breaks_behind what place [] parsed b = b
  breaks_behind what place (form ∷ forms) parsed b =
      let more = breaks_behind what place forms parsed b in
      record { told = more.told; unknown = option_or (r.language.unknown (r.meant form)) more.unknown; at = more.at; is = ap (after_form place form) more.is; same = more.same }

  breaks : (what : ScanKind) (depth : ℕ) (lists : List (OpenList F P)) (at : Q) → BreaksAs what (resumed r depth lists (Breaks what None at))
  breaks what depth [] at = record { told = what; unknown = None; at = at; is = refl; same = refl }
  breaks what depth (list ∷ inner) at =
      breaks_behind what list.place list.forms.items (form_in r (suc depth) list.place list.reach (resumed r (suc depth) inner (Breaks what None at)))
      (breaks_in what (suc depth) list.place list.reach (resumed r (suc depth) inner (Breaks what None at)) (dot_of list.reach) refl (breaks what (suc depth) inner at))

module _ {F P : Type 0} (unknown : F → Option P) where
  unknown_form : (form : F) (forms : List F) (name : P) (o : Option P) → unknown form ≡ o → (first_unknown unknown forms ≡ Some name → IsUnknown unknown name) → option_or o (first_unknown unknown forms) ≡ Some name → IsUnknown unknown name
  unknown_form form forms name None e more h = more h
  unknown_form form forms name (Some other) e more h = record { form = form; is = e ∙ h }

  unknown_of : (forms : List F) (name : P) → first_unknown unknown forms ≡ Some name → IsUnknown unknown name
  unknown_of [] name h = cc
  unknown_of (form ∷ forms) name h = unknown_form form forms name (unknown form) refl (λ e. unknown_of forms name e) h

module _ {F P : Type 0} (M Q : Type 0) (unknown : F → Option P) where
  pub unknown_tells : (list : OpenList F P) (what : ScanKind) (name : P) → first_unknown unknown list.forms.items ≡ Some name → Tells M Q unknown list what (Unknown name)
  unknown_tells list what name e = λ r inner depth at.
      let within = resumed r (suc depth) inner (Breaks what None at) in
      let b = breaks_in r what (suc depth) list.place list.reach within (dot_of list.reach) refl (breaks r what (suc depth) inner at) in
      (record { what = b.told; at = b.at; is = ap (behind r list.place list.forms.items) b.is ∙ tells_first r list.place list.forms.items b.told b.unknown b.at name e }, unknown_of unknown list.forms.items name e)

  pub dot_tells : (list : OpenList F P) (what : ScanKind) (dot : P) → first_unknown unknown list.forms.items ≡ None → dot_of list.reach ≡ Some dot → is_dots_fault what ≡ true → Tells M Q unknown list what (At kind.Dot dot)
  dot_tells list what dot none e dots = λ r inner depth at.
      let b = breaks r what (suc depth) inner at in
      ap (λ p. behind r list.place list.forms.items (form_in r (suc depth) list.place list.reach p)) b.is
      ∙ ap (behind r list.place list.forms.items) (in_dot r (suc depth) list.place list.reach dot b.told b.unknown b.at e ∙ as_last r dot what b.told b.unknown b.at true dots b.same)
      ∙ passes_all r list.place list.forms.items kind.Dot None (r.placed dot) none

  keeps_by : (list : OpenList F P) (what : ScanKind) → first_unknown unknown list.forms.items ≡ None → ((r : Reading F P M Q unknown) (depth : ℕ) (told : ScanKind) (u : Option Q) (at : Q) → is_dots_fault told ≡ is_dots_fault what → form_in r depth list.place list.reach (Breaks told u at) ≡ Breaks told u at) →
      Keeps M Q unknown [] (list ∷ []) what
  keeps_by list what none h = λ r fault more at within depth.
      let b = breaks r what (suc depth) more at in
      subst (IsFirstFault r fault)
      (sym (ap (λ p. behind r list.place list.forms.items (form_in r (suc depth) list.place list.reach p)) b.is
      ∙ ap (behind r list.place list.forms.items) (h r (suc depth) b.told b.unknown b.at b.same)
      ∙ passes_all r list.place list.forms.items b.told b.unknown b.at none ∙ sym b.is)) (within (suc depth))

  pub dot_keeps : (list : OpenList F P) (what : ScanKind) (dot : P) → first_unknown unknown list.forms.items ≡ None → dot_of list.reach ≡ Some dot → is_dots_fault what ≡ false → Keeps M Q unknown [] (list ∷ []) what
  dot_keeps list what dot none e dots = keeps_by list what none (λ r depth told u at same. in_dot r depth list.place list.reach dot told u at e ∙ as_last r dot what told u at false dots same)

  pub none_keeps : (list : OpenList F P) (what : ScanKind) → first_unknown unknown list.forms.items ≡ None → dot_of list.reach ≡ None → Keeps M Q unknown [] (list ∷ []) what
  none_keeps list what none e = keeps_by list what none (λ r depth told u at same. in_none r depth list.place list.reach told u at e)

pub broken : {F P M Q : Type 0} {unknown : F → Option P} (r : Reading F P M Q unknown) (fault : Fault P) (parsed : Parsed M Q) → IsFirstFault r fault parsed → IsBroken r fault parsed
broken r (At what at) parsed h = h
broken r (Unknown name) parsed h = h
broken r OutOfMemory parsed h = absurd h

pub none_of : {P : Type 0} (o : Option P) → ((name : P) → o ≡ Some name → ⊥) → o ≡ None
none_of None h = refl
none_of (Some name) h = absurd (h name refl)

pub none_left : {A : Type 0} (rest : List A) → length rest ≡ 0 → rest ≡ []
none_left [] e = refl
none_left (item ∷ rest) e = absurd (omega (arith, e))
