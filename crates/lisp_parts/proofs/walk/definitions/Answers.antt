use Rattle.std.proofs.Common.{◌≡◌, sym, ap, ◌∙◌, subst, arith, [], ◌∷◌, ◌++◌, ◌+◌, ◌<◌, ◌≤◌, length, None, Some, Ok, Err}
use Rattle.lisp_read.specs.Views.{form_of}
use Rattle.lisp_spec.specs.Inclusion.{Texts}
use Rattle.ports_io.proofs.OutsideLemmas.{Stays-refl, Stays-trans}
use Rattle.lisp_parts.specs.Steps.{IsKnown, Learns, stepped, StepsTo, definitions_in, texts_left, inner_left, InnerAscii}
use Rattle.lisp_parts.specs.Views.{all_written}
use Rattle.lisp_parts.specs.Walks.{walk_of}
use Rattle.lisp_parts.proofs.WalkLaws.{IsLeft, known_start, known_exhausted, known_step, fault_step, known_end}
use Rattle.lisp_parts.proofs.StepLaws.{for_some_nothing, for_some_fault}
use Rattle.lisp_parts.proofs.LevelLaws.{levels_left, AllAscii, empty_is, exhausted_falls, step_falls, ascii_more, ascii_form, ascii_opened}
use Rattle.lisp_parts.specs.declared.fault.PartsFault.TheVariants.{LibraryFault}
use Rattle.lisp_parts.proofs.WholeLaws.{same_fault}
use Rattle.lisp_parts.proofs.AskingLaws.{asks_step}
use Rattle.lisp_parts.proofs.walk.definitions.Goals as goal

pub returns-in_err-push-clause-found : goal.returns-in_err-push-clause-found
returns-in_err-push-clause-found g c =
    for_some_nothing (g.B.Library.texts c.args.library.now) (λ list. all_written list.items) (λ texts. definitions_in texts c.args.forms) c.from_residual.result c.from_residual.ensures.1

pub levels-init : goal.levels-init
levels-init g c =
    let told = g.B.Library.texts c.args.library.now in
    let items : c.push.new.self.items ≡ c.args.forms ∷ [] = c.in_ok-push.ensures.items ∙ ap (λ l. l ++ c.args.forms ∷ []) c.new-levels.ensures.items in
    let none = ap (λ w. length w.included) c.new-walk.ensures.walk in
    record {
      numbered = omega (arith, none);
      named = c.new-walk.ensures.named;
      symbols = subst AllAscii (sym items) (c.requires, tt);
      known = known_start told c.args.forms c.push.new.self.items (walk_of c.new-walk.result) items c.new-walk.ensures.walk;
      told = Stays-refl told;
      later = omega arith;
    }

pub step-requires-clause-symbols : goal.step-requires-clause-symbols
step-requires-clause-symbols g c =
    let level : c.levels.levels.items ≡ c.pop.new.self.items ++ (form_of c.in-Some-next.form ∷ c.next.new.self) ∷ [] = c.in-Some.ensures.items ∙ ap (λ l. c.pop.new.self.items ++ l ∷ []) c.in-Some-next.ensures in
    ascii_form c.levels.levels.items c.pop.new.self.items (form_of c.in-Some-next.form) c.next.new.self level c.levels.invariant.symbols

pub returns-in_err-inner-clause-found : goal.returns-in_err-inner-clause-found
returns-in_err-inner-clause-found g c =
    let told = g.B.Library.texts c.args.library.now in
    let level : c.levels.levels.items ≡ c.pop.new.self.items ++ (form_of c.in-Some-next.form ∷ c.next.new.self) ∷ [] = c.in-Some.ensures.items ∙ ap (λ l. c.pop.new.self.items ++ l ∷ []) c.in-Some-next.ensures in
    for_some_fault told (λ list. all_written list.items) (λ texts. definitions_in texts c.args.forms) c.in_err-inner.field-0.0 c.from_residual-in_err-inner.result c.from_residual-in_err-inner.ensures.1
    (fault_step told (g.B.Library.texts c.levels.library) c.args.forms c.levels.levels.items c.pop.new.self.items (form_of c.in-Some-next.form) c.next.new.self (walk_of c.levels.walk) (walk_of c.step.new.self) c.in_err-inner.field-0.0
    c.levels.invariant.numbered level c.levels.invariant.told c.levels.invariant.known c.in_err-inner.ensures.found)

pub returns-in_err-inner-clause-asked : goal.returns-in_err-inner-clause-asked
returns-in_err-inner-clause-asked g c = λ is.
    let level : c.levels.levels.items ≡ c.pop.new.self.items ++ (form_of c.in-Some-next.form ∷ c.next.new.self) ∷ [] = c.in-Some.ensures.items ∙ ap (λ l. c.pop.new.self.items ++ l ∷ []) c.in-Some-next.ensures in
    asks_step (g.B.Library.texts c.args.library.now) c.args.forms c.levels.levels.items c.pop.new.self.items (form_of c.in-Some-next.form) c.next.new.self (walk_of c.levels.walk)
    c.levels.invariant.numbered level c.levels.invariant.known
    (c.in_err-inner.ensures.asked (ap Err (same_fault c.in_err-inner.field-0.0 LibraryFault c.from_residual-in_err-inner.result c.from_residual-in_err-inner.ensures.1 is)))

pub levels-smaller-in-Continue-branch-5 : goal.levels-smaller-in-Continue-branch-5
levels-smaller-in-Continue-branch-5 g c =
    let level : c.levels.levels.items ≡ c.pop.new.self.items ++ (form_of c.in-Some-next.form ∷ c.next.new.self) ∷ [] = c.in-Some.ensures.items ∙ ap (λ l. c.pop.new.self.items ++ l ∷ []) c.in-Some-next.ensures in
    let after : c.push-in-Some-2.new.self.items ≡ (c.pop.new.self.items ++ c.next.new.self ∷ []) ++ c.in-Some-2.inner ∷ [] = c.in_ok-push-3.ensures.items ∙ ap (λ l. l ++ c.in-Some-2.inner ∷ []) c.in_ok-push-2.ensures.items in
    subst (λ l. texts_left (walk_of c.step.new.self) + levels_left l < texts_left (walk_of c.levels.walk) + levels_left c.levels.levels.items) (sym after)
    (step_falls (walk_of c.levels.walk) (walk_of c.step.new.self) c.levels.levels.items c.pop.new.self.items (form_of c.in-Some-next.form) c.next.new.self (Some c.in-Some-2.inner) level
    (subst (λ i. texts_left (walk_of c.step.new.self) + inner_left i ≤ texts_left (walk_of c.levels.walk)) c.in-Some-2.is c.in_ok-inner.ensures.less))

pub levels-preserved-in-Continue-branch-5 : goal.levels-preserved-in-Continue-branch-5
levels-preserved-in-Continue-branch-5 g c =
    let told = g.B.Library.texts c.args.library.now in
    let now = g.B.Library.texts c.levels.library in
    let form = form_of c.in-Some-next.form in
    let rest = c.next.new.self in
    let more = c.pop.new.self.items in
    let next = walk_of c.step.new.self in
    let level : c.levels.levels.items ≡ c.pop.new.self.items ++ (form_of c.in-Some-next.form ∷ c.next.new.self) ∷ [] = c.in-Some.ensures.items ∙ ap (λ l. c.pop.new.self.items ++ l ∷ []) c.in-Some-next.ensures in
    let after : c.push-in-Some-2.new.self.items ≡ (c.pop.new.self.items ++ c.next.new.self ∷ []) ++ c.in-Some-2.inner ∷ [] = c.in_ok-push-3.ensures.items ∙ ap (λ l. l ++ c.in-Some-2.inner ∷ []) c.in_ok-push-2.ensures.items in
    record {
      numbered = c.in_ok-inner.ensures.numbered;
      named = c.in_ok-inner.ensures.named;
      symbols = subst AllAscii (sym after) (ascii_opened c.levels.levels.items more form rest (Some c.in-Some-2.inner) level c.levels.invariant.symbols (subst InnerAscii c.in-Some-2.is c.in_ok-inner.ensures.symbols));
      known = subst (λ l. IsKnown told next.included (IsLeft c.args.forms l next)) (sym after)
          (known_step told now c.args.forms c.levels.levels.items more form rest (walk_of c.levels.walk) next (Some c.in-Some-2.inner)
          c.levels.invariant.numbered level c.levels.invariant.told c.levels.invariant.known
          (subst (λ i. (known : Texts) → Learns now c.levels.walk.included c.step.new.self.included (λ texts. StepsTo (stepped texts form (walk_of c.levels.walk)) next (Ok i)) known) c.in-Some-2.is c.in_ok-inner.ensures.found));
      told = Stays-trans told now (g.B.Library.texts c.step.new.library) c.levels.invariant.told c.in_ok-inner.ensures.texts;
      later = omega (arith, c.levels.invariant.later, c.in_ok-inner.ensures.later);
    }

pub returns-in_err-push-3-clause-found : goal.returns-in_err-push-3-clause-found
returns-in_err-push-3-clause-found g c =
    for_some_nothing (g.B.Library.texts c.args.library.now) (λ list. all_written list.items) (λ texts. definitions_in texts c.args.forms) c.from_residual-in_err-push-3.result c.from_residual-in_err-push-3.ensures.1

-- where a form opens no text
pub levels-smaller-in_default-2 : goal.levels-smaller-in_default-2
levels-smaller-in_default-2 g c =
    let level : c.levels.levels.items ≡ c.pop.new.self.items ++ (form_of c.in-Some-next.form ∷ c.next.new.self) ∷ [] = c.in-Some.ensures.items ∙ ap (λ l. c.pop.new.self.items ++ l ∷ []) c.in-Some-next.ensures in
    subst (λ l. texts_left (walk_of c.step.new.self) + levels_left l < texts_left (walk_of c.levels.walk) + levels_left c.levels.levels.items) (sym c.in_ok-push-2.ensures.items)
    (step_falls (walk_of c.levels.walk) (walk_of c.step.new.self) c.levels.levels.items c.pop.new.self.items (form_of c.in-Some-next.form) c.next.new.self None level
    (subst (λ i. texts_left (walk_of c.step.new.self) + inner_left i ≤ texts_left (walk_of c.levels.walk)) c.in_default-2.is c.in_ok-inner.ensures.less))

pub levels-preserved-in_default-2 : goal.levels-preserved-in_default-2
levels-preserved-in_default-2 g c =
    let told = g.B.Library.texts c.args.library.now in
    let now = g.B.Library.texts c.levels.library in
    let form = form_of c.in-Some-next.form in
    let rest = c.next.new.self in
    let more = c.pop.new.self.items in
    let next = walk_of c.step.new.self in
    let level : c.levels.levels.items ≡ c.pop.new.self.items ++ (form_of c.in-Some-next.form ∷ c.next.new.self) ∷ [] = c.in-Some.ensures.items ∙ ap (λ l. c.pop.new.self.items ++ l ∷ []) c.in-Some-next.ensures in
    record {
      numbered = c.in_ok-inner.ensures.numbered;
      named = c.in_ok-inner.ensures.named;
      symbols = subst AllAscii (sym c.in_ok-push-2.ensures.items) (ascii_opened c.levels.levels.items more form rest None level c.levels.invariant.symbols tt);
      known = subst (λ l. IsKnown told next.included (IsLeft c.args.forms l next)) (sym c.in_ok-push-2.ensures.items)
          (known_step told now c.args.forms c.levels.levels.items more form rest (walk_of c.levels.walk) next None
          c.levels.invariant.numbered level c.levels.invariant.told c.levels.invariant.known
          (subst (λ i. (known : Texts) → Learns now c.levels.walk.included c.step.new.self.included (λ texts. StepsTo (stepped texts form (walk_of c.levels.walk)) next (Ok i)) known) c.in_default-2.is c.in_ok-inner.ensures.found));
      told = Stays-trans told now (g.B.Library.texts c.step.new.library) c.levels.invariant.told c.in_ok-inner.ensures.texts;
      later = omega (arith, c.levels.invariant.later, c.in_ok-inner.ensures.later);
    }

-- where a text is exhausted
pub levels-smaller : goal.levels-smaller
levels-smaller g c = exhausted_falls (texts_left (walk_of c.levels.walk)) c.levels.levels.items c.pop.new.self.items c.in-Some.level c.in-Some.ensures.items

pub levels-preserved : goal.levels-preserved
levels-preserved g c =
    let told = g.B.Library.texts c.args.library.now in
    record {
      numbered = c.levels.invariant.numbered;
      named = c.levels.invariant.named;
      symbols = ascii_more c.levels.levels.items c.pop.new.self.items c.in-Some.level c.in-Some.ensures.items c.levels.invariant.symbols;
      known = known_exhausted told c.args.forms c.levels.levels.items c.pop.new.self.items c.in-Some.level (walk_of c.levels.walk) c.in-Some.ensures.items c.in_default-next.ensures.0 c.levels.invariant.known;
      told = c.levels.invariant.told;
      later = c.levels.invariant.later;
    }

pub returns-clause-found : goal.returns-clause-found
returns-clause-found g c =
    let none : length c.levels.levels.items ≡ 0 = omega (arith, c.in_default.ensures.cases.0, c.levels.levels.ok.0) in
    known_end (g.B.Library.texts c.args.library.now) c.args.forms c.levels.levels.items (walk_of c.levels.walk) (empty_is c.levels.levels.items none) c.levels.invariant.known
