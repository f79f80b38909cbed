use Rattle.std.proofs.Common.{[], ◌∷◌, length, sym, ◌∙◌, ap, subst, arith, length-append}
use Rattle.clvm_spec.specs.Text.{paired}
use Rattle.clvm_tree.proofs.NodeLaws.{grows_same, grows_on}
use Rattle.open_lists.specs.Lists.{folded}
use Rattle.open_lists.specs.Held.{last_held}
use Rattle.open_lists.proofs.ListLaws.{folded_push}
use Rattle.clvm_text.specs.Forms.{formed, AreKnownForms}
use Rattle.clvm_text.specs.Parsing.{reading}
use Rattle.clvm_text.proofs.FormLaws.{formed-grows, known-grows, known_front, known_back}
use Rattle.clvm_text.proofs.reader.whole.Goals as goal

pub last_form-rest-requires : goal.last_form-rest-requires
last_form-rest-requires c = record { known = known_back c.args.trees.now c.args.list.forms.items (last_held c.args.list.reach) c.requires.known }

pub elements-init : goal.elements-init
elements-init c =
    let trees = c.args.trees.now in
    let list = c.args.list in
    record {
      grows = grows_same trees;
      few = omega arith;
      known = c.last_form-rest.ensures.known;
      others = known_front trees list.forms.items (last_held list.reach) c.requires.known;
      same = ap (folded (reading trees) list.place list.forms.items) (c.last_form-rest.ensures.last list.place);
    }

pub pair-requires-clause-first_known : goal.pair-requires-clause-first_known
pair-requires-clause-first_known c =
    let first = c.in-Some.first in
    let before = c.pop.new.self.items in
    known-grows c.args.trees.now c.elements.trees first c.elements.invariant.grows (known_back c.args.trees.now before (first ∷ []) (subst (AreKnownForms c.args.trees.now) c.in-Some.ensures.items c.elements.invariant.others)).0

pub elements-preserved : goal.elements-preserved
elements-preserved c =
    let old = c.args.trees.now in
    let trees = c.elements.trees in
    let first = c.in-Some.first in
    let before = c.pop.new.self.items in
    let items = c.in-Some.ensures.items in
    let others = subst (AreKnownForms old) items c.elements.invariant.others in
    let made = c.in_ok-rest.ensures.made in
    let last = formed trees c.elements.rest in
    record {
      grows = grows_on old trees c.pair.new.trees c.elements.invariant.grows made.grows;
      few = omega (arith, made.few, c.elements.invariant.few, ap length items, length-append before (first ∷ []));
      known = made.known;
      others = known_front old before (first ∷ []) others;
      same =
          ap (folded (reading old) c.args.list.place before) (made.stands ∙ ap (λ m. paired m last) (formed-grows old trees first c.elements.invariant.grows (known_back old before (first ∷ []) others).0))
          ∙ sym (folded_push (reading old) c.args.list.place before first last)
          ∙ ap (λ forms. folded (reading old) c.args.list.place forms last) (sym items) ∙ c.elements.invariant.same;
    }
