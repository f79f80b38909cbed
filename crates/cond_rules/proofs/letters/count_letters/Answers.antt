use Rattle.std.proofs.Common.{◌≡◌, ◌+◌, [], ◌∷◌, ◌++◌, List, length, refl, sym, ap, subst, ◌∙◌, append_assoc, append-nil, arith}
use Rattle.std.proofs.lemmas.List.{length-append}
use Rattle.std.specs.Vec.Iter.{into_iter_items}
use Rattle.cond_rules.specs.Letters.{AddsLetters}
use Rattle.cond_rules.proofs.LetterLaws.{adds-both}
use Rattle.cond_rules.proofs.letters.count_letters.Goals as goal

nothing-left : {X : Type 0} (l : List X) → length l ≡ 0 → l ≡ []
nothing-left [] h = refl
nothing-left (x ∷ xs) h = absurd (omega arith)

pub loop-letter-preserved : goal.loop-letter-preserved
loop-letter-preserved c =
    let at = c.loop-letter in
    let letter = c.in-Some.letter in
    let steps : into_iter_items at.letter-iterator ≡ letter ∷ into_iter_items c.next.new.self = c.in-Some.ensures.steps.0 in
    let gone = c.in-Some.ensures.steps.1 in
    let short = ap length steps in
    record {
      items = append_assoc at.yielded (letter ∷ []) _ ∙ rw (← steps) at.invariant.items;
      left = omega arith;
      adds = adds-both _ _ _ c.args.place at.yielded (letter ∷ []) at.invariant.adds c.count_letter.ensures.adds;
      queued = c.count_letter.ensures.queued;
      total = omega (arith, length-append at.yielded (letter ∷ []));
      few = omega arith;
      room = (omega arith, omega arith);
    }
