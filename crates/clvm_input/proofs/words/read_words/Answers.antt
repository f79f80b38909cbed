use Rattle.std.proofs.Common.{◌≡◌, ◌∙◌, ◌+◌, suc, ◌++◌, [], ◌∷◌, length, map, drop, option_map, sym, ap, arith, length-append}
use Rattle.std.specs.List.{sum_by}
use Rattle.std.specs.Option.{option_and_then}
use Rattle.std.proofs.lemmas.List.Sums.{sum_by-append}
use Rattle.clvm_input.specs.Words.{word_of, each_of, if_few}
use Rattle.clvm_input.proofs.Lists.{spelled-some, one_more, none-few}
use Rattle.clvm_input.proofs.words.read_words.Goals as goal

pub returns-then-count-room : goal.returns-then-count-room
returns-then-count-room c =
    let texts = c.args.texts.now in
    let place = c.loop-text.text-index in
    let before = c.loop-text.items.items in
    let word = c.in-Some.word in
    let total = sum_by-append length before (word ∷ []) in
    let count = ap length c.as_slice-count.ensures.value in
    none-few (before ++ word ∷ []) (each_of (map (λ t. t.now) (drop (suc place) texts))) (omega (arith, total, count, c.loop-text.invariant.room, c.if-count-room.true))
    ∙ ap (option_and_then if_few)
    (sym (c.loop-text.invariant.all ∙ one_more texts place _ before word (omega arith) (sym (ap word_of c.as_bytes.ensures.value) ∙ sym c.in_ok-word.ensures ∙ c.in-Some.is)))

pub loop-text-preserved : goal.loop-text-preserved
loop-text-preserved c =
    let texts = c.args.texts.now in
    let place = c.loop-text.text-index in
    let before = c.loop-text.items.items in
    let word = c.in-Some.word in
    let items = c.in_ok-push.ensures.items in
    let next : suc place ≡ place + 1 = omega arith in
    let total = ap (sum_by length) items ∙ sum_by-append length before (word ∷ []) in
    let count = ap length c.as_slice-count.ensures.value in
    let some = spelled-some word c.as_slice-count.ensures.spelled in
    record {
      all = c.loop-text.invariant.all
          ∙ one_more texts place _ before word (omega arith) (sym (ap word_of c.as_bytes.ensures.value) ∙ sym c.in_ok-word.ensures ∙ c.in-Some.is)
          ∙ ap (λ n. option_map (λ later. (before ++ word ∷ []) ++ later) (each_of (map (λ t. t.now) (drop n texts)))) next
          ∙ ap (λ xs. option_map (λ later. xs ++ later) (each_of (map (λ t. t.now) (drop (place + 1) texts)))) (sym items);
      room = omega (arith, total, count, c.loop-text.invariant.room);
      some = omega (arith, total, some, c.loop-text.invariant.some, ap length items, length-append before (word ∷ []));
    }
