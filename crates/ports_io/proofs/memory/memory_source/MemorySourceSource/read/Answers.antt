use Rattle.std.proofs.Common.{◌≡◌, ℕ, ◌+◌, ◌≤◌, List, ◌++◌, length, take, drop, sym, ap, ◌∙◌, arith, length-take-le, take-append-drop}
use Rattle.std.proofs.lemmas.List.{take_at, drop-drop, take_rest}
use Rattle.ports_io.proofs.memory.memory_source.MemorySourceSource.read.Goals as goal

-- n bytes copied to the front of the room are the first of what was left, and the others are left
front_copied : (left got room bytes : List ℕ) (at n : ℕ) → left ≡ drop at bytes → got ≡ take n left → n ≤ length left → left ≡ take n (got ++ room) ++ drop (at + n) bytes
front_copied left got room bytes at n is_rest is_front within =
    let front : take n (got ++ room) ≡ take n left = take_at got room n (ap length is_front ∙ length-take-le n left within) ∙ is_front in
    let back : drop (at + n) bytes ≡ drop n left = sym (drop-drop n at bytes) ∙ ap (drop n) (sym is_rest) in
    sym (ap (λ xs. xs ++ drop (at + n) bytes) front ∙ ap (λ ys. take n left ++ ys) back ∙ take-append-drop n left)

pub returns-clause-taken : goal.returns-clause-taken
returns-clause-taken c =
    let bytes = c.self.inside.bytes.items in
    let at = c.self.inside.at in
    let n = c.min-n.result in
    let left = c.args.self.now.left in
    let is_rest : left ≡ drop at bytes = grind (arith, c.self.view_is) in
    let rest = take_rest c.deref.result.now at ∙ ap (drop at) c.deref.ensures.value ∙ sym is_rest in
    let within : n ≤ length left = omega (arith, ap length rest, c.min-n.ensures) in
    front_copied left c.copy_from_slice.new.self _ bytes at n is_rest (c.copy_from_slice.ensures.after ∙ ap (take n) rest) within
