use Rattle.std.proofs.Common.{◌≡◌, ◌%◌, ◌<◌, ◌++◌, ◌∷◌, [], take, reverse, sym, ap, ap₂, ◌∙◌, arith, append_assoc}
use Rattle.lisp_code.specs.Paths.{path_number, path_atom}
use Rattle.lisp_compile.specs.Sides.{path_in}
use Rattle.lisp_compile.proofs.PathLaws.{atom_step, number_above, number_within, atom_short, reverse-push}
use Rattle.lisp_compile.proofs.path.bytes_of.Goals as goal

pub eights-preserved : goal.eights-preserved
eights-preserved c =
    let rest = c.eights.rest.now in
    let step = atom_step rest (omega (arith, c.eights-test.true)) in
    let low : c.number.result % 256 ≡ path_number (path_in (take 8 rest)) % 256 = ap (λ n. n % 256) (c.number.ensures ∙ ap (λ s. path_number (path_in s)) c.split_at.ensures.front) in
    c.eights.invariant
    ∙ ap (λ bytes. bytes ++ reverse c.eights.bytes.items) (step ∙ ap₂ (λ p b. path_atom (path_in p) ++ b ∷ []) (sym c.split_at.ensures.back) (sym low))
    ∙ append_assoc (path_atom (path_in c.split_at.result.1.now)) (c.number.result % 256 ∷ []) (reverse c.eights.bytes.items)
    ∙ ap (λ bytes. path_atom (path_in c.split_at.result.1.now) ++ bytes) (sym (reverse-push c.eights.bytes.items (c.number.result % 256)) ∙ ap reverse (sym c.in_ok-push.ensures.items))

pub returns : goal.returns
returns c =
    let rest = c.eights.rest.now in
    let below : path_number (path_in rest) < 256 = number_within rest 7 (omega (arith, c.eights-test.false)) in
    c.reverse.ensures.items
    ∙ ap reverse (c.in_ok-push-2.ensures.items ∙ ap (λ n. c.eights.bytes.items ++ n ∷ []) c.number-2.ensures)
    ∙ reverse-push c.eights.bytes.items (path_number (path_in rest))
    ∙ ap (λ bytes. bytes ++ reverse c.eights.bytes.items) (sym (atom_short (path_number (path_in rest)) (number_above (path_in rest)) below))
    ∙ sym c.eights.invariant

pub overflow_cast-number-2 : goal.overflow_cast-number-2
overflow_cast-number-2 c =
    let below : path_number (path_in c.eights.rest.now) < 256 = number_within c.eights.rest.now 7 (omega (arith, c.eights-test.false)) in
    omega (arith, c.number-2.ensures, below)
