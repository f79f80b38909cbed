-- The definitions of what has the shape of a module have its symbols.
use Rattle.std.proofs.Common.{◌≡◌, List, [], ◌∷◌, ◌++◌, ap, ◌∙◌, subst}
use Rattle.lisp_spec.specs.Forms.{Form}
use Rattle.lisp_parts.specs.Symbols.{HaveAsciiSymbols}

front_ascii : (front : List Form) (last : Form) → HaveAsciiSymbols (front ++ last ∷ []) → HaveAsciiSymbols front
front_ascii [] last a = tt
front_ascii (f ∷ front) last a = (a.0, front_ascii front last a.1)

pub definitions_are_ascii : (all front rest definitions : List Form) (head params body : Form) → all ≡ front ++ body ∷ [] → front ≡ head ∷ rest → rest ≡ params ∷ definitions → HaveAsciiSymbols all → HaveAsciiSymbols definitions
definitions_are_ascii all front rest definitions head params body a f r s =
    let in_front = front_ascii front body (subst HaveAsciiSymbols a s) in
    let behind_head = subst HaveAsciiSymbols (f ∙ ap (λ l. head ∷ l) r) in_front in
    behind_head.1.1
