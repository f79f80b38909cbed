-- One more pending node.
use Rattle.std.proofs.Common.{◌≡◌, ℕ, List, [], ◌∷◌, ◌++◌, length, ◌+◌, ◌<◌, refl, sym, ◌∙◌, ap, arith, append_assoc}
use Rattle.std.proofs.lemmas.List.{append-nil, length-append}
use Rattle.clvm_spec.specs.Tree.{Tree}
use Rattle.clvm_spec.specs.Spelling.{spelling}
use Rattle.clvm_tree.specs.Nodes.{tree_at, IsKnown, AreKnown, HasParts}
use Rattle.clvm_tree.specs.Writes.{HasSpellingWithin, IsWriteFault}
use Rattle.clvm_tree.specs.declared.Node.{Node}
use Rattle.clvm_tree.specs.declared.WriteFault.{WriteFault}
use Rattle.clvm_tree.specs.declared.WriteFault.TheVariants.{TooLong, OutOfMemory}

-- the spellings of pending nodes, the last of them first
abbrev pub spellings : List Tree → List Node → List ℕ
spellings trees [] = []
spellings trees (node ∷ above) = spellings trees above ++ spelling (tree_at trees node.0)

pub spellings-push : (trees : List Tree) (nodes : List Node) (node : Node) → spellings trees (nodes ++ node ∷ []) ≡ spelling (tree_at trees node.0) ++ spellings trees nodes
spellings-push trees [] node = sym (append-nil (spelling (tree_at trees node.0)))
spellings-push trees (n ∷ nodes) node =
    ap (λ s. s ++ spelling (tree_at trees n.0)) (spellings-push trees nodes node)
    ∙ append_assoc (spelling (tree_at trees node.0)) (spellings trees nodes) (spelling (tree_at trees n.0))

pub AreKnown-push : (trees : List Tree) (nodes : List Node) (node : Node) → AreKnown trees nodes → IsKnown trees node.0 → AreKnown trees (nodes ++ node ∷ [])
AreKnown-push trees [] node h k = (k, tt)
AreKnown-push trees (n ∷ nodes) node h k = (h.0, AreKnown-push trees nodes node h.1 k)

pub AreKnown-init : (trees : List Tree) (nodes : List Node) (node : Node) → AreKnown trees (nodes ++ node ∷ []) → AreKnown trees nodes × IsKnown trees node.0
AreKnown-init trees [] node h = (tt, h.0)
AreKnown-init trees (n ∷ nodes) node h = let more = AreKnown-init trees nodes node h.1 in ((h.0, more.0), more.1)

-- the node that is taken next is spelled next
pub next_spelled : (trees : List Tree) (out whole : List ℕ) (pending popped : List Node) (node : Node) → pending ≡ popped ++ node ∷ [] → out ++ spellings trees pending ≡ whole → out ++ (spelling (tree_at trees node.0) ++ spellings trees popped) ≡ whole
next_spelled trees out whole pending popped node items written =
    ap (λ s. out ++ s) (sym (ap (spellings trees) items ∙ spellings-push trees popped node)) ∙ written

pub too_long : (most : ℕ) (tree : Tree) (out next later : List ℕ) → out ++ (next ++ later) ≡ spelling tree → most < length out + length next → HasSpellingWithin most tree → ⊥
too_long most tree out next later whole more h =
    omega (arith, ap length whole, length-append out (next ++ later), length-append next later, more, h.within)

pub fault_is : (most : ℕ) (tree : Tree) (fault : WriteFault) → (fault ≡ TooLong → HasSpellingWithin most tree → ⊥) → IsWriteFault most tree fault
fault_is most tree TooLong h = h refl
fault_is most tree OutOfMemory h = tt

pub pair_spelled : (trees : List Tree) (out new whole : List ℕ) (popped after last : List Node) (node : ℕ) (first rest : Node) → HasParts trees node first.0 rest.0 → new ≡ out ++ 0xff ∷ [] → after ≡ popped ++ rest ∷ [] → last ≡ after ++ first ∷ [] → out ++ (spelling (tree_at trees node) ++ spellings trees popped) ≡ whole → new ++ spellings trees last ≡ whole
pair_spelled trees out new whole popped after last node first rest parts out_is after_is last_is written =
    let f = spelling (tree_at trees first.0) in
    let r = spelling (tree_at trees rest.0) in
    let p = spellings trees popped in
    let pending : spellings trees last ≡ f ++ (r ++ p) = ap (spellings trees) last_is ∙ spellings-push trees after first ∙ ap (λ s. f ++ s) (ap (spellings trees) after_is ∙ spellings-push trees popped rest) in
    let spelled : spelling (tree_at trees node) ++ p ≡ 0xff ∷ (f ++ (r ++ p)) = ap (λ t. spelling t ++ p) parts.pair ∙ ap (λ s. 0xff ∷ s) (append_assoc f r p) in
    ap (λ o. o ++ spellings trees last) out_is ∙ append_assoc out (0xff ∷ []) (spellings trees last)
    ∙ ap (λ s. out ++ (0xff ∷ s)) pending ∙ ap (λ s. out ++ s) (sym spelled) ∙ written

pub all_spelled : (trees : List Tree) (out whole : List ℕ) (pending : List Node) → length pending ≡ 0 → out ++ spellings trees pending ≡ whole → out ≡ whole
all_spelled trees out whole [] none written = sym (append-nil out) ∙ written
all_spelled trees out whole (n ∷ nodes) none written = absurd (omega arith)
