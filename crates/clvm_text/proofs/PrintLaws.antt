-- What is printed of pending trees, and the texts of atoms.
use Rattle.std.proofs.Common.{◌≡◌, ℕ, ◌+◌, ◌<◌, ◌≤◌, Bool, true, false, cond, ◌&&◌, nat_le, List, [], ◌∷◌, ◌++◌, length, refl, sym, ◌∙◌, ap, arith, append_assoc}
use Rattle.std.specs.Prelude.{bytes_eq, nat_eq}
use Rattle.std.specs.Int.Digits.{AllBelowBase}
use Rattle.std.proofs.lemmas.List.{append-nil, length-append}
use Rattle.std.proofs.lemmas.Slice.Eq.{bytes_eq-Decides}
use Rattle.std.proofs.lemmas.Bool.Decides.{nat_tests}
use Rattle.clvm_spec.specs.Tree.{Tree, Pair}
use Rattle.clvm_spec.specs.Numbers.{number, shortest_atom, has_sign_byte, without_sign_bytes}
use Rattle.clvm_spec.specs.Text as text
use Rattle.clvm_spec.specs.Text.{is_decimal, opening, first_position, text_at}
use Rattle.clvm_spec.proofs.ShortestLaws.{shortest-number, length-without}
use Rattle.clvm_tree.specs.Nodes.{tree_at, IsKnown, HasParts}
use Rattle.clvm_text.specs.declared.printer.Pending.{Pending}
use Rattle.clvm_text.specs.Positions.{position_of}

-- the text of one that is pending
abbrev pub text_of : List Tree → Pending → List ℕ
text_of trees pending = text.text_at (position_of pending.position) (tree_at trees pending.node.0)

-- the texts of those that are pending, the last of them first
abbrev pub texts : List Tree → List Pending → List ℕ
texts trees [] = []
texts trees (pending ∷ above) = texts trees above ++ text_of trees pending

abbrev pub AreKnown : List Tree → List Pending → Type 0
AreKnown trees [] = Unit {0}
AreKnown trees (pending ∷ above) = IsKnown trees pending.node.0 × AreKnown trees above

-- ---- short numbers

pub short_is : (bytes : List ℕ) → AllBelowBase 256 bytes → length bytes ≤ 2 → is_decimal bytes ≡ bytes_eq (without_sign_bytes bytes) bytes
short_is bytes h few =
    let short : nat_le (length bytes) 2 ≡ true = grind (arith, nat_tests) in
    ap (λ t. t && bytes_eq (shortest_atom (number bytes)) bytes) short ∙ ap (λ a. bytes_eq a bytes) (shortest-number bytes h (omega (arith, few)))

-- what loses no byte is as it was
kept_if : (test : Bool) (b : ℕ) (bytes rest : List ℕ) → length rest ≤ length bytes → length (cond test rest (b ∷ bytes)) ≡ length (b ∷ bytes) → cond test rest (b ∷ bytes) ≡ b ∷ bytes
kept_if true b bytes rest h e = absurd (omega (arith, h, e))
kept_if false b bytes rest h e = refl

kept : (bytes : List ℕ) → length (without_sign_bytes bytes) ≡ length bytes → without_sign_bytes bytes ≡ bytes
unfolding without_sign_bytes
kept [] e = refl
kept (b ∷ bytes) e = kept_if (has_sign_byte (b ∷ bytes)) b bytes (without_sign_bytes bytes) (length-without bytes) e

same_tests : (a b : Bool) → (a ≡ true → b ≡ true) → (b ≡ true → a ≡ true) → a ≡ b
same_tests true b f g = sym (f refl)
same_tests false true f g = g refl
same_tests false false f g = refl

pub same_length : (bytes : List ℕ) → nat_eq (length (without_sign_bytes bytes)) (length bytes) ≡ bytes_eq (without_sign_bytes bytes) bytes
same_length bytes =
    same_tests (nat_eq (length (without_sign_bytes bytes)) (length bytes)) (bytes_eq (without_sign_bytes bytes) bytes)
    (λ t. (bytes_eq-Decides (without_sign_bytes bytes) bytes).1 (kept bytes (grind (arith, nat_tests, t))))
    (λ t. let e = ap length ((bytes_eq-Decides (without_sign_bytes bytes) bytes).0 t) in grind (arith, nat_tests, e))

pub is_long : (bytes : List ℕ) → (length bytes ≤ 2 → ⊥) → is_decimal bytes ≡ false
is_long bytes h =
    let long : nat_le (length bytes) 2 ≡ false = no_le (nat_le (length bytes) 2) (λ e. h (grind (arith, nat_tests))) in
    ap (λ t. t && bytes_eq (shortest_atom (number bytes)) bytes) long
  where
    no_le : (t : Bool) → (t ≡ true → ⊥) → t ≡ false
    no_le true h = absurd (h refl)
    no_le false h = refl

-- ---- pending trees

pub texts-push : (trees : List Tree) (pending : List Pending) (next : Pending) → texts trees (pending ++ next ∷ []) ≡ text_of trees next ++ texts trees pending
texts-push trees [] next = sym (append-nil (text_of trees next))
texts-push trees (p ∷ pending) next =
    ap (λ s. s ++ text_of trees p) (texts-push trees pending next) ∙ append_assoc (text_of trees next) (texts trees pending) (text_of trees p)

pub AreKnown-push : (trees : List Tree) (pending : List Pending) (next : Pending) → AreKnown trees pending → IsKnown trees next.node.0 → AreKnown trees (pending ++ next ∷ [])
AreKnown-push trees [] next h k = (k, tt)
AreKnown-push trees (p ∷ pending) next h k = (h.0, AreKnown-push trees pending next h.1 k)

pub AreKnown-init : (trees : List Tree) (pending : List Pending) (next : Pending) → AreKnown trees (pending ++ next ∷ []) → AreKnown trees pending × IsKnown trees next.node.0
AreKnown-init trees [] next h = (tt, h.0)
AreKnown-init trees (p ∷ pending) next h = let more = AreKnown-init trees pending next h.1 in ((h.0, more.0), more.1)

-- what is taken next is printed next
pub next_printed : (trees : List Tree) (out whole : List ℕ) (pending popped : List Pending) (next : Pending) → pending ≡ popped ++ next ∷ [] → out ++ texts trees pending ≡ whole → out ++ (text_of trees next ++ texts trees popped) ≡ whole
next_printed trees out whole pending popped next items written =
    ap (λ s. out ++ s) (sym (ap (texts trees) items ∙ texts-push trees popped next)) ∙ written

pub too_long : (most : ℕ) (out next later whole : List ℕ) → out ++ (next ++ later) ≡ whole → most < length out + length next → most < length whole
too_long most out next later whole written more =
    omega (arith, ap length written, length-append out (next ++ later), length-append next later, more)

-- a pair's text: what it begins with, its first and its rest
pub pair_text : (position : text.Position) (first rest : Tree) → text_at position (Pair first rest) ≡ opening position ++ (text_at (first_position position) first ++ text_at text.AsRest rest)
pair_text text.AsHead first rest = refl
pair_text text.Alone first rest = refl
pair_text text.AsRest first rest = refl

pub opening_some : (position : text.Position) (first : Tree) (rest : Tree) → length (opening position) ≤ length (text_at position (Pair first rest))
opening_some position first rest = omega (arith, ap length (pair_text position first rest), length-append (opening position) (text_at (first_position position) first ++ text_at text.AsRest rest))

pub pair_printed : (trees : List Tree) (out new whole : List ℕ) (popped after last : List Pending) (next first rest : Pending) → HasParts trees next.node.0 first.node.0 rest.node.0 →
    position_of rest.position ≡ text.AsRest → position_of first.position ≡ first_position (position_of next.position) → new ≡ out ++ opening (position_of next.position) → after ≡ popped ++ rest ∷ [] → last ≡ after ++ first ∷ [] →
    out ++ (text_of trees next ++ texts trees popped) ≡ whole → new ++ texts trees last ≡ whole
pair_printed trees out new whole popped after last next first rest parts at_rest at_first out_is after_is last_is written =
    let o = opening (position_of next.position) in
    let f = text_of trees first in
    let r = text_of trees rest in
    let p = texts trees popped in
    let pending : texts trees last ≡ f ++ (r ++ p) = ap (texts trees) last_is ∙ texts-push trees after first ∙ ap (λ s. f ++ s) (ap (texts trees) after_is ∙ texts-push trees popped rest) in
    let first_is : text_at (first_position (position_of next.position)) (tree_at trees first.node.0) ≡ f = ap (λ q. text_at q (tree_at trees first.node.0)) (sym at_first) in
    let rest_is : text_at text.AsRest (tree_at trees rest.node.0) ≡ r = ap (λ q. text_at q (tree_at trees rest.node.0)) (sym at_rest) in
    let printed : text_of trees next ≡ o ++ (f ++ r) = ap (text_at (position_of next.position)) parts.pair ∙ pair_text (position_of next.position) (tree_at trees first.node.0) (tree_at trees rest.node.0)
    ∙ ap (λ s. o ++ (s ++ text_at text.AsRest (tree_at trees rest.node.0))) first_is ∙ ap (λ s. o ++ (f ++ s)) rest_is in
    let later : text_of trees next ++ p ≡ o ++ (f ++ (r ++ p)) = ap (λ s. s ++ p) printed ∙ append_assoc o (f ++ r) p ∙ ap (λ s. o ++ s) (append_assoc f r p) in
    ap (λ s. s ++ texts trees last) out_is ∙ append_assoc out o (texts trees last) ∙ ap (λ s. out ++ (o ++ s)) pending ∙ ap (λ s. out ++ s) (sym later) ∙ written

pub all_printed : (trees : List Tree) (out whole : List ℕ) (pending : List Pending) → length pending ≡ 0 → out ++ texts trees pending ≡ whole → out ≡ whole
all_printed trees out whole [] none written = sym (append-nil out) ∙ written
all_printed trees out whole (p ∷ pending) none written = absurd (omega arith)
