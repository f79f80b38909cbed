-- The bytes of a solution, and those of the solution that is moved.
use Rattle.std.proofs.Common.{◌≡◌, ℕ, ◌+◌, ◌^◌, ◌<◌, ◌≤◌, ◌==◌, ◌&&◌, Bool, true, false, cond, nat_lt, nat_le, Option, Some, None, List, [], ◌∷◌, ◌++◌, length, drop, pos, refl, ap, ap₂, sym, ◌∙◌, arith, append_assoc}
use Rattle.std.specs.Prelude.{IsTrue, option_map, is_some, unwrap_or}
use Rattle.std.specs.Str.{bytes_eq}
use Rattle.std.proofs.lemmas.Bool.{and_parts, cond-true, eq-eqb}
use Rattle.std.proofs.lemmas.Bool.Decides.{nat_tests}
use Rattle.std.proofs.lemmas.List.{length-append, drop_at}
use Rattle.std.proofs.lemmas.Slice.Eq.{bytes_eq-Decides}
use Rattle.clvm_spec.specs.Tree.{Tree, Atom, Pair, nil, list_tree}
use Rattle.clvm_spec.specs.Laws.{AreBytes}
use Rattle.clvm_spec.specs.Numbers.{unsigned, shortest_atom}
use Rattle.clvm_spec.specs.Places.{place_of}
use Rattle.clvm_spec.specs.ProperList.{elements}
use Rattle.clvm_spec.specs.Reading.{IsTree, IsLonger, front_of, whole_of, if_tree, tree_of}
use Rattle.clvm_spec.specs.Spelled.{is_spelled, spelled_tree}
use Rattle.clvm_spec.specs.Spelling.{pair_mark, prefix, atom_spelling, spelling, HasSpelling}
use Rattle.clvm_spec.proofs.LengthLaws.{length_most}
use Rattle.clvm_spec.proofs.PrefixLaws.{prefix_one}
use Rattle.clvm_spec.proofs.SpellingLaws.{short_has_spelling}
use Rattle.clvm_spec.proofs.WholeLaws.{front-whole, whole_is_spelled}
use Rattle.coin_facts.specs.declared.hash32.Hash32.{Hash32}
use Rattle.coin_facts.specs.Steps.{◌>>=◌, when}
use Rattle.coin_facts.specs.Atoms.{hash_of, amount_of, number_atom, is_shortest_below}
use Rattle.pool_spec.specs.Shape.{Proof, proof_of, proof_of_parts, Solution, solution_of_parts}
use Rattle.pool_spec.specs.Fit.{proof_tree, solution_tree}
use Rattle.singleton_forward.specs.Heads.{head_of, solution_read}

-- ---- what is read of a solution is its tree

when_is : {A : Type 0} (test : Bool) (value found : A) → when test value ≡ Some found → (test ≡ true) × (value ≡ found)
when_is true value found e = (refl, cc)
when_is false value found e = cc

map_is : {A B : Type 0} (f : A → B) (read : Option A) (found : B) → option_map f read ≡ Some found → (value : A) × (read ≡ Some value) × (f value ≡ found)
map_is f (Some value) found e = (value, refl, cc)
map_is f None found e = cc

then_is : {A B : Type 0} (read : Option A) (go : A → Option B) (found : B) → (read >>= go) ≡ Some found → (value : A) × (read ≡ Some value) × (go value ≡ Some found)
then_is (Some value) go found e = (value, refl, e)
then_is None go found e = cc

hash_is : (tree : Tree) (hash : Hash32) → hash_of tree ≡ Some hash → tree ≡ Atom hash.bytes
hash_is (Atom bytes) hash e =
    let read = map_is (λ bytes. record { bytes = bytes }) (when (length bytes == 32) bytes) hash e in
    let held = when_is (length bytes == 32) bytes read.0 read.1 in
    ap Atom (held.1 ∙ ap (λ h. h.bytes) read.2)
hash_is (Pair first rest) hash e = cc

amount_is : (tree : Tree) (amount : ℕ) → amount_of tree ≡ Some amount → tree ≡ number_atom amount
amount_is (Atom bytes) amount e =
    let read = map_is unsigned (when (is_shortest_below (2 ^ 64) bytes) bytes) amount e in
    let held = when_is (is_shortest_below (2 ^ 64) bytes) bytes read.0 read.1 in
    let parts = and_parts (nat_lt (unsigned bytes) (2 ^ 64)) (bytes_eq bytes (shortest_atom (pos (unsigned bytes)))) held.0 in
    let same = (bytes_eq-Decides bytes (shortest_atom (pos (unsigned bytes)))).0 parts.1 in
    ap Atom (same ∙ ap (λ n. shortest_atom (pos n)) (ap unsigned held.1 ∙ read.2))
amount_is (Pair first rest) amount e = cc

elements_is : (tree : Tree) (list : List Tree) → elements tree ≡ Some list → tree ≡ list_tree list
elements_is (Atom []) list e = let none : list ≡ [] = cc in ap list_tree (sym none)
elements_is (Atom (b ∷ bytes)) list e = cc
elements_is (Pair first rest) list e =
    let read = map_is (λ more. first ∷ more) (elements rest) list e in
    ap (Pair first) (elements_is rest read.0 read.1) ∙ ap list_tree read.2

proof_parts : (list : List Tree) (proof : Proof) → proof_of_parts list ≡ Some proof → list_tree list ≡ proof_tree proof
proof_parts (pp ∷ pi ∷ pa ∷ []) proof e =
    let parent = then_is (hash_of pp) _ proof e in
    let inner = then_is (hash_of pi) _ proof parent.2 in
    let amount = then_is (amount_of pa) _ proof inner.2 in
    let made : Proof = record { parent = parent.0; inner = inner.0; amount = amount.0 } in
    let same : made ≡ proof = cc in
    ap₂ Pair (hash_is pp parent.0 parent.1) (ap₂ Pair (hash_is pi inner.0 inner.1) (ap (λ t. Pair t nil) (amount_is pa amount.0 amount.1)))
    ∙ ap proof_tree same
proof_parts _ proof e = cc

proof_is : (tree : Tree) (proof : Proof) → proof_of tree ≡ Some proof → tree ≡ proof_tree proof
proof_is tree proof e =
    let read = then_is (elements tree) proof_of_parts proof e in
    elements_is tree read.0 read.1 ∙ proof_parts read.0 proof read.2

same_amount : (amount own : ℕ) → (amount == own) ≡ true → amount ≡ own
same_amount amount own e = grind (arith, nat_tests)

solution_parts : (own : ℕ) (list : List Tree) (solution : Solution) → solution_of_parts own list ≡ Some solution → list_tree list ≡ solution_tree own solution
solution_parts own (first ∷ second ∷ last ∷ []) solution e =
    let proof = then_is (proof_of first) _ solution e in
    let amount = then_is (amount_of second) _ solution proof.2 in
    let made : Solution = record { proof = proof.0; last = last } in
    let held = when_is (amount.0 == own) made solution amount.2 in
    let own_is = same_amount amount.0 own held.0 in
    ap₂ Pair (proof_is first proof.0 proof.1) (ap (λ t. Pair t (Pair last nil)) (amount_is second amount.0 amount.1 ∙ ap number_atom own_is))
    ∙ ap (solution_tree own) held.1
solution_parts own _ solution e = cc

short_then : {A : Type 0} (short : Bool) (read : Option A) (found : A) → cond short read None ≡ Some found → read ≡ Some found
short_then true read found e = e
short_then false read found e = cc

short_is : {A : Type 0} (short : Bool) (read : Option A) (found : A) → cond short read None ≡ Some found → short ≡ true
short_is true read found e = refl
short_is false read found e = cc

tree_is : (own : ℕ) (bytes : List ℕ) (solution : Solution) → solution_read own bytes ≡ Some solution → spelled_tree bytes ≡ solution_tree own solution
tree_is own bytes solution e =
    let all = elements (spelled_tree bytes) >>= solution_of_parts own in
    let read = then_is (elements (spelled_tree bytes)) (solution_of_parts own) solution (short_then (nat_le (length bytes) 67_000_000) all solution e) in
    elements_is (spelled_tree bytes) read.0 read.1 ∙ solution_parts own read.0 solution read.2

few : (own : ℕ) (bytes : List ℕ) (solution : Solution) → solution_read own bytes ≡ Some solution → length bytes ≤ 67_000_000
few own bytes solution e =
    let short = short_is (nat_le (length bytes) 67_000_000) (elements (spelled_tree bytes) >>= solution_of_parts own) solution e in
    grind (arith, nat_tests)

-- ---- bytes

spelled_by : (bytes : List ℕ) (found : Option Tree) → AreBytes bytes → tree_of bytes ≡ found → is_some found ≡ true → bytes ≡ spelling (unwrap_or found nil)
spelled_by bytes (Some tree) are is e = ((whole_is_spelled bytes tree are).0 is).1
spelled_by bytes None are is e = cc

bytes_are : (bytes : List ℕ) → AreBytes bytes → IsTrue (is_spelled bytes) → bytes ≡ spelling (spelled_tree bytes)
bytes_are bytes are is = spelled_by bytes (tree_of bytes) are refl (and_parts (is_some (tree_of bytes)) (nat_le (length bytes) 0x400_0000) is).0

read_again : (tree : Tree) → HasSpelling tree → tree_of (spelling tree) ≡ Some tree
read_again tree h =
    let bytes = spelling tree in
    ap (λ read. if_tree (whole_of (length bytes) (front_of bytes read))) (front-whole tree h)
    ∙ ap if_tree (cond-true (place_of bytes [] == length bytes) (IsTree tree) (IsLonger (place_of bytes [])) (eq-eqb (place_of bytes []) (length bytes) (omega arith)))

spelled_again : (tree : Tree) → length (spelling tree) ≤ 0x400_0000 → IsTrue (is_spelled (spelling tree))
spelled_again tree h =
    let read = read_again tree (short_has_spelling tree (omega (arith, h))) in
    let short : nat_le (length (spelling tree)) 0x400_0000 ≡ true = grind (arith, nat_tests) in
    ap (λ found. is_some found && nat_le (length (spelling tree)) 0x400_0000) read ∙ short

pub tail_of : Solution → List ℕ
tail_of solution = spelling solution.last ++ spelling nil

head_and_tail : (own : ℕ) (solution : Solution) → spelling (solution_tree own solution) ≡ head_of solution.proof own ++ tail_of solution
unfolding tail_of
head_and_tail own solution =
    let proof = spelling (proof_tree solution.proof) in
    let amount = spelling (number_atom own) in
    sym (ap (λ bytes. pair_mark ∷ bytes) (append_assoc proof (pair_mark ∷ amount ++ (pair_mark ∷ [])) (spelling solution.last ++ spelling nil)
    ∙ ap (λ bytes. proof ++ (pair_mark ∷ bytes)) (append_assoc amount (pair_mark ∷ []) (spelling solution.last ++ spelling nil))))

-- the bytes of a shape's solution
pub solution-bytes : (own : ℕ) (bytes : List ℕ) (solution : Solution) → AreBytes bytes → IsTrue (is_spelled bytes) → solution_read own bytes ≡ Some solution
    → bytes ≡ head_of solution.proof own ++ tail_of solution
solution-bytes own bytes solution are is e =
    bytes_are bytes are is ∙ ap spelling (tree_is own bytes solution e) ∙ head_and_tail own solution

pub head-within : (own : ℕ) (bytes : List ℕ) (solution : Solution) → AreBytes bytes → IsTrue (is_spelled bytes) → solution_read own bytes ≡ Some solution
    → length (head_of solution.proof own) ≤ length bytes
head-within own bytes solution are is e =
    let all = ap length (solution-bytes own bytes solution are is e) in
    omega (arith, all, length-append (head_of solution.proof own) (tail_of solution))

tail_is : (own : ℕ) (bytes : List ℕ) (solution : Solution) → AreBytes bytes → IsTrue (is_spelled bytes) → solution_read own bytes ≡ Some solution
    → drop (length (head_of solution.proof own)) bytes ≡ tail_of solution
tail_is own bytes solution are is e =
    ap (drop (length (head_of solution.proof own))) (solution-bytes own bytes solution are is e)
    ∙ drop_at (head_of solution.proof own) (tail_of solution) (length (head_of solution.proof own)) refl

-- the bytes of the solution that is moved
pub moved-bytes : (own : ℕ) (bytes : List ℕ) (solution moved : Solution) (new : ℕ) → AreBytes bytes → IsTrue (is_spelled bytes) → solution_read own bytes ≡ Some solution → moved.last ≡ solution.last
    → head_of moved.proof new ++ drop (length (head_of solution.proof own)) bytes ≡ spelling (solution_tree new moved)
unfolding tail_of
moved-bytes own bytes solution moved new are is e last =
    ap (λ tail. head_of moved.proof new ++ tail) (tail_is own bytes solution are is e ∙ ap (λ t. spelling t ++ spelling nil) (sym last))
    ∙ sym (head_and_tail new moved)

-- ---- lengths

short_atom : (bytes : List ℕ) → length bytes < 64 → length (atom_spelling bytes) ≤ length bytes + 1
short_atom [] h = omega arith
short_atom (b ∷ []) h = by_byte (nat_lt b 0x80)
  where
    by_byte : (bare : Bool) → length (cond bare (b ∷ []) (prefix 1 ++ (b ∷ []))) ≤ 2
    by_byte true = omega arith
    by_byte false = omega arith
short_atom (b ∷ c ∷ bytes) h =
    let one = ap length (prefix_one (length (b ∷ c ∷ bytes)) h) in
    omega (arith, one, length-append (prefix (length (b ∷ c ∷ bytes))) (b ∷ c ∷ bytes))

pub head-short : (proof : Proof) (own : ℕ) → length proof.parent.bytes ≡ 32 → length proof.inner.bytes ≡ 32 → length (head_of proof own) ≤ 200
head-short proof own parent inner =
    let pp = atom_spelling proof.parent.bytes in
    let pi = atom_spelling proof.inner.bytes in
    let pa = spelling (number_atom proof.amount) in
    let amount = spelling (number_atom own) in
    let a = short_atom proof.parent.bytes (omega (arith, parent)) in
    let b = short_atom proof.inner.bytes (omega (arith, inner)) in
    let c = short_atom (shortest_atom (pos proof.amount)) (omega (arith, length_most (pos proof.amount))) in
    let d = short_atom (shortest_atom (pos own)) (omega (arith, length_most (pos own))) in
    omega (
      arith,
      parent,
      inner,
      a,
      b,
      c,
      d,
      length_most (pos proof.amount),
      length_most (pos own),
      length-append (spelling (proof_tree proof)) (pair_mark ∷ amount ++ (pair_mark ∷ [])),
      length-append amount (pair_mark ∷ []),
      length-append pp (pair_mark ∷ pi ++ (pair_mark ∷ pa ++ spelling nil)),
      length-append pi (pair_mark ∷ pa ++ spelling nil),
      length-append pa (spelling nil),
    )

pub moved-spelled : (own : ℕ) (bytes : List ℕ) (solution moved : Solution) (new : ℕ) → AreBytes bytes → IsTrue (is_spelled bytes) → solution_read own bytes ≡ Some solution → moved.last ≡ solution.last
    → length (head_of moved.proof new) ≤ 200 → IsTrue (is_spelled (spelling (solution_tree new moved)))
unfolding tail_of
moved-spelled own bytes solution moved new are is e last short =
    let old = ap length (solution-bytes own bytes solution are is e) in
    let all = ap length (head_and_tail new moved) in
    let same : length (tail_of moved) ≡ length (tail_of solution) = ap (λ t. length (spelling t ++ spelling nil)) last in
    spelled_again (solution_tree new moved)
    (omega (
      arith,
      old,
      all,
      same,
      few own bytes solution e,
      short,
      length-append (head_of solution.proof own) (tail_of solution),
      length-append (head_of moved.proof new) (tail_of moved),
    ))

-- ---- what is added piece by piece

flat : (pp pi pa own : List ℕ)
    → 255 ∷ 255 ∷ ((((((pp ++ 255 ∷ []) ++ pi) ++ 255 ∷ []) ++ pa) ++ 128 ∷ 255 ∷ []) ++ own) ++ 255 ∷ []
    ≡ 255 ∷ (255 ∷ pp ++ (255 ∷ pi ++ (255 ∷ pa ++ 128 ∷ []))) ++ (255 ∷ own ++ 255 ∷ [])
flat pp pi pa own = simp append_assoc refl

pub pieces : (a b c d e f g h k l pp pi pa own : List ℕ) → a ≡ [] → b ≡ a ++ 255 ∷ 255 ∷ [] → c ≡ b ++ pp → d ≡ c ++ 255 ∷ [] → e ≡ d ++ pi → f ≡ e ++ 255 ∷ [] → g ≡ f ++ pa
    → h ≡ g ++ 128 ∷ 255 ∷ [] → k ≡ h ++ own → l ≡ k ++ 255 ∷ [] → l ≡ 255 ∷ (255 ∷ pp ++ (255 ∷ pi ++ (255 ∷ pa ++ 128 ∷ []))) ++ (255 ∷ own ++ 255 ∷ [])
pieces a b c d e f g h k l pp pi pa own ea eb ec ed ee ef eg eh ek el =
    let first : b ≡ 255 ∷ 255 ∷ [] = eb ∙ ap (λ x. x ++ 255 ∷ 255 ∷ []) ea in
    let second : d ≡ 255 ∷ 255 ∷ (pp ++ 255 ∷ []) = ed ∙ ap (λ x. x ++ 255 ∷ []) (ec ∙ ap (λ x. x ++ pp) first) in
    let third : f ≡ 255 ∷ 255 ∷ (((pp ++ 255 ∷ []) ++ pi) ++ 255 ∷ []) = ef ∙ ap (λ x. x ++ 255 ∷ []) (ee ∙ ap (λ x. x ++ pi) second) in
    let fourth : h ≡ 255 ∷ 255 ∷ (((((pp ++ 255 ∷ []) ++ pi) ++ 255 ∷ []) ++ pa) ++ 128 ∷ 255 ∷ []) = eh ∙ ap (λ x. x ++ 128 ∷ 255 ∷ []) (eg ∙ ap (λ x. x ++ pa) third) in
    el ∙ ap (λ x. x ++ 255 ∷ []) (ek ∙ ap (λ x. x ++ own) fourth) ∙ flat pp pi pa own
