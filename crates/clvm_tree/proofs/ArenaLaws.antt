-- The trees of an arena's entries, one entry after another.
use Rattle.std.proofs.Common.{◌≡◌, ℕ, zero, suc, ◌+◌, ◌-◌, ◌^◌, ◌<◌, ◌≤◌, List, [], ◌∷◌, ◌++◌, length, get_or, take, drop, Some, None, refl, sym, ◌∙◌, ap, subst, ⊎_elim, arith}
use Rattle.std.proofs.lemmas.Bool.{cases_lt}
use Rattle.std.specs.Prelude.{slice_range}
use Rattle.std.proofs.lemmas.List.{length-append, get_or_at, take-append-le, take_all, drop-append-le, drop_at, length-drop, length-take-le, get_or_default}
use Rattle.clvm_spec.specs.Tree.{Tree, Atom, Pair, nil}
use Rattle.clvm_tree.specs.Nodes.{first_trees, tree_at, Grows, Adds, HasParts, single_byte}
use Rattle.clvm_tree.specs.Arena.{entry_tree, built, trees_of, IsSoundAt, AreSound, IsArena}
use Rattle.clvm_tree.specs.declared.Node.{Node}
use Rattle.clvm_tree.specs.declared.entry.Entry.{Entry}
use Rattle.clvm_tree.specs.declared.entry.Entry.TheVariants.{Bytes, Two}
use Rattle.clvm_tree.specs.declared.arena.TheConstants.{FIRST_COUNT}
use Rattle.clvm_tree.proofs.FirstLaws.{length-first_trees, nil_first, byte_first}
use Rattle.clvm_tree.proofs.NodeLaws.{grows_same, grows_one, grows_on, stays}

pub length-built : (bytes : List ℕ) (trees : List Tree) (es : List Entry) → length (built bytes trees es) ≡ length trees + length es
length-built bytes trees [] = omega arith
length-built bytes trees (e ∷ es) =
    let t = entry_tree bytes trees e in
    omega (arith, length-built bytes (trees ++ t ∷ []) es, length-append trees (t ∷ []))

pub built-push : (bytes : List ℕ) (trees : List Tree) (es : List Entry) (e : Entry) → built bytes trees (es ++ e ∷ []) ≡ built bytes trees es ++ entry_tree bytes (built bytes trees es) e ∷ []
built-push bytes trees [] e = refl
built-push bytes trees (d ∷ es) e = built-push bytes (trees ++ entry_tree bytes trees d ∷ []) es e

pub built_grows : (bytes : List ℕ) (trees : List Tree) (es : List Entry) → Grows trees (built bytes trees es)
built_grows bytes trees [] = grows_same trees
built_grows bytes trees (e ∷ es) =
    let t = entry_tree bytes trees e in
    grows_on trees (trees ++ t ∷ []) (built bytes (trees ++ t ∷ []) es) (grows_one trees t) (built_grows bytes (trees ++ t ∷ []) es)

-- further bytes behind change no range within
range-append : (xs ys : List ℕ) (i j : ℕ) → i ≤ j → j ≤ length xs → slice_range (xs ++ ys) i j ≡ slice_range xs i j
range-append xs ys i j h l =
    ap (take (j - i)) (drop-append-le i xs ys (omega arith))
    ∙ take-append-le (j - i) (drop i xs) ys (omega (arith, length-drop i xs))

entry_tree-bytes : (bytes more : List ℕ) (trees : List Tree) (e : Entry) (place : ℕ) → IsSoundAt place (length bytes) e → entry_tree (bytes ++ more) trees e ≡ entry_tree bytes trees e
entry_tree-bytes bytes more trees (Bytes start end) place h = ap Atom (range-append bytes more start end (omega (arith, h.0)) h.1)
entry_tree-bytes bytes more trees (Two first rest) place h = refl

pub built-bytes : (bytes more : List ℕ) (trees : List Tree) (es : List Entry) (place : ℕ) → AreSound place (length bytes) es → built (bytes ++ more) trees es ≡ built bytes trees es
built-bytes bytes more trees [] place h = refl
built-bytes bytes more trees (e ∷ es) place h =
    ap (λ t. built (bytes ++ more) (trees ++ t ∷ []) es) (entry_tree-bytes bytes more trees e place h.0)
    ∙ built-bytes bytes more (trees ++ entry_tree bytes trees e ∷ []) es (suc place) h.1

sound_more : (place a b : ℕ) (e : Entry) → a ≤ b → IsSoundAt place a e → IsSoundAt place b e
sound_more place a b (Bytes start end) le h = (h.0, omega (arith, h.1))
sound_more place a b (Two first rest) le h = h

pub all_sound_more : (place a b : ℕ) (es : List Entry) → a ≤ b → AreSound place a es → AreSound place b es
all_sound_more place a b [] le h = tt
all_sound_more place a b (e ∷ es) le h = (sound_more place a b e le h.0, all_sound_more (suc place) a b es le h.1)

pub AreSound-push : (place size : ℕ) (es : List Entry) (e : Entry) → AreSound place size es → IsSoundAt (place + length es) size e → AreSound place size (es ++ e ∷ [])
AreSound-push place size [] e h s = let eq : place + 0 ≡ place = omega arith in (subst (λ p. IsSoundAt p size e) eq s, tt)
AreSound-push place size (d ∷ es) e h s =
    let eq : place + suc (length es) ≡ suc place + length es = omega arith in
    (h.0, AreSound-push (suc place) size es e h.1 (subst (λ p. IsSoundAt p size e) eq s))

pub sound_at : (place size : ℕ) (es : List Entry) (k : ℕ) (d : Entry) → AreSound place size es → k < length es → IsSoundAt (place + k) size (get_or es k d)
sound_at place size [] k d h lt = absurd (omega arith)
sound_at place size (e ∷ es) zero d h lt = let eq : place ≡ place + 0 = omega arith in subst (λ p. IsSoundAt p size e) eq h.0
sound_at place size (e ∷ es) (suc k) d h lt =
    let eq : suc place + k ≡ place + suc k = omega arith in
    subst (λ p. IsSoundAt p size (get_or es k d)) eq (sound_at (suc place) size es k d h.1 (omega arith))

-- an entry's tree doesn't depend on later nodes
entry_tree-grows : (bytes : List ℕ) (a b : List Tree) (e : Entry) (size : ℕ) → Grows a b → IsSoundAt (length a) size e → entry_tree bytes b e ≡ entry_tree bytes a e
entry_tree-grows bytes a b (Bytes start end) size g h = refl
entry_tree-grows bytes a b (Two first rest) size g h =
    ap (λ t. Pair t (tree_at b rest.0)) (stays a b first.0 g h.0) ∙ ap (Pair (tree_at a first.0)) (stays a b rest.0 g h.1)

pub tree_at-built : (bytes : List ℕ) (trees : List Tree) (es : List Entry) (k size : ℕ) (d : Entry) → AreSound (length trees) size es → k < length es → tree_at (built bytes trees es) (length trees + k) ≡ entry_tree bytes (built bytes trees es) (get_or es k d)
tree_at-built bytes trees [] k size d h lt = absurd (omega arith)
tree_at-built bytes trees (e ∷ es) zero size d h lt =
    let t = entry_tree bytes trees e in
    let all = built bytes (trees ++ t ∷ []) es in
    let grows = built_grows bytes (trees ++ t ∷ []) es in
    let at : length trees + 0 ≡ length trees = omega arith in
    ap (tree_at all) at
    ∙ stays (trees ++ t ∷ []) all (length trees) grows (omega (arith, length-append trees (t ∷ [])))
    ∙ get_or_at trees t [] nil (length trees) refl
    ∙ sym (entry_tree-grows bytes trees all e size (grows_on trees (trees ++ t ∷ []) all (grows_one trees t) grows) h.0)
tree_at-built bytes trees (e ∷ es) (suc k) size d h lt =
    let t = entry_tree bytes trees e in
    let all = built bytes (trees ++ t ∷ []) es in
    let long : suc (length trees) ≡ length (trees ++ t ∷ []) = omega (arith, length-append trees (t ∷ [])) in
    let at : length trees + suc k ≡ length (trees ++ t ∷ []) + k = omega (arith, long) in
    ap (tree_at all) at ∙ tree_at-built bytes (trees ++ t ∷ []) es k size d (subst (λ p. AreSound p size es) long h.1) (omega arith)

pub length-trees_of : (bytes : List ℕ) (es : List Entry) → length (trees_of bytes es) ≡ length es + FIRST_COUNT
length-trees_of bytes es = omega (arith, length-built bytes first_trees es, length-first_trees)

-- the entries' places begin behind the first trees
behind_first : (size : ℕ) (es : List Entry) → AreSound FIRST_COUNT size es → AreSound (length first_trees) size es
behind_first size es sound = subst (λ place. AreSound place size es) (sym length-first_trees) sound

-- the first trees stand
first_stands : (bytes : List ℕ) (es : List Entry) (trees : List Tree) (node : ℕ) → trees_of bytes es ≡ trees → node < FIRST_COUNT → tree_at trees node ≡ tree_at first_trees node
first_stands bytes es trees node is low =
    ap (λ ts. tree_at ts node) (sym is) ∙ stays first_trees (trees_of bytes es) node (built_grows bytes first_trees es) (omega (arith, low, length-first_trees))

pub enough_trees : (bytes : List ℕ) (es : List Entry) (trees : List Tree) → trees_of bytes es ≡ trees → FIRST_COUNT ≤ length trees
enough_trees bytes es trees is = omega (arith, length-trees_of bytes es, ap length is)

pub nil_stands : (bytes : List ℕ) (es : List Entry) (trees : List Tree) → trees_of bytes es ≡ trees → tree_at trees 0 ≡ nil
nil_stands bytes es trees is = first_stands bytes es trees 0 is (omega arith) ∙ nil_first

pub byte_stands : (bytes : List ℕ) (es : List Entry) (trees : List Tree) (byte : ℕ) → trees_of bytes es ≡ trees → byte < 256 → tree_at trees (byte + 1) ≡ Atom (byte ∷ [])
byte_stands bytes es trees byte is low = first_stands bytes es trees (byte + 1) is (omega (arith, low)) ∙ byte_first byte low

-- what the node of an entry stands for
pub entry_facts : (es : List Entry) (bytes : List ℕ) (trees : List Tree) (place : ℕ) (e : Entry) → IsArena es bytes → trees_of bytes es ≡ trees → FIRST_COUNT ≤ place → place < length trees → e ≡ get_or es (place - FIRST_COUNT) e → IsSoundAt place (length bytes) e × (tree_at trees place ≡ entry_tree bytes trees e)
entry_facts es bytes trees place e arena is low high read =
    let k = place - FIRST_COUNT in
    let within : k < length es = omega (arith, length-trees_of bytes es, ap length is) in
    let at : FIRST_COUNT + k ≡ place = omega arith in
    let sound : IsSoundAt place (length bytes) e = subst (λ p. IsSoundAt p (length bytes) e) at (subst (λ d. IsSoundAt (FIRST_COUNT + k) (length bytes) d) (sym read) (sound_at FIRST_COUNT (length bytes) es k e arena.sound within)) in
    let start : length first_trees + k ≡ FIRST_COUNT + k = ap (λ n. n + k) length-first_trees in
    let whole = ap (tree_at (trees_of bytes es)) (sym start) ∙ tree_at-built bytes first_trees es k (length bytes) e (behind_first (length bytes) es arena.sound) within in
    (sound, ap (λ ts. tree_at ts place) (sym is) ∙ ap (tree_at (trees_of bytes es)) (sym at) ∙ whole ∙ ap (entry_tree bytes (trees_of bytes es)) (sym read) ∙ ap (λ ts. entry_tree bytes ts e) is)

-- one more entry
pub adds_entry : (es fs : List Entry) (bytes more : List ℕ) (e : Entry) (trees : List Tree) → IsArena es bytes → trees_of bytes es ≡ trees → fs ≡ es ++ e ∷ [] → trees_of (bytes ++ more) fs ≡ trees ++ entry_tree (bytes ++ more) trees e ∷ []
adds_entry es fs bytes more e trees arena is eq =
    let start = first_trees in
    ap (trees_of (bytes ++ more)) eq ∙ built-push (bytes ++ more) start es e
    ∙ ap (λ ts. ts ++ entry_tree (bytes ++ more) ts e ∷ []) (built-bytes bytes more start es FIRST_COUNT arena.sound ∙ is)

pub adds_node : (old new : List Tree) (node : ℕ) (tree : Tree) → new ≡ old ++ tree ∷ [] → node ≡ length old → Adds old new node tree
adds_node old new node tree is at = record {
  grows = (tree ∷ [], is);
  few = omega (arith, ap length is, length-append old (tree ∷ []));
  known = omega (arith, ap length is, length-append old (tree ∷ []));
  stands = ap (tree_at new) at ∙ ap (λ ts. tree_at ts (length old)) is ∙ get_or_at old tree [] nil (length old) refl;
}

pub same_node : (trees : List Tree) (node : ℕ) (tree : Tree) → node < length trees → tree_at trees node ≡ tree → Adds trees trees node tree
same_node trees node tree known stands = record { grows = grows_same trees; few = omega arith; known = known; stands = stands }

pub arena_with : (es fs : List Entry) (bytes more all : List ℕ) (e : Entry) → IsArena es bytes → fs ≡ es ++ e ∷ [] → all ≡ bytes ++ more → IsSoundAt (FIRST_COUNT + length es) (length all) e → length es + FIRST_COUNT + 1 < 2 ^ 31 → length all < 2 ^ 32 → IsArena fs all
arena_with es fs bytes more all e arena eq long sound few short = record {
  sound = subst (AreSound FIRST_COUNT (length all)) (sym eq) (AreSound-push FIRST_COUNT (length all) es e (all_sound_more FIRST_COUNT (length bytes) (length all) es (omega (arith, ap length long, length-append bytes more)) arena.sound) sound);
  few = omega (arith, ap length eq, length-append es (e ∷ []));
  short = short;
}

pub arena_longer : (es : List Entry) (bytes more all : List ℕ) → IsArena es bytes → all ≡ bytes ++ more → length all < 2 ^ 32 → IsArena es all
arena_longer es bytes more all arena long short = record {
  sound = all_sound_more FIRST_COUNT (length bytes) (length all) es (omega (arith, ap length long, length-append bytes more)) arena.sound;
  few = arena.few;
  short = short;
}

pub parts_from_entry : (bytes : List ℕ) (trees : List Tree) (place size : ℕ) (e : Entry) (first rest : Node) → e ≡ Two first rest → IsSoundAt place size e → tree_at trees place ≡ entry_tree bytes trees e → HasParts trees place first.0 rest.0
parts_from_entry bytes trees place size e first rest is sound at =
    let s = subst (λ d. IsSoundAt place size d) is sound in
    record { pair = at ∙ ap (entry_tree bytes trees) is; first_earlier = s.0; rest_earlier = s.1 }

range_behind : (xs ys : List ℕ) → slice_range (xs ++ ys) (length xs) (length (xs ++ ys)) ≡ ys
range_behind xs ys =
    ap (take (length (xs ++ ys) - length xs)) (drop_at xs ys (length xs) refl)
    ∙ take_all (length (xs ++ ys) - length xs) ys (omega (arith, length-append xs ys))

-- the entry of further bytes
pub adds_atom : (es fs : List Entry) (bytes more all : List ℕ) (start end : ℕ) (trees : List Tree) → IsArena es bytes → trees_of bytes es ≡ trees → all ≡ bytes ++ more → start ≡ length bytes → end ≡ length all → fs ≡ es ++ Bytes start end ∷ [] → trees_of all fs ≡ trees ++ Atom more ∷ []
adds_atom es fs bytes more all start end trees arena is long s e eq =
    let entry : fs ≡ es ++ Bytes (length bytes) (length (bytes ++ more)) ∷ [] = eq ∙ ap (λ i. es ++ Bytes i end ∷ []) s ∙ ap (λ i. es ++ Bytes (length bytes) i ∷ []) (e ∙ ap length long) in
    ap (λ b. trees_of b fs) long ∙ adds_entry es fs bytes more (Bytes (length bytes) (length (bytes ++ more))) trees arena is entry
    ∙ ap (λ b. trees ++ Atom b ∷ []) (range_behind bytes more)

-- further bytes alone change no tree
pub same_trees : (es fs : List Entry) (bytes more all : List ℕ) (trees : List Tree) → IsArena es bytes → trees_of bytes es ≡ trees → all ≡ bytes ++ more → fs ≡ es → trees_of all fs ≡ trees
same_trees es fs bytes more all trees arena is long eq =
    ap (λ b. trees_of b fs) long ∙ ap (trees_of (bytes ++ more)) eq ∙ built-bytes bytes more first_trees es FIRST_COUNT arena.sound ∙ is

-- the same of an entry that was read with a default
pub entry_is : (es : List Entry) (bytes : List ℕ) (place : ℕ) (d e : Entry) → IsArena es bytes → FIRST_COUNT ≤ place → place < length es + FIRST_COUNT → get_or es (place - FIRST_COUNT) d ≡ e → IsSoundAt place (length bytes) e × (tree_at (trees_of bytes es) place ≡ entry_tree bytes (trees_of bytes es) e)
entry_is es bytes place d e arena low high read =
    let within : place - FIRST_COUNT < length es = omega arith in
    entry_facts es bytes (trees_of bytes es) place e arena refl low (omega (arith, length-trees_of bytes es)) (sym read ∙ get_or_default es (place - FIRST_COUNT) d e within)

long_single : (bytes : List ℕ) → 2 ≤ length bytes → single_byte (Atom bytes) ≡ None
long_single [] long = absurd (omega arith)
long_single (b ∷ []) long = absurd (omega arith)
long_single (b ∷ c ∷ more) long = refl

long_range : (xs : List ℕ) (i j : ℕ) → i + 2 ≤ j → j ≤ length xs → 2 ≤ length (slice_range xs i j)
long_range xs i j long within = omega (arith, length-take-le (j - i) (drop i xs) (omega (arith, length-drop i xs)))

-- An entry is no atom of one byte, nor of none.
entry_single : (bytes : List ℕ) (trees : List Tree) (place : ℕ) (e : Entry) → IsSoundAt place (length bytes) e → single_byte (entry_tree bytes trees e) ≡ None
entry_single bytes trees place (Bytes start end) sound = long_single (slice_range bytes start end) (long_range bytes start end sound.0 sound.1)
entry_single bytes trees place (Two first rest) sound = refl

entry_not_nil : (bytes : List ℕ) (trees : List Tree) (place : ℕ) (e : Entry) → IsSoundAt place (length bytes) e → entry_tree bytes trees e ≡ nil → ⊥
entry_not_nil bytes trees place (Bytes start end) sound is =
    let none : slice_range bytes start end ≡ [] = cc in
    omega (arith, long_range bytes start end sound.0 sound.1, ap length none)
entry_not_nil bytes trees place (Two first rest) sound is = cc

pub high_single : (es : List Entry) (bytes : List ℕ) (trees : List Tree) (node : ℕ) → IsArena es bytes → trees_of bytes es ≡ trees → FIRST_COUNT ≤ node → node < length trees → single_byte (tree_at trees node) ≡ None
high_single es bytes trees node arena is low high =
    let e = get_or es (node - FIRST_COUNT) (Bytes 0 0) in
    let facts = entry_facts es bytes trees node e arena is low high (get_or_default es (node - FIRST_COUNT) (Bytes 0 0) e (omega (arith, length-trees_of bytes es, ap length is))) in
    ap single_byte facts.1 ∙ entry_single bytes trees node e facts.0

pub low_single : (es : List Entry) (bytes : List ℕ) (trees : List Tree) (node : ℕ) → trees_of bytes es ≡ trees → 1 ≤ node → node < FIRST_COUNT → single_byte (tree_at trees node) ≡ Some (node - 1)
low_single es bytes trees node is some low =
    let at : node ≡ node - 1 + 1 = omega (arith, some) in
    ap (λ n. single_byte (tree_at trees n)) at ∙ ap single_byte (byte_stands bytes es trees (node - 1) is (omega (arith, some, low)))

-- Nil is node 0 alone.
pub nil_only : (es : List Entry) (bytes : List ℕ) (trees : List Tree) (node : ℕ) → IsArena es bytes → trees_of bytes es ≡ trees → node < length trees → tree_at trees node ≡ nil → node ≡ 0
nil_only es bytes trees node arena is high stands = ⊎_elim
    (λ (low : node < FIRST_COUNT). ⊎_elim
    (λ (zero_node : node < 1). omega (arith, zero_node))
    (λ (some : 1 ≤ node). let clash : None ≡ Some (node - 1) = sym (ap single_byte stands) ∙ low_single es bytes trees node is some low in absurd cc)
    (cases_lt node 1))
    (λ (behind : FIRST_COUNT ≤ node).
    let e = get_or es (node - FIRST_COUNT) (Bytes 0 0) in
    let facts = entry_facts es bytes trees node e arena is behind high (get_or_default es (node - FIRST_COUNT) (Bytes 0 0) e (omega (arith, length-trees_of bytes es, ap length is))) in
    absurd (entry_not_nil bytes trees node e facts.0 (sym facts.1 ∙ stands)))
    (cases_lt node FIRST_COUNT)
