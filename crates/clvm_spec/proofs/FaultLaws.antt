-- What a walk from the front finds: a spelled tree, or the fault behind the longest open list of heads.
use Rattle.std.proofs.Common.{◌≡◌, ℕ, zero, suc, ◌<◌, ◌≤◌, ◌⊎◌, inl, inr, List, [], ◌∷◌, ◌++◌, length, refl, sym, ◌∙◌, ap, subst, arith, append_assoc}
use Rattle.std.specs.List.{flat_map}
use Rattle.std.specs.Int.Digits.{AllBelowBase}
use Rattle.std.proofs.lemmas.List.{append-nil, length-append}
use Rattle.clvm_spec.specs.Tree.{Tree, Atom, Pair}
use Rattle.clvm_spec.specs.Spelling.{atom_spelling, spelling, HasSpelling}
use Rattle.clvm_spec.specs.Reading.{Flaw, Head, PairMark, Leaf, Beginning, Begins, Flawed, head_at, Read, Found, Faulty, with_first, with_both, from_head, tree_at_front}
use Rattle.clvm_spec.specs.Faults.{head_bytes, IsOpenFrom, HasFault}
use Rattle.clvm_spec.specs.Laws.{FlawIsFound}
use Rattle.clvm_spec.proofs.HeadLaws.{head_shrinks}
use Rattle.clvm_spec.proofs.FrontLaws.{front_flawed, front_leaf, front_open, front_step}
use Rattle.clvm_spec.proofs.SpelledLaws.{Says, says_front, head_at-atom, head_at-open}

pub flat_append : (a b : List Head) → flat_map head_bytes (a ++ b) ≡ flat_map head_bytes a ++ flat_map head_bytes b
flat_append [] b = refl
flat_append (t ∷ a) b = ap (λ s. head_bytes t ++ s) (flat_append a b) ∙ sym (append_assoc (head_bytes t) (flat_map head_bytes a) (flat_map head_bytes b))

-- the heads of a tree's spelling
abbrev pub heads_of : Tree → List Head
heads_of (Atom bytes) = Leaf bytes ∷ []
heads_of (Pair first rest) = PairMark ∷ (heads_of first ++ heads_of rest)

pub spelling-heads : (tree : Tree) → flat_map head_bytes (heads_of tree) ≡ spelling tree
spelling-heads (Atom bytes) = append-nil (atom_spelling bytes)
spelling-heads (Pair first rest) =
    ap (λ s. 0xff ∷ s) (flat_append (heads_of first) (heads_of rest) ∙ ap (λ s. s ++ flat_map head_bytes (heads_of rest)) (spelling-heads first) ∙ ap (λ s. spelling first ++ s) (spelling-heads rest))

-- a tree's heads close one
open_tree : (k : ℕ) (tree : Tree) (heads : List Head) → HasSpelling tree → IsOpenFrom k heads → IsOpenFrom (suc k) (heads_of tree ++ heads)
open_tree k (Atom bytes) heads h o = (h, o)
open_tree k (Pair first rest) heads h o =
    subst (IsOpenFrom (suc (suc k))) (sym (append_assoc (heads_of first) (heads_of rest) heads)) (open_tree (suc k) first (heads_of rest ++ heads) h.0 (open_tree k rest heads h.1 o))

open_more : (k : ℕ) (heads : List Head) → IsOpenFrom k heads → IsOpenFrom (suc k) heads
open_more k [] o = tt
open_more k (PairMark ∷ heads) o = open_more (suc k) heads o
open_more zero (Leaf atom ∷ heads) o = absurd o
open_more (suc k) (Leaf atom ∷ heads) o = (o.0, open_more k heads o.1)

-- ---- no list of heads before the flaw is longer

abbrev IsSpelledHead : Head → Type 0
IsSpelledHead PairMark = Unit {0}
IsSpelledHead (Leaf atom) = HasSpelling (Atom atom)

abbrev AreSpelled : List Head → Type 0
AreSpelled [] = Unit {0}
AreSpelled (head ∷ heads) = IsSpelledHead head × AreSpelled heads

spelled_open : (k : ℕ) (heads : List Head) → IsOpenFrom k heads → AreSpelled heads
spelled_open k [] o = tt
spelled_open k (PairMark ∷ heads) o = (tt, spelled_open (suc k) heads o)
spelled_open zero (Leaf atom ∷ heads) o = absurd o
spelled_open (suc k) (Leaf atom ∷ heads) o = (o.0, spelled_open k heads o.1)

head_again : (head : Head) (more : List ℕ) → IsSpelledHead head → head_at (head_bytes head ++ more) ≡ Begins head more
head_again PairMark more s = head_at-open more
head_again (Leaf atom) more s = head_at-atom atom more s

list_again : (head : Head) (heads : List Head) (rest : List ℕ) → IsSpelledHead head → head_at (flat_map head_bytes (head ∷ heads) ++ rest) ≡ Begins head (flat_map head_bytes heads ++ rest)
list_again head heads rest s = ap head_at (append_assoc (head_bytes head) (flat_map head_bytes heads) rest) ∙ head_again head (flat_map head_bytes heads ++ rest) s

same_behind : (g h : Head) (xs ys : List ℕ) → Begins g xs ≡ Begins h ys → xs ≡ ys
same_behind g h xs ys e = cc

begins_none : (flaw : Flaw) (head : Head) (xs : List ℕ) → Flawed flaw ≡ Begins head xs → ⊥
begins_none flaw head xs e = cc

no_longer : (heads others : List Head) (rest behind : List ℕ) (flaw : Flaw) → AreSpelled heads → AreSpelled others → head_at rest ≡ Flawed flaw → flat_map head_bytes heads ++ rest ≡ flat_map head_bytes others ++ behind → length others ≤ length heads
no_longer heads [] rest behind flaw s t f e = omega arith
no_longer [] (h ∷ others) rest behind flaw s t f e =
    absurd (begins_none flaw h (flat_map head_bytes others ++ behind) (sym f ∙ ap head_at e ∙ list_again h others behind t.0))
no_longer (g ∷ heads) (h ∷ others) rest behind flaw s t f e =
    let same = same_behind g h (flat_map head_bytes heads ++ rest) (flat_map head_bytes others ++ behind) (sym (list_again g heads rest s.0) ∙ ap head_at e ∙ list_again h others behind t.0) in
    let less = no_longer heads others rest behind flaw s.1 t.1 f same in omega (arith, less)

-- ---- what is found, and what is faulty

-- behind some open list of heads stands none, by this flaw
record FlawBehind (bytes : List ℕ) (flaw : Flaw) (rest : List ℕ) : Type 0 where
  heads : List Head
  trees_open : IsOpenFrom 0 heads
  front : bytes ≡ flat_map head_bytes heads ++ rest
  flaw_is : head_at rest ≡ Flawed flaw

longest_list : (bytes : List ℕ) (flaw : Flaw) (rest : List ℕ) → FlawBehind bytes flaw rest → HasFault bytes flaw rest
longest_list bytes flaw rest f = record {
  heads = f.heads;
  begin = record { trees_open = f.trees_open; front = f.front };
  longest = λ others behind b. no_longer f.heads others rest behind flaw (spelled_open 0 f.heads f.trees_open) (spelled_open 0 others b.trees_open) f.flaw_is (sym f.front ∙ b.front);
  flaw_is = f.flaw_is;
}

abbrev Tells : List ℕ → Read → Type 0
Tells bytes (Found tree rest) = HasSpelling tree × (bytes ≡ spelling tree ++ rest)
Tells bytes (Faulty flaw rest) = FlawBehind bytes flaw rest

all_behind : (xs ys : List ℕ) → AllBelowBase 256 (xs ++ ys) → AllBelowBase 256 ys
all_behind [] ys h = h
all_behind (x ∷ xs) ys h = all_behind xs ys h.1

-- behind a mark and a spelled first
tells_first : (bytes more : List ℕ) (first : Tree) (read : Read) → HasSpelling first → bytes ≡ 0xff ∷ (spelling first ++ more) → Tells more read → Tells bytes (with_first first read)
tells_first bytes more first (Found second last) h e t =
    ((h, t.0), e ∙ ap (λ s. 0xff ∷ (spelling first ++ s)) t.1 ∙ ap (λ s. 0xff ∷ s) (sym (append_assoc (spelling first) (spelling second) last)))
tells_first bytes more first (Faulty flaw rest) h e t = record {
  heads = PairMark ∷ (heads_of first ++ t.heads);
  trees_open = open_tree 0 first t.heads h t.trees_open;
  front = e ∙ ap (λ s. 0xff ∷ (spelling first ++ s)) t.front
      ∙ ap (λ s. 0xff ∷ s) (sym (append_assoc (spelling first) (flat_map head_bytes t.heads) rest)
      ∙ ap (λ s. s ++ flat_map head_bytes t.heads ++ rest) (sym (spelling-heads first)) ∙ ap (λ s. s ++ rest) (sym (flat_append (heads_of first) t.heads)));
  flaw_is = t.flaw_is;
}

tells_both : (reader : List ℕ → Read) (n : ℕ) (bytes rest : List ℕ) (read : Read) → ((xs : List ℕ) → length xs < n → AllBelowBase 256 xs → Tells xs (reader xs)) → length rest < n → AllBelowBase 256 rest → bytes ≡ 0xff ∷ rest → Tells rest read → Tells bytes (with_both reader read)
tells_both reader n bytes rest (Found first more) all less below e t =
    let shorter : length more < n = omega (arith, less, ap length t.1, length-append (spelling first) more) in
    tells_first bytes more first (reader more) t.0 (e ∙ ap (λ s. 0xff ∷ s) t.1) (all more shorter (all_behind (spelling first) more (subst (AllBelowBase 256) t.1 below)))
tells_both reader n bytes rest (Faulty flaw last) all less below e t = record {
  heads = PairMark ∷ t.heads;
  trees_open = open_more 0 t.heads t.trees_open;
  front = e ∙ ap (λ s. 0xff ∷ s) t.front;
  flaw_is = t.flaw_is;
}

tells_head : (reader : List ℕ → Read) (n : ℕ) (bytes : List ℕ) (front : Beginning) → ((xs : List ℕ) → length xs < n → AllBelowBase 256 xs → Tells xs (reader xs)) → length bytes ≤ n → AllBelowBase 256 bytes → head_at bytes ≡ front → Says bytes front → Tells bytes (from_head reader bytes front)
tells_head reader n bytes (Flawed flaw) all short below e s = record { heads = []; trees_open = tt; front = refl; flaw_is = e }
tells_head reader n bytes (Begins (Leaf atom) rest) all short below e s = s
tells_head reader n bytes (Begins PairMark rest) all short below e s =
    let below' : AllBelowBase 256 (0xff ∷ rest) = subst (AllBelowBase 256) s below in
    let less : length rest < n = omega (arith, short, head_shrinks bytes PairMark rest e) in
    tells_both reader n bytes rest (reader rest) all less below'.1 s (all rest less below'.1)

tells_below : (n : ℕ) (bytes : List ℕ) → length bytes < n → AllBelowBase 256 bytes → Tells bytes (tree_at_front bytes)
tells_below zero bytes h below = absurd (omega arith)
tells_below (suc n) bytes h below =
    subst (Tells bytes) (sym (front_step bytes)) (tells_head tree_at_front n bytes (head_at bytes) (tells_below n) (omega arith) below refl (says_front bytes below))

-- What the walk from the front tells is so.
tells_front : (bytes : List ℕ) → AllBelowBase 256 bytes → Tells bytes (tree_at_front bytes)
tells_front bytes below = tells_below (suc (length bytes)) bytes (omega arith) below

-- A tree that is found is spelled there.
pub found_is_spelled : (bytes : List ℕ) (tree : Tree) (rest : List ℕ) → AllBelowBase 256 bytes → tree_at_front bytes ≡ Found tree rest → HasSpelling tree × (bytes ≡ spelling tree ++ rest)
found_is_spelled bytes tree rest below e = subst (Tells bytes) e (tells_front bytes below)

pub faulty_is_fault : (bytes : List ℕ) (flaw : Flaw) (rest : List ℕ) → AllBelowBase 256 bytes → tree_at_front bytes ≡ Faulty flaw rest → HasFault bytes flaw rest
faulty_is_fault bytes flaw rest below e = longest_list bytes flaw rest (subst (Tells bytes) e (tells_front bytes below))

-- ---- behind heads that leave trees open, the first flaw is that of what follows them

-- what is found before the rest, behind one head less, or the fault there
pub record FoundBefore (k : ℕ) (heads : List Head) (flaw : Flaw) (rest : List ℕ) (read : Read) : Type 0 where
  pub tree : Tree
  pub left : List Head
  pub fewer : ℕ
  pub less : length left < length heads
  pub k_is : k ≡ suc fewer
  pub left_open : IsOpenFrom fewer left
  pub found : read ≡ Found tree (flat_map head_bytes left ++ rest)

abbrev Meets : ℕ → List Head → Flaw → List ℕ → Read → Type 0
Meets k heads flaw rest read = (read ≡ Faulty flaw rest) ⊎ FoundBefore k heads flaw rest read

met_rest : (k : ℕ) (ts heads : List Head) (flaw : Flaw) (rest : List ℕ) (first : Tree) (read : Read) → length ts < length heads → Meets k ts flaw rest read → Meets k heads flaw rest (with_first first read)
met_rest k ts heads flaw rest first read less (inl e) = inl (ap (with_first first) e)
met_rest k ts heads flaw rest first read less (inr f) = inr (record {
  tree = Pair first f.tree;
  left = f.left;
  fewer = f.fewer;
  less = omega (arith, less, f.less);
  k_is = f.k_is;
  left_open = f.left_open;
  found = ap (with_first first) f.found;
})

suc_same : (a b : ℕ) → suc a ≡ suc b → a ≡ b
suc_same a b e = omega (arith, e)

-- behind one more mark
met_open : (n k : ℕ) (heads : List Head) (flaw : Flaw) (rest : List ℕ) (read : Read) → length heads < n → ((left : List Head) → length left < n → IsOpenFrom k left → Meets k left flaw rest (tree_at_front (flat_map head_bytes left ++ rest))) → Meets (suc k) heads flaw rest read → Meets k (PairMark ∷ heads) flaw rest (with_both tree_at_front read)
met_open n k heads flaw rest read h again (inl f) = inl (ap (with_both tree_at_front) f)
met_open n k heads flaw rest read h again (inr f) =
    let left_open = subst (λ j. IsOpenFrom j f.left) (sym (suc_same k f.fewer f.k_is)) f.left_open in
    let next = again f.left (omega (arith, h, f.less)) left_open in
    subst (Meets k (PairMark ∷ heads) flaw rest) (sym (ap (with_both tree_at_front) f.found))
    (met_rest k f.left (PairMark ∷ heads) flaw rest f.tree (tree_at_front (flat_map head_bytes f.left ++ rest)) (omega (arith, f.less)) next)

-- n bounds the heads
meets : (n k : ℕ) (heads : List Head) (flaw : Flaw) (rest : List ℕ) → length heads < n → IsOpenFrom k heads → head_at rest ≡ Flawed flaw → Meets k heads flaw rest (tree_at_front (flat_map head_bytes heads ++ rest))
meets zero k heads flaw rest h o e = absurd (omega arith)
meets (suc n) k [] flaw rest h o e = inl (front_flawed rest flaw e)
meets (suc n) zero (Leaf atom ∷ heads) flaw rest h o e = absurd o
meets (suc n) (suc k) (Leaf atom ∷ heads) flaw rest h o e = inr (record {
  tree = Atom atom;
  left = heads;
  fewer = k;
  less = omega arith;
  k_is = refl;
  left_open = o.1;
  found = let behind = flat_map head_bytes heads ++ rest in
      ap tree_at_front (append_assoc (atom_spelling atom) (flat_map head_bytes heads) rest) ∙ front_leaf (atom_spelling atom ++ behind) atom behind (head_at-atom atom behind o.0);
})
meets (suc n) k (PairMark ∷ heads) flaw rest h o e =
    let behind = flat_map head_bytes heads ++ rest in
    let open_is : tree_at_front (0xff ∷ behind) ≡ with_both tree_at_front (tree_at_front behind) = front_open (0xff ∷ behind) behind (head_at-open behind) in
    subst (Meets k (PairMark ∷ heads) flaw rest) (sym open_is) (met_open n k heads flaw rest (tree_at_front behind) (omega arith) (λ left less o'. meets n k left flaw rest less o' e) (meets n (suc k) heads flaw rest (omega arith) o e))

only_faulty : (heads : List Head) (flaw : Flaw) (rest : List ℕ) (read : Read) → Meets 0 heads flaw rest read → read ≡ Faulty flaw rest
only_faulty heads flaw rest read (inl e) = e
only_faulty heads flaw rest read (inr f) = absurd (omega (arith, f.k_is))

-- Reading gives the flaw behind an open list of heads, at its place.
pub flaw_is_found : FlawIsFound
flaw_is_found bytes heads flaw rest begin flaw_is =
    ap tree_at_front begin.front
    ∙ only_faulty heads flaw rest (tree_at_front (flat_map head_bytes heads ++ rest)) (meets (suc (length heads)) 0 heads flaw rest (omega arith) begin.trees_open flaw_is)

pub fault_is_faulty : (bytes : List ℕ) (flaw : Flaw) (rest : List ℕ) → HasFault bytes flaw rest → tree_at_front bytes ≡ Faulty flaw rest
fault_is_faulty bytes flaw rest h = flaw_is_found bytes h.heads flaw rest h.begin h.flaw_is
