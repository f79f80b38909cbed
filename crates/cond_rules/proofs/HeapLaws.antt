-- What a heap of indexes holds, and that its top is the least.
use Rattle.std.proofs.Common.{◌≡◌, ◌≤◌, ◌<◌, inl, inr, ℕ, ◌==◌, ◌||◌, Bool, true, false, List, [], ◌∷◌, length, map, slice_index_or, refl, ap, sym, ◌∙◌, true≢false, arith}
use Rattle.std.specs.List.{list_any}
use Rattle.std.specs.List.Sorted.{IsPermutation}
use Rattle.std.specs.BinaryHeap.{IsUpperBound}
use Rattle.std.specs.Ordering.{nat_cmp, is_lt, MatchOrdering}
use Rattle.std.specs.declared.cmp.Ordering.{Ordering}
use Rattle.std.specs.declared.cmp.Ordering.TheVariants.{Less, Equal, Greater}
use Rattle.std.specs.declared.cmp.Reverse.{Reverse}
use Rattle.std.proofs.lemmas.Bool.{eqb-true, eq-eqb, or_left, or_cases}
use Rattle.std.proofs.lemmas.Cmp.{ranked}
use Rattle.std.proofs.lemmas.List.Sorted.{list_any-IsPermutation}
use Rattle.cond_rules.specs.IndexQueue.{holds, IsLeast}
use Rattle.cond_rules.proofs.ListLaws.{any-map}

abbrev pub indexes_of : List (Reverse ℕ) → List ℕ
indexes_of items = map (λ item. item.0) items

abbrev order : Reverse ℕ → Reverse ℕ → Ordering
order a b = nat_cmp b.0 a.0

-- ---- with one more, and one less

pub held-more : (x : Reverse ℕ) (old new : List (Reverse ℕ)) → IsPermutation (x ∷ old) new
    → (i : ℕ) → holds (indexes_of new) i ≡ ((x.0 == i) || holds (indexes_of old) i)
held-more x old new moves i =
    any-map (λ n. n == i) (λ item. item.0) new
    ∙ sym (list_any-IsPermutation (λ item. item.0 == i) (x ∷ old) new moves)
    ∙ ap (λ b. (x.0 == i) || b) (sym (any-map (λ n. n == i) (λ item. item.0) old))

pub held-less : (x : Reverse ℕ) (old new : List (Reverse ℕ)) → IsPermutation old (x ∷ new)
    → (i : ℕ) → holds (indexes_of old) i ≡ ((x.0 == i) || holds (indexes_of new) i)
held-less x old new moves i =
    any-map (λ n. n == i) (λ item. item.0) old
    ∙ list_any-IsPermutation (λ item. item.0 == i) old (x ∷ new) moves
    ∙ ap (λ b. (x.0 == i) || b) (sym (any-map (λ n. n == i) (λ item. item.0) new))

-- ---- the top

not-less : (m n : ℕ) → is_lt (nat_cmp m n) ≡ false → n ≤ m
not-less m n e = by (nat_cmp m n) (ranked m n (nat_cmp m n) refl) e
  where
    by : (o : Ordering) → MatchOrdering o (m < n) (m ≡ n) (n < m) → is_lt o ≡ false → n ≤ m
    by Less below wrong = absurd (true≢false wrong)
    by Equal same e = omega arith
    by Greater above e = omega arith

above : (top : Reverse ℕ) (items : List (Reverse ℕ)) → IsUpperBound order top items → (i : ℕ) → holds (indexes_of items) i ≡ true → top.0 ≤ i
above top [] bound i held = absurd (true≢false (sym held))
above top (x ∷ xs) bound i held =
    elim (or_cases (x.0 == i) (holds (indexes_of xs) i) held) [
      | inl here ↦ (let same = eqb-true x.0 i here in let le = not-less x.0 top.0 bound.0 in omega arith)
      | inr behind ↦ above top xs bound.1 i behind
    ]

pub least-popped : (top : Reverse ℕ) (old new : List (Reverse ℕ)) → IsPermutation old (top ∷ new) → IsUpperBound order top old → IsLeast (indexes_of old) top.0
least-popped top old new moves bound = record {
  held = held-less top old new moves top.0 ∙ or_left (top.0 == top.0) (holds (indexes_of new) top.0) (eq-eqb top.0 top.0 refl);
  least = above top old bound;
}

pub least-top : (top : Reverse ℕ) (items : List (Reverse ℕ)) → 0 < length items → top ≡ slice_index_or items 0 top → IsUpperBound order top items
    → IsLeast (indexes_of items) top.0
least-top top [] within same bound = absurd (omega arith)
least-top top (first ∷ behind) within same bound = record {
  held = or_left (first.0 == top.0) (holds (indexes_of behind) top.0) (eq-eqb first.0 top.0 (ap (λ item. item.0) (sym same)));
  least = above top (first ∷ behind) bound;
}
