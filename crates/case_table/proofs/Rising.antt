-- Where a number stands among numbers that rise strictly.
use Rattle.std.proofs.Common.{◌≡◌, ℕ, ⊎_elim, zero, suc, ◌+◌, ◌<◌, ◌≤◌, Bool, true, false, not, cond, eqb, ltb, List, [], ◌∷◌, length, get_or, map, Option, Some, None, refl, sym, ap, ◌∙◌, subst, arith}
use Rattle.std.specs.Prelude.{position, option_map}
use Rattle.std.specs.List.{prefix_len}
use Rattle.std.proofs.lemmas.Bool.{ltb-true, ltb-false, le-ltb, cond_both, cases_lt, and_parts, eq-eqb, ne_eqb, cond-true, cond-false, lt-ltb}
use Rattle.case_table.specs.Table.{codes_rise}

-- the codes behind the first are above it
above_first : (c : ℕ) (cs : List ℕ) → codes_rise (c ∷ cs) ≡ true → (i : ℕ) → i < length cs → c < get_or cs i 0
above_first c [] e i h = absurd (omega arith)
above_first c (d ∷ ds) e zero h = let p = and_parts (ltb c d) (codes_rise (d ∷ ds)) e in ltb-true c d p.0
above_first c (d ∷ ds) e (suc i) h =
    let p = and_parts (ltb c d) (codes_rise (d ∷ ds)) e in
    let first = ltb-true c d p.0 in
    let later = above_first d ds p.1 i (omega arith) in omega arith

rest_rises : (c : ℕ) (cs : List ℕ) → codes_rise (c ∷ cs) ≡ true → codes_rise cs ≡ true
rest_rises c [] e = refl
rest_rises c (d ∷ ds) e = (and_parts (ltb c d) (codes_rise (d ∷ ds)) e).1

pub rises : (cs : List ℕ) → codes_rise cs ≡ true → (i j : ℕ) → i < j → j < length cs → get_or cs i 0 < get_or cs j 0
rises [] e i j h k = absurd (omega arith)
rises (c ∷ cs) e zero zero h k = absurd (omega arith)
rises (c ∷ cs) e zero (suc j) h k = above_first c cs e j (omega arith)
rises (c ∷ cs) e (suc i) zero h k = absurd (omega arith)
rises (c ∷ cs) e (suc i) (suc j) h k = rises cs (rest_rises c cs e) i j (omega arith) (omega arith)

pub below_middle : (cs : List ℕ) → codes_rise cs ≡ true → (m code : ℕ) → m < length cs → get_or cs m 0 < code → (k : ℕ) → k < m + 1 → get_or cs k 0 < code
below_middle cs e m code h less k below =
    ⊎_elim (λ lt. let r = rises cs e k m lt h in omega arith) (λ ge. let same : k ≡ m = omega arith in subst (λ j. get_or cs j 0 < code) (sym same) less) (cases_lt k m)

pub above_middle : (cs : List ℕ) → codes_rise cs ≡ true → (m code : ℕ) → code < get_or cs m 0 → (k : ℕ) → m ≤ k → k < length cs → code < get_or cs k 0
above_middle cs e m code more k above h =
    ⊎_elim (λ lt. let r = rises cs e m k lt h in omega arith) (λ ge. let same : k ≡ m = omega arith in subst (λ j. code < get_or cs j 0) (sym same) more) (cases_lt m k)

-- the place that a test of the first and a count behind it give
place : Bool → ℕ → ℕ → Option ℕ
place passes n len = cond (ltb (cond (not passes) (1 + n) 0) (suc len)) (Some (cond (not passes) (1 + n) 0)) None

place-true : (n len : ℕ) → place true n len ≡ Some 0
unfolding place
place-true n len = cond-true (ltb 0 (suc len)) (Some 0) None (lt-ltb 0 (suc len) (omega arith))

place-false : (n len : ℕ) → place false n len ≡ option_map suc (cond (ltb n len) (Some n) None)
unfolding place
place-false n len =
    let one : 1 + n ≡ suc n = omega arith in
    cond_both (ltb n len) (Some n) None (λ o. cond (ltb (1 + n) (suc len)) (Some (1 + n)) None ≡ option_map suc o)
    (λ e. let h = ltb-true n len e in cond-true (ltb (1 + n) (suc len)) _ _ (lt-ltb (1 + n) (suc len) (omega arith)) ∙ ap Some one)
    (λ e. let h = ltb-false n len e in cond-false (ltb (1 + n) (suc len)) _ _ (le-ltb (1 + n) (suc len) (omega arith)))

module _ {R : Type 0} (key : R → ℕ) (code : ℕ) where
  abbrev test : R → Bool
  test row = eqb (key row) code

  passed : (rows : List R) → ℕ
  passed rows = prefix_len (λ row. not (test row)) rows

  first_passes : (row : R) (rows : List R) → test row ≡ true → position test (row ∷ rows) ≡ Some 0
  unfolding place passed
  first_passes row rows e = ap (λ b. place b (passed rows) (length rows)) e ∙ place-true (passed rows) (length rows)

  first_fails : (row : R) (rows : List R) → test row ≡ false → position test (row ∷ rows) ≡ option_map suc (position test rows)
  unfolding place passed
  first_fails row rows e = ap (λ b. place b (passed rows) (length rows)) e ∙ place-false (passed rows) (length rows)

  pub at_key : (rows : List R) (i : ℕ) (x : R) → i < length rows → x ≡ get_or rows i x → get_or (map key rows) i 0 ≡ key x
  at_key [] i x h e = absurd (omega arith)
  at_key (row ∷ rows) zero x h e = ap key (sym e)
  at_key (row ∷ rows) (suc i) x h e = at_key rows i x (omega arith) e

  pub position_found : (rows : List R) (i : ℕ) → i < length rows → get_or (map key rows) i 0 ≡ code → ((k : ℕ) → k < i → get_or (map key rows) k 0 < code) → position test rows ≡ Some i
  position_found [] i h e before = absurd (omega arith)
  position_found (row ∷ rows) zero h e before = first_passes row rows (eq-eqb (key row) code e)
  position_found (row ∷ rows) (suc i) h e before =
      let under = before 0 (omega arith) in
      first_fails row rows (ne_eqb (key row) code (λ q. absurd (omega arith)))
      ∙ ap (option_map suc) (position_found rows i (omega arith) e (λ k l. before (suc k) (omega arith)))

  pub position_missing : (rows : List R) → ((k : ℕ) → k < length rows → get_or (map key rows) k 0 ≡ code → ⊥) → position test rows ≡ None
  position_missing [] h = refl
  position_missing (row ∷ rows) h =
      first_fails row rows (ne_eqb (key row) code (h 0 (omega arith)))
      ∙ ap (option_map suc) (position_missing rows (λ k l. h (suc k) (omega arith)))

pub map_length : {R : Type 0} (key : R → ℕ) (rows : List R) → length (map key rows) ≡ length rows
map_length key [] = refl
map_length key (row ∷ rows) = ap suc (map_length key rows)
