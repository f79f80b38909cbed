-- Bits of a path, some after others.
use Rattle.std.proofs.Common.{◌≡◌, ℕ, zero, suc, ◌+◌, ◌*◌, ◌/◌, ◌%◌, ◌^◌, ◌<◌, ◌≤◌, true, false, leb, eqb, Option, Some, None, MatchOption, List, [], ◌∷◌, length, take, get_or, refl, sym, ◌∙◌, ap, subst, ⊎_elim, arith}
use Rattle.std.proofs.lemmas.Bool.{cond-true, cond-false, cond_both, eqb-true, eqb-false, eq-eqb, ne_eqb, cases_lt}
use Rattle.std.proofs.lemmas.Bool.Decides.{nat_tests}
use Rattle.std.proofs.lemmas.Int.Digits.{number_more, number_push}
use Rattle.std.proofs.Math.Nat.{pow-suc, mul_comm, mul_assoc, mul-le-mul_left}
use Rattle.clvm_spec.specs.Tree.{Tree, Atom, Pair, nil}
use Rattle.clvm_spec.specs.Numbers.{unsigned}
use Rattle.clvm_spec.specs.Path.{PathValue, Reached, Astray, side, stepped, followed, path_value, leading_zeros}

leb_two : (n : ℕ) → 1 < n → leb n 1 ≡ false
leb_two n h = grind (arith, nat_tests)

-- a step on, where more than the highest bit is left
pub followed-step : (bound bits steps : ℕ) (tree : Tree) → 1 < bits → followed (suc bound) bits steps tree ≡ stepped (followed bound (bits / 2) (suc steps)) (bits % 2) tree
unfolding followed
followed-step bound bits steps tree h = cond-false (leb bits 1) _ _ (leb_two bits h)

pub followed-end : (bound bits steps : ℕ) (tree : Tree) → bits ≤ 1 → followed bound bits steps tree ≡ Reached tree steps
unfolding followed
followed-end zero bits steps tree h = refl
followed-end (suc bound) bits steps tree h = let e : leb bits 1 ≡ true = grind (arith, nat_tests) in cond-true (leb bits 1) _ _ e

-- goes on from where bits lead
abbrev pub from_there : PathValue → (Tree → ℕ → PathValue) → PathValue
from_there (Reached tree steps) go = go tree steps
from_there Astray go = Astray

-- what halving does to a sum whose first part is even
halves : (q above bits n : ℕ) → n ≡ 2 * (q * above) + bits → 1 ≤ q * above → (1 < n) × (n / 2 ≡ q * above + bits / 2) × (n % 2 ≡ bits % 2)
halves q above bits n is some =
    let x = q * above in
    let two : n ≡ 2 * x + bits = is in
    (omega arith, omega arith, omega arith)

some_product : (q above : ℕ) → 1 ≤ q → 1 ≤ above → 1 ≤ q * above
some_product q above h k = let less : q * 1 ≤ q * above = mul-le-mul_left q k in omega arith

-- Lower bits first, then those above them. The numbers are given by equations.
pub followed-above : (low bound whole above bits steps n m : ℕ) (tree : Tree) → whole ≡ low + bound → n ≡ 2 ^ low * above + bits → m ≡ 2 ^ low + bits → 1 ≤ above → bits < 2 ^ low →
    followed whole n steps tree ≡ from_there (followed (suc low) m steps tree) (λ t s. followed bound above s t)
followed-above zero bound whole above bits steps n m tree w n_is m_is h b =
    let go = λ (t : Tree) (s : ℕ). followed bound above s t in
    let whole_is : whole ≡ bound = omega arith in
    let same : n ≡ above = omega arith in
    let least : m ≤ 1 = omega arith in
    ap (λ k. followed k n steps tree) whole_is ∙ ap (λ k. followed bound k steps tree) same
    ∙ sym (ap (λ r. from_there r go) (followed-end 1 m steps tree least))
followed-above (suc low) bound zero above bits steps n m tree w n_is m_is h b = absurd (omega arith)
followed-above (suc low) bound (suc whole) above bits steps n m tree w n_is m_is h b =
    let q = 2 ^ low in
    let go = λ (t : Tree) (s : ℕ). followed bound above s t in
    let power : 2 ^ suc low ≡ q * 2 = pow-suc 2 low in
    let turned : 2 ^ suc low * above ≡ 2 * (q * above) = ap (λ p. p * above) power ∙ ap (λ p. p * above) (mul_comm q 2) ∙ mul_assoc 2 q above in
    let q_some : 1 ≤ q = omega arith in
    let product : 1 ≤ q * above = some_product q above q_some h in
    let n_two : n ≡ 2 * (q * above) + bits = omega arith in
    let n_half = halves q above bits n n_two product in
    let m_two : m ≡ 2 * (q * 1) + bits = omega arith in
    let m_half = halves q 1 bits m m_two (omega arith) in
    let w_is : whole ≡ low + bound = omega arith in
    let n_next : n / 2 ≡ q * above + bits / 2 = n_half.1 in
    let m_next : m / 2 ≡ q + bits / 2 = omega (arith, m_half.1) in
    let low_bits : bits / 2 < q = omega arith in
    followed-step whole n steps tree n_half.0 ∙ on tree (n / 2) (n % 2) (m / 2) (m % 2) n_half.2 m_half.2
    (λ t. followed-above low bound whole above (bits / 2) (suc steps) (n / 2) (m / 2) t w_is n_next m_next h low_bits)
    ∙ sym (ap (λ r. from_there r go) (followed-step (suc low) m steps tree m_half.0))
  where
    on : (t : Tree) (n2 nb m2 mb : ℕ) → nb ≡ bits % 2 → mb ≡ bits % 2 →
        ((t : Tree) → followed whole n2 (suc steps) t ≡ from_there (followed (suc low) m2 (suc steps) t) (λ t s. followed bound above s t)) →
        stepped (followed whole n2 (suc steps)) nb t ≡ from_there (stepped (followed (suc low) m2 (suc steps)) mb t) (λ t s. followed bound above s t)
    on (Atom bytes) n2 nb m2 mb e f ih = refl
    on (Pair first rest) n2 nb m2 mb e f ih =
        ap (λ b. followed whole n2 (suc steps) (side b first rest)) (e ∙ sym f) ∙ ih (side mb first rest)

-- The last byte of a path is followed first.
pub followed-byte : (path : List ℕ) (i steps m : ℕ) (tree : Tree) → i < length path → get_or path i 0 < 256 → m ≡ 256 + get_or path i 0 → 1 ≤ unsigned (take i path) →
    followed (8 * (i + 1)) (unsigned (take (i + 1) path)) steps tree ≡ from_there (followed 9 m steps tree) (λ t s. followed (8 * i) (unsigned (take i path)) s t)
followed-byte path i steps m tree within byte m_is some =
    let more = number_more 256 path i within in
    followed-above 8 (8 * i) (8 * (i + 1)) (unsigned (take i path)) (get_or path i 0) steps (unsigned (take (i + 1) path)) m tree (omega arith) (omega (arith, more)) (omega arith) some (omega arith)

-- ---- leading zeros

pub leading_zeros-le : (path : List ℕ) → leading_zeros path ≤ length path
leading_zeros-le [] = omega arith
leading_zeros-le (b ∷ path) =
    cond_both (eqb b 0) (suc (leading_zeros path)) 0 (λ n. n ≤ suc (length path)) (λ e. omega (arith, leading_zeros-le path)) (λ e. omega arith)

-- the first byte that isn't zero
pub first_byte : (path : List ℕ) → leading_zeros path < length path → (unsigned (take (leading_zeros path + 1) path) ≡ get_or path (leading_zeros path) 0) × (1 ≤ get_or path (leading_zeros path) 0)
first_byte [] h = absurd (omega arith)
first_byte (b ∷ path) h =
    cond_both (eqb b 0) (suc (leading_zeros path)) 0
    (λ n. n < suc (length path) → (unsigned (take (n + 1) (b ∷ path)) ≡ get_or (b ∷ path) n 0) × (1 ≤ get_or (b ∷ path) n 0))
    (λ e k. zero_first b path (eqb-true b 0 e) (first_byte path (omega arith)))
    (λ e k. (one_byte b path, least_one b (eqb-false b 0 e)))
    h
  where
    least_one : (n : ℕ) → (n ≡ 0 → ⊥) → 1 ≤ n
    least_one zero h = absurd (h refl)
    least_one (suc n) h = omega arith

    one_byte : (b : ℕ) (path : List ℕ) → unsigned (take (0 + 1) (b ∷ path)) ≡ b
    one_byte b path = let one : 0 + 1 ≡ suc 0 = omega arith in ap (λ c. unsigned (take c (b ∷ path))) one ∙ number_push 256 [] b ∙ omega arith

    zero_first : (b : ℕ) (path : List ℕ) → b ≡ 0 → (unsigned (take (leading_zeros path + 1) path) ≡ get_or path (leading_zeros path) 0) × (1 ≤ get_or path (leading_zeros path) 0) →
        (unsigned (take (suc (leading_zeros path) + 1) (b ∷ path)) ≡ get_or path (leading_zeros path) 0) × (1 ≤ get_or path (leading_zeros path) 0)
    zero_first b path e next =
        let count : suc (leading_zeros path) + 1 ≡ suc (leading_zeros path + 1) = omega arith in
        (ap (λ c. unsigned (take c (b ∷ path))) count ∙ ap (λ z. unsigned (z ∷ take (leading_zeros path + 1) path)) e ∙ next.0, next.1)

-- Zeros alone are zero.
pub unsigned-zeros : (path : List ℕ) → leading_zeros path ≡ length path → unsigned path ≡ 0
unsigned-zeros [] h = refl
unsigned-zeros (b ∷ path) h =
    cond_both (eqb b 0) (suc (leading_zeros path)) 0 (λ n. n ≡ suc (length path) → unsigned (b ∷ path) ≡ 0)
    (λ e k. ap (λ z. unsigned (z ∷ path)) (eqb-true b 0 e) ∙ unsigned-zeros path (omega arith))
    (λ e k. absurd (omega arith))
    h

-- From the first byte that isn't zero on, the number is some.
pub some_number : (path : List ℕ) (i : ℕ) → leading_zeros path < i → i ≤ length path → 1 ≤ unsigned (take i path)
some_number path zero low high = absurd (omega arith)
some_number path (suc i) low high =
    ⊎_elim (λ (above : leading_zeros path < i).
    let before = some_number path i above (omega arith) in
    let more = number_more 256 path i (omega arith) in
    let at : i + 1 ≡ suc i = omega arith in
    subst (λ k. 1 ≤ unsigned (take k path)) at (omega arith))
    (λ (here : i ≤ leading_zeros path).
    let first = first_byte path (omega arith) in
    let at : leading_zeros path + 1 ≡ suc i = omega arith in
    subst (λ k. 1 ≤ unsigned (take k path)) at (omega (arith, first.0, first.1)))
    (cases_lt (leading_zeros path) i)

-- A path with a byte that isn't zero is followed.
pub path_value-some : (path : List ℕ) (env : Tree) → 1 ≤ unsigned path → path_value path env ≡ followed (8 * length path) (unsigned path) 0 env
path_value-some path env some = cond-false (eqb (unsigned path) 0) _ _ (ne_eqb (unsigned path) 0 (λ e. omega arith))

pub path_value-none : (path : List ℕ) (env : Tree) → unsigned path ≡ 0 → path_value path env ≡ Reached nil 0
path_value-none path env none = cond-true (eqb (unsigned path) 0) _ _ (eq-eqb (unsigned path) 0 none)

-- ---- one bit more

pub no_bit_on : (bound bits steps : ℕ) (tree : Tree) → ((go : Tree → PathValue) → stepped go (bits % 2) tree ≡ Astray) → 1 < bits → bits < 2 ^ bound → followed bound bits steps tree ≡ Astray
no_bit_on zero bits steps tree none some below = absurd (omega arith)
no_bit_on (suc bound) bits steps tree none some below = followed-step bound bits steps tree some ∙ none (followed bound (bits / 2) (suc steps))

pub one_bit_on : (bound bits steps : ℕ) (tree next : Tree) → ((go : Tree → PathValue) → stepped go (bits % 2) tree ≡ go next) → 1 < bits → bits < 2 ^ bound →
    (less : ℕ) × (bits / 2 < 2 ^ less) × (followed bound bits steps tree ≡ followed less (bits / 2) (suc steps) next)
one_bit_on zero bits steps tree next leads some below = absurd (omega arith)
one_bit_on (suc bound) bits steps tree next leads some below =
    let power : 2 ^ suc bound ≡ 2 ^ bound * 2 = pow-suc 2 bound in
    (bound, omega arith, followed-step bound bits steps tree some ∙ leads (followed bound (bits / 2) (suc steps)))

pub on_option : {X : Type 0} (o : Option X) (A A' : Type 0) (B B' : X → Type 0) → (A → A') → ((x : X) → B x → B' x) → MatchOption o A B → MatchOption o A' B'
on_option None A A' B B' f g h = f h
on_option (Some x) A A' B B' f g h = g x h
