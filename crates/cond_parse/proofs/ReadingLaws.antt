-- How a flaw is handed on.
use Rattle.std.proofs.Common.{◌≡◌, ℕ, List, [], ◌∷◌, Bool, true, Option, Some, Result, Err, ap, sym, ◌∙◌, subst}
use Rattle.std.specs.Result.{IsErrAnd, IfErr}
use Rattle.std.proofs.lemmas.Result.{err_from_is_err_and}
use Rattle.clvm_spec.specs.Tree.{Tree}
use Rattle.cond_spec.specs.declared.condition.Condition.{Condition}
use Rattle.cond_spec.specs.declared.party.Party.{Party}
use Rattle.cond_spec.specs.ConditionTable.{row_of_atom}
use Rattle.cond_spec.specs.Conditions.{if_read, by_row}
use Rattle.cond_spec.specs.Operands.{operand}
use Rattle.cond_spec.specs.Parties.{part}
use Rattle.cond_parse.specs.declared.fault.Flaw.{Flaw}
use Rattle.cond_parse.specs.declared.fault.Flaw.TheVariants.{Malformed, Unknown, OutOfMemory}
use Rattle.cond_parse.specs.Readings.{Lacks, Takes, ReadsOne, ReadsTwo, ReadsMessage}
use Rattle.cond_parse.specs.Faults.{IsFlawOf, IsReading}

-- What lacks an operand is malformed.
is_flaw : (read : Option Condition) (flaw : Flaw) → Lacks read flaw → IsFlawOf (if_read read) flaw
is_flaw read Malformed e = ap if_read e
is_flaw read Unknown h = absurd h
is_flaw read OutOfMemory h = tt

-- Behind what was read the rest may be lacking.
pub lacks_behind : (read rest : Option Condition) (flaw : Flaw) → read ≡ rest → Lacks rest flaw → Lacks read flaw
lacks_behind read rest flaw e h = subst (λ r. Lacks r flaw) (sym e) h

-- A part that is named may be lacking.
pub lacks_part : {A : Type 0} (named : Bool) (form : Tree → Option A) (operands : Tree) (flaw : Flaw) (next : Option A → Tree → Option Condition)
    → named ≡ true → Lacks (operand form operands (λ value rest. next (Some value) rest)) flaw → Lacks (part named form operands next) flaw
lacks_part named form operands flaw next e h = subst (λ b. Lacks (part b form operands next) flaw) (sym e) h

-- ---- the exit of a call whose callee had a flaw

handed : {X : Type 0} (P : Result X Flaw → Type 0) (flaw : Flaw) (result : Result X Flaw) → IsErrAnd result (λ f. f ≡ flaw) → P (Err flaw) → P result
handed P flaw result is h = let p = err_from_is_err_and result is in subst P (sym (p.1 ∙ ap Err p.2)) h

pub no_step : {A : Type 0} (step : (A → Tree → Option Condition) → Option Condition) (flaw : Flaw) (result : Result A Flaw) (rest : Tree)
    → IsErrAnd result (λ f. f ≡ flaw) → ((next : A → Tree → Option Condition) → Lacks (step next) flaw) → Takes step result rest
no_step step flaw result rest is h = handed (λ r. Takes step r rest) flaw result is h

pub no_one : {A : Type 0} (read : (A → Condition) → Option Condition) (flaw : Flaw) (result : Result A Flaw)
    → IsErrAnd result (λ f. f ≡ flaw) → ((make : A → Condition) → Lacks (read make) flaw) → ReadsOne read result
no_one read flaw result is h = handed (ReadsOne read) flaw result is h

pub no_two : {A B : Type 0} (read : (A → B → Condition) → Option Condition) (flaw : Flaw) (result : Result (A × B) Flaw)
    → IsErrAnd result (λ f. f ≡ flaw) → ((make : A → B → Condition) → Lacks (read make) flaw) → ReadsTwo read result
no_two read flaw result is h = handed (ReadsTwo read) flaw result is h

pub no_message : (read : (ℕ → List ℕ → Party → Condition) → Option Condition) (flaw : Flaw) (result : Result (ℕ × List ℕ × Party) Flaw)
    → IsErrAnd result (λ f. f ≡ flaw) → ((make : ℕ → List ℕ → Party → Condition) → Lacks (read make) flaw) → ReadsMessage read result
no_message read flaw result is h = handed (ReadsMessage read) flaw result is h

pub no_condition : (code row_code : ℕ) (operands : Tree) (read : Option Condition) (flaw : Flaw) (result : Result Condition Flaw)
    → code ≡ row_code → IsErrAnd result (λ f. f ≡ flaw) → Lacks read flaw → by_row operands (row_of_atom (row_code ∷ [])) ≡ if_read read → IsReading (by_row operands (row_of_atom (code ∷ []))) result
no_condition code row_code operands read flaw result same is h row =
    let reading : by_row operands (row_of_atom (code ∷ [])) ≡ if_read read = ap (λ n. by_row operands (row_of_atom (n ∷ []))) same ∙ row in
    subst (λ r. IsReading r result) (sym reading) (handed (IsReading (if_read read)) flaw result is (is_flaw read flaw h))

-- the same of a fault with its place
pub handed_fault : {X E : Type 0} (Q : E → Type 0) (fault : E) (result : Result X E) → IsErrAnd result (λ f. f ≡ fault) → Q fault → IfErr result Q
handed_fault Q fault result is q = let p = err_from_is_err_and result is in rw (p.1, p.2) q
