-- Histories that begin with an admission and go on with looks are legal.
use Rattle.std.proofs.Common.{◌≡◌, ◌∙◌, ℕ, suc, inl, List, [], ◌∷◌, map, refl, ap, sym, subst}
use Rattle.coin_facts.specs.declared.hash32.Hash32.{Hash32}
use Rattle.pool_spec.specs.Admission.{PoolState}
use Rattle.pool_spec.specs.Step.{Command, LookUp, Reply}
use Rattle.pool_spec.specs.History.{Session, Entry, opening, Answers, Walks, IsLegal}
use Rattle.session_spec.specs.FirstForm.{default_limits}
use Rattle.chia_sim.specs.Looks.{entry, looks}

looks-walk : (state : PoolState) (number : ℕ) (ids : List Hash32) → Walks state number (map LookUp ids) (looks state number ids)
looks-walk state number [] = tt
looks-walk state number (id ∷ ids) = (refl, refl, (state, inl (refl, refl), looks-walk state (suc number) ids))

pub legal-admission : (session : Session) (command : Command) (ids : List Hash32) (reply : Reply) (next : PoolState) (entries : List Entry)
    → session.commands ≡ command ∷ map LookUp ids → Answers (opening session) command reply next
    → entries ≡ entry 0 reply ∷ looks next 1 ids → IsLegal session entries
legal-admission session command ids reply next entries commands_are answers entries_are =
    subst (λ c. Walks (opening session) 0 c entries) (sym commands_are)
    (subst (Walks (opening session) 0 (command ∷ map LookUp ids)) (sym entries_are)
    (refl, refl, (next, answers, looks-walk next 1 ids)))

-- A pool that is ready is the state in which its session opens.
pub state-is : (pool : PoolState) → pool.limits ≡ default_limits → pool.bundles ≡ [] → pool ≡ record { chain = pool.chain; limits = default_limits; bundles = [] }
state-is pool limits empty =
    ap (λ l. record { chain = pool.chain; limits = l; bundles = pool.bundles }) limits ∙ ap (λ b. record { chain = pool.chain; limits = default_limits; bundles = b }) empty
