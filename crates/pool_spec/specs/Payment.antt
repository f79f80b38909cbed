-- The bundles that the pool judges so far: payments, whose puzzles are quoted lists of created coins. Source: this
-- project's own.
use Rattle.std.specs.Prelude.{◌&&◌, ◌==◌, List, [], length, nat_lt, nat_le, Bool, true, false, not, is_some, is_none}
use Rattle.std.specs.List.{list_all}
use Rattle.clvm_spec.specs.Tree.{Tree, Atom, Pair}
use Rattle.block_spec.specs.declared.spend.Spend.{Spend}
use Rattle.block_spec.specs.declared.bundle.Bundle.{Bundle}
use Rattle.clvm_spec.specs.Spelled.{spelled_tree}
use Rattle.clvm_spec.specs.Evaluation.{is_code}
use Rattle.chain_spec.specs.Chain.{Chain, is_in_chain, ledger_of}
use Rattle.pool_spec.specs.FirstConditions.{conditions_of}
use Rattle.pool_spec.specs.FirstJudgement.{created_ids, created_amounts, spent_amounts}
use Rattle.coin_facts.specs.IdLists.{repeat_behind}

-- a proper list of three
abbrev pub is_triple : Tree → Bool
is_triple (Pair first (Pair second (Pair third (Atom [])))) = true
is_triple _ = false

abbrev pub are_triples : Tree → Bool
are_triples (Pair first rest) = is_triple first && are_triples rest
are_triples (Atom bytes) = true

-- (q . X), where X is a proper list of (51 HASH AMOUNT)
abbrev pub pays : Tree → Bool
pays (Pair first value) = is_code 1 first && is_some (conditions_of value) && are_triples value
pays (Atom bytes) = false

-- No two created coins have one id. So no spend creates two coins of one puzzle hash and amount.
abbrev pub creates_each_once : List Spend → Bool
creates_each_once spends = is_none (repeat_behind [] 0 (created_ids spends))

-- At least one spend and nothing attested; every puzzle pays; the created coins are new, each is made once, and they
-- are together worth at most what the spent ones are.
abbrev pub is_payment : Chain → Bundle → Bool
is_payment chain bundle =
    nat_lt 0 (length bundle.spends) && (length bundle.attested == 0)
    && list_all (λ spend. pays (spelled_tree spend.puzzle)) bundle.spends
    && creates_each_once bundle.spends
    && nat_le (created_amounts bundle.spends) (spent_amounts bundle.spends)
    && list_all (λ id. not (is_in_chain (ledger_of chain) id)) (created_ids bundle.spends)
