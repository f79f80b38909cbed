-- What there is of unspent coins among records, found one by one. Source: this project's own.
use Rattle.std.specs.Prelude.{ℕ, ◌&&◌, List, Bool, filter, if◌then◌else◌}
use Rattle.coin_facts.specs.declared.hash32.Hash32.{Hash32}
use Rattle.chain_spec.specs.declared.chain.Record.{Record}
use Rattle.chain_spec.specs.declared.chain.Unspent.{Unspent}
use Rattle.chain_spec.specs.declared.chain.Unspent.TheVariants as unspent
use Rattle.chain_spec.specs.Looks.{is_unspent_of, is_outside, unspent_in}

abbrev pub is_asked : Hash32 → ℕ → List Hash32 → Record → Bool
is_asked puzzle_hash amount except found = is_unspent_of puzzle_hash amount found && is_outside except found

abbrev pub unspent_among : Hash32 → ℕ → List Hash32 → List Record → Unspent
unspent_among puzzle_hash amount except list = unspent_in (filter (is_outside except) (filter (is_unspent_of puzzle_hash amount) list))

-- with one more
abbrev pub with_one : Hash32 → Unspent → Unspent
with_one id unspent.None = unspent.One id
with_one id (unspent.One other) = unspent.Many
with_one id unspent.Many = unspent.Many

abbrev pub with_any : Bool → Hash32 → Unspent → Unspent
with_any asked id found = if asked then with_one id found else found
