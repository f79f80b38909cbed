-- Coins, spends and bundles as JSON objects, or the first fault of their members. Source: this project's own, with the members
-- of the Chia documentation.
use Rattle.std.specs.Prelude.{List, [], Result, Ok, Err}
use Rattle.serde_json.specs.Data.{Data}
use Rattle.coin_facts.specs.declared.coin.Coin.{Coin}
use Rattle.block_spec.specs.declared.spend.Spend.{Spend}
use Rattle.block_spec.specs.declared.bundle.Bundle.{Bundle}
use Rattle.session_spec.specs.declared.member.Member.TheVariants as member
use Rattle.session_spec.specs.Lines.{if_object}
use Rattle.session_spec.specs.LineFaults.{What}
use Rattle.session_spec.specs.Results.{◌>>=◌, each_of}
use Rattle.session_spec.specs.Values.{whole_number, bytes_of_hash, objects, attested_pairs}
use Rattle.session_spec.specs.LineMembers.{Compiled, plain, code_value, hash_value, required, optional}

abbrev pub coin_in : List Compiled → Data → Result Coin What
coin_in modules fields = do
  parent ← required member.ParentCoinInfo (plain bytes_of_hash) fields
  puzzle_hash ← required member.PuzzleHash (hash_value modules) fields
  amount ← required member.Amount (plain whole_number) fields
  Ok (record { parent = parent; puzzle_hash = puzzle_hash; amount = amount })

-- the coin that the member `coin` of an object is
abbrev pub coin_member : List Compiled → Data → Result Coin What
coin_member modules fields = required member.Coin (plain if_object) fields >>= coin_in modules

abbrev pub spend_in : List Compiled → Data → Result Spend What
spend_in modules fields = do
  coin ← coin_member modules fields
  puzzle ← required member.PuzzleReveal (code_value modules) fields
  solution ← required member.Solution (code_value modules) fields
  Ok (record { coin = coin; puzzle = puzzle; solution = solution })

-- That the spends are a list of objects is asked before any of them is read. What isn't said to be attested isn't.
abbrev pub bundle_in : List Compiled → Data → Result Bundle What
bundle_in modules fields = do
  list ← required member.CoinSpends (plain objects) fields
  spends ← each_of (spend_in modules) list
  attested ← optional member.Attested [] (plain attested_pairs) fields
  Ok (record { spends = spends; attested = attested })
