-- A key, and a pair of a key and a message, as values. This project's own.
use Rattle.std.specs.Prelude.{ℕ, List, Option}
use Rattle.serde_json.specs.Data.{Data}
use Rattle.coin_facts.specs.declared.sizes.TheConstants.{KEY_BYTES}
use Rattle.block_spec.specs.declared.attested.Signed.{Signed}
use Rattle.session_spec.specs.Steps.{◌>>=◌}
use Rattle.session_spec.specs.Values.{some_bytes, exactly, values, pair_of}

abbrev pub key_in : Data → Option (List ℕ)
key_in value = some_bytes value >>= exactly KEY_BYTES

abbrev pub pair_in : Data → Option Signed
pair_in value = values value >>= pair_of
