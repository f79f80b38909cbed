-- The coins that the conditions of one spend create, told apart by puzzle hash and amount. Source: this project's own.
use Rattle.std.specs.Prelude.{◌≡◌, ◌==◌, ◌&&◌, List, ◌∷◌, Bool, false, Option, Some, None}
use Rattle.std.specs.List.{list_any}
use Rattle.std.specs.HashSet.{HashSet, contains}
use Rattle.std.specs.declared.hash.FoldHasher.{FoldHasher}
use Rattle.std.specs.declared.hash.BuildHasherDefault.{BuildHasherDefault}
use Rattle.coin_facts.specs.IdLists.{is_same_id}
use Rattle.cond_spec.specs.declared.condition.Condition.{Condition}
use Rattle.cond_spec.specs.declared.condition.Condition.TheVariants.{CreateCoin}
use Rattle.cond_spec.specs.ActRules.{is_same_output}
use Rattle.spend_run.specs.declared.own_rules.Output.{Output}

abbrev pub OutputSet : Type 0
OutputSet = HashSet Output (BuildHasherDefault FoldHasher)

abbrev pub is_same_output_of : Output → Output → Bool
is_same_output_of a b = is_same_id a.puzzle_hash b.puzzle_hash && (a.amount == b.amount)

abbrev pub output_of : Condition → Option Output
output_of (CreateCoin hash amount) = Some (record { puzzle_hash = hash; amount = amount })
output_of _ = None

abbrev pub is_created_by : List Condition → Output → Bool
is_created_by conditions output = list_any (λ other. is_same_output other (CreateCoin output.puzzle_hash output.amount)) conditions

-- The set has just the outputs of these conditions.
abbrev pub HasOutputs : OutputSet → List Condition → Type 0
HasOutputs set conditions = (output : Output) → contains is_same_output_of set output ≡ is_created_by conditions output

-- Whatever the earlier conditions are: whether one creates a coin as this one does, which goes to them.
pub record Repeats (old new : OutputSet) (earlier : List Condition) (condition : Condition) (answer : Bool) : Type 0 where
  pub is : answer ≡ list_any (λ other. is_same_output other condition) earlier
  pub more : answer ≡ false → HasOutputs new (condition ∷ earlier)

abbrev pub IsRepeat : (old new : OutputSet) → Condition → Bool → Type 0
IsRepeat old new condition answer = (earlier : List Condition) → HasOutputs old earlier → Repeats old new earlier condition answer
