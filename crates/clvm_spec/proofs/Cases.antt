-- How the cases by computation are written: trees by their text, fuel by what is used of it.
use Rattle.std.specs.Prelude.{◌≡◌, ℕ, ◌-◌, codes, unwrap_or, option_and_then}
use Prim.Native.String.{String}
use Rattle.std.specs.Result.{result_ok}
use Rattle.hex.specs.Hex.{decode_of}
use Rattle.clvm_spec.specs.declared.fuel.Fuel.{Fuel}
use Rattle.clvm_spec.specs.declared.fuel.Which.{Which}
use Rattle.clvm_spec.specs.declared.fuel.Which.TheVariants.{Cost}
use Rattle.clvm_spec.specs.Tree.{Tree, Atom}
use Rattle.clvm_spec.specs.Outcomes.{Why, Outcome, Done, Failed, Spent, Wide}
use Rattle.clvm_spec.specs.Evaluation.{run_outcome, fuel_of}
use Rattle.clvm_spec.specs.Spending.{fuel_less}
use Rattle.clvm_spec.specs.Reading.{tree_of}
use Rattle.clvm_spec.specs.Text.{Scanned, Scans, Unreadable, Unnamed, LeftOver, scanned}

-- what stands for a text that is none: no case has it as its value
abbrev pub unreadable_tree : Tree
unreadable_tree = Atom (codes "unreadable")

abbrev pub form : Scanned → Tree
form (Scans tree) = tree
form (Unreadable kind place) = unreadable_tree
form (Unnamed place) = unreadable_tree
form (LeftOver place) = unreadable_tree

abbrev pub tree : String → Tree
tree text = form (scanned (codes text))

-- the tree of a spelling in hexadecimal digits
abbrev pub spelled : String → Tree
spelled digits = unwrap_or (option_and_then tree_of (result_ok (decode_of (codes digits)))) unreadable_tree

abbrev pub ample : Fuel
ample = fuel_of 11_000_000_000

abbrev pub with_cost : ℕ → Fuel
with_cost cost = record ample { cost = cost }

abbrev pub with_pairs : ℕ → Fuel
with_pairs pairs = record ample { pairs = pairs }

abbrev pub with_bytes : ℕ → Fuel
with_bytes bytes = record ample { bytes = bytes }

abbrev pub with_depth : ℕ → Fuel
with_depth depth = record ample { depth = depth }

abbrev pub with_fuel : ℕ → ℕ → ℕ → ℕ → Fuel
with_fuel cost pairs bytes depth = record { cost = cost; pairs = pairs; bytes = bytes; depth = depth }

abbrev pub less : ℕ → ℕ → ℕ → Fuel → Fuel
less cost pairs bytes fuel = fuel_less (record { cost = cost; pairs = pairs; bytes = bytes }) fuel

abbrev pub run : String → String → Fuel → Outcome
run program env fuel = run_outcome (tree program) (tree env) fuel

-- with ample fuel: the value, and what is used of cost, pairs and bytes
abbrev pub gives : String → String → String → ℕ → ℕ → ℕ → Type 0
gives program env value cost pairs bytes = run program env ample ≡ Done (tree value) (less cost pairs bytes ample)

abbrev pub fails : String → String → Why → String → Type 0
fails program env why form = run program env ample ≡ Failed why (tree form)

abbrev pub wide : String → String → Type 0
wide program env = run program env ample ≡ Wide

abbrev pub spent : String → String → Fuel → Which → Type 0
spent program env fuel which = run program env fuel ≡ Spent which

-- with just this of each count: the value; and with one less of the cost: none
abbrev pub exactly : String → String → String → ℕ → ℕ → ℕ → Type 0
exactly program env value cost pairs bytes =
    (run program env (with_fuel cost pairs bytes 1) ≡ Done (tree value) (with_fuel 0 0 0 1)) × spent program env (with_fuel (cost - 1) pairs bytes 1) Cost
