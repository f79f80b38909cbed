-- How a shape is stored where a type of the program is seen as one. Source: this project's own.
use Rattle.std.specs.Prelude.{ℕ, List, refl}
use Rattle.std.specs.Coded.{Coded, code_by, coded×, coded_list, coded_ℕ}
use Rattle.clvm_spec.specs.Tree.{Tree}
use Rattle.clvm_spec.specs.TreeCode.{tree_code}
use Rattle.pool_spec.specs.Shape.{Shape}

abbrev Bytes : Type 0
Bytes = List ℕ

abbrev bytes_code : Coded Bytes
bytes_code = coded_list coded_ℕ

-- two hashes and a number: what a coin is, and what a proof is
abbrev HashesAndNumber : Type 0
HashesAndNumber = Bytes × (Bytes × ℕ)

abbrev hashes_and_number_code : Coded HashesAndNumber
hashes_and_number_code = coded× bytes_code (coded× bytes_code coded_ℕ)

abbrev Parts : Type 0
Parts = HashesAndNumber × ((Bytes × Bytes) × (HashesAndNumber × Tree))

abbrev parts_code : Coded Parts
parts_code = coded× hashes_and_number_code (coded× (coded× bytes_code bytes_code) (coded× hashes_and_number_code tree_code))

abbrev parts_of : Shape → Parts
parts_of s = (
  (s.spend.coin.parent.bytes, (s.spend.coin.puzzle_hash.bytes, s.spend.coin.amount)),
  (
    (s.spend.puzzle, s.spend.solution),
    ((s.solution.proof.parent.bytes, (s.solution.proof.inner.bytes, s.solution.proof.amount)), s.solution.last),
  ),
)

abbrev of_parts : Parts → Shape
of_parts p = record {
  spend = record {
    coin = record { parent = record { bytes = p.0.0 }; puzzle_hash = record { bytes = p.0.1.0 }; amount = p.0.1.1 };
    puzzle = p.1.0.0;
    solution = p.1.0.1;
  };
  solution = record {
    proof = record { parent = record { bytes = p.1.1.0.0 }; inner = record { bytes = p.1.1.0.1.0 }; amount = p.1.1.0.1.1 };
    last = p.1.1.1;
  };
}

abbrev pub shape_code : Coded Shape
shape_code = code_by Parts parts_code parts_of of_parts (λ s. refl)
