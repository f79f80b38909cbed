-- How the rows of lines are written: a line with hashes in it, and what is told of the lines of an input.
use Rattle.std.specs.Prelude.{◌≡◌, ℕ, List, [], ◌∷◌, ◌++◌, replicate, Result, Ok, Err, codes}
use Rattle.std.specs.List.{flat_map}
use Prim.Native.String.{String}
use Rattle.lisp_spec.specs.Inclusion.{Texts}
use Rattle.session_spec.specs.LineFaults.{faulty_line_text}
use Rattle.session_spec.specs.Sessions.{Session, Faulty, no_texts, session_of, replay_of}

-- a text of 64 equal digits
abbrev pub digits : ℕ → List ℕ
digits d = replicate 64 d

abbrev pub zeros : List ℕ
zeros = digits 48

-- the tree hash of the program 01
abbrev pub one : List ℕ
one = codes "9dcf97a184f32623d11a73124ceb99a5709b083721e878a16d78f596718ba7b2"

-- a session line with these members behind the genesis data of 11
abbrev pub session_line : String → List ℕ
session_line more = codes "{\"session\":1,\"genesis\":\"" ++ digits 49 ++ codes "\"" ++ codes more ++ codes "}"

abbrev pub first : List ℕ
first = session_line ",\"seconds\":0"

-- a coin as an object: the parent of zeros, this puzzle hash, and this amount
abbrev pub coin_of : List ℕ → String → List ℕ
coin_of hash amount = codes "{\"parent_coin_info\":\"" ++ zeros ++ codes "\",\"puzzle_hash\":\"" ++ hash ++ codes "\",\"amount\":" ++ codes amount ++ codes "}"

abbrev pub coin_line : List ℕ → String → List ℕ
coin_line hash amount = codes "{\"coin\":" ++ coin_of hash amount ++ codes "}"

-- an admission of one spend of a coin of 1,000 with these further members
abbrev pub spend_with : String → List ℕ
spend_with more = codes "{\"do\":\"admit\",\"bundle\":{\"coin_spends\":[{\"coin\":" ++ coin_of one "1000" ++ codes more ++ codes "}]}}"

abbrev pub input_of : List (List ℕ) → List ℕ
input_of lines = flat_map (λ line. line ++ 10 ∷ []) lines

-- what is told of an input
abbrev pub told : Result Session Faulty → List ℕ
told (Ok session) = codes "good"
told (Err faulty) = faulty_line_text faulty.line faulty.what

abbrev pub tells_with : Texts → List (List ℕ) → List (List ℕ) → String → Type 0
tells_with texts given lines line = told (session_of texts given (input_of lines)) ≡ codes line

abbrev pub tells : List (List ℕ) → String → Type 0
tells lines line = tells_with no_texts [] lines line

-- the same of one line alone, and of one line behind the session line
abbrev pub alone : List ℕ → String → Type 0
alone line text = tells (line ∷ []) text

abbrev pub behind : String → String → Type 0
behind line text = tells (first ∷ codes line ∷ []) text
