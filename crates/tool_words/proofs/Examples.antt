-- What some lists of words are, worked out.
use Rattle.std.proofs.Common.{◌≡◌, [], ◌∷◌, Some, None, refl, codes}
use Rattle.tool_words.specs.Rows.{Row, IsFlag, IsNumber, IsOther, said_in}
use Rattle.tool_words.specs.Commands.{command_of}
use Rattle.tool_words.specs.Evals.{cost_of}
use Rattle.tool_words.specs.declared.said.Command.TheVariants.{Session, Hash}

session : command_of (codes "session" ∷ []) ≡ Some Session
session = refl

hash : command_of (codes "hash" ∷ []) ≡ Some Hash
hash = refl

no_word : command_of [] ≡ None
no_word = refl

another_name : command_of (codes "hashes" ∷ []) ≡ None
another_name = refl

other_case : command_of (codes "Hash" ∷ []) ≡ None
other_case = refl

more_words : command_of (codes "hash" ∷ codes "80" ∷ []) ≡ None
more_words = refl

two_hyphens : command_of (codes "hash" ∷ codes "--" ∷ []) ≡ None
two_hyphens = refl

help : command_of (codes "session" ∷ codes "--help" ∷ []) ≡ None
help = refl

-- a row with two numbers, a flag and one other word
one : Row
one = record { flags = codes "text" ∷ []; numbers = codes "cost" ∷ codes "lanes" ∷ []; least = 1; most = 1 }

env : said_in one (codes "80" ∷ []) ≡ Some (IsOther (codes "80") ∷ [])
unfolding one
env = refl

all_of_it : said_in one (codes "--lanes=2" ∷ codes "80" ∷ codes "--cost" ∷ codes "5" ∷ codes "--text" ∷ [])
    ≡ Some (IsNumber (codes "lanes") (codes "2") ∷ IsOther (codes "80") ∷ IsNumber (codes "cost") (codes "5") ∷ IsFlag (codes "text") ∷ [])
unfolding one
all_of_it = refl

-- the next word is the number's
takes_the_next : said_in one (codes "--cost" ∷ codes "80" ∷ codes "5" ∷ []) ≡ Some (IsNumber (codes "cost") (codes "80") ∷ IsOther (codes "5") ∷ [])
unfolding one
takes_the_next = refl

nothing_is_left : said_in one (codes "--cost" ∷ codes "80" ∷ []) ≡ None
unfolding one
nothing_is_left = refl

no_digit : said_in one (codes "--cost=" ∷ codes "80" ∷ []) ≡ None
unfolding one
no_digit = refl

value_of_a_flag : said_in one (codes "--text=x" ∷ codes "80" ∷ []) ≡ None
unfolding one
value_of_a_flag = refl

abbreviated : said_in one (codes "--tex" ∷ codes "80" ∷ []) ≡ None
unfolding one
abbreviated = refl

flag_twice : said_in one (codes "--text" ∷ codes "80" ∷ codes "--text" ∷ []) ≡ None
unfolding one
flag_twice = refl

number_twice : said_in one (codes "--cost" ∷ codes "1" ∷ codes "80" ∷ codes "--cost=1" ∷ []) ≡ None
unfolding one
number_twice = refl

no_value : said_in one (codes "80" ∷ codes "--cost" ∷ []) ≡ None
unfolding one
no_value = refl

env_with_hyphen : said_in one (codes "-80" ∷ []) ≡ None
unfolding one
env_with_hyphen = refl

hyphen_alone : said_in one (codes "-" ∷ []) ≡ None
unfolding one
hyphen_alone = refl

hyphens_alone : said_in one (codes "--" ∷ codes "80" ∷ []) ≡ None
unfolding one
hyphens_alone = refl

one_hyphen : said_in one (codes "-text" ∷ codes "80" ∷ []) ≡ None
unfolding one
one_hyphen = refl

hyphen_as_value : said_in one (codes "--cost" ∷ codes "-5" ∷ codes "80" ∷ []) ≡ None
unfolding one
hyphen_as_value = refl

two_words : said_in one (codes "80" ∷ codes "81" ∷ []) ≡ None
unfolding one
two_words = refl

twenty_digits : said_in one (codes "--cost" ∷ codes "00000000000000000005" ∷ codes "80" ∷ [])
    ≡ Some (IsNumber (codes "cost") (codes "00000000000000000005") ∷ IsOther (codes "80") ∷ [])
unfolding one
twenty_digits = refl

twenty_one_digits : said_in one (codes "--cost" ∷ codes "000000000000000000005" ∷ codes "80" ∷ []) ≡ None
unfolding one
twenty_one_digits = refl

-- an empty word is a word
empty_word : said_in one ([] ∷ []) ≡ Some (IsOther [] ∷ [])
unfolding one
empty_word = refl

eval_alone : command_of (codes "eval" ∷ []) ≡ None
eval_alone = refl

eval_of_two : command_of (codes "eval" ∷ codes "80" ∷ codes "80" ∷ []) ≡ None
eval_of_two = refl

no_cost : cost_of None ≡ Some 11_000_000_000
no_cost = refl

most : cost_of (Some (codes "1000000000000")) ≡ Some 1_000_000_000_000
most = refl

past_most : cost_of (Some (codes "1000000000001")) ≡ None
past_most = refl

zeros : cost_of (Some (codes "00000000000000000000")) ≡ Some 0
zeros = refl

twenty_nines : cost_of (Some (codes "99999999999999999999")) ≡ None
twenty_nines = refl
