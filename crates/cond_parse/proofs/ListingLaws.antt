-- Conditions in front of a listing.
use Rattle.std.proofs.Common.{◌≡◌, ℕ, ◌+◌, suc, List, [], ◌∷◌, ◌++◌, refl, ap, sym, ◌∙◌, add-one}
use Rattle.clvm_spec.specs.Tree.{Tree, Atom, Pair, nil}
use Rattle.clvm_tree.specs.Nodes.{IsAtom}
use Rattle.cond_spec.specs.declared.condition.Condition.{Condition}
use Rattle.cond_spec.specs.Conditions.{Reading, Reads, IsMalformed, IsUnknown, condition_of, Listing, Lists, MalformedAt, UnknownAt, behind, in_front, end_at, conditions_from}
use Rattle.cond_parse.specs.declared.fault.CondFault.{CondFault}
use Rattle.cond_parse.specs.declared.fault.CondFault.TheVariants.{Malformed, Unknown, OutOfMemory}
use Rattle.cond_parse.specs.Faults.{IsFaultAt, IsFirstFault}

abbrev pub in_front_of : List Condition → Listing → Listing
in_front_of [] others = others
in_front_of (c ∷ cs) others = behind c (in_front_of cs others)

one_more : (cs : List Condition) (c : Condition) (others : Listing) → in_front_of (cs ++ c ∷ []) others ≡ in_front_of cs (behind c others)
one_more [] c others = refl
one_more (d ∷ cs) c others = ap (behind d) (one_more cs c others)

at_end : (cs : List Condition) → in_front_of cs (Lists []) ≡ Lists cs
at_end [] = refl
at_end (c ∷ cs) = ap (behind c) (at_end cs)

malformed_stays : (cs : List Condition) (place : ℕ) → in_front_of cs (MalformedAt place) ≡ MalformedAt place
malformed_stays [] place = refl
malformed_stays (c ∷ cs) place = ap (behind c) (malformed_stays cs place)

unknown_stays : (cs : List Condition) (place : ℕ) → in_front_of cs (UnknownAt place) ≡ UnknownAt place
unknown_stays [] place = refl
unknown_stays (c ∷ cs) place = ap (behind c) (unknown_stays cs place)

module _ (cs : List Condition) (place : ℕ) (tree first rest : Tree) (all : Listing) (is : tree ≡ Pair first rest) (so : in_front_of cs (conditions_from place tree) ≡ all) where
  by_first : (reading : Reading) → condition_of first ≡ reading → in_front_of cs (in_front place reading (conditions_from (suc place) rest)) ≡ all
  by_first reading e =
      ap (λ r. in_front_of cs (in_front place r (conditions_from (suc place) rest))) (sym e) ∙ ap (λ t. in_front_of cs (conditions_from place t)) (sym is) ∙ so

  pub goes_on : (c : Condition) → condition_of first ≡ Reads c → in_front_of (cs ++ c ∷ []) (conditions_from (place + 1) rest) ≡ all
  goes_on c e =
      one_more cs c (conditions_from (place + 1) rest) ∙ ap (λ n. in_front_of cs (behind c (conditions_from n rest))) (add-one place) ∙ by_first (Reads c) e

  pub first_fault : (fault : CondFault) → IsFaultAt place (condition_of first) fault → IsFirstFault all fault
  first_fault (Malformed at) h = sym (by_first IsMalformed h.0) ∙ malformed_stays cs place ∙ ap MalformedAt (sym h.1)
  first_fault (Unknown at) h = sym (by_first IsUnknown h.0) ∙ unknown_stays cs place ∙ ap UnknownAt (sym h.1)
  first_fault OutOfMemory h = tt

pub ends : (cs : List Condition) (place : ℕ) (tree : Tree) (all : Listing) → tree ≡ nil → in_front_of cs (conditions_from place tree) ≡ all → all ≡ Lists cs
ends cs place tree all is so = sym so ∙ ap (λ t. in_front_of cs (conditions_from place t)) is ∙ at_end cs

other_end : (cs : List Condition) (place : ℕ) (bytes : List ℕ) → (Atom bytes ≡ nil → ⊥) → in_front_of cs (end_at place bytes) ≡ MalformedAt place
other_end cs place [] other = absurd (other refl)
other_end cs place (b ∷ bytes) other = malformed_stays cs place

pub ends_badly : (cs : List Condition) (place : ℕ) (tree : Tree) (all : Listing) → IsAtom tree → (tree ≡ nil → ⊥) → in_front_of cs (conditions_from place tree) ≡ all → all ≡ MalformedAt place
ends_badly cs place tree all atom other so =
    sym so ∙ ap (λ t. in_front_of cs (conditions_from place t)) atom.is ∙ other_end cs place atom.bytes (λ e. other (atom.is ∙ e))
