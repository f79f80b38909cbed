-- CLVM's forms don't keep the places of lists.
use Rattle.std.proofs.Common.{◌≡◌, ℕ, zero, suc, Bool, true, false, List, length, refl, ◌∙◌, ap}
use Rattle.clvm_spec.specs.Tokens.{Opening, Closing, Point, Literal, Symbol, Front, Took, Unread, AtEnd, token_of}
use Rattle.clvm_spec.specs.Grammar.{Parses, Breaks, InList, form_at, behind, with_rest, list_at, list_within, list_from}
use Rattle.clvm_spec.specs.Text.{Named, ParsedTree, clvm}

abbrev AreFree : InList Named (List ℕ) → Type 0
AreFree list = (depth : ℕ) (p q : List ℕ) (begun : Bool) (text : List ℕ) → list depth p begun text ≡ list depth q begun text

free_behind : (p q : List ℕ) (form : Named) (parsed : ParsedTree) → behind clvm p form parsed ≡ behind clvm q form parsed
free_behind p q form (Parses forms rest) = refl
free_behind p q form (Breaks kind unknown at) = refl

free_rest : (list : InList Named (List ℕ)) (depth : ℕ) (p q : List ℕ) (first : ParsedTree) → AreFree list → with_rest clvm list depth p first ≡ with_rest clvm list depth q first
free_rest list depth p q (Parses form rest) all = ap (behind clvm p form) (all depth p q true rest) ∙ free_behind p q form (list depth q true rest)
free_rest list depth p q (Breaks kind unknown at) all = refl

free_at : (list : InList Named (List ℕ)) (depth : ℕ) (p q : List ℕ) (begun : Bool) (front : Front) → AreFree list → list_at clvm list depth p begun front ≡ list_at clvm list depth q begun front
free_at list depth p q begun (Took Closing from rest) all = refl
free_at list depth p q true (Took Point from rest) all = refl
free_at list depth p q false (Took Point from rest) all = refl
free_at list depth p q begun (Took Opening from rest) all = free_rest list depth p q (form_at clvm list depth (Took Opening from rest)) all
free_at list depth p q begun (Took (Literal bytes) from rest) all = free_rest list depth p q (form_at clvm list depth (Took (Literal bytes) from rest)) all
free_at list depth p q begun (Took (Symbol name) from rest) all = free_rest list depth p q (form_at clvm list depth (Took (Symbol name) from rest)) all
free_at list depth p q begun (Unread kind from) all = refl
free_at list depth p q begun AtEnd all = refl

free_within : (bound : ℕ) → AreFree (list_within clvm bound)
free_within zero depth p q begun text = refl
free_within (suc bound) depth p q begun text = free_at (list_within clvm bound) depth p q begun (token_of text) (free_within bound)

pub places_are_free : (depth : ℕ) (p q : List ℕ) (begun : Bool) (text : List ℕ) → list_from clvm depth p begun text ≡ list_from clvm depth q begun text
places_are_free depth p q begun text = free_within (suc (length text)) depth p q begun text
