-- What tokens stand for. Source: this project's own.
use Rattle.std.specs.Prelude.{ℕ, List, Result, Ok, Err}
use Rattle.clvm_spec.specs.declared.scan_kind.ScanKind.{ScanKind}
use Rattle.clvm_spec.specs.Tokens as tokens
use Rattle.clvm_spec.specs.Numbers.{shortest_atom}
use Rattle.text_tokens.specs.declared.literals.Literal.{Literal}
use Rattle.text_tokens.specs.declared.literals.Literal.TheVariants as literal
use Rattle.text_tokens.specs.declared.fronts.Token.{Token}
use Rattle.text_tokens.specs.declared.fronts.Token.TheVariants as token
use Rattle.text_tokens.specs.declared.fronts.Front.{Front}
use Rattle.text_tokens.specs.declared.fronts.Front.TheVariants as front

-- the bytes of the atom
abbrev pub literal_bytes : Literal → List ℕ
literal_bytes (literal.Number n) = shortest_atom n
literal_bytes (literal.Hex bytes) = bytes
literal_bytes (literal.Text bytes) = bytes.now

abbrev pub meant : Token → tokens.Token
meant token.Opening = tokens.Opening
meant token.Closing = tokens.Closing
meant token.Point = tokens.Point
meant (token.Literal l) = tokens.Literal (literal_bytes l)
meant (token.Symbol name) = tokens.Symbol name.now

abbrev pub meant_word : Result Token ScanKind → Result tokens.Token ScanKind
meant_word (Ok t) = Ok (meant t)
meant_word (Err kind) = Err kind

abbrev pub meant_front : Front → tokens.Front
meant_front (front.Took t from rest) = tokens.Took (meant t) from.now rest.now
meant_front (front.Unread kind from) = tokens.Unread kind from.now
meant_front front.AtEnd = tokens.AtEnd
