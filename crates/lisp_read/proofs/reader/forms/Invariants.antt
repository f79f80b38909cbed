use Rattle.std.proofs.Common.{◌≡◌, ◌≤◌, length}
use Rattle.clvm_spec.specs.Tokens.{token_of}
use Rattle.lisp_read.specs.Grammar.{place_in, forms_of}
use Rattle.lisp_read.specs.Laws.{after}
use Rattle.lisp_read.proofs.ReadLaws.{read_on}
use Rattle.lisp_read.proofs.reader.forms.Given as goal

abbrev pub invariant-tokens : goal.invariant-tokens
invariant-tokens l = record {
  within : length l.rest ≤ length l.text;
  same : forms_of l.number l.text ≡ after l.forms (read_on (place_in l.number l.text) l.lists.lists.items (token_of l.rest));
}

abbrev pub decreases-tokens : goal.decreases-tokens
decreases-tokens l = length l.rest
