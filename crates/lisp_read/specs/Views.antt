-- A form of the program as definitions see it: its boxes are seen as the forms in them. Source: this project's own.
use Rattle.lisp_read.specs.Forms as forms
use Rattle.lisp_read.specs.declared.form.Form.{Form}
use Rattle.lisp_read.specs.declared.form.Form.TheVariants.{Atom, Symbol, Pair}
use Rattle.lisp_read.specs.declared.form.Parts.{Parts}
use Rattle.lisp_read.specs.declared.form.Parts.TheVariants as parts

abbrev pub form_of : Form → forms.Form
form_of (Atom place bytes) = forms.Atom place bytes
form_of (Symbol place name) = forms.Symbol place name
form_of (Pair place first rest) = forms.Pair place first rest

-- the form that parts make
abbrev pub whole_of : Parts → forms.Form
whole_of (parts.Atom place bytes) = forms.Atom place bytes
whole_of (parts.Symbol place name) = forms.Symbol place name
whole_of (parts.Pair place first rest) = forms.Pair place first rest
