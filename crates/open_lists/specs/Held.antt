-- The forms that open lists hold, the outermost list's first: what the contracts of the parser's steps say of them. This
-- project's own.
use Rattle.std.specs.Prelude.{List, [], ◌∷◌, ◌++◌, Option, Some, None}
use Rattle.open_lists.specs.declared.list.Reach.{Reach}
use Rattle.open_lists.specs.declared.list.Reach.TheVariants.{Elements, Dot, Last}
use Rattle.open_lists.specs.declared.list.OpenList.{OpenList}

module _ {F P : Type 0} where
  -- the form behind the dot
  abbrev pub last_held : Reach F P → List F
  last_held Elements = []
  last_held (Dot dot) = []
  last_held (Last dot form) = form ∷ []

  abbrev pub forms_held : OpenList F P → List F
  forms_held list = list.forms.items ++ last_held list.reach

  abbrev pub held : List (OpenList F P) → List F
  held [] = []
  held (list ∷ inner) = forms_held list ++ held inner

-- the form that is handed out, where one is
abbrev pub handed : {F : Type 0} → Option F → List F
handed None = []
handed (Some form) = form ∷ []
