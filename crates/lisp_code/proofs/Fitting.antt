-- When each function that a code calls has some property.
use Rattle.std.proofs.Common.{◌≡◌, ℕ, true, List, [], ◌∷◌, ◌++◌}
use Rattle.lisp_spec.specs.ModuleFaults.{is_among}
use Rattle.lisp_code.specs.Codes.{Code, Constant, Path, Other, Piece, Operates, Chooses, Calls, Parts, NoPart, Part, functions_called, called_by_piece, called_by_all}
use Rattle.lisp_code.proofs.Settling.{among_front, among_behind, among_first}

module _ (P : List ℕ → Type 0) where
  abbrev mutual
    pub Fits : Code → Type 0
    Fits (Constant tree) = Unit {0}
    Fits (Path path) = Unit {0}
    Fits (Other piece) = PieceFits piece

    pub PieceFits : Piece → Type 0
    PieceFits (Operates code operands) = AllFit operands
    PieceFits (Chooses test second third) = Fits test × Fits second × Fits third
    PieceFits (Calls name operands) = P name × Fits operands

    pub AllFit : Parts → Type 0
    AllFit NoPart = Unit {0}
    AllFit (Part first more) = Fits first × AllFit more

  abbrev Each : List (List ℕ) → Type 0
  Each names = (name : List ℕ) → is_among name names ≡ true → P name

  front : (xs ys : List (List ℕ)) → Each (xs ++ ys) → Each xs
  front xs ys each name c = each name (among_front name xs ys c)

  behind : (xs ys : List (List ℕ)) → Each (xs ++ ys) → Each ys
  behind xs ys each name c = each name (among_behind name xs ys c)

  mutual
    pub fits : (code : Code) → Each (functions_called code) → Fits code
    fits (Constant tree) each = tt
    fits (Path path) each = tt
    fits (Other piece) each = piece_fits piece each

    piece_fits : (piece : Piece) → Each (called_by_piece piece) → PieceFits piece
    piece_fits (Operates code operands) each = all_fit operands each
    piece_fits (Chooses test second third) each =
        let later = behind (functions_called test) (functions_called second ++ functions_called third) each in (
          fits test (front (functions_called test) (functions_called second ++ functions_called third) each),
          fits second (front (functions_called second) (functions_called third) later),
          fits third (behind (functions_called second) (functions_called third) later),
        )
    piece_fits (Calls name operands) each = (each name (among_first name (functions_called operands)), fits operands (behind (name ∷ []) (functions_called operands) each))

    all_fit : (parts : Parts) → Each (called_by_all parts) → AllFit parts
    all_fit NoPart each = tt
    all_fit (Part first more) each = (fits first (front (functions_called first) (called_by_all more) each), all_fit more (behind (functions_called first) (called_by_all more) each))
