-- The first of some cells that is not held.
use Rattle.std.proofs.Common.{◌≡◌, refl, ◌∙◌, ap, true, false, cond, not, List, [], ◌∷◌, ◌++◌, Some, None, inl, inr}
use Rattle.std.specs.List.{list_any}
use Rattle.std.specs.Option.{option_or}
use Rattle.dbtg_cells.specs.declared.name.CellName.{CellName}
use Rattle.dbtg_cells.specs.Names.{name_eq}
use Rattle.dbtg_unit.specs.Hands.Hands.{Hands}
use Rattle.dbtg_unit.specs.Hands.Local.{holds}
use Rattle.dbtg_unit.proofs.Public.{In, holds_any}
use Rattle.dbtg_unit.specs.Hands.Needs.{first_missing}

-- of two lists
pub missing_append : (hands : Hands) (xs ys : List CellName) → first_missing hands (xs ++ ys) ≡ option_or (first_missing hands xs) (first_missing hands ys)
missing_append hands [] ys = refl
missing_append hands (x ∷ xs) ys =
    elim (not (list_any (λ e. name_eq x e.0) hands.cells)) as (λ b. cond b (Some x) (first_missing hands (xs ++ ys)) ≡ option_or (cond b (Some x) (first_missing hands xs)) (first_missing hands ys))
    [ true ↦ refl | false ↦ missing_append hands xs ys ]

-- where each cell is held none is missing
pub none_missing : (hands : Hands) (names : List CellName) → ((c : CellName) → In c names → holds hands.cells c ≡ true) → first_missing hands names ≡ None
none_missing hands [] h = refl
none_missing hands (c ∷ names) h =
    ap (λ b. cond (not b) (Some c) (first_missing hands names)) (holds_any hands.cells c ∙ h c (inl refl)) ∙ none_missing hands names (λ d i. h d (inr i))
