use Rattle.std.proofs.Common.{◌≡◌, ◌∙◌, sym, ap, suc, List, [], ◌∷◌, length, arith, refl}
use Rattle.std.specs.List.{zip}
use Rattle.dbtg_unit.proofs.held.Held.cell_count.Goals as goal

zip_length : {X Y : Type 0} (xs : List X) (ys : List Y) → length ys ≡ length xs → length (zip xs ys) ≡ length xs
zip_length [] ys e = refl
zip_length (x ∷ xs) [] e = absurd (omega arith)
zip_length (x ∷ xs) (y ∷ ys) e = ap suc (zip_length xs ys (omega arith))

pub returns : goal.returns
returns c =
    c.len.ensures.value ∙ sym (zip_length c.self.inside.names.items c.self.inside.cells.items c.self.invariant.0)
    ∙ ap (λ h. length h.cells) c.self.view_is
