-- Scripts as programs.
use Rattle.std.specs.Prelude.{◌≡◌, refl, [], ◌∷◌, Some, None, false}
use Rattle.dbtg_unit.specs.declared.statement.Statement.TheVariants.{Get, Keep, Free}
use Rattle.dbtg_unit.specs.declared.unit.Cause.TheVariants.{NoCurrentOfRunUnit}
use Rattle.dbtg_unit.proofs.Rows.Defined.Schemas.{card}
use Rattle.dbtg_program.specs.declared.program.End.TheVariants.{Stop}
use Rattle.dbtg_program.specs.Going.{within}
use Rattle.dbtg_program.specs.Scripts.{of_script}
use Rattle.dbtg_program.proofs.Rows.Words.{done, no, played}

-- each statement is made once, also after a refusal
whole : played card (of_script (Get None ∷ Keep ∷ Get None ∷ [])) (no NoCurrentOfRunUnit ∷ done ∷ done ∷ []) ≡ record { statements = Get None ∷ Keep ∷ Get None ∷ []; values = []; end = Some Stop }
unfolding within
whole = refl

-- after the first answer the second statement is due
begun : played card (of_script (Get None ∷ Keep ∷ Free false ∷ [])) (done ∷ []) ≡ record { statements = Get None ∷ Keep ∷ []; values = []; end = None }
unfolding within
begun = refl

empty : played card (of_script []) [] ≡ record { statements = []; values = []; end = Some Stop }
unfolding within
empty = refl
