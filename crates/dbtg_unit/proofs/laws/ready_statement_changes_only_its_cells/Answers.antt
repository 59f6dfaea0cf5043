use Rattle.dbtg_unit.proofs.laws.ready_statement_changes_only_its_cells.Goals as goal
use Rattle.dbtg_unit.proofs.Hands.Untouched.LocalReady.{changes_only_its_cells, legal_after}

pub returns : goal.returns
returns c schema capacity db hands unit statement schema_is of_schema within fit agrees ready cell free =
    changes_only_its_cells schema capacity db unit hands statement agrees ready (legal_after schema capacity db unit hands schema_is of_schema within statement fit agrees) cell free
