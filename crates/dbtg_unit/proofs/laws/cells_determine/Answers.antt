use Rattle.dbtg_unit.proofs.laws.cells_determine.Goals as goal
use Rattle.dbtg_unit.proofs.Database.Records.Determined as Determined

pub returns : goal.returns
returns c schema capacity db eb legal legal_too same = Determined.cells_determine schema capacity db eb legal legal_too same
