use Rattle.dbtg_program.proofs.FieldsFit.{fields_hold}
use Rattle.dbtg_program.proofs.laws.fields_hold_their_values.Goals as goal

pub returns : goal.returns
returns c = fields_hold
