use Rattle.dbtg_script.proofs.Printing.UnitText.{printed_unit}
use Rattle.dbtg_script.proofs.laws.different_units_print_differently.Goals as goal

pub returns : goal.returns
returns c = printed_unit
