use Rattle.dbtg_script.proofs.Reading.LineBehind.{is_read_behind}
use Rattle.dbtg_script.proofs.laws.a_line_behind_a_script_is_read.Goals as goal

pub returns : goal.returns
returns c = is_read_behind
