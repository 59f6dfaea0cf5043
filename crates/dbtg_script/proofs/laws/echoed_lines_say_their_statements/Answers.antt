use Rattle.dbtg_script.proofs.Printing.EchoedLines.{lines_say}
use Rattle.dbtg_script.proofs.laws.echoed_lines_say_their_statements.Goals as goal

pub returns : goal.returns
returns c = lines_say
