use Rattle.std.proofs.Common.{ℕ, List, ◌++◌, ap, ◌∙◌}
use Rattle.dbtg_script.specs.Printing.Texts.{schema_line}
use Rattle.dbtg_command.specs.Checking.{script_lines}
use Rattle.dbtg_command.proofs.TextsRead.{check_tells}
use Rattle.dbtg_command.proofs.check.check_known.Goals as goal

pub returns-clause-done : goal.returns-clause-done
returns-clause-done g c =
    let lists = c.args.known.now in
    let read = c.in_ok-push_each_script.ensures.read in
    let line = c.in_ok-push_schema_line.ensures ∙ ap (λ (xs : List ℕ). xs ++ schema_line lists) c.new-out.ensures.items in
    check_tells _ lists _ _ c.requires.read read.0
    (read.1 ∙ ap (λ (xs : List ℕ). xs ++ script_lines lists 1 read.0.texts) line)
