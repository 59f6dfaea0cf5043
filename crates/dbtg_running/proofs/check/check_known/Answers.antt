use Rattle.std.proofs.Common.{List, ℕ, ◌++◌, map, ap, ◌∙◌}
use Rattle.dbtg_script.specs.Printing.Texts.{schema_line}
use Rattle.dbtg_program.specs.Reading.{program}
use Rattle.dbtg_running.specs.Checking.{program_lines}
use Rattle.dbtg_running.proofs.check.check_known.Goals as goal

pub returns-clause-done : goal.returns-clause-done
returns-clause-done g c =
    let lists = c.args.known.now in
    let read = c.in_ok-programs.ensures.read in
    let line = c.in_ok-push_schema_line.ensures ∙ ap (λ (xs : List ℕ). xs ++ schema_line lists) c.new-out.ensures.items in
    record {
      lists = lists;
      schema = c.requires.read;
      programs = read.0;
      is_text = c.in_ok-push_each_program_line.ensures ∙ ap (λ ps. c.push_schema_line.new.out.items ++ program_lines 1 ps) (c.as_slice.ensures.value ∙ read.1) ∙ ap (λ (xs : List ℕ). xs ++ program_lines 1 (map (program lists) read.0.texts)) line;
    }
