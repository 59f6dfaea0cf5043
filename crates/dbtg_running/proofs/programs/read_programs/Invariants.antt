use Rattle.std.proofs.Common.{◌≡◌, map}
use Rattle.dbtg_program.specs.Reading.{program}
use Rattle.dbtg_running.specs.Reading.{ReadPrograms}
use Rattle.dbtg_running.proofs.programs.read_programs.Given as goal

abbrev pub invariant-loop-i : goal.invariant-loop-i
invariant-loop-i g l = record {
  so_far : (read : ReadPrograms (g.S.Source.holds l.source) l.schema l.i) × (l.programs.list.items ≡ map (program l.schema) read.texts) × (l.programs.texts.items ≡ read.texts);
}
