use Rattle.std.proofs.Common.{◌≡◌, map, length, true}
use Rattle.dbtg_schema.specs.Sound.{IsSound}
use Rattle.dbtg_script.specs.Statements.{script}
use Rattle.dbtg_step.specs.Laws.{scripts_fit}
use Rattle.dbtg_command.specs.Sources.{ReadScripts}
use Rattle.dbtg_replay.proofs.scripts.read_scripts_with_texts.Given as goal

abbrev pub invariant-loop-i : goal.invariant-loop-i
invariant-loop-i g l = record {
  so_far : (read : ReadScripts (g.S.Source.holds l.source) l.schema l.i) × (l.scripts.statements ≡ map (script l.schema) read.texts) × (l.scripts.texts ≡ read.texts);
  many : length l.scripts.statements ≡ l.i;
  fit : IsSound l.schema → scripts_fit l.schema l.scripts.statements ≡ true;
}
