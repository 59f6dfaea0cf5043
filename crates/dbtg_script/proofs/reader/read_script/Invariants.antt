use Rattle.std.proofs.Common.{◌≡◌, ◌+◌, ◌++◌, ◌≤◌, [], Some, length}
use Rattle.dbtg_schema.specs.Lookups.{first}
use Rattle.dbtg_script.specs.declared.fault.Fault.{Fault}
use Rattle.dbtg_script.specs.Lines.{lines}
use Rattle.dbtg_script.specs.Reading.{lines_faults_at_once, script_faults_at_once}
use Rattle.dbtg_script.specs.LineCache.{IsCached}
use Rattle.dbtg_script.specs.Inside.Reading.{lines_verdict}
use Rattle.dbtg_script.specs.Statements.{script, statements_of}
use Rattle.dbtg_script.proofs.reader.read_script.Given as goal

abbrev pub invariant-loop-line : goal.invariant-loop-line
invariant-loop-line l = record {
  same : l.words.schema ≡ l.schema;
  reached : lines_verdict l.schema (length l.statements.items) l.number (lines l.left.rest.now) ≡ lines_verdict l.schema 0 1 (lines l.fn.text);
  said : l.statements.items ++ statements_of l.schema (lines l.left.rest.now) ≡ script l.schema l.fn.text;
  cache : IsCached l.schema l.statements.items l.cache.places;
  at_once : (f : Fault) → first (script_faults_at_once l.schema l.fn.text) ≡ Some f → (l.statements.items ≡ []) × (first (lines_faults_at_once l.schema l.number (lines l.left.rest.now)) ≡ Some f);
  in_range : l.number + length l.left.rest.now ≤ length l.fn.text + 1;
}

abbrev pub decreases-loop-line : goal.decreases-loop-line
decreases-loop-line l = length l.left.rest.now
