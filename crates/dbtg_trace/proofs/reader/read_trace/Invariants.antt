use Rattle.std.proofs.Common.{◌≡◌, ◌+◌, ◌++◌, ◌≤◌, [], Some, length, true}
use Rattle.std.specs.List.{list_all}
use Rattle.dbtg_schema.specs.Lookups.{first}
use Rattle.dbtg_schema.specs.Sound.{IsSound}
use Rattle.dbtg_unit.specs.Database.Statements.Fits.{fits}
use Rattle.dbtg_script.specs.Lines.{lines}
use Rattle.dbtg_trace.specs.declared.fault.Fault.{Fault}
use Rattle.dbtg_trace.specs.Inside.AnswerCache.{AreCached}
use Rattle.dbtg_trace.specs.Inside.Reading.{lines_verdict}
use Rattle.dbtg_trace.specs.Parts.{is_unit}
use Rattle.dbtg_trace.specs.Reading.{faults_at_once, lines_faults_at_once}
use Rattle.dbtg_trace.specs.Traces.{entries_of, trace}
use Rattle.dbtg_trace.proofs.reader.read_trace.Given as goal

abbrev pub invariant-loop-line : goal.invariant-loop-line
invariant-loop-line l = record {
  reached : lines_verdict l.schema l.fn.units (length l.so_far.entries.items) l.number (lines l.left.rest.now) ≡ lines_verdict l.schema l.fn.units 0 1 (lines l.fn.text);
  said : l.so_far.entries.items ++ entries_of l.schema l.fn.units l.number (lines l.left.rest.now) ≡ trace l.schema l.fn.units l.fn.text;
  fitting : IsSound l.schema → list_all (λ t. fits l.schema t.statement) l.so_far.entries.items ≡ true;
  named : list_all (λ t. is_unit l.fn.units t.unit) l.so_far.entries.items ≡ true;
  at_once : (f : Fault) → first (faults_at_once l.schema l.fn.units l.fn.text) ≡ Some f → (l.so_far.entries.items ≡ []) × (first (lines_faults_at_once l.schema l.fn.units l.number (lines l.left.rest.now)) ≡ Some f);
  kept : AreCached l.schema l.so_far.entries.items l.so_far.cache.places l.so_far.answers.places;
  in_range : l.number + length l.left.rest.now ≤ length l.fn.text + 1;
}

abbrev pub decreases-loop-line : goal.decreases-loop-line
decreases-loop-line l = length l.left.rest.now
