use Rattle.std.proofs.Common.{◌≡◌, ◌+◌, ◌++◌, ◌≤◌, drop, length, map}
use Rattle.dbtg_script.specs.Lines.{lines}
use Rattle.dbtg_program.specs.Reading.{line_of}
use Rattle.dbtg_program.specs.Sentences.{cut_lines}
use Rattle.dbtg_program.specs.Inside.Reading.{lines_verdict}
use Rattle.dbtg_program.proofs.reader.read_lines.Given as goal

abbrev pub invariant-loop-line : goal.invariant-loop-line
invariant-loop-line l = record {
  reached : lines_verdict l.text (length l.lines.items) l.number (lines l.left.rest.now) ≡ lines_verdict l.text 0 1 (lines l.bytes);
  stand : drop (length l.lines.items) l.text.sentences ≡ cut_lines l.number (lines l.left.rest.now);
  said : l.lines.items ++ map (line_of l.text) (drop (length l.lines.items) l.text.sentences) ≡ map (line_of l.text) l.text.sentences;
  in_range : l.number + length l.left.rest.now ≤ length l.bytes + 1;
}

abbrev pub decreases-loop-line : goal.decreases-loop-line
decreases-loop-line l = length l.left.rest.now
