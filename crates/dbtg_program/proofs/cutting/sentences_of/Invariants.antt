use Rattle.std.proofs.Common.{◌≡◌, ◌+◌, ◌++◌, ◌≤◌, length, map}
use Rattle.dbtg_script.specs.Lines.{lines}
use Rattle.dbtg_program.specs.Sentences.{cut_lines, sentences_of}
use Rattle.dbtg_program.specs.Inside.Views.{view_holding}
use Rattle.dbtg_program.proofs.cutting.sentences_of.Given as goal

abbrev pub invariant-loop-line : goal.invariant-loop-line
invariant-loop-line l = record {
  cut : map view_holding l.sentences.items ++ cut_lines l.number (lines l.left.rest.now) ≡ sentences_of l.text;
  in_range : l.number + length l.left.rest.now ≤ length l.text + 1;
}

abbrev pub decreases-loop-line : goal.decreases-loop-line
decreases-loop-line l = length l.left.rest.now
