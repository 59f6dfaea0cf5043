use Rattle.std.proofs.Common.{◌≡◌, ◌+◌, ◌++◌, ◌≤◌, drop}
use Rattle.dbtg_script.specs.Printing.WordTexts.{line_of, run_words, onto_run, runs}
use Rattle.dbtg_script.proofs.Printing.WordRuns.{line_from}
use Rattle.dbtg_script.proofs.word_texts.push_line.Given as goal

abbrev pub invariant-loop-next : goal.invariant-loop-next
invariant-loop-next l = record {
  written : l.out.items ++ line_from l.one l.count (drop l.next-index l.rest) ≡ l.initial.out.items ++ line_of (run_words (onto_run l.fn.first (runs l.rest)));
  few : l.count ≤ l.next-index + 1;
}
