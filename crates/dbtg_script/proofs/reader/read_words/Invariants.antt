use Rattle.std.proofs.Common.{◌≡◌, ◌++◌, [], Some, false, length}
use Rattle.dbtg_schema.specs.Texts.Forms.{labels}
use Rattle.dbtg_script.specs.StatementGrammar.{fits, statement}
use Rattle.dbtg_script.specs.Tokens.{tokens}
use Rattle.dbtg_script.specs.Inside.Automaton.{rest_of}
use Rattle.dbtg_schema.specs.Lookups.{first}
use Rattle.dbtg_script.specs.declared.fault.Cause.{Cause}
use Rattle.dbtg_script.specs.Reading.{first_word_faults, verdict}
use Rattle.dbtg_script.proofs.reader.read_words.Given as goal

abbrev pub invariant-loop-token : goal.invariant-loop-token
invariant-loop-token l = record {
  schema : l.words.schema ≡ l.fn.words.schema;
  reached : verdict l.fn.words.schema l.words.words (rest_of l.state) (tokens false l.left.rest.now) ≡ verdict l.fn.words.schema [] statement (tokens false l.fn.line);
  labelled : l.words.words ++ labels fits (rest_of l.state) (tokens false l.left.rest.now) ≡ labels fits statement (tokens false l.fn.line);
  first : (c : Cause) → first (first_word_faults l.fn.words.schema (tokens false l.fn.line)) ≡ Some c → (l.words.words ≡ []) × (rest_of l.state ≡ statement) × (tokens false l.left.rest.now ≡ tokens false l.fn.line);
}

abbrev pub decreases-loop-token : goal.decreases-loop-token
decreases-loop-token l = length l.left.rest.now
