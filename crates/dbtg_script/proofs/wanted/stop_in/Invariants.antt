use Rattle.std.proofs.Common.{◌≡◌, ◌++◌, false, length}
use Rattle.dbtg_schema.specs.Texts.Forms.{labels, left_behind}
use Rattle.dbtg_script.specs.Inside.Automaton.{rest_of}
use Rattle.dbtg_script.specs.StatementGrammar.{fits, statement}
use Rattle.dbtg_script.specs.Tokens.{tokens}
use Rattle.dbtg_script.proofs.wanted.stop_in.Given as goal

-- the form, and the words with their roles, are those from here on
abbrev pub invariant-loop-token : goal.invariant-loop-token
invariant-loop-token l = record {
  schema : l.words.schema ≡ l.fn.words.schema;
  left : left_behind fits (rest_of l.state) (tokens false l.left.rest.now) ≡ left_behind fits statement (tokens false l.fn.line);
  labelled : l.words.words ++ labels fits (rest_of l.state) (tokens false l.left.rest.now) ≡ labels fits statement (tokens false l.fn.line);
}

abbrev pub decreases-loop-token : goal.decreases-loop-token
decreases-loop-token l = length l.left.rest.now
