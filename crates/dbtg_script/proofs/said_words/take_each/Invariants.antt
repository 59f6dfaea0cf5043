use Rattle.std.proofs.Common.{◌≡◌, ◌++◌, [], drop, map}
use Rattle.dbtg_schema.specs.Texts.Forms.{labels}
use Rattle.dbtg_script.specs.StatementGrammar.{fits, statement}
use Rattle.dbtg_script.specs.Tokens.{view}
use Rattle.dbtg_script.specs.Inside.Automaton.{rest_of}
use Rattle.dbtg_script.specs.Reading.{verdict}
use Rattle.dbtg_script.proofs.said_words.take_each.Given as goal

abbrev pub invariant-loop-token : goal.invariant-loop-token
invariant-loop-token l = record {
  schema : l.words.schema ≡ l.fn.words.schema;
  reached : verdict l.fn.words.schema l.words.words (rest_of l.state) (map view (drop l.token-index l.tokens)) ≡ verdict l.fn.words.schema [] statement (map view l.tokens);
  labelled : l.words.words ++ labels fits (rest_of l.state) (map view (drop l.token-index l.tokens)) ≡ labels fits statement (map view l.tokens);
}
