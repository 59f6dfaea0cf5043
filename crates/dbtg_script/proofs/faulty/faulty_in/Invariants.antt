use Rattle.std.proofs.Common.{◌≡◌, [], false, length}
use Rattle.dbtg_script.specs.FaultyWord.{faulty_from}
use Rattle.dbtg_script.specs.StatementGrammar.{statement}
use Rattle.dbtg_script.specs.Tokens.{tokens}
use Rattle.dbtg_script.specs.Inside.Automaton.{rest_of}
use Rattle.dbtg_script.proofs.faulty.faulty_in.Given as goal

-- the word is the one from here on
abbrev pub invariant-loop-token : goal.invariant-loop-token
invariant-loop-token l = record {
  schema : l.words.schema ≡ l.schema;
  reached : faulty_from l.schema l.words.words (rest_of l.state) (tokens false l.left.rest.now) ≡ faulty_from l.schema [] statement (tokens false l.line);
}

abbrev pub decreases-loop-token : goal.decreases-loop-token
decreases-loop-token l = length l.left.rest.now
