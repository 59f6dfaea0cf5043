use Rattle.std.proofs.Common.{◌≡◌, map, drop}
use Rattle.dbtg_schema.specs.Texts.Forms.{start_with, starts}
use Rattle.dbtg_script.specs.Tokens.{view}
use Rattle.dbtg_script.specs.StatementGrammar.{fits}
use Rattle.dbtg_script.specs.Inside.Automaton.{rest_of, view_start}
use Rattle.dbtg_script.proofs.automaton.follow.Given as goal

abbrev pub invariant-loop-start : goal.invariant-loop-start
invariant-loop-start l = start_with fits (view l.token) (map view_start (drop l.start-index l.start-items)) ≡ start_with fits (view l.token) (starts (rest_of l.fn.state))
