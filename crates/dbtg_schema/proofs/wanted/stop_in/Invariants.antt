use Rattle.std.proofs.Common.{◌≡◌, length}
use Rattle.dbtg_schema.specs.Inside.Automaton.{rest_of}
use Rattle.dbtg_schema.specs.Texts.Forms.{left_behind}
use Rattle.dbtg_schema.specs.Texts.SchemaGrammar.{fits, schema}
use Rattle.dbtg_schema.specs.Texts.Words.{text_words}
use Rattle.dbtg_schema.proofs.Forms.Seen.{seen}
use Rattle.dbtg_schema.proofs.wanted.stop_in.Given as goal

-- the form is the one that is wanted from here on
abbrev pub invariant-loop-word : goal.invariant-loop-word
invariant-loop-word l = left_behind fits (rest_of l.state) (seen l.scanner.line l.scanner.rest.now) ≡ left_behind fits schema (text_words l.fn.text)

abbrev pub decreases-loop-word : goal.decreases-loop-word
decreases-loop-word l = length l.scanner.rest.now
