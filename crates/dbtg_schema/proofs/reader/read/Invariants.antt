use Rattle.std.proofs.Common.{◌≡◌, ◌++◌, [], length}
use Rattle.dbtg_schema.specs.Texts.Words.{last_line, text_words}
use Rattle.dbtg_schema.specs.Texts.Forms.{labels}
use Rattle.dbtg_schema.specs.Texts.SchemaGrammar.{fits, schema}
use Rattle.dbtg_schema.specs.Inside.Automaton.{rest_of}
use Rattle.dbtg_schema.specs.Inside.Views.{views}
use Rattle.dbtg_schema.specs.Inside.Reading.{verdict}
use Rattle.dbtg_schema.specs.Texts.Reading.{RefusedAtOnce}
use Rattle.dbtg_schema.proofs.Forms.Seen.{seen}
use Rattle.dbtg_schema.proofs.reader.read.Given as goal

abbrev pub invariant-loop-word : goal.invariant-loop-word
invariant-loop-word l = record {
  reached : verdict (last_line l.fn.text) (views l.words.items) (rest_of l.state) (seen l.scanner.line l.scanner.rest.now) ≡ verdict (last_line l.fn.text) [] schema (text_words l.fn.text);
  labelled : views l.words.items ++ labels fits (rest_of l.state) (seen l.scanner.line l.scanner.rest.now) ≡ labels fits schema (text_words l.fn.text);
  first : RefusedAtOnce l.fn.text ((views l.words.items ≡ []) × (rest_of l.state ≡ schema) × (seen l.scanner.line l.scanner.rest.now ≡ text_words l.fn.text));
}

abbrev pub decreases-loop-word : goal.decreases-loop-word
decreases-loop-word l = length l.scanner.rest.now
