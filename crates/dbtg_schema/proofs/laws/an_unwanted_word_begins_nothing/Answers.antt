use Rattle.dbtg_schema.specs.Texts.SchemaGrammar.{fits}
use Rattle.dbtg_schema.proofs.Forms.Wanted.{no_way_on}
use Rattle.dbtg_schema.proofs.laws.an_unwanted_word_begins_nothing.Goals as goal

pub returns : goal.returns
returns c = no_way_on fits
