use Rattle.std.proofs.Common.{List, sym, ap, subst, ◌∙◌}
use Rattle.dbtg_schema.specs.declared.queries.Labelled as code
use Rattle.dbtg_schema.specs.Texts.Forms.{Derives}
use Rattle.dbtg_schema.specs.Texts.SchemaGrammar.{fits, schema}
use Rattle.dbtg_schema.specs.Texts.SchemaLists.{schema_of}
use Rattle.dbtg_schema.specs.Inside.Views.{views}
use Rattle.dbtg_schema.specs.Named.{IsNamed}
use Rattle.dbtg_schema.proofs.Sound.NamesSpelled.{has_names}
use Rattle.dbtg_schema.proofs.schema.Schema.read.Goals as goal

pub returns-clause-derived : goal.returns-clause-derived
returns-clause-derived c = subst (Derives fits schema) c.in_ok-words.ensures.words c.in_ok-words.ensures.derived

pub returns-clause-named : goal.returns-clause-named
returns-clause-named c =
    let same = c.in_ok-from_words.ensures ∙ ap (λ (ws : List code.Labelled). schema_of (views ws)) c.deref.ensures.value in
    subst IsNamed (sym same) (has_names (views c.in_ok-words.words.items) c.in_ok-words.ensures.derived)

pub returns-clause-at_once : goal.returns-clause-at_once
returns-clause-at_once c = λ w ws fault is wrong. c.in_ok-words.ensures.at_once w ws fault is wrong
