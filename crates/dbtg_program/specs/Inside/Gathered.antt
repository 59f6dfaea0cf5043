-- What is known of a text before its sentences are judged.
use Rattle.std.specs.Prelude.{◌≡◌, ◌≤◌, ℕ, List, Option, drop, length}
use Rattle.std.specs.Str.{bytes_eq}
use Rattle.indexmap.specs.IndexMap.{get_by}
use Rattle.dbtg_program.specs.States.{beginning_with}
use Rattle.dbtg_program.specs.Sentences.{Text, counters_of, field_named, fields_in, paragraph_at}
use Rattle.dbtg_program.specs.Values.{records_from}
use Rattle.dbtg_program.specs.declared.places.Places.{Places}
use Rattle.dbtg_program.specs.declared.text.Names.{Names}

-- the place to which a name leads
abbrev pub leads_to : Places → List ℕ → Option ℕ
leads_to places name = get_by (λ key. bytes_eq name key.items) places.numbers

-- the fields of a text, of which the counters are the last, and the state at its beginning
pub record AreNames (text : Text) (names : Names) : Type 0 where
  pub fields_are : names.fields.items.items ≡ fields_in text
  pub firsts_are : names.fields.firsts.items ≡ records_from 0 text.schema.types
  pub within : names.first_counter ≤ length names.fields.items.items
  pub counters_are : drop names.first_counter names.fields.items.items ≡ counters_of text.sentences
  pub fields_lead : (name : List ℕ) → leads_to names.places name ≡ field_named (fields_in text) name
  pub beginning_is : names.beginning ≡ beginning_with (fields_in text)

-- the paragraphs and the names of a text
pub record IsGathered (text : Text) (paragraphs : Places) (names : Names) : Type 0 where
  pub paragraphs_lead : (name : List ℕ) → leads_to paragraphs name ≡ paragraph_at text.sentences name
  pub names_are : AreNames text names
