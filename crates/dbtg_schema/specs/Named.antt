-- Names, as they are spelled, of all that a schema names.
use Rattle.std.specs.Prelude.{◌≡◌, true}
use Rattle.std.specs.List.{All}
use Rattle.dbtg_schema.specs.Lists.{Lists}
use Rattle.dbtg_schema.specs.Texts.Spelling.{is_name}

-- the schema, its areas, its record types and their items, and its sets have names that are spelled as names
pub record IsNamed (schema : Lists) : Type 0 where
  pub name : is_name schema.name ≡ true
  pub areas : All (λ a. is_name a.name ≡ true) schema.areas
  pub types : All (λ r. is_name r.name ≡ true) schema.types
  pub items : All (λ r. All (λ i. is_name i.name ≡ true) r.items) schema.types
  pub sets : All (λ s. is_name s.name ≡ true) schema.sets
