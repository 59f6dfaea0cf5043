-- How the indexes of a schema lead from its names to their numbers.
use Rattle.std.specs.Prelude.{◌≡◌, ℕ, List, Option, map}
use Rattle.std.specs.List.{AllZip}
use Rattle.std.specs.Str.{bytes_eq}
use Rattle.indexmap.specs.IndexMap.{get_by}
use Rattle.dbtg_schema.specs.Structure.{place_of}
use Rattle.dbtg_schema.specs.declared.shape.Area.{Area}
use Rattle.dbtg_schema.specs.declared.shape.RecordType.{RecordType}
use Rattle.dbtg_schema.specs.declared.shape.SetType.{SetType}
use Rattle.dbtg_schema.specs.declared.index.NameIndex.{NameIndex}
use Rattle.dbtg_schema.specs.declared.index.SchemaIndex.{SchemaIndex}

-- where an index leads from a name
abbrev pub leads_to : NameIndex → List ℕ → Option ℕ
leads_to index name = get_by (λ key. bytes_eq name key.items) index.numbers

-- an index leads from each name to its first place among these
abbrev pub IsIndexOf : NameIndex → List (List ℕ) → Type 0
IsIndexOf index names = (name : List ℕ) → leads_to index name ≡ place_of name names

-- an index for the items of each of these record types
abbrev pub AreItemIndexes : List NameIndex → List RecordType → Type 0
AreItemIndexes indexes types = AllZip (λ index r. IsIndexOf index (map (λ i. i.name) r.items)) indexes types

-- each index leads to the names of its list
pub record NamesAreIndexed (index : SchemaIndex) (areas : List Area) (types : List RecordType) (sets : List SetType) : Type 0 where
  pub areas_lead : IsIndexOf index.areas (map (λ a. a.name) areas)
  pub types_lead : IsIndexOf index.types (map (λ r. r.name) types)
  pub sets_lead : IsIndexOf index.sets (map (λ s. s.name) sets)
  pub items_lead : AreItemIndexes index.items types

-- the indexes of a schema with these lists
unfoldable pub IsSchemaIndex : SchemaIndex → List Area → List RecordType → List SetType → Type 0
IsSchemaIndex = NamesAreIndexed
