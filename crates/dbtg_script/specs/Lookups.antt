-- Names of a schema, and the numbers that they stand for.
use Rattle.std.specs.Prelude.{ℕ, List, Option, map, option_and_then, unwrap_or, slice_get}
use Rattle.dbtg_schema.specs.Lists.{Lists}
use Rattle.dbtg_schema.specs.Lookups.{first}
use Rattle.dbtg_schema.specs.Structure.{place_of, item_list, picture_of}
use Rattle.dbtg_schema.specs.declared.shape.Picture.{Picture}

-- the number of the area with this name
abbrev pub area_named : Lists → List ℕ → Option ℕ
area_named schema name = place_of name (map (λ a. a.name) schema.areas)

-- the number of the record type with this name
abbrev pub type_named : Lists → List ℕ → Option ℕ
type_named schema name = place_of name (map (λ r. r.name) schema.types)

-- the number of the set with this name
abbrev pub set_named : Lists → List ℕ → Option ℕ
set_named schema name = place_of name (map (λ s. s.name) schema.sets)

-- the number of the item with this name in record type r
abbrev pub item_named : Lists → ℕ → List ℕ → Option ℕ
item_named schema r name = place_of name (map (λ i. i.name) (item_list schema r))

-- the number of the area with this name; 0 for an unknown name
abbrev pub area_no : Lists → List ℕ → ℕ
area_no schema name = unwrap_or (area_named schema name) 0

-- the same for a record type
abbrev pub type_no : Lists → List ℕ → ℕ
type_no schema name = unwrap_or (type_named schema name) 0

-- the same for a set
abbrev pub set_no : Lists → List ℕ → ℕ
set_no schema name = unwrap_or (set_named schema name) 0

-- the same for an item of record type r
abbrev pub item_no : Lists → ℕ → List ℕ → ℕ
item_no schema r name = unwrap_or (item_named schema r name) 0

-- the picture of an item of record type r
abbrev pub item_picture : Lists → ℕ → List ℕ → Option Picture
item_picture schema r name = option_and_then (λ i. picture_of schema r i) (item_named schema r name)

-- the picture of the keys of a sorted set, all of which are alike
abbrev pub sort_picture : Lists → ℕ → Option Picture
sort_picture schema s = option_and_then (λ set. option_and_then (λ m. option_and_then (λ i. picture_of schema m.rtype i) m.key) (first set.members)) (slice_get schema.sets s)
