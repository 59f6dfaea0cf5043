-- Statements that a schema has.
-- s is a set, t and r record types, a an area, i an item, v a value, p a picture, n a length or a count.
use Rattle.std.specs.Prelude.{ℕ, zero, suc, pos, negsuc, ◌^◌, Bool, true, false, not, ◌&&◌, ◌==◌, nat_lt, nat_le, List, [], ◌∷◌, Option, Some, None, is_some, length, map, unwrap_or, slice_get}
use Rattle.std.specs.List.{list_any, list_all}
use Rattle.dbtg_schema.specs.Lists.{Lists}
use Rattle.dbtg_schema.specs.declared.shape.Member.{Member}
use Rattle.dbtg_schema.specs.declared.shape.Picture.{Picture}
use Rattle.dbtg_schema.specs.declared.shape.Picture.TheVariants.{Number, Text as TextPicture}
use Rattle.dbtg_cells.specs.declared.key.Value.{Value}
use Rattle.dbtg_cells.specs.declared.key.Value.TheVariants.{Num, Text}
use Rattle.dbtg_cells.specs.declared.limits.TheConstants.{LAST_GENERATION}
use Rattle.dbtg_unit.specs.declared.statement.Change.{Change}
use Rattle.dbtg_unit.specs.declared.statement.Suppress.{Suppress}
use Rattle.dbtg_unit.specs.declared.statement.Form.{Form}
use Rattle.dbtg_unit.specs.declared.statement.Form.TheVariants.{Key, CurrentOfUnit, CurrentOfType, CurrentOfSet, CurrentOfArea, InSet, InArea, OwnerOf, Calc, NextDuplicate, Sorted}
use Rattle.dbtg_unit.specs.declared.statement.Which.{Which}
use Rattle.dbtg_unit.specs.declared.statement.Which.TheVariants.{Nth}
use Rattle.dbtg_unit.specs.declared.statement.Statement.{Statement}
use Rattle.dbtg_unit.specs.declared.statement.Statement.TheVariants.{OpenArea, CloseArea, Find, Get, Store, Insert, Remove, Modify, Delete, Keep, Free}
use Rattle.dbtg_schema.specs.Lookups.{some_and}
use Rattle.dbtg_schema.specs.Structure.{area_of, calc_of, is_system, member_clause, picture_of, pictures}

-- printable ASCII without the double quote
abbrev pub is_text_byte : ℕ → Bool
is_text_byte b = nat_le 32 b && nat_le b 126 && not (b == 34)

-- the value has the picture
abbrev pub value_fits : Picture → Value → Bool
value_fits (Number n) (Num v) = nat_lt v (10 ^ n)
value_fits (TextPicture n) (Text bytes) = length bytes == n && list_all is_text_byte bytes
value_fits (Number n) (Text bytes) = false
value_fits (TextPicture n) (Num v) = false

-- as many values as pictures, each with its picture
abbrev pub values_fit : List Picture → List Value → Bool
values_fit [] [] = true
values_fit (p ∷ ps) (v ∷ vs) = value_fits p v && values_fit ps vs
values_fit [] (v ∷ vs) = false
values_fit (p ∷ ps) [] = false

-- a record type of the schema
abbrev pub is_type : Lists → ℕ → Bool
is_type schema t = nat_lt t (length schema.types)

-- a set of the schema
abbrev pub is_set : Lists → ℕ → Bool
is_set schema s = nat_lt s (length schema.sets)

-- an area of the schema
abbrev pub is_area : Lists → ℕ → Bool
is_area schema a = nat_lt a (length schema.areas)

-- none, or one that passes
abbrev pub if_named : {X : Type 0} → (X → Bool) → Option X → Bool
if_named test None = true
if_named test (Some x) = test x

-- n is from 1 to 999999, from the front or from the end
abbrev pub which_fits : Which → Bool
which_fits (Nth (pos zero)) = false
which_fits (Nth (pos (suc n))) = nat_lt n 999999
which_fits (Nth (negsuc n)) = nat_lt n 999999
which_fits _ = true

-- the value has the picture of this member's key item
abbrev pub member_key_fits : Lists → Value → Member → Bool
member_key_fits schema v m = some_and (λ i. some_and (λ p. value_fits p v) (picture_of schema m.rtype i)) m.key

-- the value has the picture of the set's keys
abbrev pub key_fits : Lists → ℕ → Value → Bool
key_fits schema s v = some_and (λ set. list_all (member_key_fits schema v) set.members) (slice_get schema.sets s)

-- the pictures of items of a record type
abbrev pub pictures_at : Lists → ℕ → List ℕ → List Picture
pictures_at schema r items = map (λ i. unwrap_or (picture_of schema r i) (Number 0)) items

-- the FIND names what the schema has
abbrev pub form_fits : Lists → Form → Bool
form_fits schema (Key k) = is_type schema k.rtype && nat_lt 0 k.number && nat_le k.number 999999 && nat_lt 0 k.generation && nat_le k.generation LAST_GENERATION
form_fits schema CurrentOfUnit = true
form_fits schema (CurrentOfType r) = is_type schema r
form_fits schema (CurrentOfSet s) = is_set schema s
form_fits schema (CurrentOfArea a) = is_area schema a
form_fits schema (InSet which r s) = is_set schema s && which_fits which && if_named (λ t. is_some (member_clause schema s t)) r
form_fits schema (InArea which r a) = is_area schema a && which_fits which && if_named (λ t. is_type schema t && area_of schema t == a) r
form_fits schema (OwnerOf s) = is_set schema s && not (is_system schema s)
form_fits schema (Calc r values) = some_and (λ calc. values_fit (pictures_at schema r calc.items) values) (calc_of schema r)
form_fits schema (NextDuplicate r) = is_some (calc_of schema r)
form_fits schema (Sorted s v) = key_fits schema s v

-- no item is named twice
abbrev pub distinct_items : List Change → Bool
distinct_items [] = true
distinct_items (c ∷ changes) = not (list_any (λ d. d.item == c.item) changes) && distinct_items changes

-- an item of the record type, and a value with its picture
abbrev pub change_fits : Lists → ℕ → Change → Bool
change_fits schema t c = some_and (λ p. value_fits p c.value) (picture_of schema t c.item)

-- only sets of the schema
abbrev pub suppress_fits : Lists → Suppress → Bool
suppress_fits schema suppress = nat_lt suppress.sets (2 ^ length schema.sets)

-- the statement names what the schema has, with values that have their pictures
abbrev pub fits : Lists → Statement → Bool
fits schema (OpenArea a mode) = is_area schema a
fits schema (CloseArea a) = is_area schema a
fits schema (Find suppress form) = form_fits schema form && suppress_fits schema suppress
fits schema (Get r) = if_named (is_type schema) r
fits schema (Store t items suppress) = is_type schema t && values_fit (pictures schema t) items && suppress_fits schema suppress
fits schema (Insert s) = is_set schema s
fits schema (Remove s) = is_set schema s
fits schema (Modify t changes) =
    is_type schema t && distinct_items changes && list_all (change_fits schema t) changes
fits schema (Delete option) = true
fits schema Keep = true
fits schema (Free all) = true
