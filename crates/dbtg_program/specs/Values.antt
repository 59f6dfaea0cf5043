-- Values as a program has them, and its fields.
use Rattle.std.specs.Prelude.{ℕ, ◌+◌, ◌-◌, ◌^◌, Bool, false, ◌&&◌, ◌==◌, nat_le, nat_lt, List, [], ◌∷◌, ◌++◌, length, map, Option, Some, None, if◌then◌else◌}
use Rattle.std.specs.List.{flat_map}
use Rattle.dbtg_schema.specs.Lists.{Lists}
use Rattle.dbtg_schema.specs.declared.shape.Item.{Item}
use Rattle.dbtg_schema.specs.declared.shape.RecordType.{RecordType}
use Rattle.dbtg_schema.specs.declared.shape.Picture.{Picture}
use Rattle.dbtg_schema.specs.declared.shape.Picture.TheVariants.{Number, Text as TextPicture}
use Rattle.dbtg_cells.specs.declared.key.Value.{Value}
use Rattle.dbtg_cells.specs.declared.key.Value.TheVariants.{Num, Text}

-- a byte before a text without trailing spaces
abbrev pub in_front_of : ℕ → List ℕ → List ℕ
in_front_of b [] = if b == 32 then [] else b ∷ []
in_front_of b (c ∷ cs) = b ∷ c ∷ cs

-- a text without trailing spaces
abbrev pub stripped : List ℕ → List ℕ
stripped [] = []
stripped (b ∷ bs) = in_front_of b (stripped bs)

-- a value of the database, as a field holds it
abbrev pub as_field : Value → Value
as_field (Num n) = Num n
as_field (Text t) = Text (stripped t)

-- the value of a field before any sentence: 0, or the empty text
abbrev pub empty_value : Picture → Value
empty_value (Number n) = Num 0
empty_value (TextPicture n) = Text []

-- the picture holds the value: no number above its greatest or of more than 18 digits, no longer text
abbrev pub can_hold : Picture → Value → Bool
can_hold (Number n) (Num k) = nat_lt k (10 ^ 18) && nat_lt k (10 ^ n)
can_hold (TextPicture n) (Text t) = nat_le (length t) n
can_hold (Number n) (Text t) = false
can_hold (TextPicture n) (Num k) = false

-- what a field has after ADD x; none if that has more than 18 digits
abbrev pub added : Value → Value → Option Value
added (Num x) (Num f) = if nat_lt (f + x) (10 ^ 18) then Some (Num (f + x)) else None
added (Num x) (Text f) = None
added (Text x) f = None

-- what a field has after SUBTRACT x; none if that is below 0
abbrev pub subtracted : Value → Value → Option Value
subtracted (Num x) (Num f) = if nat_le x f then Some (Num (f - x)) else None
subtracted (Num x) (Text f) = None
subtracted (Text x) f = None

-- the field of an item of a record type, named r.i
abbrev pub field_of : RecordType → Item → Item
field_of t i = record { name = t.name ++ 46 ∷ i.name; picture = i.picture }

-- the fields of a record type
abbrev pub fields_of : RecordType → List Item
fields_of t = map (field_of t) t.items

-- the fields of a program: the items of all record types, type after type, and then its counters
abbrev pub fields_with : Lists → List Item → List Item
fields_with schema counters = flat_map fields_of schema.types ++ counters

-- for each of these record types the number of its first field, if the first type's is k
abbrev pub records_from : ℕ → List RecordType → List ℕ
records_from k [] = []
records_from k (t ∷ ts) = k ∷ records_from (k + length t.items) ts
