-- The schemas of the worked rows, and the numbers of their areas, record types and sets.
use Rattle.std.specs.Prelude.{ℕ, true, false, [], ◌∷◌, Some, None, codes}
use Rattle.dbtg_schema.specs.Lists.{Lists}
use Rattle.dbtg_schema.specs.declared.shape.RecordType.{RecordType}
use Rattle.dbtg_schema.specs.declared.shape.Picture.TheVariants.{Number, Text}
use Rattle.dbtg_schema.specs.declared.shape.Order.TheVariants.{Last, Next, Sorted}
use Rattle.dbtg_schema.specs.declared.shape.Duplicates.TheVariants.{Last as LastAmongEqual}
use Rattle.dbtg_schema.specs.declared.shape.Class.TheVariants.{MandatoryAutomatic, OptionalAutomatic, OptionalManual}

abbrev pub customer : RecordType
customer =
    record {
      name = codes "CUSTOMER";
      area = 0;
      items = record { name = codes "CNO"; picture = Number 4 } ∷ record { name = codes "CNAME"; picture = Text 8 } ∷ [];
      calc = Some (record { items = 0 ∷ []; duplicates_allowed = false });
    }

abbrev pub ordr : RecordType
ordr = record { name = codes "ORDR"; area = 0; items = record { name = codes "ONO"; picture = Number 4 } ∷ []; calc = None }

abbrev pub item : RecordType
item =
    record {
      name = codes "ITEM";
      area = 1;
      items = record { name = codes "PART"; picture = Text 4 } ∷ record { name = codes "QTY"; picture = Number 3 } ∷ [];
      calc = Some (record { items = 0 ∷ []; duplicates_allowed = true });
    }

abbrev pub card : Lists
card = record { name = codes "CARD"; areas = record { name = codes "MAIN" } ∷ []; types = customer ∷ []; sets = [] }

abbrev pub shop : Lists
shop =
    record {
      name = codes "SHOP";
      areas = record { name = codes "MAIN" } ∷ record { name = codes "SIDE" } ∷ [];
      types = customer ∷ ordr ∷ item ∷ [];
      sets =
          record { name = codes "HAS"; order = Last; owner = Some 0; members = record { rtype = 1; class = MandatoryAutomatic; key = None } ∷ [] }
          ∷ record { name = codes "LINES"; order = Sorted true LastAmongEqual; owner = Some 1; members = record { rtype = 2; class = OptionalAutomatic; key = Some 1 } ∷ [] }
          ∷ record { name = codes "WATCH"; order = Next; owner = None; members = record { rtype = 2; class = OptionalManual; key = None } ∷ [] }
          ∷ [];
    }

abbrev pub main : ℕ
main = 0

abbrev pub side : ℕ
side = 1

abbrev pub customers : ℕ
customers = 0

abbrev pub orders : ℕ
orders = 1

abbrev pub items : ℕ
items = 2

abbrev pub has : ℕ
has = 0

abbrev pub lines : ℕ
lines = 1

abbrev pub watch : ℕ
watch = 2
