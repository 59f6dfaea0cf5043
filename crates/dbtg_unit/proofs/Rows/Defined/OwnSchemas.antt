-- Further schemas of the worked rows, with the numbers of their areas, record types and sets.
use Rattle.std.specs.Prelude.{ℕ, true, false, [], ◌∷◌, Some, None, codes}
use Rattle.dbtg_schema.specs.Lists.{Lists}
use Rattle.dbtg_schema.specs.declared.shape.Picture.TheVariants.{Number, Text}
use Rattle.dbtg_schema.specs.declared.shape.Order.TheVariants.{First, Last, Next, Prior, Sorted}
use Rattle.dbtg_schema.specs.declared.shape.Duplicates.TheVariants.{First as FirstAmongEqual, Last as LastAmongEqual, NotAllowed}
use Rattle.dbtg_schema.specs.declared.shape.Class.TheVariants.{MandatoryAutomatic, MandatoryManual, OptionalAutomatic, OptionalManual}

abbrev pub shelf : Lists
shelf =
    record {
      name = codes "SHELF";
      areas = record { name = codes "HALL" } ∷ [];
      types =
          record { name = codes "SHELF"; area = 0; items = record { name = codes "SNO"; picture = Number 2 } ∷ []; calc = None }
          ∷ record { name = codes "BOOK"; area = 0; items = record { name = codes "RANK"; picture = Number 2 } ∷ []; calc = None }
          ∷ [];
      sets =
          record { name = codes "IN-FRONT"; order = First; owner = Some 0; members = record { rtype = 1; class = OptionalAutomatic; key = None } ∷ [] }
          ∷ record { name = codes "AT-END"; order = Last; owner = Some 0; members = record { rtype = 1; class = OptionalAutomatic; key = None } ∷ [] }
          ∷ record { name = codes "BEHIND"; order = Next; owner = Some 0; members = record { rtype = 1; class = OptionalAutomatic; key = None } ∷ [] }
          ∷ record { name = codes "AHEAD"; order = Prior; owner = Some 0; members = record { rtype = 1; class = OptionalAutomatic; key = None } ∷ [] }
          ∷ record { name = codes "UP-FIRST"; order = Sorted true FirstAmongEqual; owner = Some 0; members = record { rtype = 1; class = OptionalAutomatic; key = Some 0 } ∷ [] }
          ∷ record { name = codes "UP-LAST"; order = Sorted true LastAmongEqual; owner = Some 0; members = record { rtype = 1; class = OptionalAutomatic; key = Some 0 } ∷ [] }
          ∷ record { name = codes "UP-ONLY"; order = Sorted true NotAllowed; owner = Some 0; members = record { rtype = 1; class = OptionalManual; key = Some 0 } ∷ [] }
          ∷ record { name = codes "DOWN-FIRST"; order = Sorted false FirstAmongEqual; owner = Some 0; members = record { rtype = 1; class = OptionalAutomatic; key = Some 0 } ∷ [] }
          ∷ record { name = codes "DOWN-LAST"; order = Sorted false LastAmongEqual; owner = Some 0; members = record { rtype = 1; class = OptionalAutomatic; key = Some 0 } ∷ [] }
          ∷ record { name = codes "DOWN-ONLY"; order = Sorted false NotAllowed; owner = Some 0; members = record { rtype = 1; class = OptionalManual; key = Some 0 } ∷ [] }
          ∷ [];
    }

abbrev pub hall : ℕ
hall = 0

abbrev pub shelves : ℕ
shelves = 0

abbrev pub books : ℕ
books = 1

abbrev pub in_front : ℕ
in_front = 0

abbrev pub at_end : ℕ
at_end = 1

abbrev pub behind : ℕ
behind = 2

abbrev pub ahead : ℕ
ahead = 3

abbrev pub up_first : ℕ
up_first = 4

abbrev pub up_last : ℕ
up_last = 5

abbrev pub up_only : ℕ
up_only = 6

abbrev pub down_first : ℕ
down_first = 7

abbrev pub down_last : ℕ
down_last = 8

abbrev pub down_only : ℕ
down_only = 9

abbrev pub mixed : Lists
mixed =
    record {
      name = codes "MIXED";
      areas = record { name = codes "YARD" } ∷ [];
      types =
          record { name = codes "BIN"; area = 0; items = record { name = codes "BNO"; picture = Number 2 } ∷ []; calc = None }
          ∷ record { name = codes "RED"; area = 0; items = record { name = codes "RNO"; picture = Number 2 } ∷ []; calc = None }
          ∷ record { name = codes "BLUE"; area = 0; items = record { name = codes "BLNO"; picture = Number 2 } ∷ []; calc = None }
          ∷ [];
      sets =
          record { name = codes "CONTENT"; order = Last; owner = Some 0; members = record { rtype = 1; class = OptionalAutomatic; key = None } ∷ record { rtype = 2; class = OptionalAutomatic; key = None } ∷ [] }
          ∷ [];
    }

abbrev pub yard : ℕ
yard = 0

abbrev pub bins : ℕ
bins = 0

abbrev pub reds : ℕ
reds = 1

abbrev pub blues : ℕ
blues = 2

abbrev pub content : ℕ
content = 0

abbrev pub tree : Lists
tree =
    record {
      name = codes "TREE";
      areas = record { name = codes "WOOD" } ∷ [];
      types =
          record { name = codes "ROOT"; area = 0; items = record { name = codes "RNO"; picture = Number 2 } ∷ []; calc = None }
          ∷ record { name = codes "BRANCH"; area = 0; items = record { name = codes "BNO"; picture = Number 2 } ∷ []; calc = None }
          ∷ record { name = codes "LEAF"; area = 0; items = record { name = codes "LNO"; picture = Number 2 } ∷ []; calc = None }
          ∷ [];
      sets =
          record { name = codes "GROWS"; order = Last; owner = Some 0; members = record { rtype = 1; class = MandatoryAutomatic; key = None } ∷ [] }
          ∷ record { name = codes "BEARS"; order = Last; owner = Some 1; members = record { rtype = 2; class = OptionalAutomatic; key = None } ∷ [] }
          ∷ record { name = codes "SHEDS"; order = Last; owner = Some 0; members = record { rtype = 2; class = OptionalManual; key = None } ∷ [] }
          ∷ record { name = codes "BINDS"; order = Last; owner = Some 1; members = record { rtype = 2; class = MandatoryManual; key = None } ∷ [] }
          ∷ [];
    }

abbrev pub wood : ℕ
wood = 0

abbrev pub roots : ℕ
roots = 0

abbrev pub branches : ℕ
branches = 1

abbrev pub leaves : ℕ
leaves = 2

abbrev pub grows : ℕ
grows = 0

abbrev pub bears : ℕ
bears = 1

abbrev pub sheds : ℕ
sheds = 2

abbrev pub binds : ℕ
binds = 3

abbrev pub desk : Lists
desk =
    record {
      name = codes "DESK";
      areas = record { name = codes "ROOM" } ∷ [];
      types =
          record { name = codes "DESK"; area = 0; items = record { name = codes "DNO"; picture = Number 2 } ∷ []; calc = Some (record { items = 0 ∷ []; duplicates_allowed = false }) }
          ∷ record { name = codes "NOTE"; area = 0; items = record { name = codes "NNO"; picture = Number 2 } ∷ record { name = codes "WORD"; picture = Text 2 } ∷ []; calc = Some (record { items = 0 ∷ 1 ∷ []; duplicates_allowed = true }) }
          ∷ record { name = codes "TAG"; area = 0; items = record { name = codes "TNO"; picture = Number 2 } ∷ record { name = codes "HUE"; picture = Number 2 } ∷ []; calc = Some (record { items = 0 ∷ []; duplicates_allowed = false }) }
          ∷ [];
      sets =
          record { name = codes "ON-TOP"; order = Prior; owner = Some 0; members = record { rtype = 1; class = OptionalAutomatic; key = None } ∷ [] }
          ∷ record { name = codes "BY-WORD"; order = Sorted false NotAllowed; owner = None; members = record { rtype = 1; class = OptionalManual; key = Some 1 } ∷ [] }
          ∷ record { name = codes "BY-HUE"; order = Sorted true NotAllowed; owner = None; members = record { rtype = 2; class = OptionalAutomatic; key = Some 1 } ∷ [] }
          ∷ record { name = codes "SHOWS"; order = Prior; owner = Some 0; members = record { rtype = 2; class = OptionalAutomatic; key = None } ∷ [] }
          ∷ [];
    }

abbrev pub room : ℕ
room = 0

abbrev pub desks : ℕ
desks = 0

abbrev pub notes : ℕ
notes = 1

abbrev pub tags : ℕ
tags = 2

abbrev pub on_top : ℕ
on_top = 0

abbrev pub by_word : ℕ
by_word = 1

abbrev pub by_hue : ℕ
by_hue = 2

abbrev pub shows : ℕ
shows = 3
