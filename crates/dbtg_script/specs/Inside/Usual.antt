-- Words of usual forms, which are read without a list of their roles.
use Rattle.std.specs.Prelude.{◌≡◌, ℕ, ◌+◌, true, false, List, [], ◌∷◌, map, Option, Some, None, codes, ◌⊎◌}
use Rattle.std.specs.Str.{bytes_eq}
use Rattle.dbtg_schema.specs.Lists.{Lists}
use Rattle.dbtg_schema.specs.Texts.Forms.{labels}
use Rattle.dbtg_schema.specs.declared.shape.Calc.{Calc}
use Rattle.dbtg_schema.specs.declared.shape.Item.{Item}
use Rattle.dbtg_schema.specs.declared.shape.Picture.{Picture}
use Rattle.dbtg_schema.specs.Structure.{picture_of}
use Rattle.dbtg_cells.specs.declared.key.Value.{Value}
use Rattle.dbtg_unit.specs.declared.statement.Statement.{Statement}
use Rattle.dbtg_unit.specs.declared.statement.Suppress.{Suppress}
use Rattle.dbtg_script.specs.declared.left.Left.{Left}
use Rattle.dbtg_script.specs.declared.left.Left.TheVariants as left
use Rattle.dbtg_script.specs.Lookups.{item_named, set_named, type_named}
use Rattle.dbtg_script.specs.Reading.{verdict}
use Rattle.dbtg_script.specs.StatementGrammar.{fits, statement, value}
use Rattle.dbtg_script.specs.Statements.{statement_of}
use Rattle.dbtg_script.specs.Tokens.{Token, plain, equals, tokens, view}
use Rattle.dbtg_script.specs.Values.{blank, spelled}

-- the words that are left, of a line or of a list
abbrev pub words_left : Left → List Token
words_left (left.Line line) = tokens false line.rest.now
words_left (left.List words) = map view words.now

-- the words say this statement, without a fault
pub record AreSaid (schema : Lists) (ts : List Token) (s : Statement) : Type 0 where
  pub faultless : verdict schema [] statement ts ≡ None
  pub said : statement_of schema (labels fits statement ts) ≡ s

-- no current is suppressed
abbrev pub nothing : Suppress
nothing = record { types = false; areas = false; sets = 0 }

-- OF, the name of this set and SET
pub record IsOfSet (schema : Lists) (ts : List Token) (set : ℕ) : Type 0 where
  pub name : List ℕ
  pub words : ts ≡ plain (codes "OF") ∷ plain name ∷ plain (codes "SET") ∷ []
  pub cache : set_named schema name ≡ Some set

-- the words give this value to the item with this number, by its name, = and the value, and say no more
pub record IsOnlyGiven (schema : Lists) (r : ℕ) (ts : List Token) (i : ℕ) (v : Value) : Type 0 where
  pub name : List ℕ
  pub token : Token
  pub picture : Picture
  pub words : ts ≡ plain name ∷ equals ∷ token ∷ []
  pub cache : item_named schema r name ≡ Some i
  pub pictured : picture_of schema r i ≡ Some picture
  pub value_word : fits value token ≡ true
  pub value_is : spelled picture token ≡ Some v

-- r, the name of this record type, RECORD and USING come before the others
pub record IsCalcType (schema : Lists) (r : ℕ) (before after : List Token) : Type 0 where
  pub name : List ℕ
  pub words : before ≡ plain name ∷ plain (codes "RECORD") ∷ plain (codes "USING") ∷ after
  pub cache : type_named schema name ≡ Some r

-- the items of a CALC clause; none if there is none
abbrev pub calc_items : Option Calc → List ℕ
calc_items None = []
calc_items (Some calc) = calc.items

-- the words before the others give this value to the item, by its name, = and the value
pub record IsGiven (i : Item) (before after : List Token) (v : Value) : Type 0 where
  pub token : Token
  pub words : before ≡ plain i.name ∷ equals ∷ token ∷ after
  pub other : bytes_eq i.name (codes "SUPPRESS") ≡ false
  pub value_word : fits value token ≡ true
  pub value_is : spelled i.picture token ≡ Some v

-- they do, or no words come before the others, and it is the item's blank
abbrev pub IsAssigned : Item → List Token → List Token → Value → Type 0
IsAssigned i before after v = IsGiven i before after v ⊎ ((before ≡ after) × (v ≡ blank i.picture))

-- the words give these values to the items, of which the first has this number, in their order
abbrev pub AreAssigned : Lists → ℕ → ℕ → List Item → List Token → List Value → Type 0
AreAssigned schema r k [] ts vs = (ts ≡ []) × (vs ≡ [])
AreAssigned schema r k (i ∷ items) ts vs =
    (v : Value) × (rest : List Value) × (after : List Token) × (vs ≡ v ∷ rest) × (item_named schema r i.name ≡ Some k) × IsAssigned i ts after v × AreAssigned schema r (k + 1) items after rest
