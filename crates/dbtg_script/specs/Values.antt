-- Values, as words spell them for a picture.
use Rattle.std.specs.Prelude.{ℕ, ◌-◌, ◌^◌, Bool, true, false, ◌&&◌, nat_le, nat_lt, List, [], ◌++◌, length, Option, Some, None, if◌then◌else◌, unwrap_or, option_and_then, replicate}
use Rattle.dbtg_schema.specs.declared.shape.Picture.{Picture}
use Rattle.dbtg_schema.specs.declared.shape.Picture.TheVariants.{Number, Text as TextPicture}
use Rattle.dbtg_cells.specs.declared.key.Value.{Value}
use Rattle.dbtg_cells.specs.declared.key.Value.TheVariants.{Num, Text}
use Rattle.dbtg_script.specs.Tokens.{Token, plain, equals, literal}
use Rattle.dbtg_script.specs.Printing.Spelling.{number}

-- a text, padded with spaces to this length
abbrev pub filled : ℕ → List ℕ → List ℕ
filled n t = t ++ replicate (n - length t) 32

-- a number for a number item, a text for a text item
abbrev pub is_of_kind : Picture → Token → Bool
is_of_kind (Number n) (plain t) = true
is_of_kind (TextPicture n) (literal t) = true
is_of_kind (Number n) equals = false
is_of_kind (Number n) (literal t) = false
is_of_kind (TextPicture n) equals = false
is_of_kind (TextPicture n) (plain t) = false

-- the value that a word spells for a picture: no number above the greatest or of more than 18 digits, no longer text
abbrev pub spelled : Picture → Token → Option Value
spelled (Number n) (plain t) = if nat_lt (number t) (10 ^ 18) && nat_lt (number t) (10 ^ n) then Some (Num (number t)) else None
spelled (TextPicture n) (literal t) = if nat_le (length t) n then Some (Text (filled n t)) else None
spelled (Number n) equals = None
spelled (Number n) (literal t) = None
spelled (TextPicture n) equals = None
spelled (TextPicture n) (plain t) = None

-- the value of an item that is not named: 0, or all spaces
abbrev pub blank : Picture → Value
blank (Number n) = Num 0
blank (TextPicture n) = Text (filled n [])

-- the value that a word gives for a picture, if there is a word
abbrev pub value_for : Picture → Option Token → Value
value_for p t = unwrap_or (option_and_then (spelled p) t) (blank p)

-- the number; 0 if it is above the greatest that is allowed
abbrev pub up_to : ℕ → ℕ → ℕ
up_to most n = if nat_le n most then n else 0
