-- Names and pictures, as they are spelled.
use Rattle.std.specs.Prelude.{ℕ, Bool, ◌&&◌, ◌||◌, not, List, [], ◌∷◌, length, Option, Some, None, is_some, if◌then◌else◌, codes, nat_le, nat_lt, slice_index, ◌==◌, ◌+◌, ◌*◌, ◌-◌}
use Rattle.std.specs.List.{list_any, list_all}
use Rattle.std.specs.Str.{bytes_eq}
use Rattle.dbtg_schema.specs.declared.limits.TheConstants.{MOST_DIGITS, MOST_TEXT_BYTES}
use Rattle.dbtg_schema.specs.declared.shape.Picture.{Picture}
use Rattle.dbtg_schema.specs.declared.shape.Picture.TheVariants.{Number, Text}

-- a word is one of these
abbrev pub among : List ℕ → List (List ℕ) → Bool
among w ws = list_any (bytes_eq w) ws

-- reserved words, which cannot be names
abbrev pub reserved : List (List ℕ)
reserved =
    codes "SCHEMA" ∷ codes "NAME" ∷ codes "AREA" ∷ codes "RECORD" ∷ codes "LOCATION" ∷ codes "MODE" ∷ codes "CALC" ∷ codes "USING" ∷ codes "DUPLICATES" ∷ codes "NOT"
    ∷ codes "ALLOWED" ∷ codes "VIA" ∷ codes "SET" ∷ codes "WITHIN" ∷ codes "PICTURE" ∷ codes "PIC" ∷ codes "ORDER" ∷ codes "FIRST" ∷ codes "LAST" ∷ codes "NEXT" ∷ codes "PRIOR"
    ∷ codes "SORTED" ∷ codes "ASCENDING" ∷ codes "DESCENDING" ∷ codes "OWNER" ∷ codes "SYSTEM" ∷ codes "MEMBER" ∷ codes "MANDATORY" ∷ codes "OPTIONAL" ∷ codes "AUTOMATIC"
    ∷ codes "MANUAL" ∷ codes "KEY" ∷ codes "OCCURRENCE" ∷ codes "SELECTION" ∷ codes "THRU" ∷ codes "CURRENT" ∷ codes "OF" ∷ codes "IS" ∷ codes "ARE" ∷ codes "OPEN" ∷ codes "CLOSE"
    ∷ codes "FIND" ∷ codes "GET" ∷ codes "STORE" ∷ codes "INSERT" ∷ codes "INTO" ∷ codes "REMOVE" ∷ codes "FROM" ∷ codes "MODIFY" ∷ codes "DELETE" ∷ codes "ONLY" ∷ codes "SELECTIVE"
    ∷ codes "ALL" ∷ codes "USAGE-MODE" ∷ codes "PROTECTED" ∷ codes "EXCLUSIVE" ∷ codes "RETRIEVAL" ∷ codes "UPDATE" ∷ codes "RUN-UNIT" ∷ codes "DUPLICATE" ∷ codes "SUPPRESS"
    ∷ codes "KEEP" ∷ codes "FREE" ∷ []

-- A to Z
abbrev pub is_capital : ℕ → Bool
is_capital b = nat_le 65 b && nat_le b 90

-- 0 to 9
abbrev pub is_digit : ℕ → Bool
is_digit b = nat_le 48 b && nat_le b 57

-- a byte that may stand in a name
abbrev pub is_name_byte : ℕ → Bool
is_name_byte b = is_capital b || is_digit b || b == 45

-- 1 to 30 letters, digits and hyphens, a letter first, no hyphen last, and no reserved word
abbrev pub is_name : List ℕ → Bool
is_name w =
    nat_lt 0 (length w) && nat_le (length w) 30 && is_capital (slice_index w 0) && list_all is_name_byte w && not (slice_index w (length w - 1) == 45) && not (among w reserved)

-- the number in parentheses, of one or two digits
abbrev pub in_parentheses : List ℕ → Option ℕ
in_parentheses (a ∷ d ∷ z ∷ []) = if a == 40 && is_digit d && z == 41 then Some (d - 48) else None
in_parentheses (a ∷ d ∷ e ∷ z ∷ []) = if a == 40 && is_digit d && is_digit e && z == 41 then Some (10 * (d - 48) + (e - 48)) else None
in_parentheses _ = None

-- a picture of 1 to 18 characters 9, or of 1 to 64 characters X
abbrev pub of_size : ℕ → ℕ → Option Picture
of_size c n =
    if c == 57 && nat_le 1 n && nat_le n MOST_DIGITS then Some (Number n)
    else (if c == 88 && nat_le 1 n && nat_le n MOST_TEXT_BYTES then Some (Text n)
    else None)

-- a picture of a length within the limit of its kind
abbrev pub sized : ℕ → List ℕ → Option ℕ → Option Picture
sized c w (Some n) = of_size c n
sized c w None = if list_all (λ b. b == c) w then of_size c (length w + 1) else None

-- 9(n) or X(n), or a run of the one character
abbrev pub spelled_picture : List ℕ → Option Picture
spelled_picture [] = None
spelled_picture (c ∷ w) = sized c w (in_parentheses w)

-- a word that spells a picture
abbrev pub is_picture : List ℕ → Bool
is_picture w = is_some (spelled_picture w)
