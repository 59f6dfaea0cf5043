-- The words of a line of a script.
use Rattle.std.specs.Prelude.{ℕ, Bool, true, false, not, ◌&&◌, List, [], ◌∷◌, ◌==◌, if◌then◌else◌}
use Rattle.dbtg_script.specs.declared.token.Token as code
use Rattle.dbtg_script.specs.declared.token.Token.TheVariants.{Plain, Equals, Literal}

-- a word without quotation marks, an equals sign alone, or what stands between quotation marks
pub data Token : Type 0 where
  plain : List ℕ → Token
  equals : Token
  literal : List ℕ → Token

-- the spec-level view of a word: without its reference
abbrev pub view : code.Token → Token
view (Plain t) = plain t.now
view Equals = equals
view (Literal t) = literal t.now

-- a byte that may be in a plain word: no space, no equals sign, no quotation mark
abbrev pub is_letter : ℕ → Bool
is_letter b = not (b == 32) && not (b == 61) && not (b == 34)

-- the byte belongs to the word that follows it directly
unfoldable pub onto : ℕ → List ℕ → List Token → List Token
onto b [] ts = plain (b ∷ []) ∷ ts
onto b (c ∷ cs) [] = plain (b ∷ []) ∷ []
onto b (c ∷ cs) (plain t ∷ ts) = if is_letter c then plain (b ∷ t) ∷ ts else plain (b ∷ []) ∷ plain t ∷ ts
onto b (c ∷ cs) (equals ∷ ts) = plain (b ∷ []) ∷ equals ∷ ts
onto b (c ∷ cs) (literal t ∷ ts) = plain (b ∷ []) ∷ literal t ∷ ts

-- the byte belongs to the literal that is open
unfoldable pub into : ℕ → List Token → List Token
into b (literal t ∷ ts) = literal (b ∷ t) ∷ ts
into b (plain t ∷ ts) = plain t ∷ ts
into b (equals ∷ ts) = equals ∷ ts
into b [] = []

-- the words of what is left of a line, inside a text literal or outside; an open one ends with the line
unfoldable pub tokens : Bool → List ℕ → List Token
tokens true [] = literal [] ∷ []
tokens false [] = []
tokens true (b ∷ bs) = if b == 34 then literal [] ∷ tokens false bs else into b (tokens true bs)
tokens false (b ∷ bs) =
    if b == 32 then tokens false bs
    else (if b == 61 then equals ∷ tokens false bs
    else (if b == 34 then tokens true bs
    else onto b bs (tokens false bs)))
