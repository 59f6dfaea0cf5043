-- What changes from one text to the next: lines that come, lines that go, and in other lines words that come and go.
use Rattle.std.specs.Prelude.{ℕ, zero, suc, ◌≡◌, ◌+◌, Bool, not, ◌||◌, ◌&&◌, ◌==◌, false, nat_le, List, []}
use Rattle.std.specs.Prelude.{◌∷◌, ◌++◌, Option, Some, None, decimal, drop}
use Rattle.std.specs.Prelude.{if◌then◌else◌, length, map, option_and_then, option_map, position, slice_index_or, unwrap_or}
use Rattle.std.specs.List.{list_any}
use Rattle.std.specs.Str.{bytes_eq}
use Rattle.dbtg_page.specs.declared.changes.Kind.{Kind}
use Rattle.dbtg_page.specs.declared.changes.Kind.TheVariants.{Line, Word}
use Rattle.dbtg_page.specs.Json.{field}

-- ---- the lines of a text, and the words of a line

-- the byte belongs to the part that it is in
abbrev pub onto_part : ℕ → List (List ℕ) → List (List ℕ)
onto_part b [] = (b ∷ []) ∷ []
onto_part b (p ∷ ps) = (b ∷ p) ∷ ps

-- what stands between the marks of a text: its lines between line feeds, the words of a line between spaces
unfoldable pub parts : ℕ → List ℕ → List (List ℕ)
parts mark [] = [] ∷ []
parts mark (b ∷ bs) = if b == mark then [] ∷ parts mark bs else onto_part b (parts mark bs)

-- the parts with a mark between them
abbrev pub joined : ℕ → List (List ℕ) → List ℕ
joined mark [] = []
joined mark (p ∷ []) = p
joined mark (p ∷ q ∷ ps) = p ++ mark ∷ joined mark (q ∷ ps)

-- the bytes before the next space, or before the one after it
abbrev pub name_from : Bool → List ℕ → List ℕ
name_from second [] = []
name_from second (b ∷ bs) = if b == 32 && second then [] else b ∷ name_from (second || b == 32) bs

-- of what a line is: its first two words. A list has its set and its owner there, a unit its number, a record its key and its first item
unfoldable pub name_of : List ℕ → List ℕ
name_of line = name_from false line

-- ---- changes

-- a part stays as it is, comes, or turns into another; or a number of parts go
pub data Edit (X : Type 0) : Type 0 where
  Stays : Edit X
  Comes : List ℕ → Edit X
  Go : ℕ → Edit X
  Turns : X → Edit X

-- none go
abbrev pub gone : {X : Type 0} → ℕ → List (Edit X)
gone zero = []
gone (suc k) = Go (suc k) ∷ []

-- a part behind this many others stays if at most one of them goes, or if the first that goes does not come later
abbrev pub stays : List (List ℕ) → ℕ → List (List ℕ) → Bool
stays old place later = nat_le place 1 || not (list_any (bytes_eq (slice_index_or old 0 [])) later)

-- how many parts go before the part of this name stands
abbrev pub met : List (List ℕ) → List ℕ → List (List ℕ) → Option ℕ
met old name later =
    option_and_then (λ p. if stays old p later then Some p else None) (position (λ other. bytes_eq other name) old)

-- the edits that lead from the old parts to the new ones, where a part turns into the one of its name
unfoldable pub edits : {X : Type 0} → (List ℕ → List ℕ) → (List ℕ → List ℕ → Edit X) → List (List ℕ) → List (List ℕ) → List (Edit X)
edits name turn old [] = gone (length old)
edits name turn old (n ∷ ns) =
    unwrap_or (option_map (λ p. gone p ++ turn (slice_index_or old p []) n ∷ edits name turn (drop (p + 1) old) ns) (met (map name old) (name n) (map name ns)))
    (Comes n ∷ edits name turn old ns)

-- the name of a line, or of a word, which is the word
abbrev pub name_by : Kind → List ℕ → List ℕ
name_by Line part = name_of part
name_by Word part = part

-- from the words of a line to those of another: a member comes or goes at its place in its list, a current at its place in its unit
abbrev pub word_edits : List ℕ → List ℕ → List (Edit ⊥)
word_edits old new = edits (name_by Word) (λ old new. Stays) (parts 32 old) (parts 32 new)

-- a line stays, or its words change
abbrev pub turned : List ℕ → List ℕ → Edit (List (Edit ⊥))
turned old new = if bytes_eq old new then Stays else Turns (word_edits old new)

-- from the lines of a text to those of another
abbrev pub changes : List ℕ → List ℕ → List (Edit (List (Edit ⊥)))
changes old new = edits (name_by Line) turned (parts 10 old) (parts 10 new)

-- ---- what comes of them

-- the parts after these edits
abbrev pub edited : {X : Type 0} → (X → List ℕ → List ℕ) → List (Edit X) → List (List ℕ) → List (List ℕ)
edited apply [] old = old
edited apply (Stays ∷ es) [] = edited apply es []
edited apply (Stays ∷ es) (o ∷ os) = o ∷ edited apply es os
edited apply (Comes p ∷ es) old = p ∷ edited apply es old
edited apply (Go k ∷ es) old = edited apply es (drop k old)
edited apply (Turns x ∷ es) [] = edited apply es []
edited apply (Turns x ∷ es) (o ∷ os) = apply x o ∷ edited apply es os

-- a line after its words changed
abbrev pub line_after : List (Edit ⊥) → List ℕ → List ℕ
line_after es line = joined 32 (edited (λ x word. word) es (parts 32 line))

-- a text after its lines changed
abbrev pub text_after : List (Edit (List (Edit ⊥))) → List ℕ → List ℕ
text_after es text = joined 10 (edited line_after es (parts 10 text))

-- the changes from one text to another, made in the first, give the other
abbrev pub ChangesLeadOn : Type 0
ChangesLeadOn = (old new : List ℕ) → text_after (changes old new) old ≡ new

-- ---- as text

-- how many stay before it, a sign, and what the edit is about
abbrev pub op : ℕ → ℕ → List ℕ → List ℕ
op stay sign about = decimal stay ++ sign ∷ about

-- the edits as texts, one after another: +PART comes, -N go, ~TEXT turns
abbrev pub ops : {X : Type 0} → (List ℕ → List ℕ) → (X → List ℕ) → ℕ → List (Edit X) → List ℕ
ops wrap print stay [] = []
ops wrap print stay (Stays ∷ es) = ops wrap print (stay + 1) es
ops wrap print stay (Comes p ∷ es) = wrap (op stay 43 p) ++ ops wrap print 0 es
ops wrap print stay (Go k ∷ es) = wrap (op stay 45 (decimal k)) ++ ops wrap print 0 es
ops wrap print stay (Turns x ∷ es) = wrap (op stay 126 (print x)) ++ ops wrap print 0 es

-- an edit of words, with a space after it
abbrev pub spaced : List ℕ → List ℕ
spaced text = text ++ 32 ∷ []

-- the edits of a line's words
abbrev pub word_ops : ℕ → List (Edit ⊥) → List ℕ
word_ops stay es = ops spaced (λ x. absurd x) stay es

-- the edits of a text's lines, each a string of its row
abbrev pub line_ops : ℕ → List (Edit (List (Edit ⊥))) → List ℕ
line_ops stay es = ops field (word_ops 0) stay es

-- the changes from one text to another as strings of a row
unfoldable pub change_fields : List ℕ → List ℕ → List ℕ
change_fields old new = line_ops 0 (changes old new)
