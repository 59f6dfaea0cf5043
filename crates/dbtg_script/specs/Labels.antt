-- What the words of a statement say, by their roles.
use Rattle.std.specs.Prelude.{ℕ, Bool, ◌&&◌, List, [], ◌∷◌, map, filter, Option, Some, None, if◌then◌else◌, ◌==◌}
use Rattle.std.specs.List.{list_any}
use Rattle.std.specs.Str.{bytes_eq}
use Rattle.dbtg_script.specs.declared.role.Role.{Role}
use Rattle.dbtg_script.specs.declared.role.Role.TheVariants as role
use Rattle.dbtg_script.specs.Tokens.{Token, plain, equals, literal}
use Rattle.dbtg_script.specs.StatementGrammar.{Labelled}

-- roles, numbered: two roles are the same where their numbers are
abbrev pub number : Role → ℕ
number role.Plain = 0
number role.Open = 1
number role.AreaName = 2
number role.Protected = 3
number role.Exclusive = 4
number role.Retrieval = 5
number role.Update = 6
number role.Close = 7
number role.Find = 8
number role.FindKey = 9
number role.Key = 10
number role.FindCurrent = 11
number role.RunUnit = 12
number role.Name = 13
number role.KindRecord = 14
number role.KindSet = 15
number role.KindArea = 16
number role.FindOwner = 17
number role.FindCalc = 18
number role.RecordName = 19
number role.RecordWord = 20
number role.FindSorted = 21
number role.SortedValue = 22
number role.FindDuplicate = 23
number role.WhichFirst = 24
number role.WhichLast = 25
number role.WhichNext = 26
number role.WhichPrior = 27
number role.WhichNumber = 28
number role.ItemName = 29
number role.Value = 30
number role.SuppressAll = 31
number role.SuppressTypes = 32
number role.SuppressAreas = 33
number role.SuppressSet = 34
number role.Get = 35
number role.TypeName = 36
number role.Store = 37
number role.Insert = 38
number role.SetName = 39
number role.Remove = 40
number role.Modify = 41
number role.Delete = 42
number role.Only = 43
number role.Selective = 44
number role.All = 45
number role.Keep = 46
number role.Free = 47
number role.FreeAll = 48

-- the word has this role
abbrev pub is : Role → Labelled → Bool
is r w = number w.role == number r

-- a word with this role is there
abbrev pub has : Role → List Labelled → Bool
has r ws = list_any (is r) ws

-- the role of the first word
abbrev pub lead : List Labelled → Role
lead [] = role.Plain
lead (w ∷ ws) = w.role

-- the text of a word
abbrev pub text_of : Token → List ℕ
text_of (plain t) = t
text_of equals = []
text_of (literal t) = t

-- the texts of the words with this role
abbrev pub texts : Role → List Labelled → List (List ℕ)
texts r ws = map (λ w. text_of w.word) (filter (is r) ws)

-- the text of the last word with this role; the given one if there is none
abbrev pub last_text : Role → List ℕ → List Labelled → List ℕ
last_text r t [] = t
last_text r t (w ∷ ws) = last_text r (if is r w then text_of w.word else t) ws

-- the text of the last word with this role; nothing if there is none
abbrev pub named : Role → List Labelled → List ℕ
named r ws = last_text r [] ws

-- the first word with this role
abbrev pub first_word : Role → List Labelled → Option Token
first_word r [] = None
first_word r (w ∷ ws) = if is r w then Some w.word else first_word r ws

-- the value that is given to the item with this name
abbrev pub given : List ℕ → List Labelled → Option Token
given name [] = None
given name (w ∷ ws) = if is role.ItemName w && bytes_eq name (text_of w.word) then first_word role.Value ws else given name ws
