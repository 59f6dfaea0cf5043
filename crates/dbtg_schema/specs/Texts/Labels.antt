-- What labelled words say, by their roles.
use Rattle.std.specs.Prelude.{ℕ, Bool, ◌&&◌, not, List, [], ◌∷◌, map, filter, if◌then◌else◌, ◌==◌, length}
use Rattle.std.specs.List.{list_any}
use Rattle.dbtg_schema.specs.declared.role.Role.{Role}
use Rattle.dbtg_schema.specs.declared.role.Role.TheVariants as role
use Rattle.dbtg_schema.specs.Texts.SchemaGrammar.{Labelled}

-- roles, numbered: two roles are the same where their numbers are

-- roles by number, so that two can be compared
abbrev pub number : Role → ℕ
number role.Plain = 0
number role.SchemaName = 1
number role.AreaEntry = 2
number role.AreaName = 3
number role.RecordEntry = 4
number role.RecordName = 5
number role.CalcItem = 6
number role.Unique = 7
number role.ViaSet = 8
number role.WithinArea = 9
number role.ItemEntry = 10
number role.ItemName = 11
number role.Picture = 12
number role.SetEntry = 13
number role.SetName = 14
number role.OrderFirst = 15
number role.OrderLast = 16
number role.OrderNext = 17
number role.OrderPrior = 18
number role.Sorted = 19
number role.Ascending = 20
number role.Descending = 21
number role.DuplicatesFirst = 22
number role.DuplicatesLast = 23
number role.DuplicatesNot = 24
number role.OwnerName = 25
number role.OwnerSystem = 26
number role.MemberEntry = 27
number role.MemberName = 28
number role.Mandatory = 29
number role.Optional = 30
number role.Automatic = 31
number role.Manual = 32
number role.KeyItem = 33
number role.MemberEnd = 34

-- the word has this role
abbrev pub is : Role → Labelled → Bool
is r w = number w.role == number r

-- the texts of the words with this role
abbrev pub named : Role → List Labelled → List (List ℕ)
named r ws = map (λ w. w.word.text) (filter (is r) ws)

-- how many words have this role
abbrev pub count_of : Role → List Labelled → ℕ
count_of r ws = length (filter (is r) ws)

-- from the last word with this role on
abbrev pub since : Role → List Labelled → List Labelled
since r [] = []
since r (w ∷ ws) = if is r w && not (list_any (is r) ws) then w ∷ ws else since r ws

-- the words before the first one with this role
abbrev pub until : Role → List Labelled → List Labelled
until r [] = []
until r (w ∷ ws) = if is r w then [] else w ∷ until r ws

-- the entries that begin with this role, each up to the next
abbrev pub entries : Role → List Labelled → List (List Labelled)
entries r [] = []
entries r (w ∷ ws) = if is r w then (w ∷ until r ws) ∷ entries r ws else entries r ws

-- the text of the first word with this role
abbrev pub first_named : Role → List Labelled → List ℕ
first_named r [] = []
first_named r (w ∷ ws) = if is r w then w.word.text else first_named r ws
