-- Results in brief: for each but the first, only what differs from the first, or which earlier one it is like.
-- before are the earlier results, by what tells them apart.
use Rattle.std.specs.Prelude.{ℕ, suc, ◌&&◌, not, Bool, List, [], ◌∷◌, ◌++◌, Option, Some, None, codes, decimal, filter, flat_map, if◌then◌else◌, option_map, position}
use Rattle.std.specs.List.{list_all, list_any}
use Rattle.std.specs.Str.{bytes_eq}
use Rattle.dbtg_script.specs.Lines.{lines}
use Rattle.dbtg_states.specs.declared.brief.Told.{Told}
use Rattle.dbtg_states.specs.Among.{among}

-- WHAT DIFFERS

-- a line after a mark
abbrev pub marked : List ℕ → List ℕ → List ℕ
marked mark line = mark ++ line ++ 10 ∷ []

-- the lines of a text that another text does not have, each after a mark
abbrev pub lines_apart : List ℕ → List ℕ → List ℕ → List ℕ
lines_apart mark text other = flat_map (marked mark) (filter (λ line. not (among (lines other) line)) (lines text))

-- how a text differs from the first: the lines that only the first has, and then those that only the text has
abbrev pub difference_text : List ℕ → List ℕ → List ℕ
difference_text first text = lines_apart (codes "- ") first text ++ lines_apart (codes "+ ") text first

-- WHAT IS ALIKE

-- one of these facts is this
abbrev pub has_fact : List (List ℕ) → List ℕ → Bool
has_fact facts fact = list_any (λ other. bytes_eq other fact) facts

-- the facts of one are those of the other, whatever their order
abbrev pub same_facts : List (List ℕ) → List (List ℕ) → Bool
same_facts facts others = list_all (has_fact others) facts && list_all (has_fact facts) others

-- the number, from 1, of the first that has the same facts
abbrev pub like : List Told → Told → Option ℕ
like before told = option_map suc (position (λ other. same_facts other.named told.named) before)

-- the line that says that it is like result k, or how it differs from the first
abbrev pub brief_text : Option ℕ → List ℕ → List ℕ → List ℕ
brief_text (Some k) first text = codes "like " ++ decimal k ++ codes " but for numbers\n"
brief_text None first text = difference_text first text

-- what is shown of a result: the first is shown whole
abbrev pub shown_behind : List Told → Told → List ℕ → List ℕ
shown_behind [] told whole = whole
shown_behind (first ∷ rest) told whole = brief_text (like (first ∷ rest) told) first.text told.text

-- before the first result there is none, if results are shown in brief
abbrev pub none_before : Bool → Option (List Told)
none_before brief = if brief then Some [] else None
