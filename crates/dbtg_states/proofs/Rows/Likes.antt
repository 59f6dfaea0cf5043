-- Which earlier result a result is like, and what is then shown. The lines are written by hand, from the page that says what `--brief` prints.
use Rattle.std.proofs.Common.{◌≡◌, List, ℕ, [], ◌∷◌, ◌++◌, Some, None, true, false, refl}
use Rattle.std.specs.Prelude.{codes}
use Rattle.std.specs.Fmt.{digits}
use Rattle.dbtg_script.specs.Lines.{lines}
use Rattle.dbtg_states.specs.declared.brief.Told.{Told}
use Rattle.dbtg_states.specs.Brief.{like, none_before, same_facts, shown_behind}

abbrev told : List ℕ → List (List ℕ) → Told
told text facts = record { text = text ++ 10 ∷ []; named = facts }

-- two facts, and a third
abbrev one : List ℕ
one = 5 ∷ 0 ∷ 7 ∷ []

abbrev two : List ℕ
two = 5 ∷ 0 ∷ 8 ∷ []

abbrev three : List ℕ
three = 5 ∷ 0 ∷ 7 ∷ 7 ∷ []

-- the order of facts makes no difference; one more fact does, on either side, and so does one that only begins like another
in_any_order : same_facts (one ∷ two ∷ []) (two ∷ one ∷ []) ≡ true
in_any_order = refl

one_more : same_facts (one ∷ two ∷ []) (two ∷ one ∷ three ∷ []) ≡ false
one_more = refl

one_less : same_facts (one ∷ two ∷ []) (two ∷ []) ≡ false
one_less = refl

longer : same_facts (one ∷ []) (three ∷ []) ≡ false
longer = refl

-- the first of those that are alike is named, though it is itself like none before it
abbrev three_results : List Told
three_results = told (codes "A:1") (one ∷ []) ∷ told (codes "A:2") (two ∷ []) ∷ told (codes "A:3") (two ∷ []) ∷ []

first_of_two : like three_results (told (codes "A:4") (two ∷ [])) ≡ Some 2
first_of_two = refl

like_none : like three_results (told (codes "A:4") (three ∷ [])) ≡ None
like_none = refl

-- the first result is shown whole, others as what they are like, or as how they differ from the first
first_whole : shown_behind [] (told (codes "A:1") (one ∷ [])) (codes "ALL") ≡ codes "ALL"
first_whole = refl

alike_shown : shown_behind three_results (told (codes "A:4") (two ∷ [])) (codes "ALL") ≡ codes "like 2 but for numbers" ++ 10 ∷ []
unfolding digits
alike_shown = refl

apart_shown : shown_behind three_results (told (codes "A:4") (three ∷ [])) (codes "ALL") ≡ codes "- A:1" ++ 10 ∷ codes "+ A:4" ++ 10 ∷ []
unfolding lines
apart_shown = refl

-- results are compared only in brief
not_in_brief : none_before false ≡ None
not_in_brief = refl

in_brief : none_before true ≡ Some []
in_brief = refl
