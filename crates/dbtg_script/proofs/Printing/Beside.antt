-- Lines beside answers: how many statements a unit has made, and the line of the next.
use Rattle.std.proofs.Common.{◌≡◌, ◌≢◌, ℕ, ◌+◌, ◌<◌, ◌≤◌, Bool, true, false, eqb, cond, List, [], ◌∷◌, ◌++◌, length, get_or, set, map, take, drop, refl, sym, ap, ◌∙◌, arith, drop-cons, add-one, append_assoc}
use Rattle.std.proofs.lemmas.List.{append-nil, drop_all, get_or-set_same, get_or-set_other, length-append, map_push, take_more}
use Rattle.std.proofs.lemmas.Bool.{eqb-false, eqb-true}
use Rattle.dbtg_schema.specs.Lists.{Lists}
use Rattle.dbtg_unit.specs.Database.Laws.Replay.{entries_of}
use Rattle.dbtg_unit.specs.declared.unit.Entry.{Entry}
use Rattle.dbtg_unit.proofs.Public.{entries_more}
use Rattle.dbtg_script.specs.Printing.Echo.{line_beside, lines_beside, rows_text}

-- one more is counted for its unit alone
pub counted : (made : List ℕ) (before : List Entry) (e : Entry) (u : ℕ) → length made ≡ 256 → e.unit < 256 → get_or made u 0 ≡ length (entries_of u before)
    → get_or (set made e.unit (get_or made e.unit 0 + 1)) u 0 ≡ length (entries_of u (before ++ e ∷ []))
counted made before e u long small cache = by (eqb e.unit u) refl
  where
    more : (b : Bool) → eqb e.unit u ≡ b → length (entries_of u (before ++ e ∷ [])) ≡ length (entries_of u before) + length (cond b (e ∷ []) [])
    more b h = ap length (entries_more u before e ∙ ap (λ k. entries_of u before ++ cond k (e ∷ []) []) h) ∙ length-append (entries_of u before) (cond b (e ∷ []) [])

    by : (b : Bool) → eqb e.unit u ≡ b → get_or (set made e.unit (get_or made e.unit 0 + 1)) u 0 ≡ length (entries_of u (before ++ e ∷ []))
    by true h =
        let v = get_or made e.unit 0 + 1 in
        let same : e.unit ≡ u = eqb-true e.unit u h in
        let here : get_or (set made e.unit v) u 0 ≡ v = ap (λ k. get_or (set made e.unit v) k 0) (sym same) ∙ get_or-set_same made e.unit v 0 (omega arith) in
        let moved : get_or made e.unit 0 ≡ get_or made u 0 = ap (λ k. get_or made k 0) same in
        let one = more true h in
        omega (arith, here, moved, cache, one)
    by false h =
        let v = get_or made e.unit 0 + 1 in
        let there : get_or (set made e.unit v) u 0 ≡ get_or made u 0 = get_or-set_other made e.unit u v 0 (λ q. eqb-false e.unit u h (sym q)) in
        let none = more false h in
        omega (arith, there, cache, none)

pub few_more : (made : List ℕ) (k u i : ℕ) → length made ≡ 256 → k < 256 → get_or made u 0 ≤ i → get_or made k 0 ≤ i → get_or (set made k (get_or made k 0 + 1)) u 0 ≤ i + 1
few_more made k u i long small few own = by (eqb k u) refl
  where
    by : (b : Bool) → eqb k u ≡ b → get_or (set made k (get_or made k 0 + 1)) u 0 ≤ i + 1
    by true h =
        let v = get_or made k 0 + 1 in
        let here : get_or (set made k v) u 0 ≡ v = ap (λ j. get_or (set made k v) j 0) (sym (eqb-true k u h)) ∙ get_or-set_same made k v 0 (omega arith) in
        omega (arith, here, own)
    by false h =
        let there : get_or (set made k (get_or made k 0 + 1)) u 0 ≡ get_or made u 0 = get_or-set_other made k u (get_or made k 0 + 1) 0 (λ q. eqb-false k u h (sym q)) in
        omega (arith, there, few)

pub taken_more : (history : List Entry) (i : ℕ) (e : Entry) → i < length history → e ≡ get_or history i e → take (i + 1) history ≡ take i history ++ e ∷ []
taken_more history i e below is = take_more history i e below ∙ ap (λ (x : Entry). take i history ++ x ∷ []) (sym is)

dropped_more : (history : List Entry) (i : ℕ) (e : Entry) → i < length history → e ≡ get_or history i e → drop i history ≡ e ∷ drop (i + 1) history
dropped_more history i e below is = split ∙ ap (λ (x : Entry). x ∷ drop (i + 1) history) (sym is)
  where
    split : drop i history ≡ get_or history i e ∷ drop (i + 1) history
    split = rw add-one (drop-cons history i e below)

-- the line of an entry, and those of the entries after it
pub next_beside : (scripts : List (List (List ℕ))) (history : List Entry) (i : ℕ) (e : Entry) → i < length history → e ≡ get_or history i e
    → lines_beside scripts (take i history) (drop i history) ≡ line_beside scripts (take i history) e ∷ lines_beside scripts (take (i + 1) history) (drop (i + 1) history)
next_beside scripts history i e below is =
    ap (lines_beside scripts (take i history)) (dropped_more history i e below is)
    ∙ ap (λ (before : List Entry). line_beside scripts (take i history) e ∷ lines_beside scripts before (drop (i + 1) history)) (sym (taken_more history i e below is))

pub pushed : {A : Type 0} (f : A → List ℕ) (xs new : List A) (x : A) (line : List ℕ) (rest all : List (List ℕ)) → new ≡ xs ++ x ∷ [] → f x ≡ line → map f xs ++ (line ∷ rest) ≡ all → map f new ++ rest ≡ all
pushed f xs new x line rest all e q h =
    ap (λ z. map f z ++ rest) e ∙ ap (λ z. z ++ rest) (map_push f xs x) ∙ append_assoc (map f xs) (f x ∷ []) rest ∙ ap (λ (l : List ℕ). map f xs ++ (l ∷ rest)) q ∙ h

no_rows : (schema : Lists) (width : ℕ) (notes lines : List (List ℕ)) → rows_text schema width notes lines [] ≡ []
no_rows schema width notes [] = refl
no_rows schema width notes (l ∷ ls) = refl

-- where no answer is left, nothing is
pub rows_done : (schema : Lists) (width : ℕ) (notes lines : List (List ℕ)) (history : List Entry) (i : ℕ) (out all : List ℕ) → length history ≤ i → out ++ rows_text schema width notes lines (drop i history) ≡ all → out ≡ all
rows_done schema width notes lines history i out all past h =
    sym (append-nil out) ∙ ap (λ (xs : List ℕ). out ++ xs) (sym (ap (rows_text schema width notes lines) (drop_all i history past) ∙ no_rows schema width notes lines)) ∙ h
