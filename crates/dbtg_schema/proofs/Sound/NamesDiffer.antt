-- In a text without faults the names of areas, record types and sets differ, and so do those of a record type's items and of its CALC items.
use Rattle.std.proofs.Common.{◌≡◌, ℕ, Bool, true, false, cond, not, ◌||◌, List, [], ◌∷◌, ◌++◌, map, refl, sym, ap, subst, ◌∙◌, append_assoc, inl, inr}
use Rattle.std.specs.Prelude.{codes, filter}
use Rattle.std.specs.List.{list_any, AllByRecursion}
use Rattle.std.specs.Str.{bytes_eq}
use Rattle.std.proofs.lemmas.Bool.{cases_Bool, not-false}
use Rattle.std.proofs.lemmas.List.{append-nil}
use Rattle.dbtg_schema.specs.declared.fault.Cause.TheVariants.{NameTaken, ItemNameTwice, UnknownItem, CalcItemTwice, NoItems}
use Rattle.dbtg_schema.specs.declared.role.Role.{Role}
use Rattle.dbtg_schema.specs.declared.role.Role.TheVariants as role
use Rattle.dbtg_schema.specs.Texts.Forms.{labelled, Derives}
use Rattle.dbtg_schema.specs.Texts.SchemaGrammar.{Labelled, fits, key, item, rec}
use Rattle.dbtg_schema.specs.Texts.Labels.{is, named, since, entries, first_named}
use Rattle.dbtg_schema.specs.Texts.SchemaFaults.{at_word, said, when, fault, is_taken, calc_faults}
use Rattle.dbtg_schema.specs.Texts.SchemaLists.{items_from, item_from}
use Rattle.dbtg_schema.specs.Texts.Spelling.{among}
use Rattle.dbtg_schema.specs.WellFormed.{distinct}
use Rattle.dbtg_schema.specs.Texts.Words.{Word}
use Rattle.dbtg_schema.proofs.Sound.Closings.{Closed}
use Rattle.dbtg_schema.proofs.Sound.Distinct.{name_among_append, distinct_with, distinct_behind, all_among}
use Rattle.dbtg_schema.proofs.Forms.Grammar.{right, lacking, entries_behind}
use Rattle.dbtg_schema.proofs.Sound.Limits.{at_word_parts, both_nil, not_when}
use Rattle.dbtg_schema.proofs.Forms.Parts.{flat, is_other, named_append, named_none, named_parts, entries_are, begins}
use Rattle.dbtg_schema.proofs.Forms.Roles.{role_is}
use Rattle.dbtg_schema.proofs.Sound.TextParts.{type_head, type_parts, all_begin}
use Rattle.dbtg_schema.proofs.Forms.Walks.{EachClean, keeps, each_entry}

-- what is wrong with a word of this role, after the words ws: nothing
pub unsaid : (r : Role) (ws : List Labelled) (l : Labelled) → at_word ws l ≡ [] → is r l ≡ true → said ws l r ≡ []
unsaid r ws l c t = subst (λ (q : Role). said ws l q ≡ []) (role_is r l t) (at_word_parts ws l c).2

-- AREAS, RECORD TYPES AND SETS

abbrev all_names : List Labelled → List (List ℕ)
all_names ws = named role.AreaName ws ++ named role.RecordName ws ++ named role.SetName ws

one_here : (r : Role) (ws : List Labelled) (l : Labelled) → is r l ≡ true → named r (ws ++ l ∷ []) ≡ named r ws ++ l.word.text ∷ []
one_here r ws l h = named_append r ws (l ∷ []) ∙ ap (λ b. named r ws ++ map (λ (w : Labelled). w.word.text) (cond b (l ∷ []) [])) h

none_here : (r : Role) (ws : List Labelled) (l : Labelled) → is r l ≡ false → named r (ws ++ l ∷ []) ≡ named r ws
none_here r ws l h = named_append r ws (l ∷ []) ∙ ap (λ b. named r ws ++ map (λ (w : Labelled). w.word.text) (cond b (l ∷ []) [])) h ∙ append-nil (named r ws)

or_is_left : (a b c : Bool) → (a || b || c) ≡ ((a || b) || c)
or_is_left true b c = refl
or_is_left false true c = refl
or_is_left false false c = refl

free_name : (ws : List Labelled) (n : List ℕ) → is_taken n ws ≡ false → among n (all_names ws) ≡ false
free_name ws n h =
    name_among_append n (named role.AreaName ws ++ named role.RecordName ws) (named role.SetName ws)
    ∙ ap (λ b. b || among n (named role.SetName ws)) (name_among_append n (named role.AreaName ws) (named role.RecordName ws))
    ∙ sym (or_is_left (among n (named role.AreaName ws)) (among n (named role.RecordName ws)) (among n (named role.SetName ws))) ∙ h

abbrev Differ : List Labelled → Type 0
Differ ws = distinct bytes_eq (all_names ws) ≡ true

module _ (ws : List Labelled) (l : Labelled) (c : at_word ws l ≡ []) (d : Differ ws) where
  is_area : is role.AreaName l ≡ true → Differ (ws ++ l ∷ [])
  is_area t =
      let n = l.word.text in
      let areas = named role.AreaName ws in
      let types = named role.RecordName ws in
      let sets = named role.SetName ws in
      let new = free_name ws n (not_when (is_taken n ws) (fault NameTaken l.word.line) (unsaid role.AreaName ws l c t)) in
      let whole = append_assoc areas types sets in
      let with_it = distinct_with areas (types ++ sets) n (subst (λ z. distinct bytes_eq z ≡ true) whole d) (subst (λ z. among n z ≡ false) whole new) in
      subst (λ z. distinct bytes_eq z ≡ true)
      (sym ((λ i. one_here role.AreaName ws l t i ++ none_here role.RecordName ws l (is_other role.AreaName role.RecordName l t) i ++ none_here role.SetName ws l (is_other role.AreaName role.SetName l t) i)
      ∙ append_assoc (areas ++ n ∷ []) types sets ∙ append_assoc areas (n ∷ []) (types ++ sets))) with_it

  is_type : is role.RecordName l ≡ true → Differ (ws ++ l ∷ [])
  is_type t =
      let n = l.word.text in
      let areas = named role.AreaName ws in
      let types = named role.RecordName ws in
      let sets = named role.SetName ws in
      let new = free_name ws n (not_when (is_taken n ws) (fault NameTaken l.word.line) (unsaid role.RecordName ws l c t)) in
      let with_it = distinct_with (areas ++ types) sets n d new in
      subst (λ z. distinct bytes_eq z ≡ true)
      (sym ((λ i. none_here role.AreaName ws l (is_other role.RecordName role.AreaName l t) i ++ one_here role.RecordName ws l t i ++ none_here role.SetName ws l (is_other role.RecordName role.SetName l t) i)
      ∙ ap (λ z. z ++ sets) (sym (append_assoc areas types (n ∷ []))) ∙ append_assoc (areas ++ types) (n ∷ []) sets)) with_it

  is_set : is role.SetName l ≡ true → Differ (ws ++ l ∷ [])
  is_set t =
      let n = l.word.text in
      let areas = named role.AreaName ws in
      let types = named role.RecordName ws in
      let sets = named role.SetName ws in
      let new = free_name ws n (not_when (is_taken n ws) (fault NameTaken l.word.line) (unsaid role.SetName ws l c t)) in
      let with_it = distinct_behind (areas ++ types ++ sets) n d new in
      subst (λ z. distinct bytes_eq z ≡ true)
      (sym ((λ i. none_here role.AreaName ws l (is_other role.SetName role.AreaName l t) i ++ none_here role.RecordName ws l (is_other role.SetName role.RecordName l t) i ++ one_here role.SetName ws l t i)
      ∙ sym (append_assoc (areas ++ types) sets (n ∷ [])))) with_it

  one_more : Differ (ws ++ l ∷ [])
  one_more = elim (cases_Bool (is role.AreaName l)) [
    | inl t ↦ is_area t
    | inr a ↦ elim (cases_Bool (is role.RecordName l)) [
      | inl t ↦ is_type t
      | inr r ↦ elim (cases_Bool (is role.SetName l)) [
        | inl t ↦ is_set t
        | inr s ↦ subst (λ z. distinct bytes_eq z ≡ true) (sym (λ i. none_here role.AreaName ws l a i ++ none_here role.RecordName ws l r i ++ none_here role.SetName ws l s i)) d
      ]
    ]
  ]

-- all names of areas, record types and sets differ
pub names_differ : (ls : List Labelled) → EachClean [] ls → distinct bytes_eq (all_names ls) ≡ true
names_differ ls c = keeps Differ one_more [] ls c refl

-- ITEMS

-- the item names of each record type differ
pub item_names_differ : (ls : List Labelled) → EachClean [] ls → AllByRecursion (λ e. distinct bytes_eq (named role.ItemName e) ≡ true) (entries role.RecordEntry ls)
item_names_differ ls c = each_entry role.RecordEntry (λ e. distinct bytes_eq (named role.ItemName e) ≡ true) start step [] ls c
  where
    start : (l : Labelled) → is role.RecordEntry l ≡ true → distinct bytes_eq (named role.ItemName (l ∷ [])) ≡ true
    start l h = ap (λ b. distinct bytes_eq (map (λ (w : Labelled). w.word.text) (cond b (l ∷ []) []))) (is_other role.RecordEntry role.ItemName l h)

    step : (ws e : List Labelled) (l : Labelled) → since role.RecordEntry ws ≡ e → at_word ws l ≡ [] → is role.RecordEntry l ≡ false → distinct bytes_eq (named role.ItemName e) ≡ true → distinct bytes_eq (named role.ItemName (e ++ l ∷ [])) ≡ true
    step ws e l same clean other d = elim (cases_Bool (is role.ItemName l)) [
      | inl t ↦
          let new = not_when (among l.word.text (named role.ItemName (since role.RecordEntry ws))) (fault ItemNameTwice l.word.line) (unsaid role.ItemName ws l clean t) in
          subst (λ z. distinct bytes_eq z ≡ true) (sym (one_here role.ItemName e l t)) (distinct_behind (named role.ItemName e) l.word.text d (subst (λ (z : List Labelled). among l.word.text (named role.ItemName z) ≡ false) same new))
      | inr f ↦ subst (λ z. distinct bytes_eq z ≡ true) (sym (none_here role.ItemName e l f)) d
    ]

map_twice : (items : List (List Labelled)) → map (λ i. i.name) (map item_from items) ≡ map (first_named role.ItemName) items
map_twice [] = refl
map_twice (e ∷ items) = ap (λ z. first_named role.ItemName e ∷ z) (map_twice items)

-- the items of a record type have the names that stand there
pub item_names_are : (p : List Labelled) → Derives fits rec p → map (λ i. i.name) (items_from p) ≡ named role.ItemName p
item_names_are p d =
    let t = type_parts p d in
    let parts = t.4.0 in
    let each = t.4.2 in
    let whole : p ≡ t.0 ++ flat parts = t.2 ∙ ap (λ (z : List Labelled). t.0 ++ z) t.4.1 in
    ap (λ (z : List Labelled). map (λ i. i.name) (map item_from (entries role.ItemEntry z))) whole
    ∙ ap (λ (z : List (List Labelled)). map (λ i. i.name) (map item_from z)) (entries_behind role.ItemEntry t.0 (flat parts) (lacking role.ItemEntry type_head t.0 t.3 refl)
    ∙ entries_are role.ItemEntry parts (all_begin role.ItemEntry item parts each (λ q e. begins role.ItemEntry (key (codes "02")) (right item) q e refl)))
    ∙ map_twice parts ∙ sym (named_parts role.ItemName item parts each refl refl refl)
    ∙ ap (λ z. z ++ named role.ItemName (flat parts)) (sym (named_none role.ItemName t.0 (lacking role.ItemName type_head t.0 t.3 refl)))
    ∙ sym (named_append role.ItemName t.0 (flat parts)) ∙ ap (named role.ItemName) (sym whole)

-- CALC ITEMS

calc_parts : (items before : List (List ℕ)) (ws : List Labelled) → calc_faults items before ws ≡ [] → distinct bytes_eq before ≡ true
    → all_among items (map (λ w. w.word.text) ws) × (distinct bytes_eq (before ++ map (λ w. w.word.text) ws) ≡ true)
calc_parts items before [] h d = (tt, subst (λ z. distinct bytes_eq z ≡ true) (sym (append-nil before)) d)
calc_parts items before (w ∷ ws) h d =
    let n = w.word.text in
    let a = both_nil (when (not (among n items)) (fault UnknownItem w.word.line) ++ when (among n before) (fault CalcItemTwice w.word.line)) (calc_faults items (before ++ n ∷ []) ws) h in
    let b = both_nil (when (not (among n items)) (fault UnknownItem w.word.line)) (when (among n before) (fault CalcItemTwice w.word.line)) a.0 in
    let more = calc_parts items (before ++ n ∷ []) ws a.1 (distinct_behind before n d (not_when (among n before) (fault CalcItemTwice w.word.line) b.1)) in (
      (not-false (among n items) (not_when (not (among n items)) (fault UnknownItem w.word.line) b.0), more.0),
      subst (λ z. distinct bytes_eq z ≡ true) (append_assoc before (n ∷ []) (map (λ w. w.word.text) ws)) more.1,
    )

-- the CALC items of a closed record type are items of it, and differ
pub calc_names : (p : List Labelled) → Derives fits rec p → Closed p → all_among (named role.ItemName p) (named role.CalcItem p) × (distinct bytes_eq (named role.CalcItem p) ≡ true)
calc_names p d c =
    let head : p ≡ labelled role.RecordEntry d.3.0 ∷ d.1 = d.2 ∙ ap (λ (z : List Labelled). z ++ d.1) d.3.1 in
    subst (λ (z : List Labelled). all_among (named role.ItemName z) (named role.CalcItem z) × (distinct bytes_eq (named role.CalcItem z) ≡ true)) (sym head) (of_tail d.3.0 d.1 (subst Closed head c))
  where
    of_tail : (w : Word) (ws : List Labelled) → Closed (labelled role.RecordEntry w ∷ ws) → all_among (named role.ItemName ws) (named role.CalcItem ws) × (distinct bytes_eq (named role.CalcItem ws) ≡ true)
    of_tail w ws h =
        calc_parts (named role.ItemName ws) [] (filter (is role.CalcItem) ws)
        (both_nil (when (not (list_any (is role.ItemEntry) ws)) (fault NoItems w.line)) (calc_faults (named role.ItemName ws) [] (filter (is role.CalcItem) ws)) h).1 refl
