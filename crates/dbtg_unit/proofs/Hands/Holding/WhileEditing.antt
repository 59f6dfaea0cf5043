-- What is held while it is edited.
-- e is an edit of a cell, c and d names of cells, x and y cells, db a database.
use Rattle.std.proofs.Common.{◌≡◌, refl, sym, ◌∙◌, ap, subst, ℕ, ◌+◌, ◌<◌, Bool, true, false, cond, not, List, [], ◌∷◌, ◌++◌, map, drop, get_or, length, Option, Some, None, inl, inr}
use Rattle.std.specs.Prelude.{◌^◌, ⊤}
use Rattle.std.specs.List.{flat_map, list_all}
use Rattle.std.proofs.lemmas.List.{drop_more}
use Rattle.std.proofs.lemmas.Bool.{and_parts, cases_Bool, false_from_ne_true, false≢true, not-true}
use Rattle.dbtg_cells.specs.declared.cell.Cell.{Cell}
use Rattle.dbtg_cells.specs.declared.cell.Cell.TheVariants.{Usage, Extent, Ring, Slot}
use Rattle.dbtg_cells.specs.declared.key.Owner.{Owner}
use Rattle.dbtg_cells.specs.declared.key.Value.{Value}
use Rattle.dbtg_cells.specs.declared.name.CellName.{CellName}
use Rattle.dbtg_cells.specs.declared.slot.Stored.{Stored}
use Rattle.dbtg_cells.specs.Cells.{shown}
use Rattle.dbtg_cells.specs.Names.{name_eq}
use Rattle.dbtg_cells.specs.Shown.{SlotValue}
use Rattle.dbtg_cells.proofs.Public.{name_eq_refl, same_name}
use Rattle.dbtg_unit.specs.declared.edit.CellEdit.{CellEdit}
use Rattle.dbtg_unit.specs.declared.edit.Edit.{Edit}
use Rattle.dbtg_unit.specs.declared.edit.Edit.TheVariants.{ChangeItems, ChangeOwner, RaiseVersion}
use Rattle.dbtg_unit.specs.Hands.CanEdit.{CanEdit}
use Rattle.dbtg_unit.specs.Hands.Edits.{edited, with_owner, with_stored_items}
use Rattle.dbtg_unit.specs.Hands.Hands.{Hands, cell_of}
use Rattle.dbtg_unit.specs.Database.State.Legal.{pairwise}
use Rattle.dbtg_unit.specs.Hands.Lends.{with_cell}
use Rattle.dbtg_unit.specs.Hands.Making.{AreMade, CanEditHeld, CanMake, HaveNextVersions, ShowsEdited}
use Rattle.dbtg_unit.specs.Hands.Prepared.{edited_values, value_edited, values_of}

abbrev pub Held : Type 0
Held = List (CellName × Cell)

-- ONE CELL WRITTEN

-- the held cell of a name that is the first, and of one that is not
pub cell_of_here : (c : CellName) (e : CellName × Cell) (es : Held) → name_eq c e.0 ≡ true → cell_of c (e ∷ es) ≡ Some e.1
cell_of_here c e es same = ap (λ b. cond b (Some e.1) (cell_of c es)) same

pub cell_of_further : (c : CellName) (e : CellName × Cell) (es : Held) → name_eq c e.0 ≡ false → cell_of c (e ∷ es) ≡ cell_of c es
cell_of_further c e es other = ap (λ b. cond b (Some e.1) (cell_of c es)) other

pub with_cell_here : (c : CellName) (y : Cell) (e : CellName × Cell) (es : Held) → name_eq c e.0 ≡ true → with_cell c y (e ∷ es) ≡ (e.0, y) ∷ es
with_cell_here c y e es same = ap (λ b. cond b ((e.0, y) ∷ es) (e ∷ with_cell c y es)) same

pub with_cell_further : (c : CellName) (y : Cell) (e : CellName × Cell) (es : Held) → name_eq c e.0 ≡ false → with_cell c y (e ∷ es) ≡ e ∷ with_cell c y es
with_cell_further c y e es other = ap (λ b. cond b ((e.0, y) ∷ es) (e ∷ with_cell c y es)) other

-- where no cell of the name is held, nothing is written
pub with_cell_none : (c : CellName) (y : Cell) (cells : Held) → cell_of c cells ≡ None → with_cell c y cells ≡ cells
with_cell_none c y [] h = refl
with_cell_none c y (e ∷ es) h =
    elim (cases_Bool (name_eq c e.0)) [
      | inl same ↦ let found = sym (cell_of_here c e es same) ∙ h in cc
      | inr other ↦ with_cell_further c y e es other ∙ ap (λ l. e ∷ l) (with_cell_none c y es (sym (cell_of_further c e es other) ∙ h))
    ]

-- a written cell is there where one was, and others stay
pub cell_of_written : (c : CellName) (x y : Cell) (cells : Held) → cell_of c cells ≡ Some x → cell_of c (with_cell c y cells) ≡ Some y
cell_of_written c x y [] h = cc
cell_of_written c x y (e ∷ es) h =
    elim (cases_Bool (name_eq c e.0)) [
      | inl same ↦ ap (cell_of c) (with_cell_here c y e es same) ∙ cell_of_here c (e.0, y) es same
      | inr other ↦
          ap (cell_of c) (with_cell_further c y e es other) ∙ cell_of_further c e (with_cell c y es) other
          ∙ cell_of_written c x y es (sym (cell_of_further c e es other) ∙ h)
    ]

pub cell_of_other : (c d : CellName) (y : Cell) (cells : Held) → name_eq d c ≡ false → cell_of d (with_cell c y cells) ≡ cell_of d cells
cell_of_other c d y [] other = refl
cell_of_other c d y (e ∷ es) other =
    elim (cases_Bool (name_eq c e.0)) [
      | inl same ↦
          let at_d : name_eq d e.0 ≡ false = ap (name_eq d) (sym (same_name c e.0 same)) ∙ other in
          ap (cell_of d) (with_cell_here c y e es same) ∙ cell_of_further d (e.0, y) es at_d ∙ sym (cell_of_further d e es at_d)
      | inr differs ↦
          ap (cell_of d) (with_cell_further c y e es differs)
          ∙ ap (cond (name_eq d e.0) (Some e.1)) (cell_of_other c d y es other)
    ]

-- what is there after a cell was written in its place
pub written_over : (c : CellName) (x y : Cell) (cells : Held) → cell_of c (with_cell c y cells) ≡ Some x → (x ≡ y) × ((old : Cell) × (cell_of c cells ≡ Some old))
written_over c x y cells h = was (cell_of c cells) refl where
  was : (o : Option Cell) → cell_of c cells ≡ o → (x ≡ y) × ((old : Cell) × (cell_of c cells ≡ Some old))
  was None none = let there = sym none ∙ ap (cell_of c) (sym (with_cell_none c y cells none)) ∙ h in absurd (cc)
  was (Some old) some = let there = sym h ∙ cell_of_written c old y cells some in (cc, (old, some))

pub name_eq_flip : (c d : CellName) → name_eq c d ≡ false → name_eq d c ≡ false
name_eq_flip c d h = false_from_ne_true _ (λ e. false≢true (sym h ∙ ap (name_eq c) (same_name d c e) ∙ name_eq_refl c))

-- a written cell shows what the edit makes of it
pub values_with_cell : (e : CellEdit) (y : Cell) (cells : Held) → ShowsEdited e cells y → values_of (with_cell e.name y cells) ≡ value_edited e (values_of cells)
values_with_cell e y [] shows = refl
values_with_cell e y (x ∷ xs) shows =
    elim (cases_Bool (name_eq e.name x.0)) [
      | inl same ↦
          ap values_of (with_cell_here e.name y x xs same)
          ∙ ap (λ v. (x.0, v) ∷ values_of xs) (shows x.1 (cell_of_here e.name x xs same))
          ∙ sym (ap (λ b. cond b ((x.0, edited e.edit (shown x.1)) ∷ values_of xs) ((x.0, shown x.1) ∷ value_edited e (values_of xs))) same)
      | inr other ↦
          ap values_of (with_cell_further e.name y x xs other)
          ∙ ap (λ l. (x.0, shown x.1) ∷ l) (values_with_cell e y xs (λ z held. shows z (cell_of_further e.name x xs other ∙ held)))
          ∙ sym (ap (λ b. cond b ((x.0, edited e.edit (shown x.1)) ∷ values_of xs) ((x.0, shown x.1) ∷ value_edited e (values_of xs))) other)
    ]

-- an edit of a name that is not held changes nothing
pub made_of_none : (e : CellEdit) (cells : Held) → cell_of e.name cells ≡ None → AreMade (e ∷ []) cells cells
made_of_none e cells none = (Slot None, λ x h. let absurd_case = sym none ∙ h in cc, sym (with_cell_none e.name (Slot None) cells none))

-- EDITS IN TURN

-- each of the edits can be made of what is held now
abbrev pub EachCanEdit : List CellEdit → Held → Type 0
EachCanEdit [] cells = ⊤
EachCanEdit (e ∷ es) cells = CanEditHeld e cells × EachCanEdit es cells

-- no edit is of this name, and no two are of one name
abbrev pub are_of_others : CellName → List CellEdit → Bool
are_of_others c = list_all (λ e. not (name_eq c e.name))

abbrev pub are_distinct : List CellEdit → Bool
are_distinct = pairwise (λ e f. not (name_eq e.name f.name))

pub each_append : (es fs : List CellEdit) (cells : Held) → EachCanEdit es cells → EachCanEdit fs cells → EachCanEdit (es ++ fs) cells
each_append [] fs cells each further = further
each_append (e ∷ es) fs cells each further = (each.0, each_append es fs cells each.1 further)

pub each_flat_map : {X : Type 0} (edits : X → List CellEdit) (xs : List X) (cells : Held) → ((x : X) → EachCanEdit (edits x) cells) → EachCanEdit (flat_map edits xs) cells
each_flat_map edits [] cells each = tt
each_flat_map edits (x ∷ xs) cells each = each_append (edits x) (flat_map edits xs) cells (each x) (each_flat_map edits xs cells each)

-- edits of other cells can still be made once one is written
each_with_cell : (c : CellName) (y : Cell) (es : List CellEdit) (cells : Held) → are_of_others c es ≡ true → EachCanEdit es cells → EachCanEdit es (with_cell c y cells)
each_with_cell c y [] cells others each = tt
each_with_cell c y (e ∷ es) cells others each =
    let hs = and_parts _ _ others in
    let other : name_eq e.name c ≡ false = name_eq_flip c e.name (not-true _ hs.0) in (
      λ x there. each.0 x (sym (cell_of_other c e.name y cells other) ∙ there),
      each_with_cell c y es cells hs.1 each.1,
    )

-- edits of distinct cells can be made in turn where each can be made of what is held now
pub can_make_distinct : (es : List CellEdit) (cells : Held) → are_distinct es ≡ true → EachCanEdit es cells → CanMake es cells
can_make_distinct [] cells once each = tt
can_make_distinct (e ∷ es) cells once each =
    let hs = and_parts _ _ once in
    (each.0, λ y shows. can_make_distinct es (with_cell e.name y cells) hs.1 (each_with_cell e.name y es cells hs.0 each.1))

-- what is held after edits shows what they make of it
pub made_values : (es : List CellEdit) (old new : Held) → AreMade es old new → values_of new ≡ edited_values es (values_of old)
made_values [] old new made = ap values_of made
made_values (e ∷ es) old new made = made_values es (with_cell e.name made.0 old) new made.2 ∙ ap (edited_values es) (values_with_cell e made.0 old made.1)

-- edits, and then others
pub made_append : (es fs : List CellEdit) (old between new : Held) → AreMade es old between → AreMade fs between new → AreMade (es ++ fs) old new
made_append [] fs old between new made further = subst (λ (cells : Held). AreMade fs cells new) made further
made_append (e ∷ es) fs old between new made further = (made.0, made.1, made_append es fs (with_cell e.name made.0 old) between new made.2 further)

-- if edits can be made in turn, the first can be made, and the others once it is
pub can_make_front : (es fs : List CellEdit) (cells : Held) → CanMake (es ++ fs) cells → CanMake es cells
can_make_front [] fs cells can = tt
can_make_front (e ∷ es) fs cells can = (can.0, λ y shows. can_make_front es fs (with_cell e.name y cells) (can.1 y shows))

pub can_make_rest : (es fs : List CellEdit) (old new : Held) → CanMake (es ++ fs) old → AreMade es old new → CanMake fs new
can_make_rest [] fs old new can made = subst (CanMake fs) (sym made) can
can_make_rest (e ∷ es) fs old new can made = can_make_rest es fs (with_cell e.name made.0 old) new (can.1 made.0 made.1) made.2

-- while an edit is made of each of a list: those of the rest can be made, and lead to where all lead; nothing else is edited
pub record MadeSoFar {X : Type 0} (edit : X → CellEdit) (all rest : List X) (start now : Hands) : Type 0 where
  pub can_make : CanMake (map edit rest) now.cells
  pub leads : (new : Held) → AreMade (map edit rest) now.cells new → AreMade (map edit all) start.cells new
  pub areas : now.areas ≡ start.areas
  pub guesses : now.guesses ≡ start.guesses

pub one_more_made : {X : Type 0} (edit : X → CellEdit) (all : List X) (i : ℕ) (x : X) (start now next : Hands) → i < length all → x ≡ get_or all i x
    → MadeSoFar edit all (drop i all) start now → AreMade (edit x ∷ []) now.cells next.cells → next.areas ≡ now.areas → next.guesses ≡ now.guesses
    → MadeSoFar edit all (drop (i + 1) all) start next
one_more_made edit all i x start now next below is was made areas guesses =
    let rest = drop (i + 1) all in
    let next_is : drop i all ≡ x ∷ rest = drop_more all i x below ∙ ap (λ y. y ∷ rest) (sym is) in
    record {
      can_make = can_make_rest (edit x ∷ []) (map edit rest) now.cells next.cells (subst (λ l. CanMake (map edit l) now.cells) next_is was.can_make) made;
      leads = λ new others. was.leads new (subst (λ l. AreMade (map edit l) now.cells new) (sym next_is) (made_append (edit x ∷ []) (map edit rest) now.cells next.cells new made others));
      areas = areas ∙ was.areas;
      guesses = guesses ∙ was.guesses;
    }

-- edits, and then others that can be made of what they leave
pub can_make_append : (es fs : List CellEdit) (cells : Held) → CanMake es cells → ((new : Held) → AreMade es cells new → CanMake fs new) → CanMake (es ++ fs) cells
can_make_append [] fs cells can further = further cells refl
can_make_append (e ∷ es) fs cells can further =
    (can.0, λ y shows. can_make_append es fs (with_cell e.name y cells) (can.1 y shows) (λ new made. further new (y, shows, made)))

-- cells that no edit names stay
pub cell_of_made : (c : CellName) (es : List CellEdit) (old new : Held) → are_of_others c es ≡ true → AreMade es old new → cell_of c new ≡ cell_of c old
cell_of_made c [] old new others made = ap (cell_of c) made
cell_of_made c (e ∷ es) old new others made =
    let hs = and_parts _ _ others in
    cell_of_made c es (with_cell e.name made.0 old) new hs.1 made.2 ∙ cell_of_other e.name c made.0 old (not-true _ hs.0)

-- THE LAST TWO EDITS OF A SLOT

-- the edit leaves the version of a record as it is, and puts no record where there is none
abbrev pub LeavesVersion : Edit → Type 0
LeavesVersion edit = (x : Cell) (r : Stored) → SlotValue (Some r) ≡ edited edit (shown x) → (s : Stored) × (x ≡ Slot (Some s)) × (r.version ≡ s.version)

pub items_leave_version : (items : List Value) → LeavesVersion (ChangeItems items)
items_leave_version items (Usage v) r h = absurd (cc)
items_leave_version items (Extent v) r h = absurd (cc)
items_leave_version items (Ring v) r h = absurd (cc)
items_leave_version items (Slot None) r h = absurd (cc)
items_leave_version items (Slot (Some s)) r h = let same : r ≡ with_stored_items items s = cc in (s, refl, ap (λ q. q.version) same)

pub owner_leaves_version : (s : ℕ) (o : Option Owner) → LeavesVersion (ChangeOwner s o)
owner_leaves_version s o (Usage v) r h = absurd (cc)
owner_leaves_version s o (Extent v) r h = absurd (cc)
owner_leaves_version s o (Ring v) r h = absurd (cc)
owner_leaves_version s o (Slot None) r h = absurd (cc)
owner_leaves_version s o (Slot (Some t)) r h = let same : r ≡ with_owner s o t = cc in (t, refl, ap (λ q. q.version) same)

-- a slot's version can be raised where a record in it has a next one
can_raise : (x : Cell) → ((r : Stored) → x ≡ Slot (Some r) → r.version + 1 < 2 ^ 64) → CanEdit RaiseVersion x
can_raise (Usage v) next = tt
can_raise (Extent v) next = tt
can_raise (Ring v) next = tt
can_raise (Slot v) next = λ r h. next r (ap Slot h)

-- edits of distinct cells, and last of another cell an edit and its next version
pub can_make_raised : (es : List CellEdit) (c : CellName) (edit : Edit) (cells : Held) → are_distinct es ≡ true → are_of_others c es ≡ true → EachCanEdit es cells
    → ((x : Cell) → cell_of c cells ≡ Some x → CanEdit edit x) → LeavesVersion edit → HaveNextVersions cells
    → CanMake (es ++ record { name = c; edit = edit } ∷ record { name = c; edit = RaiseVersion } ∷ []) cells
can_make_raised es c edit cells once others each can leaves next =
    can_make_append es (record { name = c; edit = edit } ∷ record { name = c; edit = RaiseVersion } ∷ []) cells (can_make_distinct es cells once each)
    (λ new made. let stays = cell_of_made c es cells new others made in (λ x there. can x (sym stays ∙ there), λ y shows. (λ z there. can_raise z (version new stays y shows z there), λ w shown_too. tt)))
  where
    version : (new : Held) → cell_of c new ≡ cell_of c cells → (y : Cell) → ShowsEdited (record { name = c; edit = edit }) new y → (z : Cell) → cell_of c (with_cell c y new) ≡ Some z
        → (r : Stored) → z ≡ Slot (Some r) → r.version + 1 < 2 ^ 64
    version new stays y shows z there r is =
        let over = written_over c z y new there in
        let old = over.1 in
        let shown_is : SlotValue (Some r) ≡ edited edit (shown old.0) = ap shown (sym is ∙ over.0) ∙ shows old.0 old.1 in
        let was = leaves old.0 r shown_is in
        let bound : was.0.version + 1 < 2 ^ 64 = next c was.0 (sym stays ∙ old.1 ∙ ap Some was.1) in
        subst (λ v. v + 1 < 2 ^ 64) (sym was.2) bound
