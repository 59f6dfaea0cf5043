-- What the statements need is what the machine's units need.
use Rattle.std.proofs.Common.{ℕ, zero, suc, ◌≡◌, ◌≢◌, ◌<◌, ◌-◌, Bool, true, false, not, eqb, ◌||◌, List, [], ◌∷◌, ◌++◌, Option, Some, None, map, reverse, slice_get, refl, sym, ap, ◌∙◌, subst, inl, inr}
use Rattle.std.specs.Prelude.{is_some, if◌then◌else◌, IfOk, Result, Ok, Err}
use Rattle.std.specs.List.{list_all, list_any, find}
use Rattle.std.proofs.lemmas.Bool.{and_from}
use Rattle.std.proofs.lemmas.Option.{slice_get_within}
use Rattle.dbtg_unit.specs.Database.State.Legal.{pairwise}
use Rattle.dbtg_step.specs.Machine.Lawful.{AreDistinct}
use Rattle.std.proofs.lemmas.List.{reverse-append}
use Rattle.std.proofs.lemmas.List.Folds.{list_any-append}
use Rattle.dbtg_schema.specs.Lists.{Lists}
use Rattle.dbtg_cells.specs.declared.cell.Cell.{Cell}
use Rattle.dbtg_cells.specs.declared.cell.Cell.TheVariants.{Slot as SlotCell}
use Rattle.dbtg_cells.specs.declared.name.CellName.{CellName}
use Rattle.dbtg_cells.specs.Cells.{shown}
use Rattle.dbtg_cells.specs.Names.{name_eq}
use Rattle.dbtg_cells.specs.Shown.{CellValue}
use Rattle.dbtg_unit.specs.declared.held.Need.{Need}
use Rattle.dbtg_unit.specs.declared.held.Need.TheVariants.{Ready}
use Rattle.dbtg_unit.specs.declared.statement.Statement.{Statement}
use Rattle.dbtg_unit.specs.declared.unit.Unit.{Unit}
use Rattle.dbtg_unit.specs.Database.State.Base.{Database}
use Rattle.dbtg_unit.specs.Database.State.Cells.{cell}
use Rattle.dbtg_unit.specs.Database.Statements.Checks.{refused_at_once}
use Rattle.dbtg_unit.specs.Database.Statements.Fits.{fits}
use Rattle.dbtg_unit.specs.Hands.Hands.{Hands}
use Rattle.dbtg_unit.specs.Database.State.LegalWith.{IsUnitIn, LegalWith}
use Rattle.dbtg_unit.specs.Hands.Local.{Agrees, AllAgree}
use Rattle.dbtg_unit.specs.Hands.Needs.{areas_in_order, cells_of, is_stale, need, next_of}
use Rattle.dbtg_cells.proofs.Public.{or_nothing, same_name}
use Rattle.dbtg_unit.proofs.Public.{any_mapped}
use Rattle.dbtg_step.specs.declared.parts.Parts.{Parts}
use Rattle.dbtg_step.specs.declared.parts.CellLocation.TheVariants.{HeldBy as WithUnit}
use Rattle.dbtg_step.specs.declared.parts.UnitState.{UnitState}
use Rattle.dbtg_step.specs.declared.parts.StatementProgress.{StatementProgress}
use Rattle.dbtg_step.specs.Machine.SequentialDatabase.{HeldCell, In, unit_at}
use Rattle.dbtg_step.specs.Machine.Machine.{held_cells, replay}
use Rattle.dbtg_step.specs.Machine.Step.{next_need}
use Rattle.dbtg_step.specs.Machine.Network.{holding, network, next_need_of}
use Rattle.dbtg_step.specs.Core.Parts.{held_cells_of, held_of, progress_of, state_from, unit_state_of}
use Rattle.dbtg_step.specs.Inside.Parts.{state_of}
use Rattle.dbtg_step.specs.Inside.Stands.{HasPlace, HavePlaces}
use Rattle.dbtg_step.specs.Inside.Events.{IsNext, IsWell, NeedsNext, noted_now, opening_for}
use Rattle.dbtg_step.proofs.TheCore.EventsShown.{found, slice_get_in}
use Rattle.dbtg_step.proofs.TheCore.PlacesOfCells.{held_is_placed}
use Rattle.dbtg_step.proofs.EachEvent.UnitFacts.{unit_found}

-- LISTS IN REVERSE

or_turned : (a b : Bool) → a || b ≡ b || a
or_turned true true = refl
or_turned true false = refl
or_turned false true = refl
or_turned false false = refl

pub any_reverse : {X : Type 0} (p : X → Bool) (xs : List X) → list_any p (reverse xs) ≡ list_any p xs
any_reverse p [] = refl
any_reverse p (x ∷ xs) =
    ap (list_any p) (reverse-append (x ∷ []) xs) ∙ list_any-append p (reverse xs) (x ∷ [])
    ∙ (λ i. any_reverse p xs i || or_nothing (p x) i) ∙ or_turned (list_any p xs) (p x)

-- an element of the first of two lists
pub in_front_of : {X : Type 0} (x : X) (xs ys : List X) → In x xs → In x (xs ++ ys)
in_front_of x [] ys i = absurd i
in_front_of x (y ∷ xs) ys (inl e) = inl e
in_front_of x (y ∷ xs) ys (inr i) = inr (in_front_of x xs ys i)

pub in_back : {X : Type 0} (x : X) (xs : List X) → In x (xs ++ x ∷ [])
in_back x [] = inl refl
in_back x (y ∷ xs) = inr (in_back x xs)

-- an element of a list is one of the reversed list
pub in_reverse : {X : Type 0} (x : X) (xs : List X) → In x xs → In x (reverse xs)
in_reverse x [] i = absurd i
in_reverse {X} x (y ∷ xs) (inl e) = subst (λ (z : List X). In x z) (sym (reverse-append (y ∷ []) xs)) (subst (λ (z : X). In x (reverse xs ++ z ∷ [])) e (in_back x (reverse xs)))
in_reverse {X} x (y ∷ xs) (inr i) = subst (λ (z : List X). In x z) (sym (reverse-append (y ∷ []) xs)) (in_front_of x (reverse xs) (y ∷ []) (in_reverse x xs i))

-- what is made of an element is made of the list
pub in_mapped : {X Y : Type 0} (f : X → Y) (x : X) (xs : List X) → In x xs → In (f x) (map f xs)
in_mapped f x [] i = absurd i
in_mapped f x (y ∷ xs) (inl e) = inl (ap f e)
in_mapped f x (y ∷ xs) (inr i) = inr (in_mapped f x xs i)

-- THE NEED

module _ (schema : Lists) (capacity : ℕ) (db : Database) (unit : Unit) (x : Statement) (hands : Hands) where
  areas_same : (a : ℕ) → list_any (λ b. eqb b a) (reverse hands.areas) ≡ list_any (λ b. eqb b a) hands.areas
  areas_same a = any_reverse (λ b. eqb b a) hands.areas

  cells_same : (c : CellName) → list_any (λ (e : CellName × Cell). name_eq c e.0) (holding hands.guesses (reverse hands.areas) (held_cells_of hands.cells)).cells ≡ list_any (λ (e : CellName × Cell). name_eq c e.0) hands.cells
  cells_same c =
      any_mapped (λ (e : CellName × Cell). name_eq c e.0) (λ (h : HeldCell CellName CellValue). (h.name, SlotCell None)) (held_cells_of hands.cells)
      ∙ any_reverse (λ (h : HeldCell CellName CellValue). name_eq c h.name) (map held_of hands.cells)
      ∙ any_mapped (λ (h : HeldCell CellName CellValue). name_eq c h.name) held_of hands.cells

  -- the need depends neither on the order in which areas and cells are held nor on what is in the cells
  pub need_of_holding : need schema capacity db unit (holding hands.guesses (reverse hands.areas) (held_cells_of hands.cells)) x ≡ need schema capacity db unit hands x
  unfolding need
  need_of_holding = λ i.
      if is_some (refused_at_once schema capacity unit x) then Ready
      else next_of
      (find (λ a. not (areas_same a i)) (areas_in_order schema unit x))
      (find (λ c. not (cells_same c i)) (cells_of schema capacity db unit hands.guesses x))
      (is_stale schema capacity db unit hands.guesses x)

-- NO CELL IS HELD TWICE

module _ (schema : Lists) (capacity : ℕ) where
  distinct_front : (xs ys : List (HeldCell CellName CellValue)) → AreDistinct (network schema capacity) (xs ++ ys) → AreDistinct (network schema capacity) xs
  unfolding AreDistinct
  distinct_front [] ys d = tt
  distinct_front (x ∷ xs) ys d = (λ h i. d.0 h (in_front_of h xs ys i), distinct_front xs ys d.1)

  distinct_last : (xs : List (HeldCell CellName CellValue)) (h : HeldCell CellName CellValue) → AreDistinct (network schema capacity) (xs ++ h ∷ []) → (x : HeldCell CellName CellValue) → In x xs → h.name ≢ x.name
  unfolding AreDistinct
  distinct_last [] h d x i = absurd i
  distinct_last (y ∷ xs) h d x (inl e) = λ q. d.0 h (in_back h xs) (q ∙ ap (λ (z : HeldCell CellName CellValue). z.name) e)
  distinct_last (y ∷ xs) h d x (inr i) = distinct_last xs h d.1 x i

  apart : (c d : CellName) → c ≢ d → (b : Bool) → name_eq c d ≡ b → not b ≡ true
  apart c d n true e = absurd (n (same_name c d e))
  apart c d n false e = refl

  differ_each : (c : CellName) (es : List (CellName × Cell)) → ((f : CellName × Cell) → In f es → c ≢ f.0) → list_all (λ (f : CellName × Cell). not (name_eq c f.0)) es ≡ true
  differ_each c [] h = refl
  differ_each c (f ∷ es) h = and_from _ _ (apart c f.0 (h f (inl refl)) (name_eq c f.0) refl) (differ_each c es (λ g i. h g (inr i)))

  pub once_of_distinct : (es : List (CellName × Cell)) → AreDistinct (network schema capacity) (held_cells_of es) → pairwise (λ (e f : CellName × Cell). not (name_eq e.0 f.0)) es ≡ true
  once_of_distinct [] d = refl
  once_of_distinct (e ∷ es) d =
      let reversed : AreDistinct (network schema capacity) (held_cells_of es ++ held_of e ∷ []) = subst (AreDistinct (network schema capacity)) (reverse-append (held_of e ∷ []) (map held_of es)) d in
      and_from _ _
      (differ_each e.0 es (λ f i. distinct_last (held_cells_of es) (held_of e) reversed (held_of f) (in_reverse (held_of f) (map held_of es) (in_mapped held_of f es i))))
      (once_of_distinct es (distinct_front (held_cells_of es) (held_of e ∷ []) reversed))

-- THE UNIT IN A LAWFUL STATE

pub agree_each : (schema : Lists) (capacity : ℕ) (db : Database) (cells : List (CellName × Cell)) → ((e : CellName × Cell) → In e cells → shown e.1 ≡ cell schema capacity db e.0) → AllAgree schema capacity db cells
agree_each schema capacity db [] h = tt
agree_each schema capacity db (e ∷ es) h = (h e (inl refl), agree_each schema capacity db es (λ f i. h f (inr i)))

module _ (schema : Lists) (capacity u : ℕ) (parts : Parts) (r : UnitState) (well : IsWell schema capacity parts) (numbered : 0 < u) (there : slice_get parts.runners.items (u - 1) ≡ Some r) where
  -- the database of the history
  abbrev pub database_now : Database
  database_now = (replay (network schema capacity) (opening_for schema capacity parts) (state_of schema capacity parts).history).database

  here_is : unit_at (replay (network schema capacity) (opening_for schema capacity parts) (state_of schema capacity parts).history).units u ≡ Some r.unit
  here_is = unit_found (network schema capacity) (opening_for schema capacity parts) (state_of schema capacity parts) well.lawful u (unit_state_of schema capacity r) (found schema capacity u parts r well numbered there)

  each_unit : (units : List Unit) → LegalWith schema capacity database_now units → (v : ℕ) → unit_at units v ≡ Some r.unit → IsUnitIn schema capacity database_now v r.unit
  unfolding unit_at
  each_unit units legal zero e = absurd (cc (e))
  each_unit units legal (suc v) e = legal.each v r.unit e

  pub unit_in : IsUnitIn schema capacity database_now u r.unit
  unit_in = each_unit (replay (network schema capacity) (opening_for schema capacity parts) (state_of schema capacity parts).history).units well.lawful.legal u here_is

  -- the held cells are the database's
  pub agrees_now : Agrees schema capacity database_now r.held r.unit
  unfolding held_cells state_from
  agrees_now = record {
    legal = well.lawful.legal.legal;
    cells = by r.progress refl;
    usage = unit_in.usage;
  }
    where
      by : (o : Option StatementProgress) → r.progress ≡ o → AllAgree schema capacity database_now r.held.cells
      by None e = subst (AllAgree schema capacity database_now) (sym ((well.runners (u - 1) r there).settled e).1) tt
      by (Some w) e = agree_each schema capacity database_now r.held.cells (λ f i.
          (well.lawful.each u (unit_state_of schema capacity r) (found schema capacity u parts r well numbered there)).holding.values (held_of f)
          (subst (λ o. In (held_of f) (held_cells (network schema capacity) (progress_of schema capacity r.held o))) (sym e) (in_reverse (held_of f) (map held_of r.held.cells) (in_mapped held_of f r.held.cells i))))

  pub once_now : pairwise (λ (e f : CellName × Cell). not (name_eq e.0 f.0)) r.held.cells ≡ true
  unfolding held_cells state_from
  once_now = by r.progress refl
    where
      by : (o : Option StatementProgress) → r.progress ≡ o → pairwise (λ (e f : CellName × Cell). not (name_eq e.0 f.0)) r.held.cells ≡ true
      by None e = ap (pairwise (λ (e f : CellName × Cell). not (name_eq e.0 f.0))) ((well.runners (u - 1) r there).settled e).1
      by (Some w) e = once_of_distinct schema capacity r.held.cells (subst (λ o. AreDistinct (network schema capacity) (held_cells (network schema capacity) (progress_of schema capacity r.held o))) e (well.lawful.each u (unit_state_of schema capacity r) (found schema capacity u parts r well numbered there)).holding.distinct)

  -- the table has a place for each held cell
  pub have_places : HavePlaces schema capacity r.held.cells parts.table.items
  unfolding held_cells state_from
  have_places f i = by r.progress refl
    where
      by : (o : Option StatementProgress) → r.progress ≡ o → HasPlace schema capacity f.0 parts.table.items
      by None e = absurd (subst (In f) ((well.runners (u - 1) r there).settled e).1 i)
      by (Some w) e =
          let held = (well.lawful.each u (unit_state_of schema capacity r) (found schema capacity u parts r well numbered there)).holding.held (held_of f)
          (subst (λ o. In (held_of f) (held_cells (network schema capacity) (progress_of schema capacity r.held o))) (sym e) (in_reverse (held_of f) (map held_of r.held.cells) (in_mapped held_of f r.held.cells i))) in
          let placed = held_is_placed schema capacity parts.table.items f.0 u held in
          record { number = placed.number; is = placed.is; within = slice_get_within parts.table.items placed.number (WithUnit u) placed.there }

  pub statement_fits : (x : Statement) → slice_get r.script r.next ≡ Some x → fits schema x ≡ true
  unfolding state_from
  statement_fits x e = (well.lawful.each u (unit_state_of schema capacity r) (found schema capacity u parts r well numbered there)).fits x (slice_get_in r.script r.next x e)

  -- the machine's need
  pub need_is : (w : StatementProgress) (x : Statement) (n : Need) → ((db : Database) → Agrees schema capacity db r.held r.unit → n ≡ need schema capacity db r.unit r.held x) → IsNext schema capacity parts r x w n
  unfolding next_need
  need_is w x n h = record {
    is = ap (next_need_of (noted_now schema capacity parts r x)) (need_of_holding schema capacity database_now r.unit x r.held ∙ sym (h database_now agrees_now));
    everywhere = h;
  }

pub needs_next : (schema : Lists) (capacity u : ℕ) (parts : Parts) (r : UnitState) → IsWell schema capacity parts → 0 < u → slice_get parts.runners.items (u - 1) ≡ Some r → (w : StatementProgress) (y : Statement) (n : Need) → slice_get r.script r.next ≡ Some y →
    ((db : Database) → Agrees schema capacity db r.held r.unit → n ≡ need schema capacity db r.unit r.held y) → NeedsNext schema capacity parts u w n
needs_next schema capacity u parts r well numbered at w y n e h r' x at' e' =
    let same : r ≡ r' = cc (at, at') in
    subst (λ (s : UnitState). slice_get s.script s.next ≡ Some x → IsNext schema capacity parts s x w n) same
    (λ f. let p : y ≡ x = cc (e, f) in subst (λ z. IsNext schema capacity parts r z w n) p (need_is schema capacity u parts r well numbered at w y n h)) e'

-- what follows from what an Ok has
pub ok_also : {T E : Type 0} (r : Result T E) (P Q : T → Type 0) → ((t : T) → P t → Q t) → IfOk r P → IfOk r Q
ok_also (Ok t) P Q f h = f t h
ok_also (Err e) P Q f h = tt
