-- With every area and every cell held, a statement needs nothing more, and what it makes of its cells is its effect on the whole database.
use Rattle.std.proofs.Common.{Bor, ℕ, zero, suc, ◌+◌, ◌-◌, ◌<◌, ◌≤◌, ◌≡◌, ◌≢◌, ◌^◌, Bool, true, false, cond, not, ◌&&◌, ◌||◌, List, [], ◌∷◌, ◌++◌, length, map, replicate, Option, Some, None, ◌⊎◌, inl, inr, slice_get, slice_set, get_or, refl, sym, ap, ◌∙◌, subst, arith}
use Rattle.std.specs.Prelude.{IfOk, IfSome, OnErr, Result, Ok, Err, is_some, option_copied, option_map, if◌then◌else◌, ◌==◌}
use Rattle.std.specs.List.{list_any, list_all, find, range_with_len}
use Rattle.std.proofs.lemmas.Bool.{and_from, cases_Bool, eq-eqb, false≢true}
use Rattle.std.proofs.lemmas.List.{length-map, length-set}
use Rattle.std.proofs.lemmas.List.FromFn.{length-range_with_len}
use Rattle.std.proofs.lemmas.Option.{same_Some, slice_get_read}
use Rattle.dbtg_schema.specs.Lists.{Lists}
use Rattle.dbtg_schema.specs.Lookups.{at, some_and}
use Rattle.dbtg_schema.specs.Sound.{IsSound}
use Rattle.dbtg_cells.specs.declared.cell.Cell.{Cell}
use Rattle.dbtg_cells.specs.declared.key.DbKey.{DbKey}
use Rattle.dbtg_cells.specs.declared.key.Owner.{Owner}
use Rattle.dbtg_cells.specs.declared.name.CellName.{CellName}
use Rattle.dbtg_cells.specs.CellNumbers.{cells_in_order, is_cell}
use Rattle.dbtg_cells.specs.Names.{name_eq}
use Rattle.dbtg_cells.specs.Shown.{CellValue}
use Rattle.dbtg_cells.specs.Cells.{shown}
use Rattle.dbtg_cells.proofs.Public.{cell_in_order, numbered_at, same_name}
use Rattle.dbtg_unit.specs.declared.held.Need.{Need}
use Rattle.dbtg_unit.specs.declared.held.Need.TheVariants.{Stale, Ready}
use Rattle.dbtg_unit.specs.declared.statement.Statement.{Statement}
use Rattle.dbtg_unit.specs.declared.statement.Statement.TheVariants.{OpenArea, CloseArea, Find, Get, Store, Insert, Remove, Modify, Delete, Keep, Free}
use Rattle.dbtg_unit.specs.declared.unit.Answer.{Answer}
use Rattle.dbtg_unit.specs.declared.unit.Entry.{Entry}
use Rattle.dbtg_unit.specs.declared.unit.Unit.{Unit}
use Rattle.dbtg_unit.specs.Database.State.Base.{Database, is_live, opening, owner_of}
use Rattle.dbtg_unit.specs.Database.State.Belongs.{IsUnitOf, IsWithin}
use Rattle.dbtg_unit.specs.Database.State.Cells.{cell}
use Rattle.dbtg_unit.specs.Database.Statements.Checks.{refused_at_once}
use Rattle.dbtg_unit.specs.Database.Statements.Effect.{StatementEffect, effect}
use Rattle.dbtg_unit.specs.Database.Statements.Fits.{fits}
use Rattle.dbtg_unit.specs.Hands.Guesses.{with_owners}
use Rattle.dbtg_unit.specs.Hands.Hands.{Hands, cell_of}
use Rattle.dbtg_unit.specs.Database.State.Image.{image_of}
use Rattle.dbtg_unit.specs.Database.State.Legal.{pairwise}
use Rattle.dbtg_unit.specs.Database.State.LegalWith.{IsUnitIn, LegalWith}
use Rattle.dbtg_unit.specs.Hands.Local.{Agrees, AllAgree, names_of}
use Rattle.dbtg_unit.specs.Hands.Locality.{IsMadeOn, seen}
use Rattle.dbtg_unit.specs.Hands.Making.{HaveNextVersions, ShowsTheSame}
use Rattle.dbtg_unit.specs.Hands.Needs.{areas_in_order, cells_of, guessed_sets, is_stale, is_wrong_guess, need, need_of_cells, next_of, stale_owners}
use Rattle.dbtg_unit.specs.Hands.Prepared.{values_of}
use Rattle.dbtg_unit.specs.Database.Laws.Replay.{State, AnswersHold, IsHistoryOf, after, after_effect, opening_state, effect_of_unit, replay}
use Rattle.dbtg_unit.proofs.Public.{In, all_agree_same, all_at, any_in, any_mapped, find_element, held_cell_agrees, holds_any, holds_there, of_filter, opening_is_legal, replay_keeps_legal, replays_one_more, versions_are_bounded}
use Rattle.dbtg_step.specs.Inside.Imaging.{image_from}
use Rattle.dbtg_step.specs.Core.Whole.{HasMade, Making}
use Rattle.dbtg_step.specs.Core.Bare.{HoldsAll, IsWhole}
use Rattle.dbtg_step.specs.Inside.Whole.{IsEffect, IsGuessed, goes_by_guesses}
use Rattle.dbtg_step.proofs.MadeWhole.Audits.{fits_more}
use Rattle.dbtg_step.proofs.Network.CellsExist.{cells_exist, has_ring}
use Rattle.dbtg_step.proofs.TheCore.DrawnShown.{versions_next}
use Rattle.dbtg_step.proofs.Network.NeededCells.{not_beyond}
use Rattle.dbtg_step.proofs.TheCore.ImagesRead.{ShowsCell, read_is_image}
use Rattle.dbtg_step.proofs.Network.NeededCellsExist.{none_guessed, turned_have_rings}
use Rattle.dbtg_step.proofs.TheCore.RangePushes.{range_pushed_behind}
use Rattle.dbtg_step.proofs.Network.TurnsBack.{not_stale_again}
use Rattle.dbtg_step.proofs.EachEvent.UnitLists.{set_same_at}

-- NO CELL STANDS TWICE

same_once : (c d : CellName) (b : Bool) → name_eq c d ≡ b → (c ≡ d → ⊥) → not b ≡ true
same_once c d true e n = absurd (n (same_name c d e))
same_once c d false e n = refl

none_same : (c : CellName) (cs : List CellName) → ((j : ℕ) (d : CellName) → slice_get cs j ≡ Some d → c ≡ d → ⊥) → list_all (λ d. not (name_eq c d)) cs ≡ true
none_same c [] h = refl
none_same c (d ∷ cs) h = and_from _ _ (same_once c d (name_eq c d) refl (h 0 d refl)) (none_same c cs (λ j e. h (suc j) e))

-- if each name is at only one place, no two are the same
pub apart : (cs : List CellName) → ((i j : ℕ) (c : CellName) → slice_get cs i ≡ Some c → slice_get cs j ≡ Some c → i ≡ j) → pairwise (λ c d. not (name_eq c d)) cs ≡ true
apart [] h = refl
apart (c ∷ cs) h =
    and_from _ _
    (none_same c cs (λ j d e same. let q : 0 ≡ suc j = h 0 (suc j) d (ap Some same) e in absurd (omega (arith, q))))
    (apart cs (λ i j d e f. let q : suc i ≡ suc j = h (suc i) (suc j) d e f in omega (arith, q)))

named_apart : (es : List (CellName × Cell)) → pairwise (λ (e f : CellName × Cell). not (name_eq e.0 f.0)) es ≡ pairwise (λ c d. not (name_eq c d)) (names_of es)
named_apart [] = refl
named_apart (e ∷ es) = λ i. others es i && named_apart es i
  where
    others : (fs : List (CellName × Cell)) → list_all (λ (f : CellName × Cell). not (name_eq e.0 f.0)) fs ≡ list_all (λ d. not (name_eq e.0 d)) (names_of fs)
    others [] = refl
    others (f ∷ fs) = ap (λ b. not (name_eq e.0 f.0) && b) (others fs)

-- names are those of what is shown
pub names_shown : (es : List (CellName × Cell)) → names_of es ≡ map (λ (v : CellName × CellValue). v.0) (values_of es)
names_shown [] = refl
names_shown (e ∷ es) = ap (λ ns. e.0 ∷ ns) (names_shown es)

module _ (schema : Lists) (capacity : ℕ) (hands : Hands) (all : HoldsAll schema capacity hands) where
  pub held_once : pairwise (λ (e f : CellName × Cell). not (name_eq e.0 f.0)) hands.cells ≡ true
  held_once =
      named_apart hands.cells ∙ ap (pairwise (λ c d. not (name_eq c d))) all.names
      ∙ apart (cells_in_order schema capacity) (λ i j c e f. same_Some i j (sym (numbered_at schema capacity i c e) ∙ numbered_at schema capacity j c f))

  -- the cells of the schema are held, and no others
  pub held_is_cell : (c : CellName) → list_any (λ (e : CellName × Cell). name_eq c e.0) hands.cells ≡ is_cell schema capacity c
  held_is_cell c = sym (any_mapped (name_eq c) (λ (e : CellName × Cell). e.0) hands.cells) ∙ ap (list_any (name_eq c)) all.names ∙ cell_in_order schema capacity c

  -- each is held
  cell_held : (c : CellName) → is_cell schema capacity c ≡ true → list_any (λ (e : CellName × Cell). name_eq c e.0) hands.cells ≡ true
  cell_held c h = held_is_cell c ∙ h

  -- a cell is there just where it is one of the schema
  there_is_cell : (c : CellName) → is_some (cell_of c hands.cells) ≡ is_cell schema capacity c
  there_is_cell c = holds_there hands.cells c ∙ sym (holds_any hands.cells c) ∙ held_is_cell c

-- one area more is held
pub area_more : (first held more : Hands) (n j : ℕ) → n ≡ j → held ≡ record { areas = first.areas ++ range_with_len 0 n; cells = first.cells; guesses = first.guesses } → more ≡ record { areas = held.areas ++ j ∷ []; cells = held.cells; guesses = held.guesses }
    → more ≡ record { areas = first.areas ++ range_with_len 0 (n + 1); cells = first.cells; guesses = first.guesses }
area_more first held more n j at e g =
    let areas = range_pushed_behind n j at first.areas (first.areas ++ range_with_len 0 n) ((first.areas ++ range_with_len 0 n) ++ j ∷ []) refl refl in
    g ∙ (λ i. record { areas = (e i).areas ++ j ∷ []; cells = (e i).cells; guesses = (e i).guesses }) ∙ (λ i. record { areas = areas i; cells = first.cells; guesses = first.guesses })

-- NOTHING MORE IS NEEDED

none_found : {X : Type 0} (p : X → Bool) (xs : List X) → ((x : X) → In x xs → p x ≡ false) → find p xs ≡ None
none_found p xs h = by (find p xs) refl
  where
    by : (o : Option _) → find p xs ≡ o → find p xs ≡ None
    by None e = e
    by (Some x) e = let f = find_element p xs x e in absurd (false≢true (sym (h x f.0) ∙ f.1))

module _ (schema : Lists) (capacity : ℕ) (sound : IsSound schema) (db : Database) (unit : Unit) (x : Statement) (hands : Hands) (all : HoldsAll schema capacity hands)
    (fit : fits schema x ≡ true) (of : IsUnitOf schema unit) (within : IsWithin capacity unit) (agrees : Agrees schema capacity db hands unit) (rings : (s : ℕ) → has_ring schema capacity s (at hands.guesses s) ≡ true) where
  abbrev refuses : Bool
  refuses = is_some (refused_at_once schema capacity unit x)

  area_held : (a : ℕ) → In a (areas_in_order schema unit x) → not (list_any (λ b. b == a) hands.areas) ≡ false
  area_held a i =
      let listed = (of_filter _ a (range_with_len 0 (length schema.areas)) i).0 in
      ap not (ap (list_any (λ b. b == a)) all.areas ∙ any_in (λ b. b == a) a (range_with_len 0 (length schema.areas)) listed (eq-eqb a a refl))

  cells_held : refuses ≡ false → (c : CellName) → In c (cells_of schema capacity db unit hands.guesses x) → not (list_any (λ (e : CellName × Cell). name_eq c e.0) hands.cells) ≡ false
  cells_held r c i =
      let exist = cells_exist schema capacity sound db agrees.legal unit of within hands.guesses rings x fit (not_beyond schema capacity unit x r) in
      ap not (cell_held schema capacity hands all c (all_at (is_cell schema capacity) c (cells_of schema capacity db unit hands.guesses x) exist i))

  needs : (r : Bool) → refuses ≡ r → need schema capacity db unit hands x ≡ (if r then Ready else next_of None None (is_stale schema capacity db unit hands.guesses x))
  unfolding need
  needs true e = ap (λ b. if b then Ready else need_of_cells schema capacity db unit hands x) e
  needs false e =
      (λ i. if e i then Ready else next_of
      (none_found (λ a. not (list_any (λ b. b == a) hands.areas)) (areas_in_order schema unit x) area_held i)
      (none_found (λ c. not (list_any (λ (e : CellName × Cell). name_eq c e.0) hands.cells)) (cells_of schema capacity db unit hands.guesses x) (cells_held e) i)
      (is_stale schema capacity db unit hands.guesses x))

  -- a guess is wrong, or nothing more is needed
  pub ready_or_stale : (need schema capacity db unit hands x ≡ Ready) ⊎ ((refuses ≡ false) × (need schema capacity db unit hands x ≡ Stale))
  ready_or_stale = elim (cases_Bool refuses) [
    | inl r ↦ inl (needs true r)
    | inr r ↦ elim (cases_Bool (is_stale schema capacity db unit hands.guesses x)) [
      | inl s ↦ inr (r, needs false r ∙ ap (next_of None None) s)
      | inr s ↦ inl (needs false r ∙ ap (next_of None None) s)
    ]
  ]

  -- where no guess is stale it is the second
  pub ready_now : is_stale schema capacity db unit hands.guesses x ≡ false → need schema capacity db unit hands x ≡ Ready
  ready_now s = elim (cases_Bool refuses) [
    | inl r ↦ needs true r
    | inr r ↦ needs false r ∙ ap (next_of None None) s
  ]

-- THE GUESSES

no_guessed_sets : (schema : Lists) (unit : Unit) (x : Statement) → goes_by_guesses x ≡ false → guessed_sets schema unit x ≡ []
no_guessed_sets schema unit (OpenArea a mode) e = refl
no_guessed_sets schema unit (CloseArea a) e = refl
no_guessed_sets schema unit (Find suppress form) e = refl
no_guessed_sets schema unit (Get r) e = refl
no_guessed_sets schema unit (Store t items suppress) e = refl
no_guessed_sets schema unit (Insert s) e = refl
no_guessed_sets schema unit (Remove s) e = absurd (cc (e))
no_guessed_sets schema unit (Modify t changes) e = absurd (cc (e))
no_guessed_sets schema unit (Delete option) e = refl
no_guessed_sets schema unit Keep e = refl
no_guessed_sets schema unit (Free all) e = refl

-- what a statement that goes by no guesses needs does not depend on them
guesses_apart : (schema : Lists) (capacity : ℕ) (db : Database) (unit : Unit) (areas : List ℕ) (cells : List (CellName × Cell)) (g h : List (Option Owner)) (x : Statement) → goes_by_guesses x ≡ false
    → need schema capacity db unit (record { areas = areas; cells = cells; guesses = g }) x ≡ need schema capacity db unit (record { areas = areas; cells = cells; guesses = h }) x
unfolding need
guesses_apart schema capacity db unit areas cells g h (OpenArea a mode) e = refl
guesses_apart schema capacity db unit areas cells g h (CloseArea a) e = refl
guesses_apart schema capacity db unit areas cells g h (Find suppress form) e = refl
guesses_apart schema capacity db unit areas cells g h (Get r) e = refl
guesses_apart schema capacity db unit areas cells g h (Store t items suppress) e = refl
guesses_apart schema capacity db unit areas cells g h (Insert s) e = refl
guesses_apart schema capacity db unit areas cells g h (Remove s) e = absurd (cc (e))
guesses_apart schema capacity db unit areas cells g h (Modify t changes) e = absurd (cc (e))
guesses_apart schema capacity db unit areas cells g h (Delete option) e = refl
guesses_apart schema capacity db unit areas cells g h Keep e = refl
guesses_apart schema capacity db unit areas cells g h (Free all) e = refl

module _ (schema : Lists) (capacity : ℕ) (sound : IsSound schema) (unit : Unit) (x : Statement) (old : Hands) (all : HoldsAll schema capacity old)
    (fit : fits schema x ≡ true) (of : IsUnitOf schema unit) (within : IsWithin capacity unit) where
  -- with these guesses
  abbrev pub guessing : List (Option Owner) → Hands
  guessing guesses = record { areas = old.areas; cells = old.cells; guesses = guesses }

  holds : (guesses : List (Option Owner)) → HoldsAll schema capacity (guessing guesses)
  holds guesses = record { areas = all.areas; names = all.names }

  also : (db : Database) (g g' : List (Option Owner)) → Agrees schema capacity db (guessing g) unit → Agrees schema capacity db (guessing g') unit
  also db g g' a = record { legal = a.legal; cells = a.cells; usage = a.usage }

  abbrev nones : List (Option Owner)
  nones = replicate (length schema.sets) None

  -- without sets in which an owner is guessed no guess is wrong
  none_wrong : (db : Database) (o : Option DbKey) → some_and (λ k. is_live db k && list_any (λ s. is_wrong_guess (owner_of schema capacity db s k) (at nones s)) []) o ≡ false
  none_wrong db None = refl
  none_wrong db (Some k) = by (is_live db k)
    where
      by : (b : Bool) → (b && false) ≡ false
      by true = refl
      by false = refl

  -- a statement that goes by no guesses needs the same whatever they are
  pub guessed_without : goes_by_guesses x ≡ false → IsGuessed schema capacity unit x old old
  guessed_without e = record {
    rest = refl;
    ready = λ db a. guesses_apart schema capacity db unit old.areas old.cells old.guesses nones x e
        ∙ ready_now schema capacity sound db unit x (guessing nones) (holds nones) fit of within (also db old.guesses nones a) (none_guessed schema capacity (length schema.sets))
        (subst (λ sets. some_and (λ k. is_live db k && list_any (λ s. is_wrong_guess (owner_of schema capacity db s k) (at nones s)) sets) unit.currency.run_unit ≡ false) (sym (no_guessed_sets schema unit x e)) (none_wrong db unit.currency.run_unit));
  }

  module _ (n : Need) (is : (db : Database) → Agrees schema capacity db (guessing nones) unit → n ≡ need schema capacity db unit (guessing nones) x) where
    pub guessed_nothing : (n ≢ Stale) → IsGuessed schema capacity unit x old (guessing nones)
    guessed_nothing other = record {
      rest = refl;
      ready = λ db a. elim (ready_or_stale schema capacity sound db unit x (guessing nones) (holds nones) fit of within a (none_guessed schema capacity (length schema.sets))) [
        | inl r ↦ r
        | inr s ↦ absurd (other (is db a ∙ s.1))
      ];
    }

    module _ (stale : n ≡ Stale) (owners : List (Option Owner))
        (are : (db : Database) → Agrees schema capacity db (guessing nones) unit → need schema capacity db unit (guessing nones) x ≡ Stale → owners ≡ with_owners nones (stale_owners schema capacity db unit nones x)) where
      ready_then : (db : Database) → Agrees schema capacity db (guessing owners) unit → need schema capacity db unit (guessing owners) x ≡ Ready
      ready_then db a =
          let b = also db owners nones a in
          let noted = are db b (sym (is db b) ∙ stale) in
          ready_now schema capacity sound db unit x (guessing owners) (holds owners) fit of within a
          (λ s. subst (λ g. has_ring schema capacity s (at g s) ≡ true) (sym noted) (turned_have_rings schema capacity db a.legal unit nones x (none_guessed schema capacity (length schema.sets)) s))
          (ap (λ g. is_stale schema capacity db unit g x) noted ∙ not_stale_again schema capacity db unit x fit nones)

      pub guessed_owners : IsGuessed schema capacity unit x old (guessing owners)
      guessed_owners = record { rest = refl; ready = ready_then }

-- THE EFFECT

module _ (schema : Lists) (capacity : ℕ) where
  named_again : (db : Database) (cs : List (CellName × Cell)) → map (λ (v : CellName × CellValue). v.0) (map (λ (e : CellName × Cell). (e.0, cell schema capacity db e.0)) cs) ≡ names_of cs
  named_again db [] = refl
  named_again db (c ∷ cs) = ap (λ ns. c.0 ∷ ns) (named_again db cs)

  agree_made : (db : Database) (ms cs : List (CellName × Cell)) → values_of ms ≡ map (λ (e : CellName × Cell). (e.0, cell schema capacity db e.0)) cs → AllAgree schema capacity db ms
  agree_made db [] cs e = tt
  agree_made db (m ∷ ms) [] e = absurd (cc (e))
  agree_made db (m ∷ ms) (c ∷ cs) e =
      let first : (m.0, shown m.1) ≡ (c.0, cell schema capacity db c.0) = cc (e) in
      let rest : values_of ms ≡ map (λ (e : CellName × Cell). (e.0, cell schema capacity db e.0)) cs = cc (e) in
      (ap (λ (v : CellName × CellValue). v.1) first ∙ ap (λ (v : CellName × CellValue). cell schema capacity db v.0) (sym first), agree_made db ms cs rest)

  pub same_names : (old new : Hands) → values_of new.cells ≡ values_of old.cells → new.areas ≡ old.areas → HoldsAll schema capacity old → HoldsAll schema capacity new
  same_names old new v a all = record {
    areas = a ∙ all.areas;
    names = names_shown new.cells ∙ ap (map (λ (w : CellName × CellValue). w.0)) v ∙ sym (names_shown old.cells) ∙ all.names;
  }

  module _ (unit unit' : Unit) (x : Statement) (old mid new : Hands) (answer : Answer) (guessed : IsGuessed schema capacity unit x old mid) where
    pub also_guessed : (db : Database) → Agrees schema capacity db old unit → Agrees schema capacity db mid unit
    also_guessed db a = record { legal = a.legal; cells = subst (AllAgree schema capacity db) (sym (ap (λ (h : Hands). h.cells) guessed.rest)) a.cells; usage = a.usage }

    pub made_all : HoldsAll schema capacity old → (db : Database) → IsMadeOn schema capacity db unit mid x (seen answer unit' new) → HoldsAll schema capacity new
    made_all all db m = record {
      areas = m.areas_are ∙ ap (λ (h : Hands). h.areas) guessed.rest ∙ all.areas;
      names = names_shown new.cells ∙ ap (map (λ (w : CellName × CellValue). w.0)) m.cells_are ∙ named_again _ mid.cells ∙ ap (λ (h : Hands). names_of h.cells) guessed.rest ∙ all.names;
    }

    pub made_effect : (db : Database) → IsMadeOn schema capacity db unit mid x (seen answer unit' new) → IsEffect schema capacity db x unit unit' new answer
    made_effect db m = record { answer_is = m.answer_is; unit_is = m.unit_is; cells = agree_made (effect schema capacity db unit x).database new.cells mid.cells m.cells_are }

  -- whether it is made or not, all areas and cells are held
  module _ (unit unit' : Unit) (x : Statement) (old mid new : Hands) (guessed : IsGuessed schema capacity unit x old mid) (all : HoldsAll schema capacity old) (db : Database) (agrees : Agrees schema capacity db old unit) where
    mid_all : HoldsAll schema capacity mid
    mid_all = record { areas = ap (λ (h : Hands). h.areas) guessed.rest ∙ all.areas; names = ap (λ (h : Hands). names_of h.cells) guessed.rest ∙ all.names }

    pub still_all : {A E : Type 0} (answer : A → Answer) (r : Result A E) → IfOk r (λ a. (d : Database) → Agrees schema capacity d mid unit → IsMadeOn schema capacity d unit mid x (seen (answer a) unit' new)) → OnErr r (ShowsTheSame mid new) → HoldsAll schema capacity new
    still_all answer (Ok a) h g = made_all unit unit' x old mid new (answer a) guessed all db (h db (also_guessed unit unit' x old mid new (answer a) guessed db agrees))
    still_all answer (Err e) h g = same_names mid new g.cells g.areas mid_all

-- the held cell of a name shows what the database has for it
found_in_hand : (schema : Lists) (capacity : ℕ) (db : Database) (c : CellName) (es : List (CellName × Cell)) → AllAgree schema capacity db es → list_any (λ (e : CellName × Cell). name_eq c e.0) es ≡ true → ShowsCell schema capacity db (λ d. cell_of d es) c
found_in_hand schema capacity db c [] a h = absurd (false≢true h)
found_in_hand schema capacity db c (e ∷ es) a h = by (name_eq c e.0) refl (found_in_hand schema capacity db c es a.1)
  where
    by : (b : Bool) → name_eq c e.0 ≡ b → (list_any (λ (f : CellName × Cell). name_eq c f.0) es ≡ true → ShowsCell schema capacity db (λ d. cell_of d es) c) → ShowsCell schema capacity db (λ d. cell_of d (e ∷ es)) c
    by true q others = record {
      which = e.1;
      there = ap (λ b. cond b (Some e.1) (cell_of c es)) q;
      shows = a.0 ∙ ap (cell schema capacity db) (sym (same_name c e.0 q));
    }
    by false q others =
        let rest = others (sym (ap (λ b. b || list_any (λ (f : CellName × Cell). name_eq c f.0) es) q) ∙ h) in
        record { which = rest.which; there = ap (λ b. cond b (Some e.1) (cell_of c es)) q ∙ rest.there; shows = rest.shows }

-- THE DATABASE

abbrev pub making : Lists → ℕ → ℕ → List Entry → Making
making schema capacity units history = record { schema = schema; capacity = capacity; units = units; history = history }

-- before the first statement
pub opens : (schema : Lists) (capacity n : ℕ) (hands : Hands) (units : List Unit) → IsSound schema → units ≡ (opening_state schema n).units → HoldsAll schema capacity hands → AllAgree schema capacity (opening schema) hands.cells →
    (length units ≡ n) × IsWhole schema capacity hands units []
unfolding replay AnswersHold
opens schema capacity n hands units sound are all agree =
    let count : length units ≡ n = ap length are ∙ length-map (range_with_len 1 n) _ ∙ length-range_with_len 1 n in (
      count,
      record {
        sound = sound;
        history_of = record { tickets = refl; fitting = refl; answers_hold = tt };
        units_are = are ∙ ap (λ m. (opening_state schema m).units) (sym count);
        all = all;
        cells = agree;
      },
    )

module _ (schema : Lists) (capacity : ℕ) (hands : Hands) (units : List Unit) (history : List Entry) (w : IsWhole schema capacity hands units history) where
  -- the database of the history
  abbrev pub now : State
  now = replay schema capacity (opening_state schema (length units)) history

  legal : LegalWith schema capacity now.database now.units
  legal = replay_keeps_legal schema capacity (opening_state schema (length units)) history w.sound (opening_is_legal schema capacity (length units)) w.history_of.fitting

  -- the image that is read from the held cells
  pub whole_image : image_from schema (λ c. cell_of c hands.cells) ≡ image_of schema capacity now.database
  whole_image = read_is_image schema capacity now.database w.sound legal.legal (λ c. cell_of c hands.cells) (λ c h. found_in_hand schema capacity now.database c hands.cells w.cells (cell_held schema capacity hands w.all c h))

  -- the held cell of a name: the cell of the database, if it is one of the schema
  pub whole_cell : (c : CellName) (r : Option (Bor Cell)) → option_copied r ≡ cell_of c hands.cells → IfSome r (λ x. shown x.now ≡ cell schema capacity now.database c) × (is_some r ≡ is_cell schema capacity c)
  whole_cell c None e = (tt, ap is_some e ∙ there_is_cell schema capacity hands w.all c)
  whole_cell c (Some x) e = (held_cell_agrees schema capacity now.database hands.cells c x.now w.cells (sym e), ap is_some e ∙ there_is_cell schema capacity hands w.all c)

  pub units_counted : length now.units ≡ length units
  units_counted = ap length (sym w.units_are)

  module _ (u : ℕ) (r : Unit) (numbered : 0 < u) (there : slice_get units (u - 1) ≡ Some r) where
    pub found_unit : slice_get now.units (u - 1) ≡ Some r
    found_unit = ap (λ us. slice_get us (u - 1)) (sym w.units_are) ∙ there

    pub maker : IsUnitIn schema capacity now.database (suc (u - 1)) r
    maker = legal.each (u - 1) r found_unit

    pub maker_agrees : Agrees schema capacity now.database hands r
    maker_agrees = record { legal = legal.legal; cells = w.cells; usage = maker.usage }

    module _ (x : Statement) where
      abbrev outcome : StatementEffect
      outcome = effect schema capacity now.database r x

      outcome_found : effect_of_unit schema capacity now u x ≡ Some outcome
      outcome_found = by u numbered found_unit
        where
          by : (v : ℕ) → 0 < v → slice_get now.units (v - 1) ≡ Some r → effect_of_unit schema capacity now v x ≡ Some outcome
          by zero l e = absurd (omega (arith, l))
          by (suc n) l e = let index : n ≡ suc n - 1 = omega arith in ap (option_map (λ unit. effect schema capacity now.database unit x)) (ap (slice_get now.units) index ∙ e)

      module _ (fit : fits schema x ≡ true) (unit' : Unit) (new : Hands) (answer : Answer) (made : IsEffect schema capacity now.database x r unit' new answer) (all : HoldsAll schema capacity new) where
        abbrev entry : Entry
        entry = record { ticket = length history; unit = u; statement = x; answer = answer }

        abbrev first : State
        first = opening_state schema (length units)

        after_is : replay schema capacity first (history ++ entry ∷ []) ≡ after now u outcome
        after_is = (replays_one_more schema capacity first history entry).state_is ∙ ap (after_effect now u) outcome_found

        count : length (slice_set units (u - 1) unit') ≡ length units
        count = length-set units (u - 1) unit'

        units_then : slice_set units (u - 1) unit' ≡ (after now u outcome).units
        units_then = λ i. slice_set (w.units_are i) (u - 1) (made.unit_is i)

        history_then : IsHistoryOf schema capacity (length units) (history ++ entry ∷ [])
        history_then =
            let more = replays_one_more schema capacity first history entry in
            record {
              tickets = more.tickets_on w.history_of.tickets refl;
              fitting = fits_more schema history entry w.history_of.fitting fit;
              answers_hold = more.answers_on w.history_of.answers_hold (ap (option_map (λ (o : StatementEffect). o.answer)) outcome_found ∙ ap Some (sym made.answer_is));
            }

        pub whole_then : IsWhole schema capacity new (slice_set units (u - 1) unit') (history ++ entry ∷ [])
        whole_then =
            let state : replay schema capacity (opening_state schema (length (slice_set units (u - 1) unit'))) (history ++ entry ∷ []) ≡ after now u outcome
            = ap (λ m. replay schema capacity (opening_state schema m) (history ++ entry ∷ [])) count ∙ after_is in
            record {
              sound = w.sound;
              history_of = subst (λ m. IsHistoryOf schema capacity m (history ++ entry ∷ [])) (sym count) history_then;
              units_are = units_then ∙ ap (λ (q : State). q.units) (sym state);
              all = all;
              cells = subst (λ (q : State). AllAgree schema capacity q.database new.cells) (sym state) made.cells;
            }

        pub made_then : HasMade (making schema capacity (length units) history) u x (making schema capacity (length (slice_set units (u - 1) unit')) (history ++ entry ∷ []))
        made_then = record {
          outcome = outcome;
          outcome_is = outcome_found;
          new_is = λ i. record { schema = schema; capacity = capacity; units = count i; history = history ++ record { ticket = length history; unit = u; statement = x; answer = made.answer_is i } ∷ [] };
          state_is = ap (λ m. replay schema capacity (opening_state schema m) (history ++ entry ∷ [])) count ∙ after_is;
        }

  pub may_go_on : length history + 1 < 2 ^ 64 → HaveNextVersions hands.cells
  may_go_on few = versions_next schema capacity now.database (length history) (versions_are_bounded schema capacity (length units) history) hands.cells w.cells few

  pub unmade : (new : Hands) → HoldsAll schema capacity new → values_of new.cells ≡ values_of hands.cells → IsWhole schema capacity new units history
  unmade new all shows = record { sound = w.sound; history_of = w.history_of; units_are = w.units_are; all = all; cells = all_agree_same schema capacity now.database hands.cells new.cells shows w.cells }

  -- with a unit that is as it was
  pub unmade_at : (u : ℕ) (r r' : Unit) (new : Hands) → slice_get units (u - 1) ≡ Some r → r' ≡ r → HoldsAll schema capacity new → values_of new.cells ≡ values_of hands.cells → IsWhole schema capacity new (slice_set units (u - 1) r') history
  unmade_at u r r' new at e all shows = subst (λ us. IsWhole schema capacity new us history) (sym (ap (slice_set units (u - 1)) e ∙ set_same_at units (u - 1) r at)) (unmade new all shows)

  -- where the maker is read from the units
  module _ (m : Making) (view : making schema capacity (length units) history ≡ m) (u : ℕ) (r : Unit) (numbered : 0 < u) (within : u ≤ m.units) (read : r ≡ get_or units (u - 1) r) where
    pub read_there : slice_get units (u - 1) ≡ Some r
    read_there = let count : length units ≡ m.units = ap (λ (k : Making). k.units) view in slice_get_read units (length units) (u - 1) r refl (omega (arith, within, numbered, count)) read

    pub read_maker : IsUnitIn schema capacity now.database (suc (u - 1)) r
    read_maker = maker u r numbered read_there

    pub read_agrees : (db : Database) × Agrees schema capacity db hands r
    read_agrees = (now.database, maker_agrees u r numbered read_there)

    pub read_unmade : (r' : Unit) (new : Hands) (entries : List Entry) → r' ≡ r → HoldsAll schema capacity new → values_of new.cells ≡ values_of hands.cells → entries ≡ history → IsWhole schema capacity new (slice_set units (u - 1) r') entries
    read_unmade r' new entries e all shows same = subst (IsWhole schema capacity new (slice_set units (u - 1) r')) (sym same) (unmade_at u r r' new read_there e all shows)

    -- and the statement is made and entered
    module _ (x : Statement) (fit : fits m.schema x ≡ true) (unit' : Unit) (new : Hands) (answer : Answer) (effects : (db : Database) → Agrees schema capacity db hands r → IsEffect schema capacity db x r unit' new answer) (all : HoldsAll schema capacity new)
        (entries longer : List Entry) (same : entries ≡ history) (entered : longer ≡ entries ++ record { ticket = length entries; unit = u; statement = x; answer = answer } ∷ []) where
      fit_here : fits schema x ≡ true
      fit_here = subst (λ (k : Making). fits k.schema x ≡ true) (sym view) fit

      made_here : IsEffect schema capacity now.database x r unit' new answer
      made_here = effects now.database (maker_agrees u r numbered read_there)

      pushed : longer ≡ history ++ record { ticket = length history; unit = u; statement = x; answer = answer } ∷ []
      pushed = entered ∙ (λ i. same i ++ record { ticket = length (same i); unit = u; statement = x; answer = answer } ∷ [])

      pub read_whole : IsWhole schema capacity new (slice_set units (u - 1) unit') longer
      read_whole = subst (IsWhole schema capacity new (slice_set units (u - 1) unit')) (sym pushed) (whole_then u r numbered read_there x fit_here unit' new answer made_here all)

      pub read_made : HasMade m u x (making schema capacity (length (slice_set units (u - 1) unit')) longer)
      read_made =
          subst (λ (k : Making). HasMade k u x (making schema capacity (length (slice_set units (u - 1) unit')) longer)) view
          (subst (λ (es : List Entry). HasMade (making schema capacity (length units) history) u x (making schema capacity (length (slice_set units (u - 1) unit')) es)) (sym pushed)
          (made_then u r numbered read_there x fit_here unit' new answer made_here all))
