-- What a plan makes of the held cells is what the statement makes on every database that agrees with them.
use Rattle.std.proofs.Common.{ℕ, ◌≡◌, Bool, true, false, cond, not, ◌&&◌, List, [], ◌∷◌, map, refl, sym, ap, ◌∙◌, subst}
use Rattle.std.specs.List.{list_all}
use Rattle.std.proofs.lemmas.Bool.{and_parts, not-true}
use Rattle.dbtg_schema.specs.Lists.{Lists}
use Rattle.dbtg_cells.specs.declared.cell.Cell.{Cell}
use Rattle.dbtg_cells.specs.declared.name.CellName.{CellName}
use Rattle.dbtg_cells.specs.Names.{name_eq}
use Rattle.dbtg_cells.specs.Shown.{CellValue}
use Rattle.dbtg_cells.proofs.Public.{name_eq_refl, same_name}
use Rattle.dbtg_unit.specs.declared.edit.CellEdit.{CellEdit}
use Rattle.dbtg_unit.specs.declared.statement.Statement.{Statement}
use Rattle.dbtg_unit.specs.declared.unit.Unit.{Unit}
use Rattle.dbtg_unit.specs.Database.State.Base.{Database}
use Rattle.dbtg_unit.specs.Database.State.Cells.{cell}
use Rattle.dbtg_unit.specs.Hands.Edits.{edited, edited_at}
use Rattle.dbtg_unit.specs.Database.Statements.Effect.{effect}
use Rattle.dbtg_unit.specs.Hands.Guesses.{guesses_after}
use Rattle.dbtg_unit.specs.Hands.Hands.{Hands}
use Rattle.dbtg_unit.specs.Hands.Local.{Agrees, AllAgree}
use Rattle.dbtg_unit.specs.Hands.Locality.{IsMadeOnEach, made_by}
use Rattle.dbtg_unit.specs.Hands.Making.{CanFinish, MayPrepare, ShowsTheSame}
use Rattle.dbtg_unit.specs.Hands.Prepared.{IsEffect, IsPrepared, Plan, edited_values, value_edited, values_of}
use Rattle.dbtg_unit.specs.Database.State.Legal.{pairwise}
use Rattle.dbtg_unit.proofs.Hands.Reading.SameHands.{agrees_same}
use Rattle.dbtg_unit.proofs.Hands.Untouched.LocalReady.{changes_only_its_cells, legal_after}

-- EDITS OF CELLS OF WHICH NONE IS HELD TWICE

abbrev Shown : Type 0
Shown = CellName × CellValue

-- no name stands twice
abbrev once : List Shown → Bool
once = pairwise (λ a b. not (name_eq a.0 b.0))

turned : (c d : CellName) (b : Bool) → name_eq d c ≡ b → name_eq c d ≡ false → b ≡ false
turned c d true e f = let same = same_name d c e in absurd (cc (f, name_eq_refl c, same))
turned c d false e f = refl

turned_true : (c d : CellName) → name_eq c d ≡ true → name_eq d c ≡ true
turned_true c d e = subst (λ x. name_eq x c ≡ true) (same_name c d e) (name_eq_refl c)

-- an edit of each value of its name
abbrev one_of : CellEdit → Shown → Shown
one_of e v = (v.0, cond (name_eq v.0 e.name) (edited e.edit v.1) v.1)

-- all edits of each value of their name
abbrev all_of : List CellEdit → Shown → Shown
all_of es v = (v.0, edited_at v.0 es v.1)

untouched : (e : CellEdit) (n : CellName) (vs : List Shown) → e.name ≡ n → list_all (λ (b : Shown). not (name_eq n b.0)) vs ≡ true → map (one_of e) vs ≡ vs
untouched e n [] q h = refl
untouched e n (v ∷ vs) q h =
    let hs = and_parts _ _ h in
    let other : name_eq v.0 e.name ≡ false = ap (name_eq v.0) q ∙ turned n v.0 (name_eq v.0 n) refl (not-true (name_eq n v.0) hs.0) in
    λ i. (v.0, cond (other i) (edited e.edit v.1) v.1) ∷ untouched e n vs q hs.1 i

edited_once : (e : CellEdit) (vs : List Shown) → once vs ≡ true → value_edited e vs ≡ map (one_of e) vs
edited_once e [] h = refl
edited_once e (v ∷ vs) h = by (name_eq e.name v.0) refl (edited_once e vs (and_parts _ _ h).1)
  where
    by : (b : Bool) → name_eq e.name v.0 ≡ b → value_edited e vs ≡ map (one_of e) vs → cond b ((v.0, edited e.edit v.1) ∷ vs) (v ∷ value_edited e vs) ≡ map (one_of e) (v ∷ vs)
    by true q rest =
        let here = turned_true e.name v.0 q in
        sym (λ i. (v.0, cond (here i) (edited e.edit v.1) v.1) ∷ untouched e v.0 vs (same_name e.name v.0 q) (and_parts _ _ h).0 i)
    by false q rest =
        let other = turned e.name v.0 (name_eq v.0 e.name) refl q in
        (λ i. v ∷ rest i) ∙ sym (λ i. (v.0, cond (other i) (edited e.edit v.1) v.1) ∷ map (one_of e) vs)

names_stay : (e : CellEdit) (n : CellName) (vs : List Shown) → list_all (λ (b : Shown). not (name_eq n b.0)) (map (one_of e) vs) ≡ list_all (λ (b : Shown). not (name_eq n b.0)) vs
names_stay e n [] = refl
names_stay e n (v ∷ vs) = ap (λ b. not (name_eq n v.0) && b) (names_stay e n vs)

once_stays : (e : CellEdit) (vs : List Shown) → once (map (one_of e) vs) ≡ once vs
once_stays e [] = refl
once_stays e (v ∷ vs) = λ i. names_stay e v.0 vs i && once_stays e vs i

each_itself : (vs : List Shown) → vs ≡ map (all_of []) vs
each_itself [] = refl
each_itself (v ∷ vs) = ap (λ xs. v ∷ xs) (each_itself vs)

each_further : (e : CellEdit) (es : List CellEdit) (vs : List Shown) → map (all_of es) (map (one_of e) vs) ≡ map (all_of (e ∷ es)) vs
each_further e es [] = refl
each_further e es (v ∷ vs) = ap (λ xs. all_of (e ∷ es) v ∷ xs) (each_further e es vs)

all_edited : (es : List CellEdit) (vs : List Shown) → once vs ≡ true → edited_values es vs ≡ map (all_of es) vs
all_edited [] vs h = each_itself vs
all_edited (e ∷ es) vs h = ap (edited_values es) (edited_once e vs h) ∙ all_edited es (map (one_of e) vs) (once_stays e vs ∙ h) ∙ each_further e es vs

once_shown : (cs : List (CellName × Cell)) → once (values_of cs) ≡ pairwise (λ (e f : CellName × Cell). not (name_eq e.0 f.0)) cs
once_shown [] = refl
once_shown (c ∷ cs) = λ i. others cs i && once_shown cs i
  where
    others : (ds : List (CellName × Cell)) → list_all (λ (b : Shown). not (name_eq c.0 b.0)) (values_of ds) ≡ list_all (λ (f : CellName × Cell). not (name_eq c.0 f.0)) ds
    others [] = refl
    others (d ∷ ds) = ap (λ b. not (name_eq c.0 d.0) && b) (others ds)

-- WHAT IS MADE

module _ (schema : Lists) (capacity : ℕ) (unit : Unit) (x : Statement) (plan : Plan) where
  due_values : (db db' : Database) (edits : List CellEdit) → ((c : CellName) → cell schema capacity db' c ≡ edited_at c edits (cell schema capacity db c)) → (cs : List (CellName × Cell)) → AllAgree schema capacity db cs →
      map (all_of edits) (values_of cs) ≡ map (λ (e : CellName × Cell). (e.0, cell schema capacity db' e.0)) cs
  due_values db db' edits h [] a = refl
  due_values db db' edits h (c ∷ cs) a = λ i. (c.0, (ap (edited_at c.0 edits) a.0 ∙ sym (h c.0)) i) ∷ due_values db db' edits h cs a.1 i

  -- the held cells after a plan that is the effect show what the database has after it
  pub cells_made : (db : Database) (hands : Hands) → pairwise (λ (e f : CellName × Cell). not (name_eq e.0 f.0)) hands.cells ≡ true → Agrees schema capacity db hands unit → IsEffect schema capacity db unit hands.guesses x plan
      → edited_values plan.cells (values_of hands.cells) ≡ map (λ (e : CellName × Cell). (e.0, cell schema capacity (effect schema capacity db unit x).database e.0)) hands.cells
  cells_made db hands once agrees e =
      all_edited plan.cells (values_of hands.cells) (once_shown hands.cells ∙ once) ∙ due_values db (effect schema capacity db unit x).database plan.cells e.cells hands.cells agrees.cells

  -- a plan that is the statement's effect makes the statement; room that was made before shows nowhere
  pub prepared_makes : (old new : Hands) → MayPrepare schema capacity unit old x → ShowsTheSame old new → IsPrepared schema capacity unit new x plan → IsMadeOnEach schema capacity unit old x (made_by schema unit new plan)
  prepared_makes old new may shows prepared once db agrees =
      let e = prepared.effects db (agrees_same schema capacity db unit old new shows agrees) in
      let e' = subst (λ g. IsEffect schema capacity db unit g x plan) shows.guesses e in
      let legal = legal_after schema capacity db unit old may.sound may.of_schema may.within x may.fits agrees in
      record {
        answer_is = e.answer;
        unit_is = e.unit_is;
        guesses_are = e.guesses_are ∙ ap (λ g. guesses_after schema capacity x g (effect schema capacity db unit x)) shows.guesses;
        legal = legal;
        areas_are = shows.areas;
        cells_are = ap (edited_values plan.cells) shows.cells ∙ cells_made db old once agrees e';
        others = changes_only_its_cells schema capacity db unit old x agrees (may.ready db agrees) legal;
      }

  -- so does one that can be finished
  pub plan_makes : (old new : Hands) → MayPrepare schema capacity unit old x → ShowsTheSame old new → CanFinish schema capacity unit new x plan → IsMadeOnEach schema capacity unit old x (made_by schema unit new plan)
  plan_makes old new may shows can = prepared_makes old new may shows can.prepared
