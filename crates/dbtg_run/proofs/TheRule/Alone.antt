-- In a database of one unit its entries are the whole history, and only it can hold a cell.
use Rattle.std.proofs.Common.{◌≡◌, ◌≢◌, ℕ, zero, suc, ◌+◌, ◌*◌, ◌<◌, ◌≤◌, Bool, true, false, ◌==◌, List, [], ◌∷◌, map, length, reverse, filter, get_or, cond, Option, Some, slice_get, inl, inr, refl, sym, ap, ◌∙◌, subst, arith}
use Rattle.std.proofs.lemmas.List.{reverse-reverse}
use mathlib.Core.Logic.{dite}
use mathlib.Core.Option.{some}
use native.Mathlib.Decide.{ℕ_discrete}
use lib.ListN.{get_elem?}
use Rattle.atomic_table.specs.Table.{State}
use Rattle.dbtg_schema.proofs.Public.{length_filter}
use Rattle.dbtg_cells.specs.declared.cell.Cell.{Cell}
use Rattle.dbtg_cells.specs.declared.name.CellName.{CellName}
use Rattle.dbtg_cells.specs.Names.{name_eq}
use Rattle.dbtg_cells.specs.Shown.{CellValue}
use Rattle.dbtg_unit.specs.declared.limits.TheConstants.{MOST_STATEMENTS}
use Rattle.dbtg_unit.specs.declared.unit.Entry.{Entry}
use Rattle.dbtg_unit.specs.Database.State.Base.{Database}
use Rattle.dbtg_unit.specs.Hands.Local.{Agrees, holds}
use Rattle.dbtg_unit.specs.Database.Laws.Replay.{entries_of}
use Rattle.dbtg_unit.specs.Database.State.Versions.{VersionsUpTo}
use Rattle.dbtg_unit.proofs.Public.{versions_are_bounded}
use Rattle.dbtg_step.specs.Machine.SequentialDatabase.{HeldCell, In, unit_at}
use Rattle.dbtg_step.specs.Machine.Machine.{UnitState, held_cells}
use Rattle.dbtg_step.specs.Core.Parts.{held_cells_of, held_of}
use Rattle.dbtg_step.proofs.Public.{in_reverse, network_names_cells, versions_next}
use Rattle.dbtg_run.specs.declared.view.About.{About}
use Rattle.dbtg_run.specs.declared.view.SeatUnit.{SeatUnit}
use Rattle.dbtg_run.specs.declared.view.SeatKnowledge.{SeatKnowledge}
use Rattle.dbtg_run.specs.Inside.Views.{lone, total_below}
use Rattle.dbtg_run.specs.Inside.LatchRule.{net, cell_word, progress_of, hands_of, database_after, IsReal, LatchRule, TellsReal, CellFreeAlone}
use Rattle.dbtg_run.proofs.TheRule.Base.{below_le}
use Rattle.dbtg_run.proofs.TheRule.Facts.{database_now, database_is, agrees_now, once_now}
use Rattle.dbtg_run.proofs.TheRule.Moves.{sits, is_at_place, mine}

filter_all : {X : Type 0} (p : X → Bool) (xs : List X) → length (filter p xs) ≡ length xs → filter p xs ≡ xs
filter_all p [] e = refl
filter_all p (x ∷ xs) e = by (p x) (filter_all p xs) e
  where
    by : (b : Bool) → (length (filter p xs) ≡ length xs → filter p xs ≡ xs) → length (cond b (x ∷ filter p xs) (filter p xs)) ≡ suc (length xs) → cond b (x ∷ filter p xs) (filter p xs) ≡ x ∷ xs
    by true rec e = ap (λ ys. x ∷ ys) (rec (cc (e)))
    by false rec e = let l = length_filter p xs in absurd (omega arith)

mapped_in : (h : HeldCell CellName CellValue) (es : List (CellName × Cell)) → In h (map held_of es) → holds es h.name ≡ true
mapped_in h [] i = absurd i
mapped_in h (e ∷ es) (inl q) = ap (λ b. cond b true (holds es h.name)) (ap (λ n. name_eq n e.0) (ap (λ (x : HeldCell CellName CellValue). x.name) q) ∙ same e.0)
  where
    same : (c : CellName) → name_eq c c ≡ true
    same c = (network_names_cells (record { name = []; areas = []; types = []; sets = [] }) 0).same_self c
mapped_in h (e ∷ es) (inr i) = by (name_eq h.name e.0) (mapped_in h es i)
  where
    by : (b : Bool) → holds es h.name ≡ true → cond b true (holds es h.name) ≡ true
    by true q = refl
    by false q = q

holds_shown : (h : HeldCell CellName CellValue) (es : List (CellName × Cell)) → In h (held_cells_of es) → holds es h.name ≡ true
holds_shown h es i = mapped_in h es (subst (λ (l : List (HeldCell CellName CellValue)). In h l) (reverse-reverse (map held_of es)) (in_reverse h (reverse (map held_of es)) i))

-- eight units with few entries each
pub few_entries : (about : About) (s : State (Option Cell) SeatKnowledge) (K : LatchRule about s) → length K.worded.log ≤ 524280
few_entries about s K = let h : total_below (λ u. length (K.all u).journal) about.units ≤ MOST_STATEMENTS * about.units = below_le (λ u. length (K.all u).journal) about.units (λ u l. K.worded.short u l) in
    let e = K.worded.entries in let f = K.few in omega arith

module _ (about : About) (s : State (Option Cell) SeatKnowledge) (K : LatchRule about s) (id : ℕ) (m : SeatUnit) (at : get_elem? s.views id ≡ some (lone about m)) where
  first_place : about.units ≡ 1 → m.place ≡ 0
  first_place one = let i = (sits about s K id m at).inside in omega arith

  journal_is_log : about.units ≡ 1 → K.worded.log ≡ m.journal
  journal_is_log one =
      let here : K.all 0 ≡ m = ap K.all (sym (first_place one)) ∙ is_at_place about s K id m at in
      let j : entries_of 1 K.worded.log ≡ (K.all 0).journal = K.worded.journal 0 (omega arith) in
      let t : 0 + length (K.all 0).journal ≡ length K.worded.log = subst (λ n. total_below (λ u. length (K.all u).journal) n ≡ length K.worded.log) one K.worded.entries in
      sym (filter_all (λ (e : Entry). e.unit == 1) K.worded.log (ap length j ∙ (let q : length (K.all 0).journal ≡ length K.worded.log = omega arith in q))) ∙ (j ∙ ap (λ (y : SeatUnit). y.journal) here)

  pub tells_real : TellsReal (lone about m)
  tells_real y is = subst (λ (z : SeatUnit). IsReal about z.unit z.journal (hands_of z)) (heads m y is) (record {
    db = now;
    agrees = agrees;
    alone = λ one. known ∙ ap (database_after about) (journal_is_log one);
    once = once_now about K.worded.machine K.worded.lawful m.place m (mine about s K id m at);
    versions = versions_next about.schema.value about.capacity now (length K.worded.log)
        (subst (VersionsUpTo (length K.worded.log)) (sym known) (versions_are_bounded about.schema.value about.capacity about.units K.worded.log))
        m.held agrees.cells (let f = few_entries about s K in omega arith);
  })
    where
      heads : (p q : SeatUnit) → p ∷ [] ≡ q ∷ [] → p ≡ q
      heads p q e = cc (e)

      now : Database
      now = database_now about K.worded.machine K.worded.lawful

      known : now ≡ database_after about K.worded.log
      known = database_is about K.worded.machine K.worded.lawful K.worded.log K.worded.history

      agrees : Agrees about.schema.value about.capacity now (hands_of m) m.unit
      agrees = agrees_now about K.worded.machine K.worded.lawful m.place m (mine about s K id m at)

  pub cell_free_alone : (k : ℕ) → CellFreeAlone k (lone about m) (get_or s.words (cell_word about k) 0)
  unfolding held_cells unit_at
  cell_free_alone k y c is one named not_held = dite (ℕ_discrete (get_or s.words (cell_word about k) 0) 0) (λ e. e) (λ busy. absurd (by_whom busy))
    where
      heads : (p q : SeatUnit) → p ∷ [] ≡ q ∷ [] → p ≡ q
      heads p q e = cc (e)

      only : (w : ℕ) (state : UnitState (net about)) → unit_at K.worded.machine.units w ≡ Some state → w ≡ 1
      only zero state e = absurd (cc (e))
      only (suc i) state e = let l : i < length K.worded.machine.units = within K.worded.machine.units i state e in let n = K.worded.count in omega arith
        where
          within : {X : Type 0} (xs : List X) (i : ℕ) (x : X) → slice_get xs i ≡ Some x → i < length xs
          within [] i x e = absurd (cc (e))
          within (z ∷ xs) zero x e = omega arith
          within (z ∷ xs) (suc i) x e = let h : i < length xs = within xs i x e in omega arith

      by_whom : get_or s.words (cell_word about k) 0 ≢ 0 → ⊥
      by_whom busy =
          let there = K.worded.out k c named busy in
          let h = K.worded.lawful.holder c (get_or s.words (cell_word about k) 0) there in
          let word : get_or s.words (cell_word about k) 0 ≡ 1 = only (get_or s.words (cell_word about k) 0) h.state h.found in
          let my = mine about s K id m at in
          let place : suc m.place ≡ 1 = ap suc (first_place one) in
          let found : unit_at K.worded.machine.units 1 ≡ Some my.state = subst (λ n. unit_at K.worded.machine.units n ≡ Some my.state) place my.found in
          let found' : unit_at K.worded.machine.units 1 ≡ Some h.state = subst (λ n. unit_at K.worded.machine.units n ≡ Some h.state) word h.found in
          let same : h.state ≡ my.state = let p : Some h.state ≡ Some my.state = sym found' ∙ found in cc (p) in
          let progress = ap (λ (z : UnitState (net about)). z.progress) same ∙ my.progress in
          let inside : In h.holds.which (held_cells (net about) (Some (progress_of about m))) = subst (λ o. In h.holds.which (held_cells (net about) o)) progress h.holds.is_in in
          let yes : holds m.held c ≡ true = ap (holds m.held) (sym h.holds.name) ∙ holds_shown h.holds.which m.held inside in
          let no : holds m.held c ≡ false = ap (λ (z : SeatUnit). holds z.held c) (heads m y is) ∙ not_held in
          clash (sym yes ∙ no)
        where
          clash : true ≡ false → ⊥
          clash e = cc (e)
