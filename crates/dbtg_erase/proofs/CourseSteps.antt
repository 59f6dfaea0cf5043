-- How a DELETE's course goes on: a cell of the next record is not held, or the record brings those that go with it.
-- Uses: work lists, what is read from the held cells. Promises: what each step of the course ensures.
use Rattle.std.proofs.Common.{◌≡◌, refl, sym, ◌∙◌, ap, subst, ℕ, zero, suc, ◌+◌, ◌-◌, ◌<◌, ◌≤◌, List, [], ◌∷◌, ◌++◌, length, Option, Some, None, arith, append-nil, append_assoc, drop, false, length-append, map, take, true}
use Rattle.std.specs.Prelude.{is_some, slice_get}
use Rattle.std.specs.List.{flat_map}
use Rattle.std.proofs.lemmas.Bool.{false≢true}
use Rattle.std.proofs.lemmas.Grind.{flat_map-append}
use Rattle.std.proofs.lemmas.List.{take-append-drop, take-append-le, take_all}
use Rattle.std.proofs.lemmas.Option.{none-some, slice_get_within}
use Rattle.dbtg_schema.specs.Lists.{Lists}
use Rattle.dbtg_cells.specs.declared.key.DbKey.{DbKey}
use Rattle.dbtg_cells.specs.declared.name.CellName.{CellName}
use Rattle.dbtg_unit.specs.declared.statement.Erase.{Erase}
use Rattle.dbtg_unit.specs.Database.State.CellNames.{slot_name}
use Rattle.dbtg_unit.specs.Hands.Erasing.{brought, brought_from, own_rings, with_those}
use Rattle.dbtg_unit.specs.Hands.Hands.{Hands}
use Rattle.dbtg_unit.proofs.Public.{with_those_extends}
use Rattle.dbtg_erase.specs.declared.course.Course.{Course}
use Rattle.dbtg_erase.specs.declared.names.Names.{Names}
use Rattle.dbtg_erase.specs.Course.{AreOfMembers, AroundFits, IsCourse, MembersFit}
use Rattle.dbtg_erase.specs.NextCell.{first_missing, is_missing}
use Rattle.dbtg_erase.specs.WorkList.{cells_of_gone, gone_in, members_in_hand, most_gone, taken_in}
use Rattle.dbtg_erase.proofs.Bringing.{find_first, find_second, in_two, past, prefix, stable}

-- OF ONE RECORD

-- one of its own cells is not held
pub own_first : (schema : Lists) (hands : Hands) (d : DbKey) (x : CellName) → first_missing hands (slot_name d ∷ own_rings schema d) ≡ Some x → first_missing hands (cells_of_gone schema hands d) ≡ Some x
own_first schema hands d x h = find_first (is_missing hands) (slot_name d ∷ own_rings schema d) (map slot_name (members_in_hand schema hands d)) x h

-- its own cells are held
pub members_first : (schema : Lists) (hands : Hands) (d : DbKey) (names : Names) → AreOfMembers schema hands d names → first_missing hands names.names.items ≡ first_missing hands (cells_of_gone schema hands d)
members_first schema hands d names are =
    ap (first_missing hands) are.members ∙ sym (find_second (is_missing hands) (slot_name d ∷ own_rings schema d) (map slot_name (members_in_hand schema hands d)) are.own)

pub not_found : (found first : Option CellName) → is_some found ≡ false → found ≡ first → first ≡ None
not_found None first none e = sym e
not_found (Some x) first none e = absurd (false≢true (sym none))

-- OF ALL

-- the keys from a place on
from_place : (i : ℕ) (xs : List DbKey) (d : DbKey) → slice_get xs i ≡ Some d → drop i xs ≡ d ∷ drop (i + 1) xs
from_place i [] d e = absurd (none-some d e)
from_place zero (x ∷ xs) d e = cc
from_place (suc i) (x ∷ xs) d e =
    let next : suc i + 1 ≡ suc (i + 1) = omega arith in
    from_place i xs d e ∙ ap (λ n. d ∷ drop n (x ∷ xs)) (sym next)

-- one key more of those in front
one_more : (i : ℕ) (xs : List DbKey) (d : DbKey) → slice_get xs i ≡ Some d → take (i + 1) xs ≡ take i xs ++ d ∷ []
one_more i [] d e = absurd (none-some d e)
one_more zero (x ∷ xs) d e = cc
one_more (suc i) (x ∷ xs) d e =
    let next : suc i + 1 ≡ suc (i + 1) = omega arith in
    ap (λ n. take n (x ∷ xs)) next ∙ ap (λ ys. x ∷ ys) (one_more i xs d e)

module _ (schema : Lists) (capacity : ℕ) (hands : Hands) (option : Erase) (k : DbKey) (course : Course) (is : IsCourse schema capacity hands option k course) where
  abbrev taken : DbKey → List DbKey
  taken = taken_in schema hands option

  abbrev most : ℕ
  most = most_gone schema capacity

  abbrev all : List DbKey
  all = gone_in schema capacity hands option k

  abbrev cells : List DbKey → List CellName
  cells = flat_map (cells_of_gone schema hands)

  abbrev first_of : List DbKey → Option CellName
  first_of ds = first_missing hands (cells ds)

  -- all that go, as the work list goes on from here
  goes_on : all ≡ brought taken (most - course.done) course.done course.gone
  goes_on =
      let few = is.few in
      in_two taken course.done (most - course.done) most 0 course.done (k ∷ []) (omega arith) (omega arith)
      ∙ ap (brought taken (most - course.done) course.done) (sym is.gone)

  -- with those that are passed, the first is that of the others
  passed_over : (ds es : List DbKey) → ds ≡ take course.done course.gone ++ es → first_of ds ≡ first_of es
  passed_over ds es e =
      ap first_of e ∙ ap (first_missing hands) (flat_map-append (cells_of_gone schema hands) (take course.done course.gone) es)
      ∙ find_second (is_missing hands) (cells (take course.done course.gone)) (cells es) is.cells

  module _ (d : DbKey) (at : slice_get course.gone course.done ≡ Some d) where
    -- a cell of the next record is not held
    found_first : (x : CellName) → first_missing hands (cells_of_gone schema hands d) ≡ Some x → first_of all ≡ Some x
    found_first x h =
        let more = prefix taken (most - course.done) course.done course.gone in
        let rest = drop (course.done + 1) course.gone ++ more.0 in
        let whole : all ≡ take course.done course.gone ++ d ∷ rest =
        goes_on ∙ more.1 ∙ ap (λ ds. ds ++ more.0) (sym (take-append-drop course.done course.gone))
        ∙ ap (λ ds. (take course.done course.gone ++ ds) ++ more.0) (from_place course.done course.gone d at)
        ∙ append_assoc (take course.done course.gone) (d ∷ drop (course.done + 1) course.gone) more.0 in
        passed_over all (d ∷ rest) whole ∙ find_first (is_missing hands) (cells_of_gone schema hands d) (cells rest) x h

    pub found_next : (found : Option CellName) → is_some found ≡ true → found ≡ first_missing hands (cells_of_gone schema hands d) → found ≡ first_of all
    found_next None some h = absurd (false≢true some)
    found_next (Some x) some h = sym (found_first x (sym h))

    -- all of them are, and it has brought those that go with it
    pub brings_next : (new : Course) → first_missing hands (cells_of_gone schema hands d) ≡ None → course.done < most → new.gone ≡ with_those course.gone (taken d) → new.done ≡ course.done + 1 → new.members ≡ None → new.around ≡ None
        → IsCourse schema capacity hands option k new
    brings_next new none below gone_is done_is members_is around_is =
        let there : course.done < length course.gone = slice_get_within course.gone course.done d at in
        let more = with_those_extends course.gone (taken d) in
        let longer : length new.gone ≡ length course.gone + length more.0 = ap length (gone_is ∙ more.1) ∙ length-append course.gone more.0 in
        let once : brought taken (course.done + 1) 0 (k ∷ []) ≡ with_those course.gone (taken d) =
        in_two taken course.done 1 (course.done + 1) 0 course.done (k ∷ []) refl (omega arith)
        ∙ ap (brought taken 1 course.done) (sym is.gone) ∙ ap (brought_from taken course.gone) at in
        let front : take new.done new.gone ≡ take course.done course.gone ++ d ∷ [] =
        ap (λ n. take n new.gone) done_is ∙ ap (take (course.done + 1)) (gone_is ∙ more.1) ∙ take-append-le (course.done + 1) course.gone more.0 (omega arith)
        ∙ one_more course.done course.gone d at in
        record {
          few = omega arith;
          within = omega arith;
          gone = gone_is ∙ sym once ∙ ap (λ n. brought taken n 0 (k ∷ [])) (sym done_is);
          cells = passed_over (take new.done new.gone) (d ∷ []) front ∙ ap (first_missing hands) (append-nil (cells_of_gone schema hands d)) ∙ none;
          members = subst (MembersFit schema hands (slice_get new.gone new.done)) (sym members_is) tt;
          around = subst (AroundFits schema capacity hands option k new.gone) (sym around_is) tt;
        }

  -- none is left that would bring others
  pub ended : slice_get course.gone course.done ≡ None → course.gone ≡ all
  ended at = sym (goes_on ∙ stable taken (most - course.done) course.done course.gone (past course.done course.gone at))

  -- none may bring more
  pub ended_all : most ≤ course.done → course.gone ≡ all
  ended_all full =
      let few = is.few in
      let none : most - course.done ≡ 0 = omega arith in
      sym (goes_on ∙ ap (λ n. brought taken n course.done course.gone) none)

  -- then the first is that of those that are left
  pub first_left : course.gone ≡ all → first_of all ≡ first_of (drop course.done course.gone)
  first_left e = passed_over all (drop course.done course.gone) (sym e ∙ sym (take-append-drop course.done course.gone))

  -- none is left
  pub none_left : slice_get course.gone course.done ≡ None → first_of all ≡ None
  none_left at =
      let short = past course.done course.gone at in
      passed_over all [] (sym (ended at) ∙ sym (take_all course.done course.gone short) ∙ sym (append-nil (take course.done course.gone)))
