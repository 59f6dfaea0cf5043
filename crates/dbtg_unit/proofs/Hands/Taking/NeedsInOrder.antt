-- What a statement needs next is above what it holds, if that was taken in turn; a cell lies in a held area.
use Rattle.std.proofs.Common.{◌≡◌, refl, sym, ◌∙◌, ap, subst, ℕ, zero, suc, ◌<◌, Bool, true, false, not, eqb, List, [], ◌∷◌, length, Option, Some, None, inl, inr, arith}
use Rattle.std.specs.Prelude.{is_some, nat_lt, take, if◌then◌else◌, ◌==◌}
use Rattle.std.specs.List.{list_any, find, range_with_len}
use Rattle.std.proofs.lemmas.Bool.{and_parts, eqb-true, eq-eqb, false≢true, ltb-true, not-false, not-true}
use Rattle.dbtg_schema.specs.Lists.{Lists}
use Rattle.dbtg_schema.specs.Sound.{IsSound}
use Rattle.dbtg_schema.proofs.Public.{none_is}
use Rattle.dbtg_cells.specs.declared.cell.Cell.{Cell}
use Rattle.dbtg_cells.specs.declared.name.CellName.{CellName}
use Rattle.dbtg_cells.specs.Names.{name_eq, name_below}
use Rattle.dbtg_cells.proofs.Public.{name_eq_refl}
use Rattle.dbtg_unit.specs.declared.held.Need.{Need}
use Rattle.dbtg_unit.specs.declared.held.Need.TheVariants.{Area, Take, Stale, Ready}
use Rattle.dbtg_unit.specs.declared.statement.Statement.{Statement}
use Rattle.dbtg_unit.specs.declared.unit.Unit.{Unit}
use Rattle.dbtg_unit.specs.Database.State.Base.{Database}
use Rattle.dbtg_unit.specs.Database.State.Belongs.{IsUnitOf}
use Rattle.dbtg_unit.specs.Database.State.CellNames.{area_of_cell}
use Rattle.dbtg_unit.specs.Database.State.Legal.{Legal, pairwise}
use Rattle.dbtg_unit.specs.Database.Statements.Checks.{areas_of, refused_at_once}
use Rattle.dbtg_unit.specs.Database.Statements.Fits.{fits}
use Rattle.dbtg_unit.specs.Hands.Hands.{Hands}
use Rattle.dbtg_unit.specs.Hands.Local.{names_of}
use Rattle.dbtg_unit.specs.Hands.NeedOrder.{IsAbove, IsInHeldArea, IsInTurn}
use Rattle.dbtg_unit.specs.Hands.Needs.{areas_in_order, cells_of, is_stale, need, next_of}
use Rattle.dbtg_unit.proofs.Hands.Taking.AreasOfCells.{lies_in}
use Rattle.dbtg_unit.proofs.Hands.Taking.CellsAscend.{cells_ascend}
use Rattle.dbtg_unit.proofs.Hands.Taking.KnownAreas.{all_cells_lie, areas_known}
use Rattle.dbtg_unit.proofs.Hands.Untouched.LocalReady.{holds_any}
use Rattle.dbtg_unit.proofs.Lists.Agreeing.{all_in}
use Rattle.dbtg_unit.proofs.Lists.Ascending.{ascending_range}
use Rattle.dbtg_unit.proofs.Lists.Membership.{In, all_at, any_element, any_in, find_element, find_none_of, in_filter, in_map, in_range, of_map}
use Rattle.dbtg_unit.proofs.Lists.WithANewMember.{pairwise_filter}

-- what decided a choice that was made
pub chose_take : (r : Bool) (oa : Option ℕ) (oc : Option CellName) (stale : Bool) (c : CellName) →
    (if r then Ready else next_of oa oc stale) ≡ Take c → (r ≡ false) × (oa ≡ None) × (oc ≡ Some c)
chose_take true oa oc stale c e = absurd (cc (e))
chose_take false (Some a) oc stale c e = absurd (cc (e))
chose_take false None (Some d) stale c e = (refl, refl, (let q : d ≡ c = cc in ap Some q))
chose_take false None None true c e = absurd (cc (e))
chose_take false None None false c e = absurd (cc (e))

chose_area : (r : Bool) (oa : Option ℕ) (oc : Option CellName) (stale : Bool) (a : ℕ) → (if r then Ready else next_of oa oc stale) ≡ Area a → oa ≡ Some a
chose_area true oa oc stale a e = absurd (cc (e))
chose_area false (Some b) oc stale a e = let q : b ≡ a = cc in ap Some q
chose_area false None (Some d) stale a e = absurd (cc (e))
chose_area false None None true a e = absurd (cc (e))
chose_area false None None false a e = absurd (cc (e))

-- the first of an ascending list that passes is above the first n elements, if none of these passes
above_first : {X : Type 0} (lt : X → X → Bool) (p : X → Bool) (n : ℕ) (xs : List X) (c : X) → pairwise lt xs ≡ true → find p xs ≡ Some c → ((x : X) → In x (take n xs) → p x ≡ false)
    → (h : X) → In h (take n xs) → lt h c ≡ true
above_first lt p zero xs c asc e none h i = absurd i
above_first lt p (suc n) [] c asc e none h i = absurd i
above_first {X} lt p (suc n) (x ∷ xs) c asc e none h i =
    let behind : find p xs ≡ Some c = let f = none x (inl refl) in cc (e, f) in
    let ascend = and_parts _ _ asc in
    elim i [
      | inl q ↦ subst (λ (y : X). lt y c ≡ true) q (all_at (lt x) c xs ascend.0 (find_element p xs c behind).0)
      | inr j ↦ above_first lt p n xs c ascend.1 behind (λ y k. none y (inr k)) h j
    ]

module _ (schema : Lists) (capacity : ℕ) (db : Database) (unit : Unit) (hands : Hands) (x : Statement) where
  abbrev lacks_area : ℕ → Bool
  lacks_area a = not (list_any (λ b. b == a) hands.areas)

  abbrev lacks_cell : CellName → Bool
  lacks_cell c = not (list_any (λ e. name_eq c e.0) hands.cells)

  needs_area : (a : ℕ) → need schema capacity db unit hands x ≡ Area a → find lacks_area (areas_in_order schema unit x) ≡ Some a
  unfolding need
  needs_area a e =
      chose_area (is_some (refused_at_once schema capacity unit x)) (find lacks_area (areas_in_order schema unit x)) (find lacks_cell (cells_of schema capacity db unit hands.guesses x))
      (is_stale schema capacity db unit hands.guesses x) a e

  needs_cell : (c : CellName) → need schema capacity db unit hands x ≡ Take c
      → (is_some (refused_at_once schema capacity unit x) ≡ false) × (find lacks_area (areas_in_order schema unit x) ≡ None) × (find lacks_cell (cells_of schema capacity db unit hands.guesses x) ≡ Some c)
  unfolding need
  needs_cell c e =
      chose_take (is_some (refused_at_once schema capacity unit x)) (find lacks_area (areas_in_order schema unit x)) (find lacks_cell (cells_of schema capacity db unit hands.guesses x))
      (is_stale schema capacity db unit hands.guesses x) c e

  -- A CELL LIES IN AN AREA IN HAND

  module _ (sound : IsSound schema) (legal : Legal schema capacity db) (of_schema : IsUnitOf schema unit) (fit : fits schema x ≡ true) where
    pub area_held : (c : CellName) → need schema capacity db unit hands x ≡ Take c → list_any (λ b. b == area_of_cell schema c) hands.areas ≡ true
    area_held c e =
        let r = needs_cell c e in
        let a = area_of_cell schema c in
        let here = (find_element lacks_cell (cells_of schema capacity db unit hands.guesses x) c r.2).0 in
        let lies = all_at (lies_in schema (areas_of schema unit x)) c _ (all_cells_lie schema capacity db unit hands.guesses x legal of_schema fit (none_is _ r.0)) here in
        let b = any_element (λ b. eqb b a) (areas_of schema unit x) lies in
        let below : a < length schema.areas = ltb-true _ _ (subst (λ d. nat_lt d (length schema.areas) ≡ true) (eqb-true b.0 a b.2) (all_at (λ d. nat_lt d (length schema.areas)) b.0 _ (areas_known schema sound unit x fit) b.1)) in
        let listed : In a (areas_in_order schema unit x) = in_filter (λ d. list_any (λ b. b == d) (areas_of schema unit x)) a _ (in_range (length schema.areas) 0 a (omega arith) (omega arith)) lies in
        not-false _ (find_none_of lacks_area _ r.1 a listed)

    pub in_held_area : (n : Need) → n ≡ need schema capacity db unit hands x → IsInHeldArea schema hands n
    in_held_area (Area a) e = tt
    in_held_area (Take c) e =
        (sym (holds_any hands.cells c) ∙ not-true _ (find_element lacks_cell (cells_of schema capacity db unit hands.guesses x) c (needs_cell c (sym e)).2).1, area_held c (sym e))
    in_held_area Stale e = tt
    in_held_area Ready e = tt

  -- WHAT IS NEEDED IS ABOVE WHAT IS IN HAND

  pub areas_ascend : pairwise nat_lt (areas_in_order schema unit x) ≡ true
  areas_ascend = pairwise_filter nat_lt (λ a. list_any (λ b. b == a) (areas_of schema unit x)) (range_with_len 0 (length schema.areas)) (ascending_range 0 (length schema.areas))

  held_area : (a : ℕ) → In a hands.areas → lacks_area a ≡ false
  held_area a i = ap not (any_in (λ b. b == a) a hands.areas i (eq-eqb a a refl))

  held_cell : (c : CellName) → In c (names_of hands.cells) → lacks_cell c ≡ false
  held_cell c i =
      let m = of_map (λ (e : CellName × Cell). e.0) c hands.cells i in
      ap not (any_in (λ (e : CellName × Cell). name_eq c e.0) m.0 hands.cells m.1 (subst (λ d. name_eq c d ≡ true) (sym m.2) (name_eq_refl c)))

  module _ (sound : IsSound schema) (turn : IsInTurn schema capacity db unit x hands) where
    no_cell : (a : ℕ) → find lacks_area (areas_in_order schema unit x) ≡ Some a → hands.cells ≡ []
    no_cell a e = elim turn.areas_first [
      | inl all ↦ let f = find_element lacks_area (areas_in_order schema unit x) a e in absurd (false≢true (sym (held_area a (subst (In a) (sym all) f.0)) ∙ f.1))
      | inr none ↦ none
    ]

    pub above_hands : (n : Need) → n ≡ need schema capacity db unit hands x → IsAbove x hands n
    above_hands (Area a) e =
        let first = needs_area a (sym e) in
        (all_in (λ b. nat_lt b a) hands.areas (λ b i. above_first nat_lt lacks_area (length hands.areas) (areas_in_order schema unit x) a areas_ascend first (λ d k. held_area d (subst (In d) (sym turn.areas) k)) b (subst (In b) turn.areas i)), no_cell a first)
    above_hands (Take c) e = λ shared.
        all_in (λ (f : CellName × Cell). name_below f.0 c) hands.cells (λ f i.
        above_first name_below lacks_cell (length hands.cells) (cells_of schema capacity db unit hands.guesses x) c (cells_ascend schema sound capacity db unit hands.guesses x shared) (needs_cell c (sym e)).2
        (λ d k. held_cell d (subst (In d) (sym turn.cells) k)) f.0 (subst (In f.0) turn.cells (in_map (λ (e : CellName × Cell). e.0) f hands.cells i)))
    above_hands Stale e = tt
    above_hands Ready e = tt
