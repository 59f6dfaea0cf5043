-- With the true owners noted no guess is stale, and what is needed falls with each need that is met.
use Rattle.std.proofs.Common.{◌≡◌, refl, sym, ◌∙◌, ap, subst, ℕ, zero, suc, ◌+◌, ◌<◌, ◌≤◌, Bool, true, false, cond, not, eqb, ◌&&◌, ◌||◌, List, [], ◌∷◌, length, map, Option, Some, None, inl, inr, arith}
use Rattle.std.specs.Prelude.{is_some, option_map, unwrap_or, if◌then◌else◌, ◌==◌}
use Rattle.std.specs.List.{list_any, find}
use Rattle.std.specs.Option.{option_or}
use Rattle.std.proofs.lemmas.Bool.{and_parts, cases_Bool, false≢true, false_from_ne_true, eq-eqb, ltb-true}
use Rattle.std.proofs.lemmas.List.FromFn.{get_or-map-range_with_len}
use Rattle.dbtg_schema.specs.Lists.{Lists}
use Rattle.dbtg_schema.specs.Lookups.{at, some_and}
use Rattle.dbtg_schema.specs.Structure.{set_numbers}
use Rattle.dbtg_cells.specs.declared.key.DbKey.{DbKey}
use Rattle.dbtg_cells.specs.declared.key.Owner.{Owner}
use Rattle.dbtg_cells.specs.declared.name.CellName.{CellName}
use Rattle.dbtg_cells.specs.declared.cell.Cell.{Cell}
use Rattle.dbtg_cells.specs.Names.{name_eq}
use Rattle.dbtg_cells.specs.Shown.{CellValue}
use Rattle.dbtg_cells.proofs.Public.{name_eq_refl, owner_eq_refl}
use Rattle.dbtg_unit.specs.declared.statement.Statement.{Statement}
use Rattle.dbtg_unit.specs.declared.statement.Statement.TheVariants.{OpenArea, CloseArea, Find, Get, Store, Insert, Remove, Modify, Delete, Keep, Free}
use Rattle.dbtg_unit.specs.declared.unit.Unit.{Unit}
use Rattle.dbtg_unit.specs.declared.held.Need.TheVariants.{Ready}
use Rattle.dbtg_unit.specs.Database.State.Base.{Database, is_live, owner_of}
use Rattle.dbtg_unit.specs.Database.Statements.Checks.{refused_at_once}
use Rattle.dbtg_unit.specs.Database.Statements.Fits.{fits}
use Rattle.dbtg_unit.specs.Hands.Needs.{need, next_of, areas_in_order, cells_of, guessed_sets, is_stale, is_wrong_guess, stale_owners, wrong_owner}
use Rattle.dbtg_unit.proofs.Public.{In, any_element, any_in, find_element, of_filter, of_range}
use Rattle.dbtg_step.specs.Machine.SequentialDatabase.{HeldCell, NeedsArea, NeedsCell, StaleGuesses}
use Rattle.dbtg_unit.specs.Hands.Guesses.{with_owners}
use Rattle.dbtg_step.specs.Machine.Network.{network, holding, next_need_of, noted_owners}
use Rattle.dbtg_step.specs.Machine.TurningBack.{NeedsComeToAnEnd, count, holds_area, holds_cell, needs_left}
use Rattle.dbtg_step.proofs.Network.NetworkNeeds.{is_area_left, is_not_held, reads_area, reads_cell}

-- THE TRUE OWNERS

-- the guess in a set, with owners noted
pub noted_at : (gs os : List (Option Owner)) (s : ℕ) → at (with_owners gs os) s ≡ option_or (at os s) (at gs s)
noted_at [] os s = go (at os s)
  where
    go : (o : Option Owner) → o ≡ option_or o None
    go None = refl
    go (Some o) = refl
noted_at (g ∷ gs) [] s = refl
noted_at (g ∷ gs) (o ∷ os) zero = refl
noted_at (g ∷ gs) (o ∷ os) (suc s) = noted_at gs os s

right_owner : (truth guess : Option Owner) → is_wrong_guess truth (option_or (cond (is_wrong_guess truth guess) truth None) guess) ≡ false
right_owner None guess = refl
right_owner (Some o) guess = elim (cases_Bool (is_wrong_guess (Some o) guess)) [
  | inl wrong ↦ ap (λ b. is_wrong_guess (Some o) (option_or (cond b (Some o) None) guess)) wrong ∙ ap not (owner_eq_refl o)
  | inr right ↦ ap (λ b. is_wrong_guess (Some o) (option_or (cond b (Some o) None) guess)) right ∙ right
]

-- the sets whose guesses count are the schema's
guessed_within : (schema : Lists) (unit : Unit) (x : Statement) → fits schema x ≡ true → (s : ℕ) → In s (guessed_sets schema unit x) → s < length schema.sets
guessed_within schema unit (OpenArea a mode) f s i = absurd i
guessed_within schema unit (CloseArea a) f s i = absurd i
guessed_within schema unit (Find suppress form) f s i = absurd i
guessed_within schema unit (Get r) f s i = absurd i
guessed_within schema unit (Store t items suppress) f s i = absurd i
guessed_within schema unit (Insert t) f s i = absurd i
guessed_within schema unit (Remove t) f s (inl e) = subst (λ u. u < length schema.sets) e (ltb-true _ _ f)
guessed_within schema unit (Remove t) f s (inr i) = absurd i
guessed_within schema unit (Modify t changes) f s i = let r = of_range (length schema.sets) 0 s (of_filter _ s (set_numbers schema) i).0 in let high = r.1 in omega arith
guessed_within schema unit (Delete option) f s i = absurd i
guessed_within schema unit Keep f s i = absurd i
guessed_within schema unit (Free all) f s i = absurd i

module _ (schema : Lists) (capacity : ℕ) (db : Database) (unit : Unit) (x : Statement) (fit : fits schema x ≡ true) (g : List (Option Owner)) where
  module _ (k : DbKey) where
    owners : List (Option Owner)
    owners = map (wrong_owner schema capacity db g (guessed_sets schema unit x) k) (set_numbers schema)

    owner_there : (s : ℕ) → In s (guessed_sets schema unit x) → at owners s ≡ cond (is_wrong_guess (owner_of schema capacity db s k) (at g s)) (owner_of schema capacity db s k) None
    unfolding owners
    owner_there s i =
        let below = guessed_within schema unit x fit s i in
        get_or-map-range_with_len (wrong_owner schema capacity db g (guessed_sets schema unit x) k) 0 (length schema.sets) s s None (omega arith) (omega arith)
        ∙ ap (λ b. cond (b && is_wrong_guess (owner_of schema capacity db s k) (at g s)) (owner_of schema capacity db s k) None) (any_in (λ s'. s' == s) s (guessed_sets schema unit x) i (eq-eqb s s refl))

    right_there : (s : ℕ) → In s (guessed_sets schema unit x) → is_wrong_guess (owner_of schema capacity db s k) (at (with_owners g owners) s) ≡ false
    right_there s i =
        ap (is_wrong_guess (owner_of schema capacity db s k)) (noted_at g owners s ∙ ap (λ o. option_or o (at g s)) (owner_there s i)) ∙ right_owner (owner_of schema capacity db s k) (at g s)

    none_wrong : list_any (λ s. is_wrong_guess (owner_of schema capacity db s k) (at (with_owners g owners) s)) (guessed_sets schema unit x) ≡ false
    none_wrong = false_from_ne_true _ (λ e.
        let w = any_element (λ s. is_wrong_guess (owner_of schema capacity db s k) (at (with_owners g owners) s)) (guessed_sets schema unit x) e in
        false≢true (sym (right_there w.0 w.1) ∙ w.2))

  pub not_stale_again : is_stale schema capacity db unit (with_owners g (stale_owners schema capacity db unit g x)) x ≡ false
  unfolding owners
  not_stale_again = go unit.currency.run_unit
    where
      go : (o : Option DbKey) →
          some_and (λ k. is_live db k && list_any (λ s. is_wrong_guess (owner_of schema capacity db s k) (at (with_owners g (unwrap_or (option_map (λ k. map (wrong_owner schema capacity db g (guessed_sets schema unit x) k) (set_numbers schema)) o) [])) s)) (guessed_sets schema unit x)) o ≡ false
      go None = refl
      go (Some k) = false_from_ne_true _ (λ e. false≢true (sym (none_wrong k) ∙ (and_parts _ _ e).1))

-- WHAT IS LEFT

-- no more pass the harder test
pub count_up_to : {X : Type 0} (p q : X → Bool) (xs : List X) → ((x : X) → q x ≡ true → p x ≡ true) → count q xs ≤ count p xs
count_up_to p q [] f = omega arith
count_up_to p q (x ∷ xs) f =
    let rest = count_up_to p q xs f in
    elim (cases_Bool (q x)) [
      | inl e ↦ let h = f x e in rw (e, h) (omega (arith, rest))
      | inr e ↦ rw e (omega (arith, rest))
    ]

-- fewer pass the harder test, which an element fails that passed
count_falls : {X : Type 0} (p q : X → Bool) (c : X) (xs : List X) → ((x : X) → q x ≡ true → p x ≡ true) → In c xs → p c ≡ true → q c ≡ false → count q xs < count p xs
count_falls p q c [] f i h n = absurd i
count_falls {X} p q c (x ∷ xs) f (inl e) h n =
    let rest = count_up_to p q xs f in
    let here : p x ≡ true = subst (λ (y : X). p y ≡ true) (sym e) h in
    let not_here : q x ≡ false = subst (λ (y : X). q y ≡ false) (sym e) n in
    rw (here, not_here) (omega (arith, rest))
count_falls p q c (x ∷ xs) f (inr i) h n =
    let rest = count_falls p q c xs f i h n in
    elim (cases_Bool (q x)) [
      | inl e ↦ let k = f x e in rw (e, k) (omega (arith, rest))
      | inr e ↦ rw e (omega (arith, rest))
    ]

-- no more pass than there are
pub count_length : {X : Type 0} (p : X → Bool) (xs : List X) → count p xs ≤ length xs
count_length p [] = omega arith
count_length p (x ∷ xs) = let rest = count_length p xs in elim (cases_Bool (p x)) [ inl e ↦ rw e (omega (arith, rest)) | inr e ↦ rw e (omega (arith, rest)) ]

neither : (a b : Bool) → not (a || b) ≡ true → not b ≡ true
neither true b e = absurd (false≢true e)
neither false b e = e

not_first : (a b : Bool) → a ≡ true → not (a || b) ≡ false
not_first true b e = refl
not_first false b e = absurd (false≢true e)

held_same : (cells : List (HeldCell CellName CellValue)) (c : CellName) → list_any (λ (e : CellName × Cell). name_eq c e.0) (holding [] [] cells).cells ≡ holds_cell cells c
held_same [] c = refl
held_same (h ∷ hs) c = ap (λ b. name_eq c h.name || b) (held_same hs c)

module _ (schema : Lists) (capacity : ℕ) (db : Database) (unit : Unit) (x : Statement) (g : List (Option Owner)) (areas : List ℕ) (cells : List (HeldCell CellName CellValue)) where
  pub area_falls : (a : ℕ) → (network schema capacity).need db unit x g areas cells ≡ NeedsArea a → needs_left schema capacity db unit x g (a ∷ areas) cells < needs_left schema capacity db unit x g areas cells
  area_falls a e =
      let f = find_element (is_area_left areas) (areas_in_order schema unit x) a (reads_area schema capacity db unit x g areas cells a e).1 in
      let less = count_falls (λ b. not (holds_area areas b)) (λ b. not (holds_area (a ∷ areas) b)) a (areas_in_order schema unit x) (λ b. neither (eqb a b) (holds_area areas b)) f.0 f.1 (not_first (eqb a a) (holds_area areas a) (eq-eqb a a refl)) in
      omega (arith, less)

  pub cell_falls : (h : HeldCell CellName CellValue) → (network schema capacity).need db unit x g areas cells ≡ NeedsCell h.name → needs_left schema capacity db unit x g areas (h ∷ cells) < needs_left schema capacity db unit x g areas cells
  cell_falls h e =
      let f = find_element (is_not_held cells) (cells_of schema capacity db unit g x) h.name (reads_cell schema capacity db unit x g areas cells h.name e).2 in
      let less = count_falls (λ c. not (holds_cell cells c)) (λ c. not (holds_cell (h ∷ cells) c)) h.name (cells_of schema capacity db unit g x) (λ c. neither (name_eq c h.name) (holds_cell cells c)) f.0 (ap not (sym (held_same cells h.name)) ∙ f.1) (not_first (name_eq h.name h.name) (holds_cell cells h.name) (name_eq_refl h.name)) in
      omega (arith, less)

  -- what decided for a turn back
  pub reads_stale : (others : List (Option Owner)) → (network schema capacity).need db unit x g areas cells ≡ StaleGuesses others → (is_stale schema capacity db unit g x ≡ true) × (with_owners g (stale_owners schema capacity db unit g x) ≡ others)
  unfolding need
  reads_stale others e = chose (is_some (refused_at_once schema capacity unit x)) (find (is_area_left areas) (areas_in_order schema unit x)) (find (is_not_held cells) (cells_of schema capacity db unit g x)) (is_stale schema capacity db unit g x) e
    where
      chose : (r : Bool) (oa : Option ℕ) (oc : Option CellName) (stale : Bool) → next_need_of (noted_owners schema capacity db unit x g) (if r then Ready else next_of oa oc stale) ≡ StaleGuesses others → (stale ≡ true) × (noted_owners schema capacity db unit x g ≡ others)
      chose true oa oc stale e = absurd (cc (e))
      chose false (Some a) oc stale e = absurd (cc (e))
      chose false None (Some c) stale e = absurd (cc (e))
      chose false None None true e = (refl, (let q : noted_owners schema capacity db unit x g ≡ others = cc (e) in q))
      chose false None None false e = absurd (cc (e))

  pub turn_falls : (others : List (Option Owner)) → fits schema x ≡ true → (network schema capacity).need db unit x g areas cells ≡ StaleGuesses others → needs_left schema capacity db unit x others areas [] < needs_left schema capacity db unit x g areas cells
  turn_falls others fit e =
      let r = reads_stale others e in
      let noted = with_owners g (stale_owners schema capacity db unit g x) in
      subst (λ o. needs_left schema capacity db unit x o areas [] < needs_left schema capacity db unit x g areas cells) r.1
      (falls noted (not_stale_again schema capacity db unit x fit g) r.0)
    where
      falls : (noted : List (Option Owner)) → is_stale schema capacity db unit noted x ≡ false → is_stale schema capacity db unit g x ≡ true →
          needs_left schema capacity db unit x noted areas [] < count (λ a. not (holds_area areas a)) (areas_in_order schema unit x) + count (λ c. not (holds_cell cells c)) (cells_of schema capacity db unit g x) + cond (is_stale schema capacity db unit g x) (suc (length (cells_of schema capacity db unit noted x))) 0
      falls noted fresh stale =
          let most = count_length (λ c. not (holds_cell [] c)) (cells_of schema capacity db unit noted x) in
          rw (fresh, stale) (omega (arith, most))

pub needs_come_to_an_end : (schema : Lists) (capacity : ℕ) → NeedsComeToAnEnd schema capacity
needs_come_to_an_end schema capacity = record {
  not_stale_again = λ db unit x g fit. not_stale_again schema capacity db unit x fit g;
  area_taken = λ db unit x g areas cells. area_falls schema capacity db unit x g areas cells;
  cell_taken = λ db unit x g areas cells. cell_falls schema capacity db unit x g areas cells;
  turned_back = λ db unit x g others areas cells fit. turn_falls schema capacity db unit x g areas cells others fit;
}
