-- Two views that answer the same where a statement asks have the same checks.
-- k is a key, s a set, o an owner, v and w views.
use Rattle.std.proofs.Common.{◌≡◌, refl, ◌∙◌, ap, cond, ℕ, not, true, false, ◌&&◌, List, [], ◌∷◌, ◌++◌, Option, Some, None, map}
use Rattle.std.proofs.lemmas.Bool.{not-false}
use Rattle.std.specs.Prelude.{◌==◌, Bool, is_none, is_some}
use Rattle.dbtg_schema.specs.Lists.{Lists}
use Rattle.dbtg_schema.specs.Lookups.{first_cause, some_and}
use Rattle.dbtg_schema.specs.Structure.{automatic_sets, calc_of, order_of, rekeyed_sets}
use Rattle.dbtg_cells.specs.declared.key.DbKey.{DbKey}
use Rattle.dbtg_cells.specs.declared.key.Owner.{Owner}
use Rattle.dbtg_cells.specs.declared.key.Value.{Value}
use Rattle.dbtg_unit.specs.declared.statement.Change.{Change}
use Rattle.dbtg_unit.specs.declared.unit.Cause.{Cause}
use Rattle.dbtg_unit.specs.declared.unit.Cause.TheVariants.{AlreadyMember, ChangedByAnother, Deleted, DuplicatesNotAllowed, NoRoom, NotMember, PositionLost}
use Rattle.dbtg_unit.specs.declared.unit.Place.{Place}
use Rattle.dbtg_unit.specs.declared.unit.Unit.{Unit}
use Rattle.dbtg_unit.specs.Database.State.Base.{calc_items, key_item}
use Rattle.dbtg_unit.specs.Database.Statements.Checks.{checks_at, insert_checks, modify_checks, own_checks, place_checks, remove_checks, store_checks}
use Rattle.dbtg_unit.specs.Database.Statements.Conditions.{calc_taken, changed_items, joined_place, names_calc, refuses_equal, sort_key_taken, uses_position}
use Rattle.dbtg_unit.specs.Database.Statements.Found.{is_lost}
use Rattle.dbtg_unit.specs.Database.State.Units.{kept_version}
use Rattle.dbtg_unit.specs.Database.Statements.StoredFacts.{StoredFacts}
use Rattle.dbtg_unit.proofs.Lists.Agreeing.{flat_map_agrees, map_agrees_on_list}
use Rattle.dbtg_unit.proofs.Lists.Membership.{In}

-- the same for a record
pub record SameRecord (v w : StoredFacts) (k : DbKey) : Type 0 where
  pub is_live : v.is_live k ≡ w.is_live k
  pub items : v.items k ≡ w.items k
  pub version : v.version k ≡ w.version k

-- the same for an occurrence
pub record SameOccurrence (v w : StoredFacts) (s : ℕ) (o : Owner) : Type 0 where
  pub is_absent : v.is_absent s o ≡ w.is_absent s o
  pub members : v.members s o ≡ w.members s o
  pub has_sort_key : (left : Option DbKey) (key : Option Value) → v.has_sort_key s o left key ≡ w.has_sort_key s o left key

-- the same for the numbers of a record type
pub record SameNumbers (v w : StoredFacts) (t : ℕ) : Type 0 where
  pub is_full : v.is_full t ≡ w.is_full t
  pub has_calc : (values : List Value) → v.has_calc t values None ≡ w.has_calc t values None

-- the checks after a check count only if it does not apply
pub behind_check : (b c : Bool) (cause : Cause) (x y : Option Cause) → b ≡ c → (c ≡ false → x ≡ y) → cond b (Some cause) x ≡ cond c (Some cause) y
behind_check b c cause x y same h = ap (λ d. cond d (Some cause) x) same ∙ rest c h where
  rest : (d : Bool) → (d ≡ false → x ≡ y) → cond d (Some cause) x ≡ cond d (Some cause) y
  rest true h = refl
  rest false h = h refl

-- what is asked only where something holds
pub and_agrees : (b c d : Bool) → (b ≡ true → c ≡ d) → (b && c) ≡ (b && d)
and_agrees true c d h = h refl
and_agrees false c d h = refl

-- the checks after the record's own count if it is live
pub own_checks_then : (v : StoredFacts) (unit : Unit) (k : DbKey) (rest rest' : List (Bool × Cause)) → (v.is_live k ≡ true → first_cause rest ≡ first_cause rest')
    → first_cause (own_checks v unit k ++ rest) ≡ first_cause (own_checks v unit k ++ rest')
own_checks_then v unit k rest rest' h =
    behind_check (not (v.is_live k)) (not (v.is_live k)) Deleted _ _ refl
    (λ live. behind_check (some_and (λ n. not (n == v.version k)) (kept_version unit k)) (some_and (λ n. not (n == v.version k)) (kept_version unit k)) ChangedByAnother _ _ refl
    (λ unchanged. h (not-false _ live)))

module _ (v w : StoredFacts) (unit : Unit) where
  pub own_checks_agree : (k : DbKey) → SameRecord v w k → own_checks v unit k ≡ own_checks w unit k
  own_checks_agree k same = λ i. (not (same.is_live i), Deleted) ∷ (some_and (λ n. not (n == same.version i)) (kept_version unit k), ChangedByAnother) ∷ []

  pub checks_at_agree : (schema : Lists) (s : ℕ) (place : Place) → SameOccurrence v w s place.owner → (key : Option Value) → checks_at schema v s place key ≡ checks_at schema w s place key
  checks_at_agree schema s place same key =
      λ i. (same.is_absent i, Deleted)
      ∷ (uses_position (order_of schema s) && is_lost place.at (same.members i), PositionLost)
      ∷ (refuses_equal (order_of schema s) && same.has_sort_key None key i, DuplicatesNotAllowed)
      ∷ []

  pub insert_checks_agree : (schema : Lists) (s : ℕ) (k : DbKey) → SameRecord v w k → v.owner s k ≡ w.owner s k → SameOccurrence v w s (joined_place schema unit s).owner
      → insert_checks schema v unit s k ≡ insert_checks schema w unit s k
  insert_checks_agree schema s k same owner place = λ i.
      own_checks_agree k same i ++ (is_some (owner i), AlreadyMember) ∷ placed (same.items i) i where
        placed : (items : List Value) → place_checks schema v unit s (key_item schema s k.rtype items) ≡ place_checks schema w unit s (key_item schema s k.rtype items)
        placed items = checks_at_agree schema s (joined_place schema unit s) place (key_item schema s k.rtype items)

  pub remove_checks_agree : (s : ℕ) (k : DbKey) → SameRecord v w k → v.owner s k ≡ w.owner s k → remove_checks v unit s k ≡ remove_checks w unit s k
  remove_checks_agree s k same owner = λ i. own_checks_agree k same i ++ (is_none (owner i), NotMember) ∷ []

  pub calc_taken_agrees : (schema : Lists) (t : ℕ) (items : List Value) (left : Option DbKey) → ((values : List Value) → v.has_calc t values left ≡ w.has_calc t values left)
      → calc_taken schema v t items left ≡ calc_taken schema w t items left
  calc_taken_agrees schema t items left h = λ i. some_and (λ calc. not calc.duplicates_allowed && h (calc_items schema t items) i) (calc_of schema t)

  -- the places of a new record are asked only where it gets a number and its CALC items are not taken
  pub store_checks_agree : (schema : Lists) (t : ℕ) (items : List Value) → SameNumbers v w t
      → (w.is_full t ≡ false → calc_taken schema w t items None ≡ false → (s : ℕ) → In s (automatic_sets schema t) → SameOccurrence v w s (joined_place schema unit s).owner)
      → first_cause (store_checks schema v unit t items) ≡ first_cause (store_checks schema w unit t items)
  store_checks_agree schema t items same places =
      behind_check (v.is_full t) (w.is_full t) NoRoom _ _ same.is_full
      (λ room. behind_check (calc_taken schema v t items None) (calc_taken schema w t items None) DuplicatesNotAllowed _ _ (calc_taken_agrees schema t items None same.has_calc)
      (λ free. ap first_cause (flat_map_agrees (λ s. place_checks schema v unit s (key_item schema s t items)) (λ s. place_checks schema w unit s (key_item schema s t items)) (automatic_sets schema t)
      (λ s i. checks_at_agree schema s (joined_place schema unit s) (places room free s i) (key_item schema s t items)))))

  -- a MODIFY asks only those of its sets in which the record has an owner
  pub modify_checks_agree : (schema : Lists) (changes : List Change) (k : DbKey) → SameRecord v w k
      → (names_calc schema k.rtype changes ≡ true → v.is_live k ≡ true → (values : List Value) → v.has_calc k.rtype values (Some k) ≡ w.has_calc k.rtype values (Some k))
      → ((s : ℕ) → In s (rekeyed_sets schema k.rtype (map (λ c. c.item) changes)) → v.owner s k ≡ w.owner s k)
      → ((s : ℕ) (o : Owner) → In s (rekeyed_sets schema k.rtype (map (λ c. c.item) changes)) → w.owner s k ≡ Some o → SameOccurrence v w s o)
      → first_cause (modify_checks schema v unit changes k) ≡ first_cause (modify_checks schema w unit changes k)
  modify_checks_agree schema changes k same calc owners rings =
      own_checks_then v unit k (rest v (v.items k)) (rest w (w.items k)) live
      ∙ ap (λ own. first_cause (own ++ rest w (w.items k))) (own_checks_agree k same) where
        sets : List ℕ
        sets = rekeyed_sets schema k.rtype (map (λ c. c.item) changes)

        taken : StoredFacts → List Value → List (Bool × Cause)
        taken u items = map (λ s. (refuses_equal (order_of schema s) && sort_key_taken schema u k (changed_items changes items) s, DuplicatesNotAllowed)) sets

        rest : StoredFacts → List Value → List (Bool × Cause)
        rest u items = (names_calc schema k.rtype changes && calc_taken schema u k.rtype (changed_items changes items) (Some k), DuplicatesNotAllowed) ∷ taken u items

        taken_agrees : (items : List Value) (s : ℕ) → In s sets → sort_key_taken schema v k items s ≡ sort_key_taken schema w k items s
        taken_agrees items s i = ap (some_and (λ o. v.has_sort_key s o (Some k) (key_item schema s k.rtype items))) (owners s i) ∙ by_owner (w.owner s k) refl where
          by_owner : (q : Option Owner) → w.owner s k ≡ q
              → some_and (λ o. v.has_sort_key s o (Some k) (key_item schema s k.rtype items)) q ≡ some_and (λ o. w.has_sort_key s o (Some k) (key_item schema s k.rtype items)) q
          by_owner None e = refl
          by_owner (Some o) e = (rings s o i e).has_sort_key (Some k) (key_item schema s k.rtype items)

        live : v.is_live k ≡ true → first_cause (rest v (v.items k)) ≡ first_cause (rest w (w.items k))
        live there =
            ap (λ items. first_cause (rest v items)) same.items
            ∙ behind_check _ _ DuplicatesNotAllowed _ _
            (and_agrees (names_calc schema k.rtype changes) _ _ (λ named. calc_taken_agrees schema k.rtype (changed_items changes (w.items k)) (Some k) (calc named there)))
            (λ free. ap first_cause (map_agrees_on_list _ _ sets (λ s i. λ j. (refuses_equal (order_of schema s) && taken_agrees (changed_items changes (w.items k)) s i j, DuplicatesNotAllowed))))
