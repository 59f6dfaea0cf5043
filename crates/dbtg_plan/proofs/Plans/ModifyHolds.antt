-- What a MODIFY that is ready holds: its slot, its extent where a CALC item is named, the rings of the owners in whose sets it is placed anew.
use Rattle.std.proofs.Common.{◌≡◌, refl, sym, ◌∙◌, ap, subst, ℕ, Bool, true, false, cond, ◌&&◌, List, [], ◌∷◌, ◌++◌, Option, Some, None, inl, eqb, map}
use Rattle.std.specs.Prelude.{is_some}
use Rattle.std.specs.List.{list_any, flat_map}
use Rattle.std.proofs.lemmas.Bool.{and_from, eqb-true, false≢true, false_from_ne_true, not-false}
use Rattle.dbtg_schema.specs.Lists.{Lists}
use Rattle.dbtg_schema.specs.Lookups.{at, some_and}
use Rattle.dbtg_schema.specs.Structure.{member_clause, rekeyed_sets, set_numbers}
use Rattle.dbtg_schema.specs.declared.shape.Member.{Member}
use Rattle.dbtg_cells.specs.declared.key.DbKey.{DbKey}
use Rattle.dbtg_cells.specs.declared.key.Owner.{Owner}
use Rattle.dbtg_cells.specs.declared.name.CellName.{CellName}
use Rattle.dbtg_cells.specs.declared.name.CellName.TheVariants.{Extent, Ring}
use Rattle.dbtg_cells.specs.Keys.{owner_eq}
use Rattle.dbtg_cells.proofs.Public.{same_owner}
use Rattle.dbtg_unit.specs.declared.statement.Change.{Change}
use Rattle.dbtg_unit.specs.declared.statement.Statement.TheVariants.{Modify}
use Rattle.dbtg_unit.specs.declared.unit.Unit.{Unit}
use Rattle.dbtg_unit.specs.Database.State.Base.{Database, is_live, owner_of}
use Rattle.dbtg_unit.specs.Database.State.CellNames.{place_of, slot_name}
use Rattle.dbtg_unit.specs.Database.Statements.Effect.{names_calc}
use Rattle.dbtg_unit.specs.Hands.Hands.{Hands}
use Rattle.dbtg_unit.specs.Hands.Local.{Agrees, holds}
use Rattle.dbtg_unit.specs.Hands.Needs.{cells_of, is_stale, is_wrong_guess, ring_names, slot_names}
use Rattle.dbtg_unit.proofs.Public.{In, any_element, any_in, in_filter, in_flat_map, in_left, in_right, member_of_owner, set_has_number, some_and_value}
use Rattle.dbtg_plan.specs.Inside.Modifying.{is_rekeyed}

-- the member clause of a set in which a key item is named
pub rekeyed_clause : (schema : Lists) (changes : List Change) (t s : ℕ) → is_rekeyed schema changes t s ≡ true → is_some (member_clause schema s t) ≡ true
rekeyed_clause schema changes t s h = there (member_clause schema s t) h where
  there : (m : Option Member) → some_and (λ (m : Member). some_and (λ i. list_any (λ j. eqb j i) (map (λ c. c.item) changes)) m.key) m ≡ true → is_some m ≡ true
  there None h = h
  there (Some m) h = refl

-- and is among the numbers of sets
pub rekeyed_number : (schema : Lists) (changes : List Change) (t s : ℕ) → is_rekeyed schema changes t s ≡ true → In s (set_numbers schema)
rekeyed_number schema changes t s h =
    let e = any_element (λ r. eqb r s) (set_numbers schema) (set_has_number schema s t (rekeyed_clause schema changes t s h)) in
    subst (λ r. In r (set_numbers schema)) (eqb-true e.0 s e.2) e.1

-- WHAT IS HELD

module _ (schema : Lists) (capacity : ℕ) (db : Database) (hands : Hands) (unit : Unit) (agrees : Agrees schema capacity db hands unit)
    (changes : List Change) (k : DbKey) (current : unit.currency.run_unit ≡ Some k)
    (named : (c : CellName) → In c (cells_of schema capacity db unit hands.guesses (Modify k.rtype changes)) → holds hands.cells c ≡ true)
    (fresh : is_stale schema capacity db unit hands.guesses (Modify k.rtype changes) ≡ false) where
  abbrev extent_names : List CellName
  extent_names = cond (names_calc schema k.rtype changes) (Extent k.rtype ∷ []) []

  abbrev rekeyed_names : List CellName
  rekeyed_names = flat_map (λ s. ring_names s (at hands.guesses s)) (rekeyed_sets schema k.rtype (map (λ c. c.item) changes))

  pub slot_held : holds hands.cells (slot_name k) ≡ true
  slot_held = named (slot_name k) (in_right (slot_name k) (extent_names ++ rekeyed_names) (slot_names unit.currency.run_unit) (subst (λ (o : Option DbKey). In (slot_name k) (slot_names o)) (sym current) (inl refl)))

  pub extent_held : names_calc schema k.rtype changes ≡ true → holds hands.cells (Extent k.rtype) ≡ true
  extent_held h =
      named (Extent k.rtype) (in_left (Extent k.rtype) (extent_names ++ rekeyed_names) (slot_names unit.currency.run_unit)
      (in_left (Extent k.rtype) extent_names rekeyed_names (subst (λ b. In (Extent k.rtype) (cond b (Extent k.rtype ∷ []) [])) (sym h) (inl refl))))

  abbrev stale_at : Option DbKey → Bool
  stale_at = some_and (λ x. is_live db x && list_any (λ s. is_wrong_guess (owner_of schema capacity db s x) (at hands.guesses s)) (rekeyed_sets schema k.rtype (map (λ c. c.item) changes)))

  -- the guess is the owner
  guess_is : (s : ℕ) (o : Owner) → is_rekeyed schema changes k.rtype s ≡ true → owner_of schema capacity db s k ≡ Some o → at hands.guesses s ≡ Some o
  guess_is s o rekeyed is =
      let live : is_live db k ≡ true = (agrees.legal.members s o k (member_of_owner schema capacity db agrees.legal s o k is)).0 in
      let among = in_filter (λ s. is_rekeyed schema changes k.rtype s) s (set_numbers schema) (rekeyed_number schema changes k.rtype s rekeyed) rekeyed in
      let wrong : ℕ → Bool = λ s. is_wrong_guess (owner_of schema capacity db s k) (at hands.guesses s) in
      let right : wrong s ≡ false = false_from_ne_true _ (λ h. false≢true (sym fresh ∙ ap stale_at current ∙ and_from _ _ live (any_in wrong s (rekeyed_sets schema k.rtype (map (λ c. c.item) changes)) among h))) in
      let guess = some_and_value (owner_eq o) (at hands.guesses s) (not-false _ (sym (ap (λ (t : Option Owner). is_wrong_guess t (at hands.guesses s)) is) ∙ right)) in
      guess.1 ∙ ap Some (sym (same_owner o guess.0 guess.2))

  pub rings_held : (s : ℕ) (o : Owner) → is_rekeyed schema changes k.rtype s ≡ true → owner_of schema capacity db s k ≡ Some o → holds hands.cells (Ring s (place_of o)) ≡ true
  rings_held s o rekeyed is =
      named (Ring s (place_of o)) (in_left (Ring s (place_of o)) (extent_names ++ rekeyed_names) (slot_names unit.currency.run_unit)
      (in_right (Ring s (place_of o)) extent_names rekeyed_names
      (in_flat_map (λ s. ring_names s (at hands.guesses s)) s (Ring s (place_of o)) (rekeyed_sets schema k.rtype (map (λ c. c.item) changes))
      (in_filter (λ s. is_rekeyed schema changes k.rtype s) s (set_numbers schema) (rekeyed_number schema changes k.rtype s rekeyed) rekeyed)
      (subst (λ (g : Option Owner). In (Ring s (place_of o)) (ring_names s g)) (sym (guess_is s o rekeyed is)) (inl refl)))))
