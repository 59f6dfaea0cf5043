-- The areas of a statement are the schema's, and each of its cells lies in one of them.
use Rattle.std.proofs.Common.{◌≡◌, refl, ◌∙◌, ℕ, ◌<◌, Bool, true, List, [], ◌∷◌, length, map, Option, Some, None}
use Rattle.std.specs.Prelude.{nat_lt, option_map, option_and_then, unwrap_or}
use Rattle.std.specs.List.{list_all}
use Rattle.std.proofs.lemmas.Bool.{and_parts, and_from, ltb-true, lt-ltb}
use Rattle.dbtg_schema.specs.Lists.{Lists}
use Rattle.dbtg_schema.specs.Lookups.{at, flatten}
use Rattle.dbtg_schema.specs.Sound.{IsSound}
use Rattle.dbtg_schema.specs.Structure.{area_of, areas_with_homes, erase_areas, home, reachable_types}
use Rattle.dbtg_cells.specs.declared.key.DbKey.{DbKey}
use Rattle.dbtg_cells.specs.declared.key.Owner.{Owner}
use Rattle.dbtg_unit.specs.declared.statement.Form.{Form}
use Rattle.dbtg_unit.specs.declared.statement.Form.TheVariants.{Key, CurrentOfUnit, CurrentOfType, CurrentOfSet, CurrentOfArea, InSet, InArea, OwnerOf, Calc, NextDuplicate, Sorted}
use Rattle.dbtg_unit.specs.declared.statement.Statement.{Statement}
use Rattle.dbtg_unit.specs.declared.statement.Statement.TheVariants.{OpenArea, CloseArea, Find, Get, Store, Insert, Remove, Modify, Delete, Keep, Free}
use Rattle.dbtg_unit.specs.declared.unit.Unit.{Unit}
use Rattle.dbtg_unit.specs.Database.State.Base.{Database}
use Rattle.dbtg_unit.specs.Database.State.Belongs.{IsUnitOf, is_key_of}
use Rattle.dbtg_unit.specs.Database.State.Legal.{Legal}
use Rattle.dbtg_unit.specs.Database.State.Units.{key_of_place, place_in}
use Rattle.dbtg_unit.specs.Database.Statements.Checks.{area_of_current, areas_of, find_areas, refused_at_once}
use Rattle.dbtg_unit.specs.Database.Statements.Fits.{fits, form_fits, if_named}
use Rattle.dbtg_unit.specs.Hands.Erasing.{delete_cells_of}
use Rattle.dbtg_unit.specs.Hands.Needs.{cells_of}
use Rattle.dbtg_unit.proofs.Hands.Taking.AreasOfCells.{all_join, cells_lie, lies_in}
use Rattle.dbtg_unit.proofs.Hands.Taking.AreasOfDelete.{delete_cells_lie}
use Rattle.dbtg_unit.proofs.Hands.Taking.SoundSchemas.{area_is_known}
use Rattle.dbtg_unit.proofs.Hands.Untouched.LocalReady.{modify_typed}

module _ (schema : Lists) (sound : IsSound schema) where
  abbrev is_known : ℕ → Bool
  is_known a = nat_lt a (length schema.areas)

  type_known : (t : ℕ) → is_known (area_of schema t) ≡ true
  type_known t = lt-ltb _ _ (area_is_known schema sound t)

  mapped_known : {X : Type 0} (f : X → ℕ) (xs : List X) → ((x : X) → is_known (f x) ≡ true) → list_all is_known (map f xs) ≡ true
  mapped_known f [] h = refl
  mapped_known f (x ∷ xs) h = and_from _ _ (h x) (mapped_known f xs h)

  current_known : (o : Option DbKey) → list_all is_known (area_of_current schema o) ≡ true
  current_known None = refl
  current_known (Some k) = and_from _ _ (type_known k.rtype) refl

  flat_known : (ts : List ℕ) → list_all is_known (flatten (map (areas_with_homes schema) ts)) ≡ true
  flat_known [] = refl
  flat_known (t ∷ ts) = all_join is_known (areas_with_homes schema t) _ (and_from _ _ (type_known t) (mapped_known (home schema) _ (λ s. type_known _))) (flat_known ts)

  erase_known : (o : Option ℕ) → list_all is_known (unwrap_or (option_map (erase_areas schema) o) []) ≡ true
  erase_known None = refl
  erase_known (Some t) = flat_known (reachable_types schema t)

  find_known : (unit : Unit) (form : Form) → form_fits schema form ≡ true → list_all is_known (find_areas schema unit form) ≡ true
  find_known unit (Key k) f = and_from _ _ (type_known k.rtype) refl
  find_known unit CurrentOfUnit f = current_known unit.currency.run_unit
  find_known unit (CurrentOfType r) f = and_from _ _ (type_known r) refl
  find_known unit (CurrentOfSet s) f = current_known (option_and_then key_of_place (place_in schema unit s))
  find_known unit (CurrentOfArea a) f = current_known (at unit.currency.areas a)
  find_known unit (InSet which r s) f = and_from _ _ (type_known _) (mapped_known (area_of schema) _ type_known)
  find_known unit (InArea which r a) f = and_from _ _ (and_parts _ _ (and_parts _ _ f).0).0 refl
  find_known unit (OwnerOf s) f = and_from _ _ (type_known _) refl
  find_known unit (Calc r values) f = and_from _ _ (type_known r) refl
  find_known unit (NextDuplicate r) f = and_from _ _ (type_known r) refl
  find_known unit (Sorted s v) f = and_from _ _ (type_known _) (mapped_known (area_of schema) _ type_known)

  pub areas_known : (unit : Unit) (x : Statement) → fits schema x ≡ true → list_all is_known (areas_of schema unit x) ≡ true
  areas_known unit (OpenArea a mode) f = and_from _ _ f refl
  areas_known unit (CloseArea a) f = and_from _ _ f refl
  areas_known unit (Find suppress form) f = find_known unit form (and_parts _ _ f).0
  areas_known unit (Get r) f = current_known unit.currency.run_unit
  areas_known unit (Store t items suppress) f = and_from _ _ (type_known t) (mapped_known (home schema) _ (λ s. type_known _))
  areas_known unit (Insert s) f = and_from _ _ (type_known _) (current_known unit.currency.run_unit)
  areas_known unit (Remove s) f = and_from _ _ (type_known _) (current_known unit.currency.run_unit)
  areas_known unit (Modify t changes) f = and_from _ _ (type_known t) (mapped_known (home schema) _ (λ s. type_known _))
  areas_known unit (Delete option) f = erase_known (option_map (λ k. k.rtype) unit.currency.run_unit)
  areas_known unit Keep f = current_known unit.currency.run_unit
  areas_known unit (Free all) f = refl

module _ (schema : Lists) (capacity : ℕ) where
  pub all_cells_lie : (db : Database) (unit : Unit) (g : List (Option Owner)) (x : Statement) → Legal schema capacity db → IsUnitOf schema unit → fits schema x ≡ true → refused_at_once schema capacity unit x ≡ None →
      list_all (lies_in schema (areas_of schema unit x)) (cells_of schema capacity db unit g x) ≡ true
  all_cells_lie db unit g (Delete option) legal of f r = go unit.currency.run_unit of.run_unit
    where
      go : (o : Option DbKey) → if_named (is_key_of schema) o ≡ true → list_all (lies_in schema (unwrap_or (option_map (erase_areas schema) (option_map (λ k. k.rtype) o)) [])) (delete_cells_of schema capacity db unit option o) ≡ true
      go None h = refl
      go (Some k) h = delete_cells_lie schema capacity db legal k.rtype (ltb-true _ _ h) unit option k refl
  all_cells_lie db unit g (OpenArea a mode) legal of f r = cells_lie schema capacity db legal unit of g (OpenArea a mode) f refl (λ t changes e. absurd (cc (e)))
  all_cells_lie db unit g (CloseArea a) legal of f r = cells_lie schema capacity db legal unit of g (CloseArea a) f refl (λ t changes e. absurd (cc (e)))
  all_cells_lie db unit g (Find suppress form) legal of f r = cells_lie schema capacity db legal unit of g (Find suppress form) f refl (λ t changes e. absurd (cc (e)))
  all_cells_lie db unit g (Get o) legal of f r = cells_lie schema capacity db legal unit of g (Get o) f refl (λ t changes e. absurd (cc (e)))
  all_cells_lie db unit g (Store t items suppress) legal of f r = cells_lie schema capacity db legal unit of g (Store t items suppress) f refl (λ t changes e. absurd (cc (e)))
  all_cells_lie db unit g (Insert s) legal of f r = cells_lie schema capacity db legal unit of g (Insert s) f refl (λ t changes e. absurd (cc (e)))
  all_cells_lie db unit g (Remove s) legal of f r = cells_lie schema capacity db legal unit of g (Remove s) f refl (λ t changes e. absurd (cc (e)))
  all_cells_lie db unit g (Modify t changes) legal of f r = cells_lie schema capacity db legal unit of g (Modify t changes) f refl
      (λ t' changes' e k h. let q : t ≡ t' = cc (e) in modify_typed schema capacity db unit (record { areas = []; cells = []; guesses = [] }) t changes r k h ∙ q)
  all_cells_lie db unit g Keep legal of f r = cells_lie schema capacity db legal unit of g Keep f refl (λ t changes e. absurd (cc (e)))
  all_cells_lie db unit g (Free all) legal of f r = cells_lie schema capacity db legal unit of g (Free all) f refl (λ t changes e. absurd (cc (e)))
