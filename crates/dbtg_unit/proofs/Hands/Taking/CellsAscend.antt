-- The cells of a statement ascend, in all statements but DELETE.
use Rattle.std.proofs.Common.{◌≡◌, refl, sym, ◌∙◌, subst, ℕ, Bool, true, false, eqb, ◌||◌, List, [], ◌∷◌, ◌++◌, length, map, Option, Some, None, inl, inr}
use Rattle.std.specs.Prelude.{Result, Ok, Err, is_some, nat_lt, option_map, option_and_then, unwrap_or, if◌then◌else◌, ◌==◌}
use Rattle.std.specs.List.{list_any, list_all, range_with_len, flat_map}
use Rattle.std.proofs.lemmas.Bool.{and_parts, and_from, or_left, cases_Bool, cond_both, false≢true, eqb-true, eq-eqb}
use Rattle.dbtg_schema.specs.Lists.{Lists}
use Rattle.dbtg_schema.specs.Lookups.{at, some_and}
use Rattle.dbtg_schema.specs.Structure.{area_of, automatic_sets, is_automatic, member_clause, owns, rekeyed_sets, set_numbers, types_in}
use Rattle.dbtg_schema.specs.Sound.{IsSound}
use Rattle.dbtg_schema.specs.declared.shape.Member.{Member}
use Rattle.dbtg_cells.specs.declared.key.DbKey.{DbKey}
use Rattle.dbtg_cells.specs.declared.key.Owner.{Owner}
use Rattle.dbtg_cells.specs.declared.name.CellName.{CellName}
use Rattle.dbtg_cells.specs.declared.name.CellName.TheVariants.{Usage, Extent, Ring, Slot}
use Rattle.dbtg_cells.specs.Names.{name_below}
use Rattle.dbtg_unit.specs.declared.statement.Form.{Form}
use Rattle.dbtg_unit.specs.declared.statement.Form.TheVariants.{Key, CurrentOfUnit, CurrentOfType, CurrentOfSet, CurrentOfArea, InSet, InArea, OwnerOf, Calc, NextDuplicate, Sorted}
use Rattle.dbtg_unit.specs.declared.statement.Statement.{Statement}
use Rattle.dbtg_unit.specs.declared.statement.Statement.TheVariants.{OpenArea, CloseArea, Find, Get, Store, Insert, Remove, Modify, Delete, Keep, Free}
use Rattle.dbtg_unit.specs.declared.unit.Cause.{Cause}
use Rattle.dbtg_unit.specs.declared.unit.Unit.{Unit}
use Rattle.dbtg_unit.specs.Database.State.Base.{Database}
use Rattle.dbtg_unit.specs.Database.State.CellNames.{slot_name}
use Rattle.dbtg_unit.specs.Database.Statements.Found.{found}
use Rattle.dbtg_unit.specs.Database.State.Legal.{pairwise}
use Rattle.dbtg_unit.specs.Hands.Needs.{cells_of, current_owner, find_cells, found_slot, ring_names, slot_names, store_cells, store_rings}
use Rattle.dbtg_unit.specs.Database.State.Units.{key_of_place, place_in}
use Rattle.dbtg_unit.proofs.Hands.Taking.AreasOfCells.{all_flat, all_join}
use Rattle.dbtg_unit.proofs.Lists.Agreeing.{all_in}
use Rattle.dbtg_unit.proofs.Hands.Taking.SoundSchemas.{owner_is_no_member}
use Rattle.dbtg_unit.proofs.Lists.Ascending.{ascending_join, ascending_range}
use Rattle.dbtg_unit.proofs.Lists.Membership.{In, all_at, any_element, of_filter}
use Rattle.dbtg_unit.proofs.Lists.WithANewMember.{pairwise_filter}
use Rattle.dbtg_unit.specs.Hands.EditsOf.{is_delete}

abbrev is_slot : CellName → Bool
is_slot (Slot t n) = true
is_slot _ = false

abbrev is_extent : CellName → Bool
is_extent (Extent t) = true
is_extent _ = false

-- a ring of set s
abbrev is_ring_of : ℕ → CellName → Bool
is_ring_of s (Ring t o) = eqb t s
is_ring_of s _ = false

abbrev is_ring : CellName → Bool
is_ring (Ring t o) = true
is_ring _ = false

ring_of_some : (s : ℕ) (c : CellName) → is_ring_of s c ≡ true → is_ring c ≡ true
ring_of_some s (Usage a) e = absurd (false≢true e)
ring_of_some s (Extent t) e = absurd (false≢true e)
ring_of_some s (Ring t o) e = refl
ring_of_some s (Slot t n) e = absurd (false≢true e)

-- extents come before rings and slots, rings before slots
extent_first : (t : ℕ) (c : CellName) → (is_ring c || is_slot c) ≡ true → name_below (Extent t) c ≡ true
extent_first t (Usage a) e = absurd (false≢true e)
extent_first t (Extent u) e = absurd (false≢true e)
extent_first t (Ring s o) e = refl
extent_first t (Slot u n) e = refl

before_slot : (c d : CellName) → (is_extent c || is_ring c) ≡ true → is_slot d ≡ true → name_below c d ≡ true
before_slot (Usage a) d e f = absurd (false≢true e)
before_slot (Extent t) (Usage a) e f = absurd (false≢true f)
before_slot (Extent t) (Extent u) e f = absurd (false≢true f)
before_slot (Extent t) (Ring s o) e f = absurd (false≢true f)
before_slot (Extent t) (Slot u n) e f = refl
before_slot (Ring s o) (Usage a) e f = absurd (false≢true f)
before_slot (Ring s o) (Extent u) e f = absurd (false≢true f)
before_slot (Ring s o) (Ring t p) e f = absurd (false≢true f)
before_slot (Ring s o) (Slot u n) e f = refl
before_slot (Slot t n) d e f = absurd (false≢true e)

ring_before : (s t : ℕ) (c d : CellName) → is_ring_of s c ≡ true → is_ring_of t d ≡ true → nat_lt s t ≡ true → name_below c d ≡ true
ring_before s t (Usage a) d e f h = absurd (false≢true e)
ring_before s t (Extent u) d e f h = absurd (false≢true e)
ring_before s t (Slot u n) d e f h = absurd (false≢true e)
ring_before s t (Ring u o) (Usage a) e f h = absurd (false≢true f)
ring_before s t (Ring u o) (Extent v) e f h = absurd (false≢true f)
ring_before s t (Ring u o) (Slot v n) e f h = absurd (false≢true f)
ring_before s t (Ring u o) (Ring v p) e f h = or_left _ _ (subst (λ x. nat_lt x v ≡ true) (sym (eqb-true u s e)) (subst (λ x. nat_lt s x ≡ true) (sym (eqb-true v t f)) h))

-- lists of rings, each of its set, one set after another
rings_ascend : (f : ℕ → List CellName) (sets : List ℕ) → pairwise nat_lt sets ≡ true → ((s : ℕ) → list_all (is_ring_of s) (f s) ≡ true) → ((s : ℕ) → pairwise name_below (f s) ≡ true) → pairwise name_below (flat_map f sets) ≡ true
rings_ascend f [] h rings each = refl
rings_ascend f (s ∷ sets) h rings each =
    let hs = and_parts _ _ h in
    ascending_join name_below (f s) (flat_map f sets) (each s) (rings_ascend f sets hs.1 rings each)
    (λ c i. all_flat (name_below c) f sets (λ t j. all_in (name_below c) (f t) (λ d k. ring_before s t c d (all_at (is_ring_of s) c (f s) (rings s) i) (all_at (is_ring_of t) d (f t) (rings t) k) (all_at (nat_lt s) t sets hs.0 j))))

slots_alone : (o : Option DbKey) → pairwise name_below (slot_names o) ≡ true
slots_alone None = refl
slots_alone (Some k) = refl

all_slots : (o : Option DbKey) → list_all is_slot (slot_names o) ≡ true
all_slots None = refl
all_slots (Some k) = refl

found_alone : (r : Result DbKey Cause) → pairwise name_below (found_slot r) ≡ true
found_alone (Ok k) = refl
found_alone (Err cause) = refl

found_slots : (r : Result DbKey Cause) → list_all is_slot (found_slot r) ≡ true
found_slots (Ok k) = refl
found_slots (Err cause) = refl

rings_alone : (s : ℕ) (o : Option Owner) → pairwise name_below (ring_names s o) ≡ true
rings_alone s None = refl
rings_alone s (Some o) = refl

all_rings : (s : ℕ) (o : Option Owner) → list_all (is_ring_of s) (ring_names s o) ≡ true
all_rings s None = refl
all_rings s (Some o) = and_from _ _ (eq-eqb s s refl) refl

-- extents and rings, then slots
then_slots : (cs ds : List CellName) → pairwise name_below cs ≡ true → list_all (λ c. is_extent c || is_ring c) cs ≡ true → pairwise name_below ds ≡ true → list_all is_slot ds ≡ true → pairwise name_below (cs ++ ds) ≡ true
then_slots cs ds h k g s = ascending_join name_below cs ds h g (λ c i. all_in (name_below c) ds (λ d j. before_slot c d (all_at (λ c. is_extent c || is_ring c) c cs k i) (all_at is_slot d ds s j)))

weaker : (p q : CellName → Bool) (cs : List CellName) → ((c : CellName) → p c ≡ true → q c ≡ true) → list_all p cs ≡ true → list_all q cs ≡ true
weaker p q [] f h = refl
weaker p q (c ∷ cs) f h = let hs = and_parts _ _ h in and_from _ _ (f c hs.0) (weaker p q cs f hs.1)

ring_counts : (c : CellName) → is_ring c ≡ true → (is_extent c || is_ring c) ≡ true
ring_counts (Usage a) e = absurd (false≢true e)
ring_counts (Extent t) e = refl
ring_counts (Ring s o) e = refl
ring_counts (Slot t n) e = absurd (false≢true e)

ring_then : (c : CellName) → is_ring c ≡ true → (is_ring c || is_slot c) ≡ true
ring_then (Usage a) e = absurd (false≢true e)
ring_then (Extent t) e = absurd (false≢true e)
ring_then (Ring s o) e = refl
ring_then (Slot t n) e = absurd (false≢true e)

ring_slots : (s : ℕ) (o : Option Owner) (ds : List CellName) → pairwise name_below ds ≡ true → list_all is_slot ds ≡ true → pairwise name_below (ring_names s o ++ ds) ≡ true
ring_slots s o ds g k = then_slots (ring_names s o) ds (rings_alone s o) (weaker (is_ring_of s) _ (ring_names s o) (λ c e. ring_counts c (ring_of_some s c e)) (all_rings s o)) g k

extent_slots : (t : ℕ) (ds : List CellName) → pairwise name_below ds ≡ true → list_all is_slot ds ≡ true → pairwise name_below (Extent t ∷ ds) ≡ true
extent_slots t ds g k = then_slots (Extent t ∷ []) ds refl refl g k

extent_found : (t : ℕ) (r : Result DbKey Cause) → pairwise name_below (Extent t ∷ found_slot r) ≡ true
extent_found t r = extent_slots t (found_slot r) (found_alone r) (found_slots r)

extents_above : (t : ℕ) (ts : List ℕ) → list_all (nat_lt t) ts ≡ true → list_all (name_below (Extent t)) (map Extent ts) ≡ true
extents_above t [] h = refl
extents_above t (u ∷ ts) h = let hs = and_parts _ _ h in and_from _ _ hs.0 (extents_above t ts hs.1)

extents_ascend : (ts : List ℕ) → pairwise nat_lt ts ≡ true → pairwise name_below (map Extent ts) ≡ true
extents_ascend [] h = refl
extents_ascend (t ∷ ts) h = let hs = and_parts _ _ h in and_from _ _ (extents_above t ts hs.0) (extents_ascend ts hs.1)

all_extents : (ts : List ℕ) → list_all (λ c. is_extent c || is_ring c) (map Extent ts) ≡ true
all_extents [] = refl
all_extents (t ∷ ts) = all_extents ts

types_ascend : (schema : Lists) (a : ℕ) (r : Option ℕ) → pairwise nat_lt (unwrap_or (option_map (λ t. t ∷ []) r) (types_in schema a)) ≡ true
types_ascend schema a None = pairwise_filter nat_lt (λ t. area_of schema t == a) (range_with_len 0 (length schema.types)) (ascending_range 0 (length schema.types))
types_ascend schema a (Some t) = refl

module _ (schema : Lists) (sound : IsSound schema) (capacity : ℕ) (db : Database) (unit : Unit) where
  sets_ascend : pairwise nat_lt (set_numbers schema) ≡ true
  sets_ascend = ascending_range 0 (length schema.sets)

  find_ascends : (form : Form) → pairwise name_below (find_cells schema capacity db unit form) ≡ true
  find_ascends (Key k) = refl
  find_ascends CurrentOfUnit = slots_alone unit.currency.run_unit
  find_ascends (CurrentOfType r) = slots_alone (at unit.currency.types r)
  find_ascends (CurrentOfSet s) = slots_alone (option_and_then key_of_place (place_in schema unit s))
  find_ascends (CurrentOfArea a) = slots_alone (at unit.currency.areas a)
  find_ascends (InSet which r s) = ring_slots s (current_owner schema unit s) _ (found_alone _) (found_slots _)
  find_ascends (InArea which r a) =
      let types = unwrap_or (option_map (λ t. t ∷ []) r) (types_in schema a) in
      then_slots (map Extent types) _ (extents_ascend types (types_ascend schema a r)) (all_extents types) (found_alone _) (found_slots _)
  find_ascends (OwnerOf s) = slots_alone (option_and_then (λ place. key_of_place (record place { at = None })) (place_in schema unit s))
  find_ascends (Calc r values) = extent_found r (found schema capacity db unit (Calc r values))
  find_ascends (NextDuplicate r) = extent_found r (found schema capacity db unit (NextDuplicate r))
  find_ascends (Sorted s v) = ring_slots s (current_owner schema unit s) _ (found_alone _) (found_slots _)

  -- THE RINGS OF A STORE

  module _ (k : DbKey) where
    current : ℕ → List CellName
    current s = if list_any (λ s'. s' == s) (automatic_sets schema k.rtype) then ring_names s (current_owner schema unit s) else []

    own : ℕ → List CellName
    own s = if owns schema s k.rtype then Ring s (Some (k.rtype, k.number)) ∷ [] else []

    -- no set is both
    is_member_of : (s : ℕ) → list_any (λ s'. s' == s) (automatic_sets schema k.rtype) ≡ true → is_some (member_clause schema s k.rtype) ≡ true
    is_member_of s e =
        let a = any_element (λ s'. s' == s) (automatic_sets schema k.rtype) e in
        let m = (of_filter (λ s. some_and (λ m. is_automatic m.class) (member_clause schema s k.rtype)) a.0 (set_numbers schema) a.1).1 in
        subst (λ t. is_some (member_clause schema t k.rtype) ≡ true) (eqb-true a.0 s a.2) (go (member_clause schema a.0 k.rtype) m)
      where
        go : (o : Option Member) → some_and (λ m. is_automatic m.class) o ≡ true → is_some o ≡ true
        go None e = absurd (false≢true e)
        go (Some m) e = refl

    store_one : (s : ℕ) → pairwise name_below (current s ++ own s) ≡ true
    unfolding current own
    store_one s = elim (cases_Bool (owns schema s k.rtype)) [
      | inl e ↦ elim (cases_Bool (list_any (λ s'. s' == s) (automatic_sets schema k.rtype))) [
        | inl a ↦ absurd (false≢true (sym (owner_is_no_member schema sound s k.rtype e) ∙ is_member_of s a))
        | inr a ↦ rw (a, e) refl
      ]
      | inr e ↦ rw e (cond_both (list_any (λ s'. s' == s) (automatic_sets schema k.rtype)) (ring_names s (current_owner schema unit s)) [] (λ cs. pairwise name_below (cs ++ []) ≡ true) (λ a. alone (current_owner schema unit s)) (λ a. refl))
    ]
      where
        alone : (o : Option Owner) → pairwise name_below (ring_names s o ++ []) ≡ true
        alone None = refl
        alone (Some o) = refl

    store_of : (s : ℕ) → list_all (is_ring_of s) (current s ++ own s) ≡ true
    unfolding current own
    store_of s =
        all_join (is_ring_of s) (current s) (own s)
        (cond_both (list_any (λ s'. s' == s) (automatic_sets schema k.rtype)) _ _ (λ cs. list_all (is_ring_of s) cs ≡ true) (λ e. all_rings s (current_owner schema unit s)) (λ e. refl))
        (cond_both (owns schema s k.rtype) _ _ (λ cs. list_all (is_ring_of s) cs ≡ true) (λ e. and_from _ _ (eq-eqb s s refl) refl) (λ e. refl))

    store_rings_ascend : pairwise name_below (store_rings schema unit k) ≡ true
    unfolding current own
    store_rings_ascend = rings_ascend (λ s. current s ++ own s) (set_numbers schema) sets_ascend store_of store_one

    store_rings_are : list_all is_ring (store_rings schema unit k) ≡ true
    unfolding current own
    store_rings_are = all_flat is_ring (λ s. current s ++ own s) (set_numbers schema) (λ s i. weaker (is_ring_of s) is_ring (current s ++ own s) (ring_of_some s) (store_of s))

  -- an extent, then rings, then slots
  in_kinds : (es rings slots : List CellName) → pairwise name_below es ≡ true → ((c : CellName) → In c es → (t : ℕ) × (c ≡ Extent t)) → pairwise name_below rings ≡ true → list_all is_ring rings ≡ true → pairwise name_below slots ≡ true → list_all is_slot slots ≡ true → pairwise name_below (es ++ rings ++ slots) ≡ true
  in_kinds es rings slots he ke hr kr hs ks =
      then_slots (es ++ rings) slots
      (ascending_join name_below es rings he hr (λ c i. let e = ke c i in subst (λ d. list_all (name_below d) rings ≡ true) (sym e.1) (weaker is_ring (name_below (Extent e.0)) rings (λ d h. extent_first e.0 d (ring_then d h)) kr)))
      (all_join _ es rings (all_in _ es (λ c i. let e = ke c i in subst (λ d. (is_extent d || is_ring d) ≡ true) (sym e.1) refl)) (weaker is_ring _ rings ring_counts kr))
      hs ks

  one_extent : (t : ℕ) (c : CellName) → In c (Extent t ∷ []) → (u : ℕ) × (c ≡ Extent u)
  one_extent t c (inl e) = (t, sym e)
  one_extent t c (inr i) = absurd i

  store_ascends : (t : ℕ) (key : Option DbKey) (b : Bool) → pairwise name_below (Extent t ∷ store_cells schema unit key b) ≡ true
  store_ascends t None b = refl
  store_ascends t (Some k) true = refl
  store_ascends t (Some k) false = in_kinds (Extent t ∷ []) (store_rings schema unit k) (slot_name k ∷ []) refl (one_extent t) (store_rings_ascend k) (store_rings_are k) refl refl

  modify_ascends : (g : List (Option Owner)) (t : ℕ) (named : List ℕ) (calc : Bool) → pairwise name_below ((if calc then Extent t ∷ [] else []) ++ flat_map (λ s. ring_names s (at g s)) (rekeyed_sets schema t named) ++ slot_names unit.currency.run_unit) ≡ true
  modify_ascends g t named calc =
      in_kinds (if calc then Extent t ∷ [] else []) (flat_map (λ s. ring_names s (at g s)) (rekeyed_sets schema t named)) (slot_names unit.currency.run_unit)
      (cond_both calc _ _ (λ cs. pairwise name_below cs ≡ true) (λ e. refl) (λ e. refl))
      (λ c. cond_both calc _ _ (λ cs. In c cs → (u : ℕ) × (c ≡ Extent u)) (λ e. one_extent t c) (λ e i. absurd i))
      (rings_ascend (λ s. ring_names s (at g s)) (rekeyed_sets schema t named) (pairwise_filter nat_lt _ (set_numbers schema) sets_ascend) (λ s. all_rings s (at g s)) (λ s. rings_alone s (at g s)))
      (all_flat is_ring (λ s. ring_names s (at g s)) (rekeyed_sets schema t named) (λ s i. weaker (is_ring_of s) is_ring (ring_names s (at g s)) (ring_of_some s) (all_rings s (at g s))))
      (slots_alone unit.currency.run_unit) (all_slots unit.currency.run_unit)

  pub cells_ascend : (g : List (Option Owner)) (x : Statement) → is_delete x ≡ false → pairwise name_below (cells_of schema capacity db unit g x) ≡ true
  cells_ascend g (OpenArea a mode) d = refl
  cells_ascend g (CloseArea a) d = refl
  cells_ascend g (Find suppress form) d = find_ascends form
  cells_ascend g (Get r) d = slots_alone unit.currency.run_unit
  cells_ascend g (Store t items suppress) d = store_ascends t _ _
  cells_ascend g (Insert s) d = ring_slots s (current_owner schema unit s) _ (slots_alone unit.currency.run_unit) (all_slots unit.currency.run_unit)
  cells_ascend g (Remove s) d = ring_slots s (at g s) _ (slots_alone unit.currency.run_unit) (all_slots unit.currency.run_unit)
  cells_ascend g (Modify t changes) d = modify_ascends g t (map (λ c. c.item) changes) _
  cells_ascend g (Delete option) d = absurd (false≢true (sym d))
  cells_ascend g Keep d = slots_alone unit.currency.run_unit
  cells_ascend g (Free all) d = refl
