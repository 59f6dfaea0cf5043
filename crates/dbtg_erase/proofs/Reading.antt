-- What the held cells say of a record that goes is so in each database that agrees with them.
use Rattle.std.proofs.Common.{◌≡◌, refl, sym, ◌∙◌, ap, subst, ℕ, suc, ◌+◌, ◌*◌, ◌≤◌, Bool, true, false, cond, not, ◌&&◌, List, [], ◌∷◌, ◌++◌, length, Option, Some, None, arith, inl, inr, map, length-append}
use Rattle.std.proofs.Math.Nat.{suc-mul}
use Rattle.std.proofs.lemmas.List.FromFn.{length-map-range_with_len, length-range_with_len}
use Rattle.std.specs.Prelude.{filter, unwrap_or, ◌==◌}
use Rattle.std.specs.List.{find, flat_map, list_any, range_with_len}
use Rattle.std.proofs.lemmas.Bool.{and_from, and_parts, cases_Bool, false≢true, false_from_ne_true}
use Rattle.std.proofs.lemmas.Option.{none-some}
use Rattle.dbtg_schema.specs.Lists.{Lists}
use Rattle.dbtg_schema.specs.Lookups.{some_and}
use Rattle.dbtg_schema.specs.Structure.{owns, set_numbers}
use Rattle.dbtg_schema.proofs.Public.{none_is}
use Rattle.dbtg_cells.specs.declared.key.DbKey.{DbKey}
use Rattle.dbtg_cells.specs.declared.key.Owner.{Owner}
use Rattle.dbtg_cells.specs.declared.key.Owner.TheVariants.{Rec}
use Rattle.dbtg_cells.specs.declared.name.CellName.{CellName}
use Rattle.dbtg_cells.specs.declared.name.CellName.TheVariants.{Ring}
use Rattle.dbtg_cells.specs.declared.cell.Cell.{Cell}
use Rattle.dbtg_cells.specs.Keys.{is_member, owner_eq}
use Rattle.dbtg_cells.specs.Members.{keys_in}
use Rattle.dbtg_unit.specs.declared.statement.Erase.{Erase}
use Rattle.dbtg_unit.specs.declared.unit.Unit.{Unit}
use Rattle.dbtg_unit.specs.Database.State.Base.{Database, is_live, key_at, live_keys, members_of, owner_of, owners}
use Rattle.dbtg_unit.specs.Database.State.CellNames.{slot_name}
use Rattle.dbtg_unit.specs.Database.Statements.Doomed.{all_keys, is_elsewhere, takes, takes_member}
use Rattle.dbtg_unit.specs.Hands.Erasing.{cells_of_doomed, doomed_in_turn, members_of_all, own_rings, taken_with}
use Rattle.dbtg_unit.specs.Hands.Hands.{Hands, cell_of}
use Rattle.dbtg_unit.specs.Hands.InHand.{occurrence_of}
use Rattle.dbtg_unit.specs.Hands.Local.{Agrees, holds}
use Rattle.dbtg_unit.proofs.Public.{In, any_agrees, any_element, any_in, filter_agrees_on_list, flat_map_agrees, holds_there, in_flat_map, in_left, in_map, in_right}
use Rattle.dbtg_unit.proofs.Public.{listed_has_occurrence, member_nowhere, member_of_owner, members_in_hand as members_are, met_few, of_filter}
use Rattle.dbtg_unit.proofs.Public.{owner_in as among_owners, owner_in_hand}
use Rattle.dbtg_erase.specs.WorkList.{cells_of_gone, elsewhere_in, gone_in, list_in, members_in_hand, most_gone, own_sets, taken_in, taken_of_set}
use Rattle.dbtg_erase.proofs.Bringing.{Agree, agree}

-- LISTS

-- what passes the test brings all
flat_filter : {X Y : Type 0} (f : X → List Y) (p : X → Bool) (xs : List X) → ((x : X) → p x ≡ false → f x ≡ []) → flat_map f xs ≡ flat_map f (filter p xs)
flat_filter f p [] h = refl
flat_filter f p (x ∷ xs) h =
    elim (cases_Bool (p x)) [
      | inl e ↦ ap (λ ys. f x ++ ys) (flat_filter f p xs h) ∙ ap (λ b. flat_map f (cond b (x ∷ filter p xs) (filter p xs))) (sym e)
      | inr e ↦ ap (λ ys. ys ++ flat_map f xs) (h x e) ∙ flat_filter f p xs h ∙ ap (λ b. flat_map f (cond b (x ∷ filter p xs) (filter p xs))) (sym e)
    ]

-- if none is missing, all are there
pub none_wanting : {X : Type 0} (has : X → Bool) (xs : List X) → find (λ x. not (has x)) xs ≡ None → (x : X) → In x xs → has x ≡ true
none_wanting has [] h x i = absurd i
none_wanting has (y ∷ xs) h x i =
    elim (cases_Bool (has y)) [
      | inl e ↦
          let rest : find (λ x. not (has x)) xs ≡ None = sym (ap (λ b. cond (not b) (Some y) (find (λ x. not (has x)) xs)) e) ∙ h in
          elim i [ inl same ↦ ap has (sym same) ∙ e | inr j ↦ none_wanting has xs rest x j ]
      | inr e ↦ absurd (none-some y (sym h ∙ ap (λ b. cond (not b) (Some y) (find (λ x. not (has x)) xs)) e))
    ]

-- the first missing one is the same if the second lists are the same once all of the first is there
find_by_parts : {X : Type 0} (has : X → Bool) (xs ys zs : List X) → (((x : X) → In x xs → has x ≡ true) → ys ≡ zs) → find (λ x. not (has x)) (xs ++ ys) ≡ find (λ x. not (has x)) (xs ++ zs)
find_by_parts has [] ys zs h = ap (find (λ x. not (has x))) (h (λ x i. absurd i))
find_by_parts has (x ∷ xs) ys zs h =
    elim (cases_Bool (has x)) [
      | inl e ↦
          ap (λ b. cond (not b) (Some x) (find (λ x. not (has x)) (xs ++ ys))) e
          ∙ find_by_parts has xs ys zs (λ all. h (λ y i. elim i [ inl same ↦ ap has (sym same) ∙ e | inr j ↦ all y j ]))
          ∙ ap (λ b. cond (not b) (Some x) (find (λ x. not (has x)) (xs ++ zs))) (sym e)
      | inr e ↦
          ap (λ b. cond (not b) (Some x) (find (λ x. not (has x)) (xs ++ ys))) e
          ∙ ap (λ b. cond (not b) (Some x) (find (λ x. not (has x)) (xs ++ zs))) (sym e)
    ]

module _ (schema : Lists) (capacity : ℕ) (db : Database) (hands : Hands) (unit : Unit) (agrees : Agrees schema capacity db hands unit) where
  abbrev held : CellName → Bool
  held = holds hands.cells

  -- ONE RECORD THAT GOES

  pub unowned : (d : DbKey) (s : ℕ) → owns schema s d.rtype ≡ false → members_of db s (Rec d) ≡ []
  unowned d s h = ap (λ l. unwrap_or l []) (none_is (db.lists s (Rec d)) (agrees.legal.pairs s (Rec d) ∙ ap (λ b. b && is_live db d) h))

  -- nor has it one by the held cells
  pub unowned_in : (d : DbKey) (s : ℕ) → owns schema s d.rtype ≡ false → list_in hands d s ≡ []
  unowned_in d s h =
      elim (cases_Bool (holds hands.cells (Ring s (Some (d.rtype, d.number))))) [
        | inl there ↦ sym (members_are schema capacity db hands unit agrees s (Rec d) there) ∙ unowned d s h
        | inr free ↦ ap (λ (o : Option Cell). keys_in (occurrence_of (Rec d) o)) (none_is (cell_of (Ring s (Some (d.rtype, d.number))) hands.cells) (holds_there hands.cells (Ring s (Some (d.rtype, d.number))) ∙ free))
      ]

  owned_members : (d : DbKey) → members_of_all schema db d ≡ flat_map (λ s. members_of db s (Rec d)) (own_sets schema d)
  owned_members d = flat_filter (λ s. members_of db s (Rec d)) (λ s. owns schema s d.rtype) (set_numbers schema) (unowned d)

  owned_taken : (option : Erase) (d : DbKey) → taken_with schema capacity db option d ≡ flat_map (λ s. filter (takes schema capacity db option s (Rec d)) (members_of db s (Rec d))) (own_sets schema d)
  owned_taken option d =
      flat_filter (λ s. filter (takes schema capacity db option s (Rec d)) (members_of db s (Rec d))) (λ s. owns schema s d.rtype) (set_numbers schema)
      (λ s h. ap (filter (takes schema capacity db option s (Rec d))) (unowned d s h))

  module _ (d : DbKey) (rings : (c : CellName) → In c (own_rings schema d) → held c ≡ true) where
    pub list_is : (s : ℕ) → In s (own_sets schema d) → members_of db s (Rec d) ≡ list_in hands d s
    list_is s i = members_are schema capacity db hands unit agrees s (Rec d) (rings (Ring s (Some (d.rtype, d.number))) (in_map (λ s. Ring s (Some (d.rtype, d.number))) s (own_sets schema d) i))

    pub all_members_are : members_of_all schema db d ≡ members_in_hand schema hands d
    all_members_are = owned_members d ∙ flat_map_agrees (λ s. members_of db s (Rec d)) (list_in hands d) (own_sets schema d) list_is

    module _ (slots : (c : CellName) → In c (map slot_name (members_of_all schema db d)) → held c ≡ true) where
      -- whether a member is a member of another list
      elsewhere_is : (s : ℕ) (o : Owner) (m : DbKey) → held (slot_name m) ≡ true → is_elsewhere schema capacity db s o m ≡ elsewhere_in schema hands s o m
      elsewhere_is s o m slot = any_agrees _ _ (set_numbers schema) (λ s' i. other s' ∙ ap (some_and (λ p. not (s' == s && owner_eq p o))) (owner_in_hand schema capacity db hands unit agrees m slot s' i)) where
        other : (s' : ℕ) → list_any (λ p. not (s' == s && owner_eq p o) && is_member m (members_of db s' p)) (owners schema capacity db s') ≡ some_and (λ p. not (s' == s && owner_eq p o)) (owner_of schema capacity db s' m)
        other s' = by (owner_of schema capacity db s' m) refl where
          by : (q : Option Owner) → owner_of schema capacity db s' m ≡ q → list_any (λ p. not (s' == s && owner_eq p o) && is_member m (members_of db s' p)) (owners schema capacity db s') ≡ some_and (λ p. not (s' == s && owner_eq p o)) q
          by None e =
              false_from_ne_true _ (λ h.
              let p = any_element (λ p. not (s' == s && owner_eq p o) && is_member m (members_of db s' p)) (owners schema capacity db s') h in
              false≢true (sym (member_nowhere schema capacity db agrees.legal s' m e p.0) ∙ (and_parts _ _ p.2).1))
          by (Some q) e =
              let has = member_of_owner schema capacity db agrees.legal s' q m e in
              elim (cases_Bool (not (s' == s && owner_eq q o))) [
                | inl h ↦
                    any_in (λ p. not (s' == s && owner_eq p o) && is_member m (members_of db s' p)) q (owners schema capacity db s')
                    (among_owners schema capacity db agrees.legal s' q (listed_has_occurrence schema capacity db agrees.legal s' q m has)) (and_from _ _ h has) ∙ sym h
                | inr h ↦
                    false_from_ne_true _ (λ g.
                    let p = any_element (λ p. not (s' == s && owner_eq p o) && is_member m (members_of db s' p)) (owners schema capacity db s') g in
                    let ps = and_parts _ _ p.2 in
                    false≢true (sym h ∙ ap (λ (r : Owner). not (s' == s && owner_eq r o)) (agrees.legal.in_one s' q p.0 m has ps.1) ∙ ps.0)) ∙ sym h
              ]

      pub taken_is : (option : Erase) → taken_with schema capacity db option d ≡ taken_in schema hands option d
      taken_is option =
          owned_taken option d
          ∙ flat_map_agrees (λ s. filter (takes schema capacity db option s (Rec d)) (members_of db s (Rec d))) (taken_of_set schema hands option d) (own_sets schema d)
          (λ s i.
          filter_agrees_on_list (takes schema capacity db option s (Rec d)) (λ m. takes_member schema option s (elsewhere_in schema hands s (Rec d) m) m) (members_of db s (Rec d))
          (λ m j. ap (λ b. takes_member schema option s b m) (elsewhere_is s (Rec d) m
          (slots (slot_name m) (in_map slot_name m (members_of_all schema db d) (in_flat_map (λ s. members_of db s (Rec d)) s m (set_numbers schema) (of_filter (λ s. owns schema s d.rtype) s (set_numbers schema) i).0 j)))))
          ∙ ap (filter (λ m. takes_member schema option s (elsewhere_in schema hands s (Rec d) m) m)) (list_is s i))

  -- the first of its cells that is not held
  pub finds : (d : DbKey) → find (λ c. not (held c)) (cells_of_doomed schema db d) ≡ find (λ c. not (held c)) (cells_of_gone schema hands d)
  finds d =
      find_by_parts held (slot_name d ∷ own_rings schema d) (map slot_name (members_of_all schema db d)) (map slot_name (members_in_hand schema hands d))
      (λ all. ap (map slot_name) (all_members_are d (λ c i. all c (inr i))))

  -- where all are held, what it brings
  pub brings_doomed : (option : Erase) (d : DbKey) → find (λ c. not (held c)) (cells_of_doomed schema db d) ≡ None → taken_with schema capacity db option d ≡ taken_in schema hands option d
  brings_doomed option d none =
      let all = none_wanting held (cells_of_doomed schema db d) none in
      taken_is d (λ c i. all c (inr (in_left c (own_rings schema d) (map slot_name (members_of_all schema db d)) i)))
      (λ c i. all c (inr (in_right c (own_rings schema d) (map slot_name (members_of_all schema db d)) i))) option

  -- ALL THAT GO

  length_filter : {X : Type 0} (p : X → Bool) (xs : List X) → length (filter p xs) ≤ length xs
  length_filter p [] = omega arith
  length_filter p (x ∷ xs) =
      let rest = length_filter p xs in
      elim (p x) as (λ b. length (cond b (x ∷ filter p xs) (filter p xs)) ≤ length (x ∷ xs)) [ true ↦ omega arith | false ↦ omega arith ]

  length_flat : {X Y : Type 0} (f : X → List Y) (most : ℕ) (xs : List X) → ((x : X) → length (f x) ≤ most) → length (flat_map f xs) ≤ length xs * most
  length_flat f most [] h = omega arith
  length_flat f most (x ∷ xs) h =
      let first = h x in
      let rest = length_flat f most xs h in
      let whole : length (f x ++ flat_map f xs) ≡ length (f x) + length (flat_map f xs) = length-append (f x) (flat_map f xs) in
      let more : suc (length xs) * most ≡ length xs * most + most = suc-mul (length xs) most in
      let goal : length (f x ++ flat_map f xs) ≤ suc (length xs) * most = omega arith in
      goal

  few_keys : length (all_keys schema capacity db) ≤ most_gone schema capacity
  few_keys =
      let each : (t : ℕ) → length (live_keys capacity db t) ≤ capacity = λ t.
      let kept = length_filter (is_live db) (map (key_at db t) (range_with_len 1 capacity)) in
      let all = length-map-range_with_len (key_at db t) 1 capacity in
      omega arith in
      subst (λ n. length (all_keys schema capacity db) ≤ n * capacity) (length-range_with_len 0 (length schema.types)) (length_flat (live_keys capacity db) capacity (range_with_len 0 (length schema.types)) each)

  -- the work list over the held cells is the database's, as far as the held cells go
  pub gone_agrees : (option : Erase) (k : DbKey) → is_live db k ≡ true
      → Agree (taken_with schema capacity db option) (taken_in schema hands option) (cells_of_doomed schema db) (cells_of_gone schema hands) (λ c. not (held c)) finds (brings_doomed option)
      0 (doomed_in_turn schema capacity db option k) (gone_in schema capacity hands option k)
  gone_agrees option k live =
      let few = met_few schema capacity db agrees.legal option k live in
      let most = few_keys in
      agree (taken_with schema capacity db option) (taken_in schema hands option) (cells_of_doomed schema db) (cells_of_gone schema hands) (λ c. not (held c)) finds (brings_doomed option)
      (length (all_keys schema capacity db)) (most_gone schema capacity) 0 (k ∷ []) (omega arith) (omega arith)
