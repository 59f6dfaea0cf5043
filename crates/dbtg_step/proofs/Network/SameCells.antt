-- What is alike in two legal databases that have a cell alike.
use Rattle.std.proofs.Common.{◌≡◌, refl, sym, ◌∙◌, ap, ℕ, ◌+◌, Bool, true, not, eqb, ◌&&◌, List, [], ◌∷◌, ◌++◌, map, Option, Some, None, inl, inr}
use Rattle.std.specs.Prelude.{filter, is_some, nat_lt, option_map, unwrap_or, if◌then◌else◌}
use Rattle.std.specs.List.{list_any, range_with_len, flat_map}
use Rattle.std.proofs.lemmas.Bool.{cases_Bool, false≢true, eqb-true}
use Rattle.std.proofs.lemmas.Option.{none-some, same_Some}
use Rattle.std.proofs.lemmas.List.Elements.{filter-append}
use Rattle.dbtg_schema.specs.Lists.{Lists}
use Rattle.dbtg_schema.specs.Lookups.{first, some_and}
use Rattle.dbtg_schema.specs.Structure.{calc_of}
use Rattle.dbtg_cells.specs.declared.key.DbKey.{DbKey}
use Rattle.dbtg_cells.specs.declared.key.Owner.{Owner}
use Rattle.dbtg_cells.specs.declared.key.Value.{Value}
use Rattle.dbtg_cells.specs.declared.name.CellName.TheVariants.{Extent, Ring}
use Rattle.dbtg_cells.specs.declared.extent.Number.{Number}
use Rattle.dbtg_cells.specs.declared.ring.Occurrence.{Occurrence}
use Rattle.dbtg_cells.specs.Keys.{owner_eq, values_eq}
use Rattle.dbtg_cells.specs.Shown.{ExtentValue, RingValue}
use Rattle.dbtg_unit.specs.Database.State.Base.{Database, Record, is_live, items_of, key_at, live_keys, members_of, calc_items, sort_key}
use Rattle.dbtg_unit.specs.Database.State.CellNames.{place_of}
use Rattle.dbtg_unit.specs.Database.State.Cells.{cell}
use Rattle.dbtg_cells.specs.Members.{is_left_out}
use Rattle.dbtg_unit.specs.Database.Statements.Effect.{free_number, new_key, calc_taken}
use Rattle.dbtg_unit.specs.Database.Statements.StoredFacts.{whole}
use Rattle.dbtg_unit.specs.Database.Statements.Found.{has_type, with_calc}
use Rattle.dbtg_unit.specs.Database.State.Legal.{Legal}
use Rattle.dbtg_unit.proofs.Public.{In, calc_reads, extent_in, filter_agrees_on_list, last_reads, list_in, live_reads, map_same, none_pass, of_live_keys, of_map}
use Rattle.dbtg_unit.proofs.Public.{ring_in, ring_keys_read, ring_reads}

-- a member with its sort key
abbrev pub with_key : Lists → Database → ℕ → DbKey → DbKey × Option Value
with_key schema db s k = (k, sort_key schema db s k)

module _ (schema : Lists) (capacity : ℕ) (db eb : Database) (ldb : Legal schema capacity db) (leb : Legal schema capacity eb) where
  -- THE EXTENT OF A TYPE

  module _ (t : ℕ) (same : cell schema capacity db (Extent t) ≡ cell schema capacity eb (Extent t)) where
    numbers : List Number
    numbers = extent_in (cell schema capacity db (Extent t))

    of_db : ExtentValue numbers ≡ cell schema capacity db (Extent t)
    unfolding numbers cell
    of_db = refl

    of_eb : ExtentValue numbers ≡ cell schema capacity eb (Extent t)
    of_eb = of_db ∙ same

    last_same : (n : ℕ) → db.last t n ≡ eb.last t n
    last_same n = last_reads schema capacity db ldb t numbers of_db n ∙ sym (last_reads schema capacity eb leb t numbers of_eb n)

    key_same : (n : ℕ) → key_at db t n ≡ key_at eb t n
    key_same n = λ i. record { rtype = t; number = n; generation = last_same n i }

    pub live_same : (k : DbKey) → k.rtype ≡ t → is_live db k ≡ is_live eb k
    live_same k e = live_reads schema capacity db ldb t numbers of_db k e ∙ sym (live_reads schema capacity eb leb t numbers of_eb k e)

    calc_same : (k : DbKey) → k.rtype ≡ t → option_map (λ (r : Record). calc_items schema t r.items) (db.records k) ≡ option_map (λ (r : Record). calc_items schema t r.items) (eb.records k)
    calc_same k e = calc_reads schema capacity db ldb t numbers of_db k e ∙ sym (calc_reads schema capacity eb leb t numbers of_eb k e)

    pub items_same : (k : DbKey) → k.rtype ≡ t → is_live db k ≡ true → calc_items schema t (items_of db k) ≡ calc_items schema t (items_of eb k)
    items_same k e live = go (db.records k) (eb.records k) (calc_same k e) live
      where
        go : (a b : Option Record) → option_map (λ (r : Record). calc_items schema t r.items) a ≡ option_map (λ (r : Record). calc_items schema t r.items) b → is_some a ≡ true →
            calc_items schema t (unwrap_or (option_map (λ (r : Record). r.items) a) []) ≡ calc_items schema t (unwrap_or (option_map (λ (r : Record). r.items) b) [])
        go None b h l = absurd (false≢true l)
        go (Some r) None h l = absurd (none-some _ (sym h))
        go (Some r) (Some q) h l = same_Some _ _ h

    pub keys_same : live_keys capacity db t ≡ live_keys capacity eb t
    keys_same =
        filter_agrees_on_list (is_live db) (is_live eb) (map (key_at db t) (range_with_len 1 capacity)) (λ k i. let m = of_map (key_at db t) k _ i in live_same k (ap (λ (x : DbKey). x.rtype) (sym m.2)))
        ∙ ap (filter (is_live eb)) (map_same (key_at db t) (key_at eb t) (range_with_len 1 capacity) key_same)

    pub with_calc_same : (values : List Value) → with_calc schema capacity db t values ≡ with_calc schema capacity eb t values
    with_calc_same values =
        filter_agrees_on_list (λ k. values_eq (calc_items schema t (items_of db k)) values) (λ k. values_eq (calc_items schema t (items_of eb k)) values) (live_keys capacity db t)
        (λ k i. let m = of_live_keys schema capacity db ldb k t i in ap (λ v. values_eq v values) (items_same k m.1 m.0))
        ∙ ap (filter (λ k. values_eq (calc_items schema t (items_of eb k)) values)) keys_same

    pub free_same : free_number capacity db t ≡ free_number capacity eb t
    free_same = ap first (filter_agrees_on_list _ _ (range_with_len 1 capacity) (λ n i. λ j. not (used n j) && nat_lt (last_same n j) 255))
      where
        used : (n : ℕ) → is_live db (key_at db t n) ≡ is_live eb (key_at eb t n)
        used n = live_same (key_at db t n) refl ∙ ap (is_live eb) (key_same n)

    pub new_same : (n : ℕ) → new_key db t n ≡ new_key eb t n
    new_same n = λ i. record { rtype = t; number = n; generation = last_same n i + 1 }

    pub taken_same : (items : List Value) (left : Option DbKey) → calc_taken schema (whole schema capacity db) t items left ≡ calc_taken schema (whole schema capacity eb) t items left
    taken_same items left = ap (λ ks. some_and (λ calc. not calc.duplicates_allowed && list_any (λ k. not (is_left_out left k)) ks) (calc_of schema t)) (with_calc_same (calc_items schema t items))

  -- keys of another type pass no test of this one
  typed_same : (r t : ℕ) → (t ≡ r → live_keys capacity db t ≡ live_keys capacity eb t) → filter (has_type (Some r)) (live_keys capacity db t) ≡ filter (has_type (Some r)) (live_keys capacity eb t)
  typed_same r t h = elim (cases_Bool (eqb t r)) [
    | inl e ↦ ap (filter (has_type (Some r))) (h (eqb-true t r e))
    | inr n ↦
        none_pass (has_type (Some r)) (live_keys capacity db t) (λ k i. ap (λ u. eqb u r) (of_live_keys schema capacity db ldb k t i).1 ∙ n)
        ∙ sym (none_pass (has_type (Some r)) (live_keys capacity eb t) (λ k i. ap (λ u. eqb u r) (of_live_keys schema capacity eb leb k t i).1 ∙ n))
  ]

  flat_same : (test : DbKey → Bool) (ts : List ℕ) → ((t : ℕ) → In t ts → filter test (live_keys capacity db t) ≡ filter test (live_keys capacity eb t)) → filter test (flat_map (live_keys capacity db) ts) ≡ filter test (flat_map (live_keys capacity eb) ts)
  flat_same test [] h = refl
  flat_same test (t ∷ ts) h =
      let here = h t (inl refl) in
      let rest = flat_same test ts (λ u i. h u (inr i)) in
      filter-append test (live_keys capacity db t) (flat_map (live_keys capacity db) ts)
      ∙ ((λ i. here i ++ rest i) ∙ sym (filter-append test (live_keys capacity eb t) (flat_map (live_keys capacity eb) ts)))

  -- the keys of some types, where the extents of those that count are alike
  pub area_keys_same : (r : Option ℕ) (ts : List ℕ) → ((t : ℕ) → In t (unwrap_or (option_map (λ u. u ∷ []) r) ts) → cell schema capacity db (Extent t) ≡ cell schema capacity eb (Extent t)) →
      filter (has_type r) (flat_map (live_keys capacity db) ts) ≡ filter (has_type r) (flat_map (live_keys capacity eb) ts)
  area_keys_same None ts h = flat_same (has_type None) ts (λ t i. ap (filter (has_type None)) (keys_same t (h t i)))
  area_keys_same (Some r) ts h = flat_same (has_type (Some r)) ts (λ t i. typed_same r t (λ e. keys_same t (h t (inl (sym e)))))

  -- A RING

  module _ (s : ℕ) (o : Owner) (same : cell schema capacity db (Ring s (place_of o)) ≡ cell schema capacity eb (Ring s (place_of o))) where
    occurrence : Option Occurrence
    occurrence = ring_in (cell schema capacity db (Ring s (place_of o)))

    ring_db : RingValue occurrence ≡ cell schema capacity db (Ring s (place_of o))
    unfolding occurrence cell
    ring_db = refl

    ring_eb : RingValue occurrence ≡ cell schema capacity eb (Ring s (place_of o))
    ring_eb = ring_db ∙ same

    pub lists_same : db.lists s o ≡ eb.lists s o
    lists_same = ring_reads schema capacity db ldb s o occurrence ring_db ∙ sym (ring_reads schema capacity eb leb s o occurrence ring_eb)

    -- the members with their sort keys
    pub keyed_same : map (with_key schema db s) (members_of db s o) ≡ map (with_key schema eb s) (members_of eb s o)
    keyed_same = go occurrence ring_db ring_eb (ring_reads schema capacity db ldb s o occurrence ring_db) (ring_reads schema capacity eb leb s o occurrence ring_eb)
      where
        none : db.lists s o ≡ None → eb.lists s o ≡ None → map (with_key schema db s) (members_of db s o) ≡ map (with_key schema eb s) (members_of eb s o)
        none a b = ap (λ l. map (with_key schema db s) (unwrap_or l [])) a ∙ sym (ap (λ l. map (with_key schema eb s) (unwrap_or l [])) b)

        go : (c : Option Occurrence) → RingValue c ≡ cell schema capacity db (Ring s (place_of o)) → RingValue c ≡ cell schema capacity eb (Ring s (place_of o)) → db.lists s o ≡ list_in c o → eb.lists s o ≡ list_in c o →
            map (with_key schema db s) (members_of db s o) ≡ map (with_key schema eb s) (members_of eb s o)
        go None h g a b = none a b
        go (Some c) h g a b = elim (cases_Bool (owner_eq c.owner o)) [
          | inl e ↦ sym (ring_keys_read schema capacity db ldb s o c h e) ∙ ring_keys_read schema capacity eb leb s o c g e
          | inr n ↦ none (a ∙ ap (λ b. if b then Some (map (λ (m : DbKey × Option Value). m.0) c.members) else None) n) (b ∙ ap (λ b. if b then Some (map (λ (m : DbKey × Option Value). m.0) c.members) else None) n)
        ]
