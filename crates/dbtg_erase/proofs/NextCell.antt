-- The next cell that is read from the held cells is that of each database that agrees with them.
use Rattle.std.proofs.Common.{◌≡◌, refl, sym, ◌∙◌, ap, ℕ, ◌&&◌, ◌||◌, Bool, true, false, cond, not, List, [], ◌∷◌, ◌++◌, length, Option, Some, None, inl, inr, map}
use Rattle.std.specs.Prelude.{filter, is_some, nat_lt}
use Rattle.std.specs.List.{find, flat_map, list_any}
use Rattle.std.specs.Option.{option_or}
use Rattle.std.proofs.lemmas.Bool.{cases_Bool, cond-false, cond-true, false≢true, not-false, or_left, or_parts, or_right}
use Rattle.std.proofs.lemmas.Option.{none-some}
use Rattle.dbtg_schema.specs.Lists.{Lists}
use Rattle.dbtg_schema.specs.Lookups.{first_cause}
use Rattle.dbtg_schema.specs.Structure.{owns, set_numbers}
use Rattle.dbtg_cells.specs.declared.key.DbKey.{DbKey}
use Rattle.dbtg_cells.specs.declared.key.Owner.TheVariants.{Rec}
use Rattle.dbtg_cells.specs.declared.name.CellName.{CellName}
use Rattle.dbtg_cells.specs.Names.{name_eq}
use Rattle.dbtg_cells.proofs.Public.{same_name}
use Rattle.dbtg_unit.proofs.Public.{In, all_at, in_flat_map, in_map, members_in_hand as members_are, met_are_live, own_checks_agree, owner_in_hand, passes_check, same_record}
use Rattle.dbtg_unit.specs.Database.Statements.StoredFacts.{whole}
use Rattle.dbtg_unit.specs.declared.statement.Erase.{Erase}
use Rattle.dbtg_unit.specs.declared.unit.Cause.{Cause}
use Rattle.dbtg_unit.specs.declared.unit.Cause.TheVariants.{Deleted}
use Rattle.dbtg_unit.specs.declared.unit.Unit.{Unit}
use Rattle.dbtg_unit.specs.Database.State.Base.{Database, is_live, members_of, owner_of}
use Rattle.dbtg_unit.specs.Database.State.CellNames.{slot_name}
use Rattle.dbtg_unit.specs.Database.Statements.Doomed.{all_keys}
use Rattle.dbtg_unit.specs.Database.Statements.Checks.{own_checks}
use Rattle.dbtg_unit.specs.Database.Statements.Conditions.{has_members, is_plain}
use Rattle.dbtg_unit.specs.Hands.Erasing.{cells_of_doomed, delete_cells, doomed_in_turn, members_of_all, names_once, outer_cells, own_rings, rings_to_member, taken_with}
use Rattle.dbtg_unit.specs.Hands.Hands.{Hands}
use Rattle.dbtg_unit.specs.Hands.InHand.{owner_in, in_hand}
use Rattle.dbtg_unit.specs.Hands.Local.{Agrees, holds}
use Rattle.dbtg_erase.specs.NextCell.{first_missing, is_missing, least_name, outer_names}
use Rattle.dbtg_erase.specs.Inside.NextCell.{next_cell_in, next_of_gone, next_of_passed, ring_of, stops_at, unless_stopped}
use Rattle.dbtg_erase.specs.WorkList.{cells_of_gone, gone_in, list_in, own_sets}
use Rattle.dbtg_erase.proofs.Bringing.{prefix}
use Rattle.dbtg_erase.proofs.ErasePlan.{any_filter, any_same}
use Rattle.dbtg_erase.proofs.FirstNames.{find_or}
use Rattle.dbtg_erase.proofs.LeastName.{ascends_of, first_is_least}
use Rattle.dbtg_erase.proofs.OuterCells.{named_outer, outer_ascend, outer_named}
use Rattle.dbtg_erase.proofs.Reading.{gone_agrees, none_wanting, unowned, unowned_in}

-- where each name stands once, the first that passes is the same
find_once : (p : CellName → Bool) (met names : List CellName) → ((c : CellName) → list_any (name_eq c) met ≡ true → p c ≡ false) → find p (names_once met names) ≡ find p names
find_once p met [] h = refl
find_once p met (c ∷ cs) h =
    elim (cases_Bool (list_any (name_eq c) met)) [
      | inl e ↦
          ap (λ b. find p (cond b (names_once met cs) (c ∷ names_once (c ∷ met) cs))) e
          ∙ find_once p met cs h
          ∙ ap (λ b. cond b (Some c) (find p cs)) (sym (h c e))
      | inr e ↦
          ap (λ b. find p (cond b (names_once met cs) (c ∷ names_once (c ∷ met) cs))) e
          ∙ elim (cases_Bool (p c)) [
            | inl passes ↦ ap (λ b. cond b (Some c) (find p (names_once (c ∷ met) cs))) passes ∙ ap (λ b. cond b (Some c) (find p cs)) (sym passes)
            | inr fails ↦
                ap (λ b. cond b (Some c) (find p (names_once (c ∷ met) cs))) fails
                ∙ find_once p (c ∷ met) cs (λ d m. now d fails m)
                ∙ ap (λ b. cond b (Some c) (find p cs)) (sym fails)
          ]
    ] where
      now : (d : CellName) → p c ≡ false → (name_eq d c || list_any (name_eq d) met) ≡ true → p d ≡ false
      now d fails m =
          elim (cases_Bool (name_eq d c)) [
            | inl same ↦ ap p (same_name d c same) ∙ fails
            | inr other ↦ h d (sym (ap (λ b. b || list_any (name_eq d) met) other) ∙ m)
          ]

-- k's own rings up to the first that has a member, by the held cells
abbrev rings_to_member_in : Hands → DbKey → List ℕ → List CellName
rings_to_member_in hands k [] = []
rings_to_member_in hands k (s ∷ sets) = ring_of k s ∷ cond (nat_lt 0 (length (list_in hands k s))) [] (rings_to_member_in hands k sets)

-- where the plain form stops
stopped : (schema : Lists) (hands : Hands) (k : DbKey) (next : Option CellName) (sets : List ℕ)
    → option_or (first_missing hands (rings_to_member_in hands k (filter (λ s. owns schema s k.rtype) sets))) (cond (list_any (λ s. nat_lt 0 (length (list_in hands k s))) (filter (λ s. owns schema s k.rtype) sets)) None next)
    ≡ unless_stopped hands k (find (stops_at schema hands k) sets) next
stopped schema hands k next [] = refl
stopped schema hands k next (s ∷ sets) =
    elim (cases_Bool (owns schema s k.rtype)) [
      | inr e ↦
          ap (λ b. option_or (first_missing hands (rings_to_member_in hands k (cond b (s ∷ filter (λ s. owns schema s k.rtype) sets) (filter (λ s. owns schema s k.rtype) sets)))) (cond (list_any (λ s. nat_lt 0 (length (list_in hands k s))) (cond b (s ∷ filter (λ s. owns schema s k.rtype) sets) (filter (λ s. owns schema s k.rtype) sets))) None next)) e
          ∙ stopped schema hands k next sets
          ∙ ap (λ b. unless_stopped hands k (cond (b && (is_missing hands (ring_of k s) || nat_lt 0 (length (list_in hands k s)))) (Some s) (find (stops_at schema hands k) sets)) next) (sym e)
      | inl e ↦
          ap (λ b. option_or (first_missing hands (rings_to_member_in hands k (cond b (s ∷ filter (λ s. owns schema s k.rtype) sets) (filter (λ s. owns schema s k.rtype) sets)))) (cond (list_any (λ s. nat_lt 0 (length (list_in hands k s))) (cond b (s ∷ filter (λ s. owns schema s k.rtype) sets) (filter (λ s. owns schema s k.rtype) sets))) None next)) e
          ∙ at_ring (nat_lt 0 (length (list_in hands k s))) (rings_to_member_in hands k (filter (λ s. owns schema s k.rtype) sets)) (list_any (λ s. nat_lt 0 (length (list_in hands k s))) (filter (λ s. owns schema s k.rtype) sets)) (find (stops_at schema hands k) sets) (stopped schema hands k next sets)
          ∙ ap (λ b. unless_stopped hands k (cond (b && (is_missing hands (ring_of k s) || nat_lt 0 (length (list_in hands k s)))) (Some s) (find (stops_at schema hands k) sets)) next) (sym e)
    ] where
      at_ring : (m : Bool) (rings : List CellName) (any : Bool) (stop : Option ℕ) → option_or (first_missing hands rings) (cond any None next) ≡ unless_stopped hands k stop next
          → option_or (first_missing hands (ring_of k s ∷ cond m [] rings)) (cond (m || any) None next) ≡ unless_stopped hands k (cond (is_missing hands (ring_of k s) || m) (Some s) stop) next
      at_ring m rings any stop rest =
          elim (cases_Bool (holds hands.cells (ring_of k s))) [
            | inr h ↦
                ap (λ t. option_or (cond (not t) (Some (ring_of k s)) (first_missing hands (cond m [] rings))) (cond (m || any) None next)) h
                ∙ sym (ap (λ t. unless_stopped hands k (cond (not t || m) (Some s) stop) next) h ∙ ap (λ t. cond (not t) (Some (ring_of k s)) None) h)
            | inl h ↦
                ap (λ t. option_or (cond (not t) (Some (ring_of k s)) (first_missing hands (cond m [] rings))) (cond (m || any) None next)) h
                ∙ held m h
                ∙ sym (ap (λ t. unless_stopped hands k (cond (not t || m) (Some s) stop) next) h)
          ] where
            held : (m : Bool) → holds hands.cells (ring_of k s) ≡ true → option_or (first_missing hands (cond m [] rings)) (cond (m || any) None next) ≡ unless_stopped hands k (cond m (Some s) stop) next
            held true h = sym (ap (λ t. cond (not t) (Some (ring_of k s)) None) h)
            held false h = rest

module _ (schema : Lists) (capacity : ℕ) (db : Database) (hands : Hands) (unit : Unit) (agrees : Agrees schema capacity db hands unit) (option : Erase) (k : DbKey) where
  abbrev wanting : CellName → Bool
  wanting = is_missing hands

  abbrev owned : List ℕ
  owned = own_sets schema k

  abbrev turn : List DbKey
  turn = doomed_in_turn schema capacity db option k

  abbrev named : List CellName
  named = own_rings schema k ++ flat_map (cells_of_doomed schema db) turn ++ outer_cells schema capacity db turn

  abbrev ring : ℕ → CellName
  ring = ring_of k

  -- THE OWN RINGS

  list_is : (s : ℕ) → holds hands.cells (ring s) ≡ true → members_of db s (Rec k) ≡ list_in hands k s
  list_is s h = members_are schema capacity db hands unit agrees s (Rec k) h

  abbrev some_in : ℕ → Bool
  some_in s = nat_lt 0 (length (list_in hands k s))

  abbrev some_of : ℕ → Bool
  some_of s = nat_lt 0 (length (members_of db s (Rec k)))

  some_is : (s : ℕ) → holds hands.cells (ring s) ≡ true → some_of s ≡ some_in s
  some_is s h = ap (λ xs. nat_lt 0 (length xs)) (list_is s h)

  as_far : (sets : List ℕ) → find wanting (rings_to_member schema db k sets) ≡ find wanting (rings_to_member_in hands k sets)
  as_far [] = refl
  as_far (s ∷ sets) =
      elim (cases_Bool (holds hands.cells (ring s))) [
        | inl h ↦
            ap (λ b. cond (not b) (Some (ring s)) (find wanting (cond (some_of s) [] (rings_to_member schema db k sets)))) h
            ∙ ap (λ b. find wanting (cond b [] (rings_to_member schema db k sets))) (some_is s h)
            ∙ elim (some_in s) as (λ b. find wanting (cond b [] (rings_to_member schema db k sets)) ≡ find wanting (cond b [] (rings_to_member_in hands k sets))) [ true ↦ refl | false ↦ as_far sets ]
            ∙ ap (λ b. cond (not b) (Some (ring s)) (find wanting (cond (some_in s) [] (rings_to_member_in hands k sets)))) (sym h)
        | inr h ↦
            ap (λ b. cond (not b) (Some (ring s)) (find wanting (cond (some_of s) [] (rings_to_member schema db k sets)))) h
            ∙ ap (λ b. cond (not b) (Some (ring s)) (find wanting (cond (some_in s) [] (rings_to_member_in hands k sets)))) (sym h)
      ]

  -- a member is found in the held cells if the rings as far as the first are held
  found_in : (sets : List ℕ) → find wanting (rings_to_member_in hands k sets) ≡ None → list_any some_of sets ≡ true → list_any some_in sets ≡ true
  found_in [] h e = e
  found_in (s ∷ sets) h e =
      let here : holds hands.cells (ring s) ≡ true = not-false _ (missing_none _ _ _ h).0 in
      let rest = (missing_none _ _ _ h).1 in
      elim (cases_Bool (some_in s)) [
        | inl some ↦ or_left _ _ some
        | inr none ↦
            or_right _ _ (found_in sets (sym (ap (λ b. find wanting (cond b [] (rings_to_member_in hands k sets))) none) ∙ rest)
            (sym (ap (λ b. b || list_any some_of sets) (some_is s here ∙ none)) ∙ e))
      ] where
        missing_none : (b : Bool) (c : CellName) (o : Option CellName) → cond b (Some c) o ≡ None → (b ≡ false) × (o ≡ None)
        missing_none true c o h = absurd (none-some c (sym h))
        missing_none false c o h = (refl, h)

  -- where there is no member all own rings are looked at
  all_rings : (sets : List ℕ) → list_any some_of sets ≡ false → rings_to_member schema db k sets ≡ map ring sets
  all_rings [] h = refl
  all_rings (s ∷ sets) h = let hs = or_parts _ _ h in ap (λ b. ring s ∷ cond b [] (rings_to_member schema db k sets)) hs.0 ∙ ap (λ cs. ring s ∷ cs) (all_rings sets hs.1)

  members_owned : has_members schema (whole schema capacity db) k ≡ list_any some_of owned
  members_owned =
      sym (any_filter some_of (λ s. owns schema s k.rtype) (set_numbers schema) (λ s e. ap (λ xs. nat_lt 0 (length xs)) (unowned schema capacity db hands unit agrees k s e)))

  found_owned : has_members schema (in_hand hands) k ≡ list_any some_in owned
  found_owned =
      sym (any_filter some_in (λ s. owns schema s k.rtype) (set_numbers schema) (λ s e. ap (λ xs. nat_lt 0 (length xs)) (unowned_in schema capacity db hands unit agrees k s e)))

  -- WHAT GOES

  module _ (slot : holds hands.cells (slot_name k) ≡ true) (live : is_live db k ≡ true) where
    skip_slot : (cs : List CellName) → find wanting (slot_name k ∷ cs) ≡ find wanting cs
    skip_slot cs = ap (λ b. cond (not b) (Some (slot_name k)) (find wanting cs)) slot

    -- k itself goes first
    first_gone : (ys : List DbKey) × (turn ≡ k ∷ ys)
    first_gone = prefix (taken_with schema capacity db option) (length (all_keys schema capacity db)) 0 (k ∷ [])

    abbrev found_rings : Option CellName
    found_rings = find wanting (own_rings schema k)

    abbrev members : List CellName
    members = map slot_name (members_of_all schema db k)

    rings_within : (x : CellName) → found_rings ≡ Some x → find wanting (flat_map (cells_of_doomed schema db) turn) ≡ Some x
    rings_within x e =
        let others = flat_map (cells_of_doomed schema db) first_gone.0 in
        ap (λ ds. find wanting (flat_map (cells_of_doomed schema db) ds)) first_gone.1
        ∙ skip_slot ((own_rings schema k ++ members) ++ others)
        ∙ find_or wanting (own_rings schema k ++ members) others
        ∙ ap (λ o. option_or o (find wanting others)) (find_or wanting (own_rings schema k) members ∙ ap (λ o. option_or o (find wanting members)) e)

    rings_among : option_or found_rings (find wanting (flat_map (cells_of_doomed schema db) turn)) ≡ find wanting (flat_map (cells_of_doomed schema db) turn)
    rings_among = by found_rings (find wanting (flat_map (cells_of_doomed schema db) turn)) rings_within where
      by : (a b : Option CellName) → ((x : CellName) → a ≡ Some x → b ≡ Some x) → option_or a b ≡ b
      by None b h = refl
      by (Some x) b h = sym (h x refl)

    abbrev general : Option CellName
    general = next_of_gone schema hands (gone_in schema capacity hands option k)

    goes_live : (d : DbKey) → In d turn → is_live db d ≡ true
    goes_live d i = all_at (is_live db) d turn (met_are_live schema capacity db agrees.legal option k live) i

    -- where all cells of what goes are held, so are its owners
    owners_are : find wanting (flat_map (cells_of_doomed schema db) turn) ≡ None → (d : DbKey) → In d turn → (s : ℕ) → In s (set_numbers schema) → owner_of schema capacity db s d ≡ owner_in hands s d
    owners_are e d i s j =
        owner_in_hand schema capacity db hands unit agrees d
        (none_wanting (holds hands.cells) (flat_map (cells_of_doomed schema db) turn) e (slot_name d) (in_flat_map (cells_of_doomed schema db) d (slot_name d) turn i (inl refl))) s j

    outer_is : find wanting (flat_map (cells_of_doomed schema db) turn) ≡ None
        → find wanting (outer_cells schema capacity db turn) ≡ least_name None (filter wanting (flat_map (outer_names schema hands) (gone_in schema capacity hands option k)))
    outer_is e =
        first_is_least wanting (outer_cells schema capacity db turn) (flat_map (outer_names schema hands) turn) (ascends_of (outer_cells schema capacity db turn) (outer_ascend schema capacity db turn))
        (outer_named schema capacity db turn agrees.legal hands goes_live (owners_are e)) (named_outer schema capacity db turn agrees.legal hands goes_live (owners_are e))
        ∙ ap (λ ds. least_name None (filter wanting (flat_map (outer_names schema hands) ds))) ((gone_agrees schema capacity db hands unit agrees option k live).1 e)

    general_is : find wanting named ≡ general
    general_is =
        find_or wanting (own_rings schema k ++ flat_map (cells_of_doomed schema db) turn) (outer_cells schema capacity db turn)
        ∙ ap (λ o. option_or o (find wanting (outer_cells schema capacity db turn))) (find_or wanting (own_rings schema k) (flat_map (cells_of_doomed schema db) turn) ∙ rings_among)
        ∙ by (find wanting (flat_map (cells_of_doomed schema db) turn)) (find wanting (flat_map (cells_of_gone schema hands) (gone_in schema capacity hands option k))) (gone_agrees schema capacity db hands unit agrees option k live).0 outer_is where
          by : (a b : Option CellName) → a ≡ b
              → (a ≡ None → find wanting (outer_cells schema capacity db turn) ≡ least_name None (filter wanting (flat_map (outer_names schema hands) (gone_in schema capacity hands option k))))
              → option_or a (find wanting (outer_cells schema capacity db turn)) ≡ option_or b (least_name None (filter wanting (flat_map (outer_names schema hands) (gone_in schema capacity hands option k))))
          by None b e h = h refl ∙ ap (λ o. option_or o (least_name None (filter wanting (flat_map (outer_names schema hands) (gone_in schema capacity hands option k))))) e
          by (Some c) b e h = ap (λ o. option_or o (least_name None (filter wanting (flat_map (outer_names schema hands) (gone_in schema capacity hands option k))))) e

    abbrev has_any : Bool
    has_any = is_plain option && has_members schema (whole schema capacity db) k

    -- the cells of one that is not refused for itself
    abbrev cells_passed : Bool → List CellName
    cells_passed b = cond b (slot_name k ∷ rings_to_member schema db k owned) (names_once [] (slot_name k ∷ named))

    all_named : find wanting (names_once [] (slot_name k ∷ named)) ≡ general
    all_named = find_once wanting [] (slot_name k ∷ named) (λ c h. absurd (false≢true h)) ∙ skip_slot named ∙ general_is

    -- the plain form
    plain_is : (b : Bool) → has_members schema (whole schema capacity db) k ≡ b
        → find wanting (cells_passed b) ≡ option_or (first_missing hands (rings_to_member_in hands k owned)) (cond (has_members schema (in_hand hands) k) None general)
    plain_is true e = skip_slot (rings_to_member schema db k owned) ∙ as_far owned ∙ by (find wanting (rings_to_member_in hands k owned)) refl where
      by : (o : Option CellName) → find wanting (rings_to_member_in hands k owned) ≡ o → find wanting (rings_to_member_in hands k owned) ≡ option_or (find wanting (rings_to_member_in hands k owned)) (cond (has_members schema (in_hand hands) k) None general)
      by (Some c) h = h ∙ sym (ap (λ o. option_or o (cond (has_members schema (in_hand hands) k) None general)) h)
      by None h =
          h ∙ sym (ap (λ o. option_or o (cond (has_members schema (in_hand hands) k) None general)) h ∙ cond-true (has_members schema (in_hand hands) k) None general (found_owned ∙ found_in owned h (sym members_owned ∙ e)))
    plain_is false e = all_named ∙ by found_rings refl where
      none : list_any some_of owned ≡ false
      none = sym members_owned ∙ e

      rings_are : find wanting (rings_to_member_in hands k owned) ≡ found_rings
      rings_are = sym (as_far owned) ∙ ap (find wanting) (all_rings owned none)

      by : (o : Option CellName) → found_rings ≡ o → general ≡ option_or (find wanting (rings_to_member_in hands k owned)) (cond (has_members schema (in_hand hands) k) None general)
      by (Some c) h =
          sym general_is
          ∙ find_or wanting (own_rings schema k ++ flat_map (cells_of_doomed schema db) turn) (outer_cells schema capacity db turn)
          ∙ ap (λ o. option_or o (find wanting (outer_cells schema capacity db turn))) (find_or wanting (own_rings schema k) (flat_map (cells_of_doomed schema db) turn) ∙ ap (λ o. option_or o (find wanting (flat_map (cells_of_doomed schema db) turn))) h)
          ∙ sym (ap (λ o. option_or o (cond (has_members schema (in_hand hands) k) None general)) (rings_are ∙ h))
      by None h =
          sym (ap (λ o. option_or o (cond (has_members schema (in_hand hands) k) None general)) (rings_are ∙ h)
          ∙ cond-false (has_members schema (in_hand hands) k) None general
          (found_owned ∙ any_same some_in some_of owned (λ s i. sym (some_is s (none_wanting (holds hands.cells) (own_rings schema k) h (ring s) (in_map ring s owned i)))) ∙ none))

    passed_is : find wanting (cells_passed has_any) ≡ next_of_passed schema capacity hands option k
    passed_is = by (is_plain option) where
      by : (b : Bool) → find wanting (cells_passed (b && has_members schema (whole schema capacity db) k)) ≡ unless_stopped hands k (cond b (find (stops_at schema hands k) (set_numbers schema)) None) general
      by true =
          plain_is (has_members schema (whole schema capacity db) k) refl
          ∙ ap (λ b. option_or (first_missing hands (rings_to_member_in hands k owned)) (cond b None general)) found_owned
          ∙ stopped schema hands k general (set_numbers schema)
      by false = all_named

  -- THE WHOLE

  first_named : (a b : Bool) (rs cs : List CellName) → holds hands.cells (slot_name k) ≡ false → find wanting (cond a (slot_name k ∷ []) (cond b (slot_name k ∷ rs) (names_once [] (slot_name k ∷ cs)))) ≡ Some (slot_name k)
  first_named true b rs cs h = ap (λ t. cond (not t) (Some (slot_name k)) None) h
  first_named false true rs cs h = ap (λ t. cond (not t) (Some (slot_name k)) (find wanting rs)) h
  first_named false false rs cs h = ap (λ t. cond (not t) (Some (slot_name k)) (find wanting (names_once (slot_name k ∷ []) cs))) h

  pub next_cell_is : next_cell_in schema capacity hands unit option k ≡ find (is_missing hands) (delete_cells schema capacity db unit option k)
  next_cell_is =
      elim (cases_Bool (holds hands.cells (slot_name k))) [
        | inr h ↦
            ap (λ t. option_or (cond (not t) (Some (slot_name k)) None) (cond (is_some (first_cause (own_checks (in_hand hands) unit k))) None (next_of_passed schema capacity hands option k))) h
            ∙ sym (first_named (is_some (first_cause (own_checks (whole schema capacity db) unit k))) (is_plain option && has_members schema (whole schema capacity db) k) (rings_to_member schema db k owned) named h)
        | inl h ↦
            ap (λ t. option_or (cond (not t) (Some (slot_name k)) None) (cond (is_some (first_cause (own_checks (in_hand hands) unit k))) None (next_of_passed schema capacity hands option k))) h
            ∙ ap (λ checks. cond (is_some (first_cause checks)) None (next_of_passed schema capacity hands option k)) (own_checks_agree (in_hand hands) (whole schema capacity db) unit k (same_record schema capacity db hands unit agrees k h))
            ∙ by h (first_cause (own_checks (whole schema capacity db) unit k)) refl
      ] where
        by : holds hands.cells (slot_name k) ≡ true → (o : Option Cause) → first_cause (own_checks (whole schema capacity db) unit k) ≡ o
            → cond (is_some o) None (next_of_passed schema capacity hands option k) ≡ find wanting (cond (is_some o) (slot_name k ∷ []) (cond (is_plain option && has_members schema (whole schema capacity db) k) (slot_name k ∷ rings_to_member schema db k owned) (names_once [] (slot_name k ∷ named))))
        by h (Some cause) e = sym (ap (λ t. cond (not t) (Some (slot_name k)) None) h)
        by h None e = sym (passed_is h (not-false _ (passes_check (not (is_live db k)) Deleted _ e).0))
