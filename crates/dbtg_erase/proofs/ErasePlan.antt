-- What a DELETE prepares is its effect on each database that agrees with the held cells.
use Rattle.std.proofs.Common.{◌⊎◌, ◌≡◌, refl, sym, ◌∙◌, ap, subst, ℕ, ◌+◌, arith, eqb, Bool, true, false, cond, not, ◌&&◌, ◌||◌, List, [], ◌∷◌, ◌++◌, length, Option, Some, None, inl, inr, ⊎_elim, map}
use Rattle.std.specs.Prelude.{filter, is_some, nat_lt, if◌then◌else◌}
use Rattle.std.specs.List.{find, flat_map, list_all, list_any, range_with_len}
use Rattle.std.specs.Option.{option_or}
use Rattle.std.proofs.lemmas.Bool.{and_from, and_parts, cases_Bool, eq-eqb, cond-false, cond-true, false≢true, false_from_ne_true, or_left, or_right}
use Rattle.std.proofs.lemmas.Option.{none-some}
use Rattle.dbtg_schema.specs.Lists.{Lists}
use Rattle.dbtg_schema.specs.Lookups.{first_cause, some_and}
use Rattle.dbtg_schema.specs.Structure.{owns, set_numbers}
use Rattle.dbtg_cells.specs.declared.key.DbKey.{DbKey}
use Rattle.dbtg_cells.specs.declared.key.Owner.{Owner}
use Rattle.dbtg_cells.specs.declared.key.Owner.TheVariants.{Rec}
use Rattle.dbtg_cells.specs.declared.name.CellName.{CellName}
use Rattle.dbtg_cells.specs.declared.name.CellName.TheVariants.{Extent, Ring}
use Rattle.dbtg_cells.specs.Keys.{is_member, key_eq}
use Rattle.dbtg_cells.specs.Names.{name_eq}
use Rattle.dbtg_cells.proofs.Public.{either_way, key_eq_refl, map_twice, same_key, same_name}
use Rattle.dbtg_unit.proofs.Public.{In, after_delete, all_at, all_from, all_in, any_element, any_in, filter_agrees_on_list, flat_map_agrees, in_filter, in_flat_map, in_left, in_map, in_range, in_right, is_taken_out, left_are_taken_out, listed_has_occurrence, map_same, member_in, member_of_owner, members_in_hand as members_are, met_are_live, names_once_complete, of_append, of_filter, of_flat_map, of_map, own_checks_agree, owner_in as among_owners, owner_in_hand, same_record, version_in_hand, version_left, with_those_pass}
use Rattle.dbtg_unit.specs.Database.Statements.StoredFacts.{whole}
use Rattle.dbtg_unit.specs.declared.edit.CellEdit.{CellEdit}
use Rattle.dbtg_unit.specs.declared.edit.Edit.TheVariants.{ChangeOwner, CloseRing, RaiseVersion, TakeOut, Vacate}
use Rattle.dbtg_unit.specs.declared.edit.UnitEdit.TheVariants.{LoseCurrent}
use Rattle.dbtg_unit.specs.declared.statement.Erase.{Erase}
use Rattle.dbtg_unit.specs.declared.unit.Cause.{Cause}
use Rattle.dbtg_unit.specs.declared.unit.Cause.TheVariants.{OwnerHasMembers}
use Rattle.dbtg_unit.specs.declared.unit.Status.TheVariants.{Done}
use Rattle.dbtg_unit.specs.declared.unit.Unit.{Unit}
use Rattle.dbtg_unit.specs.Database.State.Base.{Database, is_live, members_of, owner_of, owners}
use Rattle.dbtg_unit.specs.Database.State.CellNames.{place_of, slot_name}
use Rattle.dbtg_unit.specs.Hands.EditsOf.{closing_edits, delete_edits, erasing_edits, leave_number, leaving_edits, left_behind, losing_edits, lost_sets, ring_edits, slot_edit, staying_owner}
use Rattle.dbtg_unit.specs.Database.Statements.Checks.{delete_checks, own_checks}
use Rattle.dbtg_unit.specs.Database.Statements.Conditions.{has_members, is_plain}
use Rattle.dbtg_unit.specs.Database.Statements.Effect.{is_gone, version_of}
use Rattle.dbtg_unit.specs.Hands.Erasing.{cells_of_doomed, delete_cells, doomed_in_turn, members_of_all, names_once, outer_cells, own_rings, rings_to_member, with_those}
use Rattle.dbtg_unit.specs.Hands.Hands.{Hands}
use Rattle.dbtg_unit.specs.Hands.InHand.{owner_in, version_in, in_hand}
use Rattle.dbtg_unit.specs.Database.State.Kept.{renoted_entry, noted_again}
use Rattle.dbtg_unit.specs.Hands.Local.{Agrees, holds}
use Rattle.dbtg_unit.specs.Hands.Prepared.{Plan, renoted_at}
use Rattle.dbtg_erase.specs.Inside.ErasePlan.{erasing_plan, going_edits, raised_versions}
use Rattle.dbtg_erase.specs.WorkList.{gone_in, list_in, members_in_hand, own_sets}
use Rattle.dbtg_erase.proofs.EditLists.{four_append}
use Rattle.dbtg_erase.proofs.Reading.{all_members_are, gone_agrees, unowned, unowned_in}

-- THE FIRST CAUSE

refused_first : (xs ys : List (Bool × Cause)) (cause : Cause) → first_cause xs ≡ Some cause → first_cause (xs ++ ys) ≡ Some cause
refused_first [] ys cause h = absurd (none-some cause h)
refused_first (x ∷ xs) ys cause h =
    elim x.0 as (λ b. cond b (Some x.1) (first_cause xs) ≡ Some cause → cond b (Some x.1) (first_cause (xs ++ ys)) ≡ Some cause) [ true ↦ λ e. e | false ↦ λ e. refused_first xs ys cause e ] h

-- the first cause of a list, or of what follows it
pub cause_append : (xs ys : List (Bool × Cause)) → first_cause (xs ++ ys) ≡ option_or (first_cause xs) (first_cause ys)
cause_append [] ys = refl
cause_append (x ∷ xs) ys = elim x.0 as (λ b. cond b (Some x.1) (first_cause (xs ++ ys)) ≡ option_or (cond b (Some x.1) (first_cause xs)) (first_cause ys)) [ true ↦ refl | false ↦ cause_append xs ys ]

pub any_filter : (p q : ℕ → Bool) (xs : List ℕ) → ((x : ℕ) → q x ≡ false → p x ≡ false) → list_any p (filter q xs) ≡ list_any p xs
any_filter p q [] h = refl
any_filter p q (x ∷ xs) h =
    elim (cases_Bool (q x)) [
      | inl e ↦ ap (λ b. list_any p (cond b (x ∷ filter q xs) (filter q xs))) e ∙ ap (λ b. p x || b) (any_filter p q xs h)
      | inr e ↦ ap (λ b. list_any p (cond b (x ∷ filter q xs) (filter q xs))) e ∙ any_filter p q xs h ∙ ap (λ b. b || list_any p xs) (sym (h x e))
    ]

pub any_same : (p q : ℕ → Bool) (xs : List ℕ) → ((x : ℕ) → In x xs → p x ≡ q x) → list_any p xs ≡ list_any q xs
any_same p q [] h = refl
any_same p q (x ∷ xs) h = λ i. h x (inl refl) i || any_same p q xs (λ y j. h y (inr j)) i

-- all are there if none is missing
all_there : {X : Type 0} (has : X → Bool) (xs : List X) → ((x : X) → In x xs → has x ≡ true) → find (λ x. not (has x)) xs ≡ None
all_there has [] h = refl
all_there has (x ∷ xs) h = ap (λ b. cond (not b) (Some x) (find (λ x. not (has x)) xs)) (h x (inl refl)) ∙ all_there has xs (λ y j. h y (inr j))

map_id : {X : Type 0} (xs : List X) → xs ≡ map (λ x. x) xs
map_id [] = refl
map_id (x ∷ xs) = ap (λ ys. x ∷ ys) (map_id xs)

-- KEPT VERSIONS

-- an entry of one of these keys, at its new version
abbrev entry_at : (DbKey → ℕ) → List DbKey → DbKey × ℕ → DbKey × ℕ
entry_at version ys e = if is_member e.0 ys then (e.0, version e.0) else e

key_eq_swap : (x y : DbKey) → key_eq x y ≡ key_eq y x
key_eq_swap x y =
    elim (cases_Bool (key_eq y x)) [
      | inl e ↦ ap (key_eq x) (same_key y x e) ∙ key_eq_refl x ∙ sym e
      | inr e ↦ false_from_ne_true _ (λ h. false≢true (sym e ∙ ap (key_eq y) (same_key x y h) ∙ key_eq_refl y)) ∙ sym e
    ]

noted_each : (version : DbKey → ℕ) (ys : List DbKey) (kept : List (DbKey × ℕ)) → renoted_at (map (λ x. (x, version x)) ys) kept ≡ map (entry_at version ys) kept
noted_each version [] kept = map_id kept
noted_each version (y ∷ ys) kept =
    noted_each version ys (noted_again y (version y) kept) ∙ map_twice (entry_at version ys) (renoted_entry y (version y)) kept ∙ map_same _ _ kept one where
      one : (e : DbKey × ℕ) → entry_at version ys (renoted_entry y (version y) e) ≡ entry_at version (y ∷ ys) e
      one e =
          elim (cases_Bool (key_eq e.0 y)) [
            | inl same ↦
                let is_y : e.0 ≡ y = same_key e.0 y same in
                ap (λ b. entry_at version ys (cond b (e.0, version y) e)) (key_eq_swap y e.0 ∙ same)
                ∙ ap (λ z. entry_at version ys (e.0, version z)) (sym is_y)
                ∙ either_way (is_member e.0 ys) (e.0, version e.0)
                ∙ ap (λ b. cond (b || is_member e.0 ys) (e.0, version e.0) e) (sym same)
            | inr other ↦
                ap (λ b. entry_at version ys (cond b (e.0, version y) e)) (key_eq_swap y e.0 ∙ other)
                ∙ ap (λ b. cond (b || is_member e.0 ys) (e.0, version e.0) e) (sym other)
          ]

abbrev pair : DbKey → ℕ → DbKey × ℕ
pair x v = (x, v)

-- THE SAME EDITS

module _ (schema : Lists) (owner owner' : ℕ → DbKey → Option Owner) (members members' : DbKey → List DbKey) (gone : List DbKey)
    (same_owner : (d : DbKey) → In d gone → (s : ℕ) → In s (set_numbers schema) → owner s d ≡ owner' s d) (same_members : (d : DbKey) → In d gone → members d ≡ members' d)
    (same_left : (x : DbKey) → In x (left_behind members gone) → (s : ℕ) → In s (set_numbers schema) → owner s x ≡ owner' s x) where
  pub same_behind : left_behind members gone ≡ left_behind members' gone
  same_behind = ap (λ ms. with_those [] (filter (λ x. not (is_member x gone)) ms)) (flat_map_agrees members members' gone same_members)

  leaving_same : flat_map (leaving_edits schema owner gone) gone ≡ flat_map (leaving_edits schema owner' gone) gone
  leaving_same =
      flat_map_agrees (leaving_edits schema owner gone) (leaving_edits schema owner' gone) gone
      (λ d i. flat_map_agrees (λ s. ring_edits s (staying_owner gone (owner s d)) (TakeOut d ∷ [])) (λ s. ring_edits s (staying_owner gone (owner' s d)) (TakeOut d ∷ [])) (set_numbers schema)
      (λ s j. ap (λ o. ring_edits s (staying_owner gone o) (TakeOut d ∷ [])) (same_owner d i s j)))

  losing_same : flat_map (losing_edits schema owner gone) (left_behind members gone) ≡ flat_map (losing_edits schema owner' gone) (left_behind members' gone)
  losing_same =
      flat_map_agrees (losing_edits schema owner gone) (losing_edits schema owner' gone) (left_behind members gone)
      (λ x i. ap (λ sets. map (λ s. slot_edit x (ChangeOwner s None)) sets ++ slot_edit x RaiseVersion ∷ [])
      (filter_agrees_on_list (λ s. some_and (is_gone gone) (owner s x)) (λ s. some_and (is_gone gone) (owner' s x)) (set_numbers schema) (λ s j. ap (some_and (is_gone gone)) (same_left x i s j))))
      ∙ ap (flat_map (losing_edits schema owner' gone)) same_behind

  pub same_edits : erasing_edits schema owner members gone ≡ erasing_edits schema owner' members' gone
  same_edits =
      λ i. map leave_number gone ++ (leaving_same i ++ (flat_map (closing_edits schema) gone ++ (map (λ d. slot_edit d Vacate) gone ++ losing_same i)))

module _ (schema : Lists) (capacity : ℕ) (db : Database) (hands : Hands) (unit : Unit) (agrees : Agrees schema capacity db hands unit) (option : Erase) (k : DbKey)
    (has : (c : CellName) → In c (delete_cells schema capacity db unit option k) → holds hands.cells c ≡ true) where
  -- THE CHECKS

  abbrev has_any : Bool
  has_any = is_plain option && has_members schema (whole schema capacity db) k

  abbrev owned : List ℕ
  owned = own_sets schema k

  -- the slot is named first, whatever else
  slot_held : holds hands.cells (slot_name k) ≡ true
  slot_held = has (slot_name k) (named (is_some (first_cause (own_checks (whole schema capacity db) unit k))) has_any) where
    named : (a b : Bool) → In (slot_name k) (cond a (slot_name k ∷ []) (cond b (slot_name k ∷ rings_to_member schema db k owned) (names_once [] (slot_name k ∷ own_rings schema k ++ flat_map (cells_of_doomed schema db) (doomed_in_turn schema capacity db option k) ++ outer_cells schema capacity db (doomed_in_turn schema capacity db option k)))))
    named true b = inl refl
    named false true = inl refl
    named false false = inl refl

  own_are : own_checks (in_hand hands) unit k ≡ own_checks (whole schema capacity db) unit k
  own_are = own_checks_agree (in_hand hands) (whole schema capacity db) unit k (same_record schema capacity db hands unit agrees k slot_held)

  members_are_some : has_members schema (whole schema capacity db) k ≡ list_any (λ s. nat_lt 0 (length (members_of db s (Rec k)))) owned
  members_are_some =
      sym (any_filter (λ s. nat_lt 0 (length (members_of db s (Rec k)))) (λ s. owns schema s k.rtype) (set_numbers schema)
      (λ s e. ap (λ xs. nat_lt 0 (length xs)) (unowned schema capacity db hands unit agrees k s e)))

  module _ (own : first_cause (own_checks (whole schema capacity db) unit k) ≡ None) where
    abbrev names : List CellName
    names = slot_name k ∷ own_rings schema k ++ flat_map (cells_of_doomed schema db) (doomed_in_turn schema capacity db option k) ++ outer_cells schema capacity db (doomed_in_turn schema capacity db option k)

    -- refused for its members: its rings as far as the first member are held
    as_far : has_any ≡ true → (c : CellName) → In c (rings_to_member schema db k owned) → holds hands.cells c ≡ true
    as_far h c i =
        has c (subst (In c) (sym (cond-false (is_some (first_cause (own_checks (whole schema capacity db) unit k))) (slot_name k ∷ []) _ (ap is_some own) ∙ cond-true has_any (slot_name k ∷ rings_to_member schema db k owned) (names_once [] names) h)) (inr i))

    -- otherwise all that it names
    all_held : has_any ≡ false → (c : CellName) → In c names → holds hands.cells c ≡ true
    all_held h c i =
        let once : list_any (name_eq c) (names_once [] names) ≡ true = true_from (list_any (name_eq c) (names_once [] names)) (λ e. names_once_complete names c c e i refl) in
        let d = any_element (name_eq c) (names_once [] names) once in
        ap (holds hands.cells) (same_name c d.0 d.2)
        ∙ has d.0 (subst (In d.0) (sym (cond-false (is_some (first_cause (own_checks (whole schema capacity db) unit k))) (slot_name k ∷ []) _ (ap is_some own) ∙ cond-false has_any (slot_name k ∷ rings_to_member schema db k owned) (names_once [] names) h)) d.1) where
          true_from : (b : Bool) → (b ≡ false → ⊥) → b ≡ true
          true_from true h = refl
          true_from false h = absurd (h refl)

    ring_held : (s : ℕ) → holds hands.cells (Ring s (Some (k.rtype, k.number))) ≡ true → members_of db s (Rec k) ≡ list_in hands k s
    ring_held s h = members_are schema capacity db hands unit agrees s (Rec k) h

    -- a member is found where there is one
    found_member : (sets : List ℕ) → ((c : CellName) → In c (rings_to_member schema db k sets) → holds hands.cells c ≡ true)
        → list_any (λ s. nat_lt 0 (length (members_of db s (Rec k)))) sets ≡ true → list_any (λ s. nat_lt 0 (length (list_in hands k s))) sets ≡ true
    found_member [] h e = e
    found_member (s ∷ sets) h e =
        let same : nat_lt 0 (length (members_of db s (Rec k))) ≡ nat_lt 0 (length (list_in hands k s)) = ap (λ xs. nat_lt 0 (length xs)) (ring_held s (h (Ring s (Some (k.rtype, k.number))) (inl refl))) in
        elim (cases_Bool (nat_lt 0 (length (members_of db s (Rec k))))) [
          | inl here ↦ or_left _ _ (sym same ∙ here)
          | inr none ↦
              or_right _ _ (found_member sets
              (λ c i. h c (inr (subst (λ b. In c (cond b [] (rings_to_member schema db k sets))) (sym none) i)))
              (sym (ap (λ b. b || list_any (λ s. nat_lt 0 (length (members_of db s (Rec k)))) sets) none) ∙ e))
        ]

    found_in_hand : has_members schema (in_hand hands) k ≡ list_any (λ s. nat_lt 0 (length (list_in hands k s))) owned
    found_in_hand =
        sym (any_filter (λ s. nat_lt 0 (length (list_in hands k s))) (λ s. owns schema s k.rtype) (set_numbers schema)
        (λ s e. ap (λ xs. nat_lt 0 (length xs)) (unowned_in schema capacity db hands unit agrees k s e)))

    members_found : (is_plain option && has_members schema (in_hand hands) k) ≡ has_any
    members_found =
        ap (λ b. is_plain option && b) found_in_hand
        ∙ elim (cases_Bool has_any) [
          | inl h ↦
              let hs = and_parts _ _ h in
              and_from _ _ hs.0 (found_member owned (as_far h) (sym members_are_some ∙ hs.1)) ∙ sym h
          | inr h ↦
              ap (λ b. is_plain option && b)
              (any_same (λ s. nat_lt 0 (length (list_in hands k s))) (λ s. nat_lt 0 (length (members_of db s (Rec k)))) owned
              (λ s i. ap (λ xs. nat_lt 0 (length xs)) (sym (ring_held s
              (all_held h (Ring s (Some (k.rtype, k.number))) (inr (in_left _ (own_rings schema k ++ flat_map (cells_of_doomed schema db) (doomed_in_turn schema capacity db option k)) (outer_cells schema capacity db (doomed_in_turn schema capacity db option k))
              (in_left _ (own_rings schema k) (flat_map (cells_of_doomed schema db) (doomed_in_turn schema capacity db option k)) (in_map (λ s. Ring s (Some (k.rtype, k.number))) s owned i))))))))
              ∙ sym members_are_some)
        ]

  pub checks_are : first_cause (delete_checks schema (in_hand hands) unit option k) ≡ first_cause (delete_checks schema (whole schema capacity db) unit option k)
  checks_are = by (first_cause (own_checks (whole schema capacity db) unit k)) refl where
    by : (o : Option Cause) → first_cause (own_checks (whole schema capacity db) unit k) ≡ o → first_cause (delete_checks schema (in_hand hands) unit option k) ≡ first_cause (delete_checks schema (whole schema capacity db) unit option k)
    by (Some cause) e =
        refused_first (own_checks (in_hand hands) unit k) ((is_plain option && has_members schema (in_hand hands) k, OwnerHasMembers) ∷ []) cause (ap first_cause own_are ∙ e)
        ∙ sym (refused_first (own_checks (whole schema capacity db) unit k) ((has_any, OwnerHasMembers) ∷ []) cause e)
    by None e = λ i. first_cause (own_are i ++ (members_found e i, OwnerHasMembers) ∷ [])

  -- WHAT IS DONE

  module _ (own : first_cause (own_checks (whole schema capacity db) unit k) ≡ None) (none : has_any ≡ false) (live : is_live db k ≡ true) where
    abbrev turn : List DbKey
    turn = doomed_in_turn schema capacity db option k

    of_doomed : (d : DbKey) → In d turn → (c : CellName) → In c (cells_of_doomed schema db d) → holds hands.cells c ≡ true
    of_doomed d i c j =
        all_held own none c (inr (in_left c (own_rings schema k ++ flat_map (cells_of_doomed schema db) turn) (outer_cells schema capacity db turn)
        (in_right c (own_rings schema k) (flat_map (cells_of_doomed schema db) turn) (in_flat_map (cells_of_doomed schema db) d c turn i j))))

    -- the work list is the database's
    pub gone_is : turn ≡ gone_in schema capacity hands option k
    gone_is =
        (gone_agrees schema capacity db hands unit agrees option k live).1
        (all_there (holds hands.cells) (flat_map (cells_of_doomed schema db) turn) (λ c i. let d = of_flat_map (cells_of_doomed schema db) c turn i in of_doomed d.0 d.1 c d.2))

    members_same : (d : DbKey) → In d turn → members_of_all schema db d ≡ members_in_hand schema hands d
    members_same d i = all_members_are schema capacity db hands unit agrees d (λ c j. of_doomed d i c (inr (in_left c (own_rings schema d) (map slot_name (members_of_all schema db d)) j)))

    abbrev left : List DbKey
    left = left_behind (members_of_all schema db) turn

    -- the slot of each that is left behind is held
    pub left_held : (x : DbKey) → In x left → holds hands.cells (slot_name x) ≡ true
    left_held x i =
        all_at (λ y. holds hands.cells (slot_name y)) x left
        (with_those_pass (λ y. holds hands.cells (slot_name y)) [] (filter (λ y. not (is_member y turn)) (flat_map (members_of_all schema db) turn)) refl
        (all_from (λ y. holds hands.cells (slot_name y)) _ (λ y j.
        let d = of_flat_map (members_of_all schema db) y turn (of_filter (λ y. not (is_member y turn)) y (flat_map (members_of_all schema db) turn) j).0 in
        of_doomed d.0 d.1 (slot_name y) (inr (in_right (slot_name y) (own_rings schema d.0) (map slot_name (members_of_all schema db d.0)) (in_map slot_name y (members_of_all schema db d.0) d.2)))))) i

    owners_same : (d : DbKey) → In d turn → (s : ℕ) → In s (set_numbers schema) → owner_of schema capacity db s d ≡ owner_in hands s d
    owners_same d i s j = owner_in_hand schema capacity db hands unit agrees d (of_doomed d i (slot_name d) (inl refl)) s j

    left_owners_same : (x : DbKey) → In x left → (s : ℕ) → In s (set_numbers schema) → owner_of schema capacity db s x ≡ owner_in hands s x
    left_owners_same x i s j = owner_in_hand schema capacity db hands unit agrees x (left_held x i) s j

    pub edits_are : delete_edits schema capacity db option k ≡ erasing_edits schema (owner_in hands) (members_in_hand schema hands) (gone_in schema capacity hands option k)
    edits_are =
        same_edits schema (owner_of schema capacity db) (owner_in hands) (members_of_all schema db) (members_in_hand schema hands) turn owners_same members_same left_owners_same
        ∙ ap (erasing_edits schema (owner_in hands) (members_in_hand schema hands)) gone_is

    left_same : left ≡ left_behind (members_in_hand schema hands) (gone_in schema capacity hands option k)
    left_same =
        same_behind schema (owner_of schema capacity db) (owner_in hands) (members_of_all schema db) (members_in_hand schema hands) turn owners_same members_same left_owners_same
        ∙ ap (left_behind (members_in_hand schema hands)) gone_is

    -- the versions of those that are left behind are noted
    pub kept_are : renoted_at (raised_versions schema hands (gone_in schema capacity hands option k)) unit.kept
        ≡ map (λ e. if is_taken_out schema capacity db unit option k e.0 then (e.0, version_of (after_delete schema capacity db unit option k) e.0) else e) unit.kept
    kept_are =
        ap (λ xs. renoted_at (map (λ x. (x, version_in hands x + 1)) xs) unit.kept) (sym left_same)
        ∙ noted_each (λ x. version_in hands x + 1) left unit.kept
        ∙ map_same (entry_at (λ x. version_in hands x + 1) left) _ unit.kept one where
          one : (e : DbKey × ℕ) → entry_at (λ x. version_in hands x + 1) left e ≡ (if is_taken_out schema capacity db unit option k e.0 then (e.0, version_of (after_delete schema capacity db unit option k) e.0) else e)
          one e =
              elim (cases_Bool (is_member e.0 left)) [
                | inl h ↦
                    let version : version_in hands e.0 + 1 ≡ version_of (after_delete schema capacity db unit option k) e.0
                    = ap (λ v. v + 1) (sym (version_in_hand schema capacity db hands unit agrees e.0 (left_held e.0 (member_in e.0 left h))))
                    ∙ sym (version_left schema capacity db unit option k agrees.legal live e.0 h) in
                    cond-true (is_member e.0 left) _ e h
                    ∙ ap (λ v. pair e.0 v) version
                    ∙ sym (cond-true (is_taken_out schema capacity db unit option k e.0) _ e (sym (left_are_taken_out schema capacity db unit option k agrees.legal live e.0) ∙ h))
                | inr h ↦
                    cond-false (is_member e.0 left) _ e h
                    ∙ sym (cond-false (is_taken_out schema capacity db unit option k e.0) _ e (sym (left_are_taken_out schema capacity db unit option k agrees.legal live e.0) ∙ h))
              ]

    -- every edit is of a held cell
    outer_held : (c : CellName) → In c (outer_cells schema capacity db turn) → holds hands.cells c ≡ true
    outer_held c i = all_held own none c (inr (in_right c (own_rings schema k ++ flat_map (cells_of_doomed schema db) turn) (outer_cells schema capacity db turn) i))

    -- the outer cells in their two parts
    abbrev extents : List CellName
    extents = map Extent (filter (λ t. list_any (λ d. eqb d.rtype t) turn) (range_with_len 0 (length schema.types)))

    abbrev rings : List CellName
    rings = flat_map (λ s. map (λ o. Ring s (place_of o)) (filter (λ o. list_any (λ d. is_member d (members_of db s o)) turn) (owners schema capacity db s))) (set_numbers schema)

    number_held : (e : CellEdit) → In e (map leave_number turn) → holds hands.cells e.name ≡ true
    number_held e i =
        let d = of_map leave_number e turn i in
        let below = (agrees.legal.keys d.0 (all_at (is_live db) d.0 turn (met_are_live schema capacity db agrees.legal option k live) d.1)).0 in
        ap (λ (f : CellEdit). holds hands.cells f.name) (sym d.2)
        ∙ outer_held (Extent d.0.rtype) (in_left _ extents rings
        (in_map Extent d.0.rtype _ (in_filter (λ t. list_any (λ x. eqb x.rtype t) turn) d.0.rtype (range_with_len 0 (length schema.types)) (in_range (length schema.types) 0 d.0.rtype (omega arith) (omega arith))
        (any_in (λ x. eqb x.rtype d.0.rtype) d.0 turn d.1 (eq-eqb d.0.rtype d.0.rtype refl)))))

    place_held : (e : CellEdit) → In e (flat_map (leaving_edits schema (owner_of schema capacity db) turn) turn) → holds hands.cells e.name ≡ true
    place_held e i =
        let d = of_flat_map (leaving_edits schema (owner_of schema capacity db) turn) e turn i in
        let s = of_flat_map (λ s. ring_edits s (staying_owner turn (owner_of schema capacity db s d.0)) (TakeOut d.0 ∷ [])) e (set_numbers schema) d.2 in
        by d.0 d.1 s.0 s.1 (owner_of schema capacity db s.0 d.0) refl s.2 where
          by : (d : DbKey) → In d turn → (s : ℕ) → In s (set_numbers schema) → (o : Option Owner) → owner_of schema capacity db s d ≡ o → In e (ring_edits s (staying_owner turn o) (TakeOut d ∷ [])) → holds hands.cells e.name ≡ true
          by d i s j None f m = absurd m
          by d i s j (Some o) f m =
              elim (cases_Bool (is_gone turn o)) [
                | inl g ↦ absurd (subst (λ b. In e (ring_edits s (cond b None (Some o)) (TakeOut d ∷ []))) g m)
                | inr g ↦
                    let has = member_of_owner schema capacity db agrees.legal s o d f in
                    elim (subst (λ b. In e (ring_edits s (cond b None (Some o)) (TakeOut d ∷ []))) g m) [
                      | inl here ↦
                          ap (λ (f : CellEdit). holds hands.cells f.name) (sym here)
                          ∙ outer_held (Ring s (place_of o)) (in_right _ extents rings
                          (in_flat_map (λ s. map (λ o. Ring s (place_of o)) (filter (λ o. list_any (λ d. is_member d (members_of db s o)) turn) (owners schema capacity db s))) s _ (set_numbers schema) j
                          (in_map (λ o. Ring s (place_of o)) o _ (in_filter (λ o. list_any (λ d. is_member d (members_of db s o)) turn) o (owners schema capacity db s)
                          (among_owners schema capacity db agrees.legal s o (listed_has_occurrence schema capacity db agrees.legal s o d has)) (any_in (λ d. is_member d (members_of db s o)) d turn i has)))))
                      | inr never ↦ absurd never
                    ]
              ]

    ring_closed_held : (e : CellEdit) → In e (flat_map (closing_edits schema) turn) → holds hands.cells e.name ≡ true
    ring_closed_held e i =
        let d = of_flat_map (closing_edits schema) e turn i in
        let s = of_map (λ s. record { name = Ring s (Some (d.0.rtype, d.0.number)); edit = CloseRing }) e (own_sets schema d.0) d.2 in
        ap (λ (f : CellEdit). holds hands.cells f.name) (sym s.2)
        ∙ of_doomed d.0 d.1 (Ring s.0 (Some (d.0.rtype, d.0.number))) (inr (in_left _ (own_rings schema d.0) _ (in_map (λ s. Ring s (Some (d.0.rtype, d.0.number))) s.0 (own_sets schema d.0) s.1)))

    slot_vacated_held : (e : CellEdit) → In e (map (λ d. slot_edit d Vacate) turn) → holds hands.cells e.name ≡ true
    slot_vacated_held e i =
        let d = of_map (λ d. slot_edit d Vacate) e turn i in
        ap (λ (f : CellEdit). holds hands.cells f.name) (sym d.2) ∙ of_doomed d.0 d.1 (slot_name d.0) (inl refl)

    slot_left_held : (e : CellEdit) → In e (flat_map (losing_edits schema (owner_of schema capacity db) turn) left) → holds hands.cells e.name ≡ true
    slot_left_held e i =
        let x = of_flat_map (losing_edits schema (owner_of schema capacity db) turn) e left i in
        ap (holds hands.cells) (name_is x.0 (of_append e (map (λ s. slot_edit x.0 (ChangeOwner s None)) (lost_sets schema (owner_of schema capacity db) turn x.0)) (slot_edit x.0 RaiseVersion ∷ []) x.2)) ∙ left_held x.0 x.1 where
          name_is : (x : DbKey) → In e (map (λ s. slot_edit x (ChangeOwner s None)) (lost_sets schema (owner_of schema capacity db) turn x)) ⊎ In e (slot_edit x RaiseVersion ∷ []) → e.name ≡ slot_name x
          name_is x (inl j) = let s = of_map (λ s. slot_edit x (ChangeOwner s None)) e (lost_sets schema (owner_of schema capacity db) turn x) j in ap (λ (f : CellEdit). f.name) (sym s.2)
          name_is x (inr j) = elim j [ inl same ↦ ap (λ (f : CellEdit). f.name) (sym same) | inr never ↦ absurd never ]

    edit_held : (e : CellEdit) → In e (delete_edits schema capacity db option k) → holds hands.cells e.name ≡ true
    edit_held e i =
        ⊎_elim (number_held e) (λ j. ⊎_elim (place_held e) (λ l. ⊎_elim (ring_closed_held e) (λ m. ⊎_elim (slot_vacated_held e) (slot_left_held e)
        (of_append e (map (λ d. slot_edit d Vacate) turn) _ m)) (of_append e (flat_map (closing_edits schema) turn) _ l)) (of_append e (flat_map (leaving_edits schema (owner_of schema capacity db) turn) turn) _ j))
        (of_append e (map leave_number turn) _ i)

    pub edits_held : list_all (λ (e : CellEdit). holds hands.cells e.name) (delete_edits schema capacity db option k) ≡ true
    edits_held = all_in (λ (e : CellEdit). holds hands.cells e.name) (delete_edits schema capacity db option k) edit_held

-- a plan by its parts
pub plan_from : (schema : Lists) (hands : Hands) (k : DbKey) (target gone : List DbKey) (going losing : List CellEdit) (versions : List (DbKey × ℕ))
    → gone ≡ target → going ≡ going_edits schema (owner_in hands) gone
    → losing ≡ flat_map (losing_edits schema (owner_in hands) gone) (left_behind (members_in_hand schema hands) gone) → versions ≡ raised_versions schema hands gone
    → record { answer = record { status = Done; key = None; items = None }; cells = going ++ losing; versions = versions; unit = LoseCurrent k } ≡ erasing_plan schema hands target k
plan_from schema hands k target gone going losing versions gone_are going_are losing_are versions_are =
    let of_gone : Plan = erasing_plan schema hands gone k in
    let left = left_behind (members_in_hand schema hands) gone in
    let edits_are : going ++ losing ≡ erasing_edits schema (owner_in hands) (members_in_hand schema hands) gone
    = (λ i. going_are i ++ losing_are i)
    ∙ four_append (map leave_number gone) (flat_map (leaving_edits schema (owner_in hands) gone) gone) (flat_map (closing_edits schema) gone) (map (λ d. slot_edit d Vacate) gone)
    (flat_map (losing_edits schema (owner_in hands) gone) left) in
    (λ i. record { answer = of_gone.answer; cells = edits_are i; versions = versions_are i; unit = LoseCurrent k })
    ∙ ap (λ g. erasing_plan schema hands g k) gone_are
