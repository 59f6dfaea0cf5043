-- What is in the way by what an image answers is what is in the way by its database, where that is legal.
use Rattle.std.proofs.Common.{◌≡◌, refl, ◌∙◌, ap, ℕ, false, ◌&&◌, not, List, [], Option}
use Rattle.std.specs.Prelude.{IfOk, Result, Ok, Err, is_none, is_some, unwrap_or}
use Rattle.std.specs.List.{list_any}
use Rattle.dbtg_schema.specs.Lists.{Lists}
use Rattle.dbtg_cells.specs.declared.key.DbKey.{DbKey}
use Rattle.dbtg_cells.specs.declared.key.Owner.{Owner}
use Rattle.dbtg_cells.specs.declared.key.Value.{Value}
use Rattle.dbtg_cells.specs.Keys.{option_value_eq}
use Rattle.dbtg_cells.specs.Members.{is_left_out}
use Rattle.dbtg_unit.specs.declared.statement.Form.TheVariants.{Key, CurrentOfUnit, CurrentOfType, CurrentOfSet, CurrentOfArea, InSet, InArea, OwnerOf, Calc, NextDuplicate, Sorted}
use Rattle.dbtg_unit.specs.declared.statement.Statement.{Statement}
use Rattle.dbtg_unit.specs.declared.statement.Statement.TheVariants.{OpenArea, CloseArea, Find, Get, Store, Insert, Remove, Modify, Delete, Keep, Free}
use Rattle.dbtg_unit.specs.declared.unit.Cause.{Cause}
use Rattle.dbtg_unit.specs.declared.unit.Cause.TheVariants.{AlreadyMember, AreaAlreadyOpen, AreaNotOpen, ChangedByAnother, Deleted, DuplicatesNotAllowed, End, Mandatory, MandatoryAutomatic, NoCurrentOfRunUnit, NoRoom, NoSuchCurrent, NoneSatisfies, NotKept, NotMember, OtherRecordType, OwnerHasMembers, PositionLost, UpdateModeNeeded, UsageConflict}
use Rattle.dbtg_unit.specs.declared.unit.Unit.{Unit}
use Rattle.dbtg_unit.specs.Database.State.Base.{Database, key_item, members_of}
use Rattle.dbtg_unit.specs.Database.State.Image.{Image, image_of}
use Rattle.dbtg_unit.specs.Database.State.Legal.{Legal}
use Rattle.dbtg_unit.specs.Database.Statements.Found.{with_calc}
use Rattle.dbtg_unit.specs.Database.Statements.StoredFacts.{StoredFacts, whole}
use Rattle.dbtg_refusal.specs.declared.obstacle.Obstacle.{Obstacle}
use Rattle.dbtg_refusal.specs.Inside.Imaged.{holder_in_image, imaged, items_in, members_in, obstacle_in, sort_key_in}
use Rattle.dbtg_refusal.specs.Obstacles.{Holder, conflicting, deleted_for, duplicate_for, holder_in, listed, lost_for, obstacle_by, obstacle_of}
use Rattle.dbtg_refusal.proofs.FoundInLists.{any_is_found}
use Rattle.dbtg_refusal.proofs.ImageView.{same_holder, same_items, same_list, same_live, same_owner_of, same_users, same_version}

-- FREE NUMBERS

-- a view that knows nothing of free numbers
abbrev blind : StoredFacts → StoredFacts
blind view = record view { is_full = λ t. false; fresh = λ t. record { rtype = t; number = 0; generation = 0 } }

-- no obstacle asks for them
module _ (schema : Lists) (view : StoredFacts) (holder : Holder) (unit : Unit) where
  in_statement : (statement : Statement)
      → (conflicting (blind view) statement ≡ conflicting view statement)
      × (deleted_for schema (blind view) unit statement ≡ deleted_for schema view unit statement)
      × (duplicate_for schema (blind view) holder unit statement ≡ duplicate_for schema view holder unit statement)
      × (listed (blind view) unit statement ≡ listed view unit statement)
  in_statement (OpenArea a mode) = (refl, refl, refl, refl)
  in_statement (CloseArea a) = (refl, refl, refl, refl)
  in_statement (Find suppress form) = (refl, refl, refl, refl)
  in_statement (Get r) = (refl, refl, refl, refl)
  in_statement (Store t items suppress) = (refl, refl, refl, refl)
  in_statement (Insert s) = (refl, refl, refl, refl)
  in_statement (Remove s) = (refl, refl, refl, refl)
  in_statement (Modify t changes) = (refl, refl, refl, refl)
  in_statement (Delete option) = (refl, refl, refl, refl)
  in_statement Keep = (refl, refl, refl, refl)
  in_statement (Free all) = (refl, refl, refl, refl)

  in_lost : (statement : Statement) → lost_for schema (blind view) unit statement ≡ lost_for schema view unit statement
  in_lost (OpenArea a mode) = refl
  in_lost (CloseArea a) = refl
  in_lost (Find suppress (Key k)) = refl
  in_lost (Find suppress CurrentOfUnit) = refl
  in_lost (Find suppress (CurrentOfType r)) = refl
  in_lost (Find suppress (CurrentOfSet s)) = refl
  in_lost (Find suppress (CurrentOfArea a)) = refl
  in_lost (Find suppress (InSet which r s)) = refl
  in_lost (Find suppress (InArea which r a)) = refl
  in_lost (Find suppress (OwnerOf s)) = refl
  in_lost (Find suppress (Calc r values)) = refl
  in_lost (Find suppress (NextDuplicate r)) = refl
  in_lost (Find suppress (Sorted s value)) = refl
  in_lost (Get r) = refl
  in_lost (Store t items suppress) = refl
  in_lost (Insert s) = refl
  in_lost (Remove s) = refl
  in_lost (Modify t changes) = refl
  in_lost (Delete option) = refl
  in_lost Keep = refl
  in_lost (Free all) = refl

  without_numbers : (statement : Statement) (cause : Cause) → obstacle_by schema (blind view) holder unit statement cause ≡ obstacle_by schema view holder unit statement cause
  without_numbers statement AreaNotOpen = refl
  without_numbers statement ChangedByAnother = refl
  without_numbers statement DuplicatesNotAllowed = (in_statement statement).2
  without_numbers statement NoSuchCurrent = refl
  without_numbers statement End = refl
  without_numbers statement UpdateModeNeeded = refl
  without_numbers statement NoRoom = refl
  without_numbers statement NoCurrentOfRunUnit = refl
  without_numbers statement MandatoryAutomatic = refl
  without_numbers statement Mandatory = refl
  without_numbers statement AlreadyMember = (in_statement statement).3
  without_numbers statement Deleted = (in_statement statement).1
  without_numbers statement OtherRecordType = refl
  without_numbers statement NotMember = refl
  without_numbers statement PositionLost = in_lost statement
  without_numbers statement NoneSatisfies = refl
  without_numbers statement AreaAlreadyOpen = refl
  without_numbers statement UsageConflict = (in_statement statement).0
  without_numbers statement OwnerHasMembers = refl
  without_numbers statement NotKept = refl

-- THE IMAGE

module _ (schema : Lists) (capacity : ℕ) (db : Database) (legal : Legal schema capacity db) where
  abbrev image : Image
  image = image_of schema capacity db

  same_members : (s : ℕ) (o : Owner) → members_in image s o ≡ members_of db s o
  same_members s o = ap (λ l. unwrap_or l []) (same_list schema capacity db legal s o)

  same_sort_key : (s : ℕ) (o : Owner) (left : Option DbKey) (v : Option Value) → sort_key_in schema image s o left v ≡ (whole schema capacity db).has_sort_key s o left v
  same_sort_key s o left v =
      any_is_found (λ x. not (is_left_out left x) && option_value_eq (key_item schema s x.rtype (items_in image x)) v) (members_in image s o)
      ∙ λ i. list_any (λ x. not (is_left_out left x) && option_value_eq (key_item schema s x.rtype (same_items schema capacity db legal x i)) v) (same_members s o i)

  same_calc : (t : ℕ) (values : List Value) (left : Option DbKey) → is_some (holder_in_image schema image t values left) ≡ (whole schema capacity db).has_calc t values left
  same_calc t values left = ap is_some (same_holder schema capacity db legal t values left) ∙ any_is_found (λ x. not (is_left_out left x)) (with_calc schema capacity db t values)

  same_view : imaged schema image ≡ blind (whole schema capacity db)
  same_view =
      λ i. record {
        is_live = λ k. same_live schema capacity db legal k i;
        items = λ k. same_items schema capacity db legal k i;
        version = λ k. same_version schema capacity db legal k i;
        owner = λ s k. same_owner_of schema capacity db legal s k i;
        is_absent = λ s o. is_none (same_list schema capacity db legal s o i);
        members = λ s o. same_members s o i;
        has_sort_key = λ s o left v. same_sort_key s o left v i;
        is_full = λ t. false;
        fresh = λ t. record { rtype = t; number = 0; generation = 0 };
        has_calc = λ t values left. same_calc t values left i;
        users = λ a. same_users schema capacity db legal a i;
      }

  pub same_obstacle : (unit : Unit) (statement : Statement) (cause : Cause) → obstacle_in schema image unit statement cause ≡ obstacle_of schema capacity db unit statement cause
  same_obstacle unit statement cause =
      (λ i. obstacle_by schema (same_view i) (λ t values left. same_holder schema capacity db legal t values left i) unit statement cause)
      ∙ without_numbers schema (whole schema capacity db) (holder_in schema capacity db) unit statement cause

-- what is in the way by an image, by each database of which it is the image
pub of_databases : {E : Type 0} (schema : Lists) (image : Image) (unit : Unit) (statement : Statement) (cause : Cause) (found : Result (Option Obstacle) E)
    → IfOk found (λ o. o ≡ obstacle_in schema image unit statement cause)
    → IfOk found (λ o. (capacity : ℕ) (db : Database) → Legal schema capacity db → image ≡ image_of schema capacity db → o ≡ obstacle_of schema capacity db unit statement cause)
of_databases schema shown unit statement cause (Ok o) h =
    λ capacity db legal is. h ∙ ap (λ i. obstacle_in schema i unit statement cause) is ∙ same_obstacle schema capacity db legal unit statement cause
of_databases schema shown unit statement cause (Err error) h = h
