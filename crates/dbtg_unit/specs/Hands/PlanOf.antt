-- What each statement plans, a line for each, over a view: so the same text serves a whole database and the held cells.
-- First edits of rings and slots and plans that change no cell; then STORE, INSERT, REMOVE and MODIFY; at the end `done_plan_of`, a line for each
-- statement, and `plan_of`, which puts the checks before it.
-- k is a key, m a new member, o an owner, s a set, a an area.
use Rattle.std.specs.Prelude.{ℕ, ◌+◌, ◌==◌, true, false, List, [], ◌∷◌, ◌++◌, Option, Some, None, filter, map, option_and_then, option_map, unwrap_or, if◌then◌else◌}
use Rattle.std.specs.List.{flat_map, list_any}
use Rattle.dbtg_schema.specs.Lists.{Lists}
use Rattle.dbtg_schema.specs.Structure.{automatic_sets, order_of, owns, rekeyed_sets, set_numbers}
use Rattle.dbtg_cells.specs.declared.key.DbKey.{DbKey}
use Rattle.dbtg_cells.specs.declared.key.Owner.{Owner}
use Rattle.dbtg_cells.specs.declared.key.Owner.TheVariants.{Rec}
use Rattle.dbtg_cells.specs.declared.key.Value.{Value}
use Rattle.dbtg_cells.specs.declared.name.CellName.TheVariants.{Usage, Extent, Ring}
use Rattle.dbtg_cells.specs.declared.usage.Mode.{Mode}
use Rattle.dbtg_cells.specs.Shown.{first_version}
use Rattle.dbtg_unit.specs.declared.edit.CellEdit.{CellEdit}
use Rattle.dbtg_unit.specs.declared.edit.Edit.{Edit}
use Rattle.dbtg_unit.specs.declared.edit.Edit.TheVariants.{EnterUser, LeaveUser, EnterNumber, ChangeNumber, OpenRing, PlaceMember, ReplaceMember, TakeOut, Fill, ChangeItems, ChangeOwner, RaiseVersion}
use Rattle.dbtg_unit.specs.declared.edit.UnitEdit.{UnitEdit}
use Rattle.dbtg_unit.specs.declared.edit.UnitEdit.TheVariants.{Same, See, Move, Leave, SetMode, Keep as KeepEdit, Forget, ForgetAll}
use Rattle.dbtg_unit.specs.declared.statement.Change.{Change}
use Rattle.dbtg_unit.specs.declared.statement.Statement.{Statement}
use Rattle.dbtg_unit.specs.declared.statement.Statement.TheVariants.{OpenArea, CloseArea, Get, Store, Insert, Remove, Modify, Keep, Free}
use Rattle.dbtg_unit.specs.declared.statement.Suppress.{Suppress}
use Rattle.dbtg_unit.specs.declared.unit.Answer.{Answer}
use Rattle.dbtg_unit.specs.declared.unit.Cause.TheVariants.{NoCurrentOfRunUnit}
use Rattle.dbtg_unit.specs.declared.unit.Place.{Place}
use Rattle.dbtg_unit.specs.declared.unit.Status.TheVariants.{Done}
use Rattle.dbtg_unit.specs.declared.unit.Unit.{Unit}
use Rattle.dbtg_unit.specs.Database.State.Base.{calc_items, key_item}
use Rattle.dbtg_unit.specs.Database.State.CellNames.{slot_name, place_of}
use Rattle.dbtg_unit.specs.Database.State.Units.{noted, place_in}
use Rattle.dbtg_unit.specs.Database.Statements.Conditions.{changed_items, joined_place, names_calc}
use Rattle.dbtg_unit.specs.Database.Statements.StoredFacts.{StoredFacts}
use Rattle.dbtg_unit.specs.Hands.Prepared.{Plan, refusal}

-- these edits of the ring of an owner, if there is one
abbrev pub ring_edits : ℕ → Option Owner → List Edit → List CellEdit
ring_edits s None edits = []
ring_edits s (Some o) edits = map (λ edit. record { name = Ring s (place_of o); edit = edit }) edits

-- an edit of the slot of a key
abbrev pub slot_edit : DbKey → Edit → CellEdit
slot_edit k edit = record { name = slot_name k; edit = edit }

-- m, with this sort key, into the current occurrence of set s
abbrev pub placed_at : Lists → ℕ → DbKey → Option Value → Place → Edit
placed_at schema s m key place = PlaceMember (order_of schema s) place.at m key

-- the edit by which m, with this sort key, joins the current occurrence of set s
abbrev pub joining_edit : Lists → Unit → ℕ → DbKey → Option Value → CellEdit
joining_edit schema unit s m key =
    record { name = Ring s (place_of (joined_place schema unit s).owner); edit = placed_at schema s m key (joined_place schema unit s) }

-- done, with neither a key nor items
abbrev pub done_answer : Answer
done_answer = record { status = Done; key = None; items = None }

-- done, with this change of the unit alone, and with a key and items for the answer, or none
abbrev pub done_plan : UnitEdit → Option DbKey → Option (List Value) → Plan
done_plan change key items = record { answer = record { status = Done; key = key; items = items }; cells = []; versions = []; unit = change }

-- area a is opened for the unit in a mode, or closed: an edit of its usage cell, and the unit's mode
abbrev pub mode_plan : ℕ → Edit → Option Mode → Plan
mode_plan a edit mode = record { answer = done_answer; cells = record { name = Usage a; edit = edit } ∷ []; versions = []; unit = SetMode a mode }

-- the edits by which m joins the current occurrence of a set
abbrev pub joining_edits : Lists → Unit → ℕ → DbKey → Option Value → List CellEdit
joining_edits schema unit s m key =
    ring_edits s (option_map (λ place. place.owner) (place_in schema unit s))
    (unwrap_or (option_map (λ place. placed_at schema s m key place ∷ []) (place_in schema unit s)) [])

-- the owners of a record as STORE connects it
abbrev pub first_owners : Lists → Unit → ℕ → List (Option Owner)
first_owners schema unit t =
    map (λ s. if list_any (λ s'. s' == s) (automatic_sets schema t) then option_map (λ place. place.owner) (place_in schema unit s) else None) (set_numbers schema)

-- STORE of k: its number, its places in the automatic sets, the occurrences that it owns, its slot
abbrev pub store_edits : Lists → Unit → DbKey → List Value → List CellEdit
store_edits schema unit k items =
    record { name = Extent k.rtype; edit = EnterNumber k.number (calc_items schema k.rtype items) }
    ∷ (flat_map (λ s. joining_edits schema unit s k (key_item schema s k.rtype items)) (automatic_sets schema k.rtype)
    ++ (flat_map (λ s. record { name = Ring s (Some (k.rtype, k.number)); edit = OpenRing (Rec k) } ∷ []) (filter (λ s. owns schema s k.rtype) (set_numbers schema))
    ++ slot_edit k (Fill (first_version k.generation items (first_owners schema unit k.rtype))) ∷ []))

-- STORE of k: it is stored, and becomes current
abbrev pub storing : Lists → Unit → List Value → Suppress → DbKey → Plan
storing schema unit items suppress k = record {
  answer = record { status = Done; key = Some k; items = None };
  cells = store_edits schema unit k items;
  versions = [];
  unit = See k (first_owners schema unit k.rtype) suppress;
}

-- INSERT of k: its place in the current occurrence, its owner, its version; it becomes current of the set
abbrev pub inserting : Lists → StoredFacts → Unit → ℕ → DbKey → Plan
inserting schema view unit s k = record {
  answer = done_answer;
  cells = joining_edit schema unit s k (key_item schema s k.rtype (view.items k)) ∷ slot_edit k (ChangeOwner s (Some (joined_place schema unit s).owner)) ∷ slot_edit k RaiseVersion ∷ [];
  versions = (k, view.version k + 1) ∷ [];
  unit = Move s (record { owner = (joined_place schema unit s).owner; at = Some k });
}

-- REMOVE of k: out of its owner's list, no owner, its version
abbrev pub removing : StoredFacts → ℕ → DbKey → Plan
removing view s k = record {
  answer = done_answer;
  cells = ring_edits s (view.owner s k) (TakeOut k ∷ []) ++ slot_edit k (ChangeOwner s None) ∷ slot_edit k RaiseVersion ∷ [];
  versions = (k, view.version k + 1) ∷ [];
  unit = Leave s;
}

-- k, out of its list of set s and placed again by its new sort key
abbrev pub replacing_edits : Lists → StoredFacts → Unit → DbKey → List Value → ℕ → List CellEdit
replacing_edits schema view unit k items s =
    ring_edits s (view.owner s k) (ReplaceMember (order_of schema s) (option_and_then (λ place. place.at) (place_in schema unit s)) k (key_item schema s k.rtype items) ∷ [])

-- the CALC values of k, if an item among them is named
abbrev pub calc_edits : Lists → List Change → DbKey → List Value → List CellEdit
calc_edits schema changes k items =
    if names_calc schema k.rtype changes then record { name = Extent k.rtype; edit = ChangeNumber k.number (calc_items schema k.rtype items) } ∷ [] else []

-- k gets these items: its CALC values, its places if a sort key is named, its items, its version
abbrev pub modify_edits : Lists → StoredFacts → Unit → List Change → DbKey → List Value → List CellEdit
modify_edits schema view unit changes k items =
    calc_edits schema changes k items
    ++ (flat_map (replacing_edits schema view unit k items) (rekeyed_sets schema k.rtype (map (λ c. c.item) changes))
    ++ slot_edit k (ChangeItems items) ∷ (slot_edit k RaiseVersion ∷ []))

-- MODIFY of k
abbrev pub modifying : Lists → StoredFacts → Unit → List Change → DbKey → Plan
modifying schema view unit changes k = record {
  answer = done_answer;
  cells = modify_edits schema view unit changes k (changed_items changes (view.items k));
  versions = (k, view.version k + 1) ∷ [];
  unit = Same;
}

-- what is planned about a current, if there is one
abbrev pub planned_on_current : Option DbKey → (DbKey → Plan) → Plan
planned_on_current None plan = refusal NoCurrentOfRunUnit
planned_on_current (Some k) plan = plan k

-- what a statement plans that no check refuses; a FIND and a DELETE plan by what they look for, not by a view
abbrev pub done_plan_of : Lists → StoredFacts → Unit → Statement → Plan
done_plan_of schema view unit (OpenArea a mode) = mode_plan a (EnterUser unit.number mode) (Some mode)
done_plan_of schema view unit (CloseArea a) = mode_plan a (LeaveUser unit.number) None
done_plan_of schema view unit (Get r) = planned_on_current unit.currency.run_unit (λ k. done_plan Same (Some k) (Some (view.items k)))
done_plan_of schema view unit (Store t items suppress) = storing schema unit items suppress (view.fresh t)
done_plan_of schema view unit (Insert s) = planned_on_current unit.currency.run_unit (inserting schema view unit s)
done_plan_of schema view unit (Remove s) = planned_on_current unit.currency.run_unit (removing view s)
done_plan_of schema view unit (Modify t changes) = planned_on_current unit.currency.run_unit (modifying schema view unit changes)
done_plan_of schema view unit Keep = planned_on_current unit.currency.run_unit (λ k. done_plan (KeepEdit (noted k (view.version k) unit.kept)) None None)
done_plan_of schema view unit (Free true) = done_plan ForgetAll None None
done_plan_of schema view unit (Free false) = planned_on_current unit.currency.run_unit (λ k. done_plan (Forget k) None None)
done_plan_of schema view unit _ = done_plan Same None None
