-- Words beside `Reading` that private functions and lemmas use.
use Rattle.std.specs.Prelude.{ℕ, ◌≤◌, List, Option}
use Rattle.std.specs.List.{flat_map, AllByRecursion}
use Rattle.dbtg_schema.specs.declared.limits.TheConstants.{MOST_AREAS, MOST_CALC_ITEMS, MOST_ITEMS, MOST_MEMBERS, MOST_RECORD_TYPES, MOST_SETS}
use Rattle.dbtg_schema.specs.declared.fault.Fault.{Fault}
use Rattle.dbtg_schema.specs.declared.role.Role.TheVariants as role
use Rattle.dbtg_schema.specs.Lookups.{first}
use Rattle.dbtg_schema.specs.Texts.Words.{Word}
use Rattle.dbtg_schema.specs.Texts.SchemaGrammar.{Form, Labelled}
use Rattle.dbtg_schema.specs.Texts.Labels.{count_of, until, entries}
use Rattle.dbtg_schema.specs.Texts.SchemaFaults.{places}

-- the first fault from here on
unfoldable pub verdict : ℕ → List Labelled → Form → List Word → Option Fault
verdict end ws wanted left = first (flat_map (λ here. here) (places end ws wanted left))

-- there are no more entries in these words than numbers for them
pub record WithinLimits (ws : List Labelled) : Type 0 where
  pub areas : count_of role.AreaEntry ws ≤ MOST_AREAS
  pub types : count_of role.RecordEntry (until role.SetEntry ws) ≤ MOST_RECORD_TYPES
  pub sets : count_of role.SetEntry ws ≤ MOST_SETS
  pub items : AllByRecursion (λ e. count_of role.ItemEntry e ≤ MOST_ITEMS) (entries role.RecordEntry (until role.SetEntry ws))
  pub calc : AllByRecursion (λ e. count_of role.CalcItem e ≤ MOST_CALC_ITEMS) (entries role.RecordEntry (until role.SetEntry ws))
  pub members : AllByRecursion (λ e. count_of role.MemberEntry e ≤ MOST_MEMBERS) (entries role.SetEntry ws)
