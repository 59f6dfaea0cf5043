-- What a run leaves behind, with each record named by its STORE in place of its number and generation.
-- stored are the keys of all records that units stored; a fact is something that a run leaves behind, spelled as numbers: first its
-- kind, then its unit or set, and then the thing; u is a unit.
use Rattle.std.specs.Prelude.{ℕ, ◌+◌, List, [], ◌∷◌, ◌++◌, Option, Some, None, flat_map, map, option_to_list, position}
use Rattle.dbtg_cells.specs.declared.key.DbKey.{DbKey}
use Rattle.dbtg_cells.specs.declared.key.Owner.{Owner}
use Rattle.dbtg_cells.specs.declared.key.Owner.TheVariants.{System, Rec}
use Rattle.dbtg_cells.specs.declared.usage.Mode.{Mode}
use Rattle.dbtg_cells.specs.Keys.{key_eq}
use Rattle.dbtg_unit.specs.declared.statement.Statement.{Statement}
use Rattle.dbtg_unit.specs.declared.statement.Statement.TheVariants.{Store}
use Rattle.dbtg_unit.specs.declared.unit.Currency.{Currency}
use Rattle.dbtg_unit.specs.declared.unit.Entry.{Entry}
use Rattle.dbtg_unit.specs.declared.unit.Place.{Place}
use Rattle.dbtg_unit.specs.declared.unit.Unit as unit
use Rattle.dbtg_unit.specs.Database.Laws.Replay.{entries_of}
use Rattle.dbtg_unit.specs.Database.State.Image.{Image}
use Rattle.dbtg_step.specs.declared.results.Run.{Run}
use Rattle.dbtg_states.specs.Users.{by_unit}
use Rattle.dbtg_states.specs.Spelling.{key_numbers, list_numbers, mode_numbers, one_number, option_numbers, pair_numbers, value_numbers}

-- THE NAMES OF RECORDS

-- the key of the record that a statement stored
abbrev pub stored_by : Statement → List DbKey → List DbKey
stored_by (Store t items suppress) keys = keys
stored_by _ keys = []

-- the keys of the records that the units stored: unit by unit, and for each unit in the order in which it stored them
abbrev pub stored : List ℕ → List Entry → List DbKey
stored units history = flat_map (λ u. flat_map (λ e. stored_by e.statement (option_to_list e.answer.key)) (entries_of u history)) units

-- the name of a record: its type, and how many were stored before it; if no STORE gave the key, the whole key
abbrev pub name_at : DbKey → Option ℕ → List ℕ
name_at k (Some place) = 0 ∷ k.rtype ∷ place ∷ []
name_at k None = 1 ∷ key_numbers k

abbrev pub key_name : List DbKey → DbKey → List ℕ
key_name stored k = name_at k (position (λ j. key_eq j k) stored)

-- THINGS WITH SUCH NAMES

abbrev pub owner_name : List DbKey → Owner → List ℕ
owner_name stored System = 0 ∷ []
owner_name stored (Rec k) = 1 ∷ key_name stored k

abbrev pub place_name : List DbKey → Place → List ℕ
place_name stored p = owner_name stored p.owner ++ option_numbers (key_name stored) p.at

abbrev pub currency_name : List DbKey → Currency → List ℕ
currency_name stored c =
    option_numbers (key_name stored) c.run_unit ++ (list_numbers (option_numbers (key_name stored)) c.types
    ++ (list_numbers (option_numbers (key_name stored)) c.areas ++ list_numbers (option_numbers (place_name stored)) c.sets))

-- FACTS

abbrev pub fact : ℕ → ℕ → List ℕ → List ℕ
fact kind of numbers = kind ∷ of ∷ numbers

-- the currents of a unit, and each record that it keeps, with the version
abbrev pub unit_facts : List DbKey → unit.Unit → List (List ℕ)
unit_facts stored u =
    fact 1 u.number (currency_name stored u.currency) ∷ map (λ e. fact 2 u.number (pair_numbers (key_name stored) one_number e)) u.kept

-- the lists of sets, the first of them set s: each with its owner and its members in their order
abbrev pub list_facts : List DbKey → ℕ → List (List (Owner × List DbKey)) → List (List ℕ)
list_facts stored s [] = []
list_facts stored s (lists ∷ rest) =
    map (λ l. fact 3 s (pair_numbers (owner_name stored) (list_numbers (key_name stored)) l)) lists ++ list_facts stored (s + 1) rest

-- who has which area open, in the order of the units
abbrev pub usage_fact : List ℕ → List (List (ℕ × Mode)) → List ℕ
usage_fact units usage = fact 4 0 (list_numbers (list_numbers (pair_numbers one_number mode_numbers)) (map (by_unit units) usage))

-- the records, and the lists of all sets. Which numbers are free is left out
abbrev pub image_facts : List DbKey → Image → List (List ℕ)
image_facts stored image = map (λ r. fact 5 0 (pair_numbers (key_name stored) (list_numbers value_numbers) r)) image.records ++ list_facts stored 0 image.lists

-- all that these units leave behind in a run: their currents and what they keep, and what is in the database
abbrev pub named : List ℕ → Run → List (List ℕ)
named units run =
    let keys = stored units run.history in
    flat_map (unit_facts keys) run.units ++ usage_fact units run.image.usage ∷ image_facts keys run.image
