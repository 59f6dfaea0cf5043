-- The history of a core is that of the machine that it is.
use Rattle.std.proofs.Common.{◌≡◌, ℕ, List, [], ◌∷◌, map, refl, ap}
use Rattle.dbtg_schema.specs.Lists.{Lists}
use Rattle.dbtg_unit.specs.declared.unit.Entry.{Entry}
use Rattle.dbtg_step.specs.Machine.Headline.{entry_of}
use Rattle.dbtg_step.specs.Core.Parts.{CoreParts, machine, note_of, state_from}

same_entries : (schema : Lists) (capacity : ℕ) (history : List Entry) → history ≡ map (entry_of {schema = schema} {capacity = capacity}) (map (note_of {schema = schema} {capacity = capacity}) history)
same_entries schema capacity [] = refl
same_entries schema capacity (e ∷ es) = ap (λ (xs : List Entry). e ∷ xs) (same_entries schema capacity es)

pub history_shown : (c : CoreParts) → c.history ≡ map entry_of (machine c).state.history
unfolding state_from
history_shown c = same_entries c.schema c.capacity c.history
