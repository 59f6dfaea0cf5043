-- Records are named by their STOREs: facts that are the same except for numbers, and some that are not.
use Rattle.std.proofs.Common.{◌≡◌, List, ℕ, [], ◌∷◌, Some, None, true, false, refl}
use Rattle.dbtg_cells.specs.declared.key.DbKey.{DbKey}
use Rattle.dbtg_cells.specs.declared.key.Owner.TheVariants.{System}
use Rattle.dbtg_cells.specs.declared.key.Value.TheVariants.{Num}
use Rattle.dbtg_unit.specs.declared.statement.Statement.{Statement}
use Rattle.dbtg_unit.specs.declared.statement.Statement.TheVariants.{Get, Store}
use Rattle.dbtg_unit.specs.declared.statement.Suppress.{Suppress}
use Rattle.dbtg_unit.specs.declared.unit.Entry.{Entry}
use Rattle.dbtg_unit.specs.declared.unit.Status.TheVariants.{Done}
use Rattle.dbtg_step.specs.declared.results.Run.{Run}
use Rattle.dbtg_states.specs.Brief.{same_facts}
use Rattle.dbtg_states.specs.Named.{key_name, named, stored}

-- a record of a type by its number, in its first generation
abbrev record_of : ℕ → ℕ → DbKey
record_of t n = record { rtype = t; number = n; generation = 1 }

abbrev again : DbKey
again = record { rtype = 0; number = 1; generation = 2 }

abbrev made : ℕ → Statement → DbKey → Entry
made u x k = record { ticket = 0; unit = u; statement = x; answer = record { status = Done; key = Some k; items = None } }

abbrev nothing : Suppress
nothing = record { types = false; areas = false; sets = 0 }

-- a unit stores a record of the first type, and another reads one
abbrev stores : ℕ → DbKey → Entry
stores u k = made u (Store 0 [] nothing) k

abbrev reads : ℕ → DbKey → Entry
reads u k = made u (Get None) k

-- unit 1's records come first, whichever unit was faster; nobody here stored the record that is read
ordered_by_unit : stored (1 ∷ 2 ∷ []) (stores 2 (record_of 0 1) ∷ reads 1 (record_of 0 1) ∷ stores 1 (record_of 0 2) ∷ stores 2 (record_of 0 3) ∷ []) ≡ record_of 0 2 ∷ record_of 0 1 ∷ record_of 0 3 ∷ []
ordered_by_unit = refl

-- a name is the type and the place; a number that is used again names another record
second : key_name (record_of 0 2 ∷ record_of 0 1 ∷ []) (record_of 0 1) ≡ 0 ∷ 0 ∷ 1 ∷ []
second = refl

next_generation : key_name (record_of 0 1 ∷ again ∷ []) again ≡ 0 ∷ 0 ∷ 1 ∷ []
next_generation = refl

-- a record of another type keeps apart, and so does one that nobody stored
of_its_type : key_name (record_of 0 1 ∷ record_of 1 1 ∷ []) (record_of 1 1) ≡ 0 ∷ 1 ∷ 1 ∷ []
of_its_type = refl

not_stored : key_name (record_of 0 1 ∷ []) (record_of 1 1) ≡ 1 ∷ 1 ∷ 1 ∷ 1 ∷ []
not_stored = refl

-- unit 1 stores a 7; unit 2 stores an 8, which is its current of run-unit. They got the numbers n and k, and `next` is the least free one
abbrev run_with : ℕ → ℕ → ℕ → Run
run_with n k next = record {
  results = [];
  image = record {
    records = (record_of 0 n, Num 7 ∷ []) ∷ (record_of 0 k, Num 8 ∷ []) ∷ [];
    versions = [];
    lists = ((System, record_of 0 n ∷ record_of 0 k ∷ []) ∷ []) ∷ [];
    next = next ∷ [];
    last = [];
    usage = [] ∷ [];
  };
  history = stores 1 (record_of 0 n) ∷ stores 2 (record_of 0 k) ∷ [];
  units = record { number = 2; currency = record { run_unit = Some (record_of 0 k); types = Some (record_of 0 k) ∷ []; areas = None ∷ []; sets = None ∷ [] }; modes = None ∷ []; kept = (record_of 0 k, 3) ∷ [] } ∷ [];
}

-- the facts of such a run
abbrev facts : Run → List (List ℕ)
facts run = named (1 ∷ 2 ∷ []) run

-- exchanged numbers, and which number is free, make no difference
numbers_exchanged : same_facts (facts (run_with 1 2 3)) (facts (run_with 2 1 4)) ≡ true
numbers_exchanged = refl

-- in a similar run, unit 2 is current of unit 1's record
abbrev other_current : Run
other_current = record (run_with 1 2 3) {
  units = record { number = 2; currency = record { run_unit = Some (record_of 0 1); types = Some (record_of 0 2) ∷ []; areas = None ∷ []; sets = None ∷ [] }; modes = None ∷ []; kept = (record_of 0 2, 3) ∷ [] } ∷ [];
}

currents_tell : same_facts (facts (run_with 1 2 3)) (facts other_current) ≡ false
currents_tell = refl

-- the values are exchanged, but not the numbers
abbrev other_values : Run
other_values = record (run_with 1 2 3) {
  image = record {
    records = (record_of 0 1, Num 8 ∷ []) ∷ (record_of 0 2, Num 7 ∷ []) ∷ [];
    versions = [];
    lists = ((System, record_of 0 1 ∷ record_of 0 2 ∷ []) ∷ []) ∷ [];
    next = 3 ∷ [];
    last = [];
    usage = [] ∷ [];
  };
}

values_tell : same_facts (facts (run_with 1 2 3)) (facts other_values) ≡ false
values_tell = refl

-- members in another order tell results apart
abbrev other_order : Run
other_order = record (run_with 1 2 3) {
  image = record {
    records = (record_of 0 1, Num 7 ∷ []) ∷ (record_of 0 2, Num 8 ∷ []) ∷ [];
    versions = [];
    lists = ((System, record_of 0 2 ∷ record_of 0 1 ∷ []) ∷ []) ∷ [];
    next = 3 ∷ [];
    last = [];
    usage = [] ∷ [];
  };
}

orders_tell : same_facts (facts (run_with 1 2 3)) (facts other_order) ≡ false
orders_tell = refl
