-- How the names of the held cells are found again.
use Rattle.std.specs.Prelude.{◌≡◌, ℕ, ◌≤◌, Bool, false, ◌&&◌, ◌==◌, cond, nat_lt, List, length, Option, Some, None}
use Rattle.std.specs.List.{position_from}
use Rattle.std.specs.Option.{option_map_or, option_or}
use Rattle.dbtg_cells.specs.declared.name.CellName.{CellName}
use Rattle.dbtg_cells.specs.declared.name.CellName.TheVariants.{Usage, Extent, Ring, Slot}
use Rattle.dbtg_cells.specs.declared.numbering.Layout.{Layout}
use Rattle.dbtg_cells.specs.Names.{name_eq}
use Rattle.dbtg_unit.specs.declared.names.TheConstants.{NAMES_IN_PLACE}
use Rattle.dbtg_unit.specs.declared.names.FirstNames.{FirstNames}
use Rattle.dbtg_unit.specs.declared.names.FirstNames.TheVariants.{InPlace, Numbered}
use Rattle.dbtg_unit.specs.declared.names.NameKey.{NameKey}
use Rattle.dbtg_unit.specs.Hands.Hands.{StandAtNumbers}

-- the same key
abbrev pub key_eq : NameKey → NameKey → Bool
key_eq a b = (a.kind == b.kind) && ((a.of == b.of) && ((a.owner == b.owner) && (a.number == b.number)))

-- what the index reads of a name
abbrev pub name_key : CellName → NameKey
name_key (Usage a) = record { kind = 0; of = a; owner = 0; number = 0 }
name_key (Extent t) = record { kind = 1; of = t; owner = 0; number = 0 }
name_key (Ring s None) = record { kind = 2; of = s; owner = 0; number = 0 }
name_key (Ring s (Some o)) = record { kind = 3; of = s; owner = o.0; number = o.1 }
name_key (Slot t n) = record { kind = 4; of = t; owner = 0; number = n }

-- how many of the held names the index doesn't lead to
abbrev pub first_count : FirstNames → ℕ
first_count InPlace = NAMES_IN_PLACE
first_count (Numbered layout count) = count

-- a place, if it lies past this many first names
abbrev pub past : ℕ → Option ℕ → Option ℕ
past count None = None
past count (Some p) = cond (nat_lt p count) None (Some p)

-- an index leads from each name to where it first stands, if that lies past this many first names
abbrev pub IsIndexOf : (NameKey → Option ℕ) → ℕ → List CellName → Type 0
IsIndexOf index count names = (c : CellName) → index (name_key c) ≡ past count (position_from (name_eq c) 0 names)

-- where the first names are numbered, they are there, and each stands at its cell's number
abbrev pub AreNumbered : FirstNames → List CellName → Type 0
AreNumbered first names = (layout : Layout) (count : ℕ) → first ≡ Numbered layout count → (count ≤ length names) × StandAtNumbers layout count names

-- the first names, no more of them numbered than this
abbrev pub up_to : ℕ → FirstNames → FirstNames
up_to most InPlace = InPlace
up_to most (Numbered layout count) = Numbered layout (cond (nat_lt most count) most count)

-- the index that has taken a name at a place, past this many first names: it leads there, if it led nowhere
abbrev pub entered : (NameKey → Option ℕ) → ℕ → NameKey → ℕ → NameKey → Option ℕ
entered index count k place q = cond (nat_lt place count) (index q) (option_or (index q) (cond (key_eq k q) (Some place) None))

-- the index that has given up the name at a place, past this many first names: it leads nowhere, if it led there
abbrev pub left : (NameKey → Option ℕ) → ℕ → NameKey → ℕ → NameKey → Option ℕ
left index count k place q = cond (nat_lt place count) (index q) (cond (key_eq k q && option_map_or (λ p. p == place) (index k) false) None (index q))
