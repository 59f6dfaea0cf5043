-- What the array of a state says of its programs.
-- m is a meeting, n the number of a state, u and v are units, i a place in what is said of a unit.
use Rattle.std.specs.Prelude.{ℕ, ◌-◌, ◌==◌, ◌&&◌, Bool, not, [], Option, Some, None, if◌then◌else◌, length, nat_lt, nat_le, option_map, slice_index_or, unwrap_or}
use Rattle.std.specs.List.{list_any, range_with_len}
use Rattle.dbtg_program.specs.declared.program.End.{End}
use Rattle.dbtg_program.specs.declared.program.End.TheVariants.{Assert, Size, Astray}
use Rattle.dbtg_program.specs.declared.program.Program.{Program}
use Rattle.dbtg_program.specs.Going.{line_number}
use Rattle.dbtg_step.specs.Machine.SequentialDatabase.{unit_at}
use Rattle.dbtg_states.specs.Numbers.{Numbers, content_at}
use Rattle.dbtg_explore.specs.Orders.{Meeting}

-- the number at a place of what is said of a unit; 0 if nothing is said there
abbrev pub said : Numbers → ℕ → ℕ → ℕ → ℕ
said kept n u i = slice_index_or (unwrap_or (content_at kept n (u - 1)) []) i 0

-- its program can go on
abbrev pub goes_on_in : Meeting → Numbers → ℕ → ℕ → Bool
goes_on_in m kept n u = nat_lt 0 u && (nat_le u (length m.programs) && said kept n u 1 == 1)

-- it is the last program, which waits
abbrev pub waits_in : Meeting → Numbers → ℕ → ℕ → Bool
waits_in m kept n u = m.last_waits && (u == length m.programs && list_any (goes_on_in m kept n) (range_with_len 1 (length m.programs - 1)))

-- it can have its turn
abbrev pub turns_in : Meeting → Numbers → ℕ → ℕ → Bool
turns_in m kept n u = goes_on_in m kept n u && not (waits_in m kept n u)

-- no program can go on
abbrev pub is_over_in : Meeting → Numbers → ℕ → Bool
is_over_in m kept n = not (list_any (goes_on_in m kept n) (range_with_len 1 (length m.programs)))

-- the number of the line of a program's sentence
abbrev pub line_of : Program → ℕ → ℕ
line_of program at = line_number program (record { at = at; values = []; status = 0 })

-- the line in which its statement stands, if it can go on
abbrev pub line_in : Meeting → Numbers → ℕ → ℕ → ℕ
line_in m kept n u = unwrap_or (option_map (λ program. line_of program (said kept n u 3)) (unit_at m.programs u)) 0

-- a unit beside this one keeps a record
abbrev pub keeps_beside : Numbers → ℕ → ℕ → ℕ → Bool
keeps_beside kept n u v = not (v == u) && not (said kept n v 0 == 0)

abbrev pub is_kept_beside : Meeting → Numbers → ℕ → ℕ → Bool
is_kept_beside m kept n u = list_any (keeps_beside kept n u) (range_with_len 1 (length m.programs))

-- how a program has failed for which this kind and this line are said
abbrev pub failure_of : ℕ → ℕ → Option End
failure_of kind line = if kind == 2 then Some (Assert line) else if kind == 3 then Some (Size line) else if kind == 4 then Some (Astray line) else None

abbrev pub fails_in : Numbers → ℕ → ℕ → Option End
fails_in kept n u = failure_of (said kept n u 2) (said kept n u 3)
