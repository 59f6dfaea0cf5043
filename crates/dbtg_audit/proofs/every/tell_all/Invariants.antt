use Rattle.std.proofs.Common.{◌≡◌, ◌++◌, List, length, true}
use Rattle.std.specs.List.{list_all}
use Rattle.std.specs.Vec.Iter.{into_iter_items, into_iter_len}
use Rattle.dbtg_unit.specs.Database.Statements.Fits.{fits}
use Rattle.dbtg_trace.specs.Parts.{is_unit}
use Rattle.dbtg_trace.specs.declared.traced.Traced.{Traced}
use Rattle.dbtg_audit.specs.Inside.Audits.{HasToldAll}
use Rattle.dbtg_audit.proofs.every.tell_all.Given as goal

-- all that differs in the statements made so far is reported, and the others are left
abbrev pub invariant-loop-one : goal.invariant-loop-one
invariant-loop-one l =
    (before : List Traced) × (before ++ into_iter_items l.one-iterator ≡ l.fn.traced) × HasToldAll l.fn.statuses l.schema l.initial.database before l.database l.initial.out.items l.out.items l.so
    × (list_all (λ (t : Traced). fits l.initial.database.schema t.statement) (into_iter_items l.one-iterator) ≡ true) × (list_all (λ (t : Traced). is_unit l.initial.database.units t.unit) (into_iter_items l.one-iterator) ≡ true)
    × (into_iter_len l.one-iterator ≡ length (into_iter_items l.one-iterator))
