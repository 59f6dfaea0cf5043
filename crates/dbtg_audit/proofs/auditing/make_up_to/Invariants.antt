use Rattle.std.proofs.Common.{◌≡◌, ◌++◌, List, length, true}
use Rattle.std.specs.List.{list_all}
use Rattle.std.specs.Vec.Iter.{into_iter_items, into_iter_len}
use Rattle.dbtg_unit.specs.Database.Statements.Fits.{fits}
use Rattle.dbtg_trace.specs.Parts.{is_unit}
use Rattle.dbtg_trace.specs.declared.traced.Traced.{Traced}
use Rattle.dbtg_audit.specs.Inside.Audits.{HasMadeSo}
use Rattle.dbtg_audit.proofs.auditing.make_up_to.Given as goal

-- all that is said of the statements made so far holds, and the others are left
abbrev pub invariant-loop-one : goal.invariant-loop-one
invariant-loop-one l =
    (before : List Traced) × (before ++ into_iter_items l.one-iterator ≡ l.fn.traced) × HasMadeSo l.fn.statuses l.initial.database before l.database
    × (list_all (λ (t : Traced). fits l.initial.database.schema t.statement) (into_iter_items l.one-iterator) ≡ true) × (list_all (λ (t : Traced). is_unit l.initial.database.units t.unit) (into_iter_items l.one-iterator) ≡ true)
    × (into_iter_len l.one-iterator ≡ length (into_iter_items l.one-iterator))
