use Rattle.std.proofs.Common.{◌≡◌, ◌++◌, map, drop}
use Rattle.dbtg_script.specs.Labels.{texts}
use Rattle.dbtg_script.specs.Statements.{change_of, changes_of}
use Rattle.dbtg_script.specs.Inside.Views.{views}
use Rattle.dbtg_script.specs.declared.role.Role.TheVariants as role
use Rattle.dbtg_script.proofs.statement.changes_of.Given as goal

abbrev pub invariant-loop-word : goal.invariant-loop-word
invariant-loop-word l =
    l.changes.items ++ map (change_of l.schema l.rtype (views l.words)) (texts role.ItemName (views (drop l.word-index l.words)))
    ≡ changes_of l.schema l.rtype (views l.words)
