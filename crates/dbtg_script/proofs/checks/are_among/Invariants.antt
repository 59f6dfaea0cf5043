use Rattle.std.proofs.Common.{◌≡◌, ◌==◌, map, drop}
use Rattle.std.specs.List.{list_all, list_any}
use Rattle.dbtg_script.specs.Labels.{texts}
use Rattle.dbtg_script.specs.Lookups.{item_no}
use Rattle.dbtg_script.specs.Inside.Views.{views}
use Rattle.dbtg_script.specs.declared.role.Role.TheVariants as role
use Rattle.dbtg_script.proofs.checks.are_among.Given as goal

abbrev pub invariant-loop-word : goal.invariant-loop-word
invariant-loop-word l =
    list_all (λ i. list_any (λ j. j == i) l.items) (map (item_no l.schema l.rtype) (texts role.ItemName (views (drop l.word-index l.words))))
    ≡ list_all (λ i. list_any (λ j. j == i) l.items) (map (item_no l.schema l.rtype) (texts role.ItemName (views l.words)))
