use Rattle.std.proofs.Common.{◌≡◌, ◌-◌, false, drop, length}
use Rattle.std.specs.List.{list_any}
use Rattle.dbtg_schema.specs.Texts.Labels.{is}
use Rattle.dbtg_schema.specs.Inside.Views.{views}
use Rattle.dbtg_schema.proofs.queries.since.Given as goal

abbrev pub invariant-loop-behind : goal.invariant-loop-behind
invariant-loop-behind l = list_any (is l.role) (views (drop (length l.words - l.behind) l.words)) ≡ false
