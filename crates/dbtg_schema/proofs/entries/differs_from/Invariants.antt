use Rattle.std.proofs.Common.{◌≡◌, drop}
use Rattle.std.specs.List.{list_any}
use Rattle.dbtg_schema.specs.Texts.Labels.{entries}
use Rattle.dbtg_schema.specs.Texts.SchemaFaults.{key_picture, unequal}
use Rattle.dbtg_schema.specs.declared.role.Role.TheVariants as role
use Rattle.dbtg_schema.specs.Inside.Views.{views}
use Rattle.dbtg_schema.proofs.entries.differs_from.Given as goal

abbrev pub invariant-loop-i : goal.invariant-loop-i
invariant-loop-i l =
    list_any (λ m. unequal (key_picture (views l.words) m) l.picture) (entries role.MemberEntry (views (drop l.i l.set)))
    ≡ list_any (λ m. unequal (key_picture (views l.words) m) l.picture) (entries role.MemberEntry (views l.set))
