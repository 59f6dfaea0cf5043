use Rattle.std.proofs.Common.{◌≡◌, ◌++◌, take}
use Rattle.std.specs.List.{flat_map}
use Rattle.dbtg_script.specs.Printing.Texts.{opened_text}
use Rattle.dbtg_script.proofs.image.push_users.Given as goal

abbrev pub invariant-loop-user : goal.invariant-loop-user
invariant-loop-user l = l.out.items ≡ l.initial.out.items ++ flat_map opened_text (take l.user-index l.users)
