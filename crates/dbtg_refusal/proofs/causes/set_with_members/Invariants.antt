use Rattle.std.proofs.Common.{◌≡◌, drop, length}
use Rattle.std.specs.Prelude.{nat_lt}
use Rattle.std.specs.List.{find, range_with_len}
use Rattle.dbtg_refusal.specs.Inside.Imaged.{members_in}
use Rattle.dbtg_refusal.proofs.causes.set_with_members.Given as goal

abbrev pub invariant-loop-s : goal.invariant-loop-s
invariant-loop-s l = find (λ s. nat_lt 0 (length (members_in l.image s l.owner))) (drop l.s (range_with_len 0 (length l.schema.sets)))
    ≡ find (λ s. nat_lt 0 (length (members_in l.image s l.owner))) (range_with_len 0 (length l.schema.sets))
