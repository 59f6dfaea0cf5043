use Rattle.std.proofs.Common.{◌≡◌, ℕ, Option, length}
use Rattle.dbtg_cells.specs.declared.key.Owner.{Owner}
use Rattle.dbtg_unit.specs.Hands.Needs.{guessed_sets}
use Rattle.dbtg_unit.proofs.Public.{rewritten}
use Rattle.dbtg_plan.specs.Inside.Stale.{wrong_owner_in, wrong_owners_in}
use Rattle.dbtg_plan.proofs.stale.wrong_owners_in.Given as goal

-- the owners that are found stand by their sets, and the others come
abbrev pub invariant-loop-s : goal.invariant-loop-s
invariant-loop-s l =
    record {
      finishes : rewritten (λ (e : ℕ × Option Owner). wrong_owner_in l.held (guessed_sets l.schema l.unit l.statement) l.key e.0) 0 l.s l.owners ≡ wrong_owners_in l.schema l.unit l.held l.statement l.key;
      as_long : length l.owners ≡ length l.schema.sets;
    }
