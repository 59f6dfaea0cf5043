use Rattle.std.proofs.Common.{◌∷◌, ◌++◌, [], ap, ◌∙◌}
use Rattle.dbtg_step.proofs.MadeWhole.Reversals.{made_one_more}
use Rattle.dbtg_step.proofs.reversible.ReversibleDatabase.make.Goals as goal

pub invariant_of-self-2 : goal.invariant_of-self-2
invariant_of-self-2 c =
    let way = c.in_ok-way.way in
    (made_one_more c.self.inside.database c.make_with_way.new.self c.args.unit c.args.statement c.self.inside.ways.items c.push_reserved.new.self.items way c.self.invariant c.in_ok-way.ensures.made c.in_ok-way.ensures.back
    (c.push_reserved.ensures.items ∙ ap (λ ws. ws ++ way ∷ []) c.reserve.ensures.items)).0
