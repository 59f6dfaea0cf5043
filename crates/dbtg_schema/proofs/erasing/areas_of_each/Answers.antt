use Rattle.std.proofs.Common.{Bool, List, [], ◌∷◌, ◌∙◌, ap, sym, subst, length, length-append, arith}
use Rattle.dbtg_schema.specs.Inside.Erasing.{AreErased, AreErasedOfEach}
use Rattle.dbtg_schema.proofs.Indexes.EachAt.{none_at, one_more_at}
use Rattle.dbtg_schema.proofs.erasing.areas_of_each.Goals as goal

pub loop-t-init : goal.loop-t-init
loop-t-init c =
    let none = c.of-each.ensures ∙ c.new.ensures.items in
    record {
      many = ap length none;
      right = subst (λ (each : List (List Bool)). AreErasedOfEach each c.args.schema.now) (sym none) (none_at (AreErased c.args.schema.now));
    }

pub loop-t-preserved : goal.loop-t-preserved
loop-t-preserved c =
    let schema = c.args.schema.now in
    let so_far = c.loop-t.invariant in
    let marks = c.areas_reached.result in
    let pushed = c.in_ok-push.ensures.ok in
    let more = subst (λ t. AreErased schema t marks) c.new-in-loop-t.ensures c.areas_reached.ensures in
    let longer = length-append c.loop-t.each (marks ∷ []) in
    let many = so_far.many in
    let same = ap length pushed in
    record {
      many = omega (arith, same, longer, many);
      right = subst (λ (each : List (List Bool)). AreErasedOfEach each schema) (sym pushed) (one_more_at (AreErased schema) c.loop-t.each marks c.loop-t.t many so_far.right more);
    }

pub returns : goal.returns
returns c = c.loop-t.invariant.right
