use Rattle.std.proofs.Common.{◌∷◌, ◌∙◌, [], ap, sym, subst, length, length-append, arith, ℕ}
use Rattle.dbtg_schema.specs.Inside.Lookups.{EachAt}
use Rattle.dbtg_schema.specs.Inside.SetsOfTypes.{sets_alone, AreSetsOf}
use Rattle.dbtg_schema.proofs.Indexes.EachAt.{none_at, one_more_at}
use Rattle.dbtg_schema.proofs.sets_of_type.sets_of_each.Goals as goal

pub loop-t-init : goal.loop-t-init
loop-t-init c =
    let of_type = AreSetsOf (sets_alone c.args.sets.now) in
    let none = c.of-each.ensures ∙ c.new.ensures.items in
    record {
      many = ap length none;
      right = subst (EachAt of_type) (sym none) (none_at of_type);
    }

pub loop-t-preserved : goal.loop-t-preserved
loop-t-preserved c =
    let of_type = AreSetsOf (sets_alone c.args.sets.now) in
    let so_far = c.loop-t.invariant in
    let listed = c.in_ok-sets_of_type.field-0 in
    let more = subst (λ (t : ℕ). of_type t listed) c.new-in-loop-t.ensures c.in_ok-sets_of_type.ensures in
    let pushed = c.in_ok-push.ensures.ok in
    let longer = length-append c.loop-t.each (listed ∷ []) in
    let many = so_far.many in
    let same = ap length pushed in
    record {
      many = omega (arith, same, longer, many);
      right = subst (EachAt of_type) (sym pushed) (one_more_at of_type c.loop-t.each listed c.loop-t.t many so_far.right more);
    }
