-- At first no state is ruled out. One more unit rules out states rightly.
use Rattle.std.proofs.Common.{◌≡◌, sym, ◌∙◌, ap, subst, Bool, false, Vec, Global, length, arith}
use Rattle.std.proofs.lemmas.List.{length-replicate, with_items_is}
use Rattle.dbtg_rounds.specs.Inside.Ruling.{AreLeft, AreRuled}
use Rattle.dbtg_rounds.proofs.Ranks.{none_ruled, ruled_more}
use Rattle.dbtg_rounds.proofs.ruling.ruled_by.Goals as goal
use Rattle.dbtg_rounds.proofs.ruling.ruled_by.Goals.{then-loop-unit-test+in_ok-left+else-unit-unit-end, else-loop-unit-test}

pub returns-then-not-are_falling : goal.returns-then-not-are_falling
returns-then-not-are_falling c = none_ruled c.args.edges.now _ c.in_ok-ruled.ruled.items (c.in_ok-ruled.ensures.items_if_clones_equal (λ y e. e))

pub loop-unit-init : goal.loop-unit-init
loop-unit-init c =
    let items = c.in_ok-ruled.ensures.items_if_clones_equal (λ y e. e) in
    record {
      long = ap length items ∙ length-replicate (length c.args.ranks.now) false;
      right = none_ruled c.args.edges.now _ c.in_ok-ruled.ruled.items items;
    }

pub rule_out-requires-clause-ruled : goal.rule_out-requires-clause-ruled
rule_out-requires-clause-ruled c = ap length c.as_mut_slice.ensures.value ∙ c.loop-unit.invariant.long

pub loop-unit-preserved : goal.loop-unit-preserved
loop-unit-preserved c =
    let es = c.args.edges.now in
    let marks = with_items_is c.loop-unit.ruled c.rule_out.new.ruled (omega (arith, c.rule_out.auto.ruled, c.as_mut_slice.ensures.len)) in
    let are = subst (AreLeft c.args.ranks.now es c.loop-unit.unit) (sym c.as_slice.ensures.value) c.in_ok-left.ensures in
    let before = subst (AreRuled es) (sym c.as_mut_slice.ensures.value) c.loop-unit.invariant.right in
    record {
      long = omega (arith, ap length marks, c.rule_out.auto.ruled, ap length c.as_mut_slice.ensures.value, c.loop-unit.invariant.long);
      right = subst (AreRuled es) (sym marks) (ruled_more c.args.ranks.now es c.loop-unit.unit c.as_slice.result.now c.as_mut_slice.result.now c.rule_out.new.ruled (c.are_falling.ensures c.if-not-are_falling.false) are c.rule_out.ensures before);
    }

pub returns : goal.returns
returns c =
    let es = c.args.edges.now in
    elim c.loop-unit-test.branch [
      | then-loop-unit-test+in_ok-left+else-unit-unit-end w ↦
          let marks : c.loop-unit-test.ruled.items ≡ w.rule_out.new.ruled = (λ i. (w.ruled-is i).items) ∙ with_items_is c.loop-unit.ruled w.rule_out.new.ruled (omega (arith, w.rule_out.auto.ruled, w.as_mut_slice.ensures.len)) in
          let are = subst (AreLeft c.args.ranks.now es c.loop-unit.unit) (sym w.as_slice.ensures.value) w.in_ok-left.ensures in
          let before = subst (AreRuled es) (sym w.as_mut_slice.ensures.value) c.loop-unit.invariant.right in
          subst (AreRuled es) (sym marks) (ruled_more c.args.ranks.now es c.loop-unit.unit w.as_slice.result.now w.as_mut_slice.result.now w.rule_out.new.ruled (c.are_falling.ensures c.if-not-are_falling.false) are w.rule_out.ensures before)
      | else-loop-unit-test w ↦ subst (λ (v : Vec Bool Global). AreRuled es v.items) (sym w.ruled-is) c.loop-unit.invariant.right
    ]
