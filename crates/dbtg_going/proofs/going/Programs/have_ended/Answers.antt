use Rattle.std.proofs.Common.{rules, ◌≡◌, ◌+◌, ◌-◌, true, false, length, sym, ap, ◌∙◌, subst, arith}
use Rattle.std.specs.Prelude.{is_none}
use Rattle.std.specs.List.{list_all, range_with_len}
use Rattle.dbtg_going.specs.Turns.{statement_of}
use Rattle.dbtg_going.proofs.FirstAndLast.{fails_at, holds_also}
use Rattle.dbtg_going.proofs.going.Programs.have_ended.Goals as goal

pub returns-then-not-has_ended : goal.returns-then-not-has_ended
returns-then-not-has_ended c = λ making w.
    let ended : c.has_ended.result ≡ false = search (rules, c.if-not-has_ended.true) in
    let number : 1 + c.loop-before.before ≡ c.loop-before.before + 1 = omega arith in
    sym (fails_at (λ u. is_none (statement_of c.args.self.now.schema.now c.args.self.now.list.now making.history u)) 1 (length c.args.self.now.list.now - 1) c.loop-before.before (omega (arith, c.loop-before-test.true, c.saturating_sub-others.ensures, c.requires.few))
    (ap (λ u. is_none (statement_of c.args.self.now.schema.now c.args.self.now.list.now making.history u)) number ∙ sym (c.has_ended.ensures making w) ∙ ended))

pub loop-before-preserved : goal.loop-before-preserved
loop-before-preserved c = λ making w.
    let ended : c.has_ended.result ≡ true = search (rules, c.if-not-has_ended.false) in
    holds_also _ c.loop-before.before (c.loop-before.invariant making w) (sym (c.has_ended.ensures making w) ∙ ended)

pub returns : goal.returns
returns c = λ making w.
    let all : c.loop-before.before ≡ length c.args.self.now.list.now - 1 = omega (arith, c.loop-before-test.false, c.loop-before.auto.before-end, c.saturating_sub-others.ensures, c.requires.few) in
    sym (subst (λ n. list_all (λ u. is_none (statement_of c.args.self.now.schema.now c.args.self.now.list.now making.history u)) (range_with_len 1 n) ≡ true) all (c.loop-before.invariant making w))
