use Rattle.std.proofs.Common.{◌≡◌, ◌+◌, ◌++◌, [], ◌∷◌, take, sym, ap, ◌∙◌, subst, arith}
use Rattle.std.proofs.lemmas.List.{take_more}
use Rattle.dbtg_going.specs.Inside.Members.{AreAt}
use Rattle.dbtg_going.proofs.Together.{begins_also, nobody_yet}
use Rattle.dbtg_going.proofs.going.Programs.beginning.Goals as goal

pub loop-program-init : goal.loop-program-init
loop-program-init c = subst (λ ms. AreAt c.args.self.now.schema.now [] [] ms) (sym c.new-members.ensures.items) (nobody_yet c.args.self.now.schema.now)

pub loop-program-preserved : goal.loop-program-preserved
loop-program-preserved c =
    let schema = c.args.self.now.schema.now in
    let list = c.args.self.now.list.now in
    let i = c.loop-program.program-index in
    let p = c.program-item.result in
    let m = c.in_ok-beginning.field-0 in
    let front : take (i + 1) list ≡ take i list ++ p ∷ [] = take_more list i p (omega (arith, c.loop-program-test.true)) ∙ ap (λ q. take i list ++ q ∷ []) (sym c.program-item.is) in
    subst (λ ps. AreAt schema ps [] c.push.new.self.items) (sym front)
    (subst (λ ms. AreAt schema (take i list ++ p ∷ []) [] ms) (sym c.in_ok-push.ensures.items) (begins_also schema (take i list) c.loop-program.members.items p m c.loop-program.invariant c.in_ok-beginning.ensures))
