use Rattle.std.proofs.Common.{◌∙◌, ℕ, [], ◌∷◌, ◌++◌, ap, get_or}
use Rattle.dbtg_explore.specs.Inside.Found.{FoundOrders}
use Rattle.dbtg_explore.proofs.Entering.{number_entered, number_entered_before, number_stored}
use Rattle.dbtg_explore.proofs.known.Known.enter.Goals as goal

pub returns-in_ok-push-clause-entered : goal.returns-in_ok-push-clause-entered
returns-in_ok-push-clause-entered c =
    number_entered c.self.inside.keys.keys c.insert_full.new.self.keys c.args.number c.in_ok-place.is_new c.in_ok-place.ensures.added c.in_ok-place.ensures.keys c.self.inside.orders c.args.self.now c.self.view_is _ c.push.new.self c.if-is_new.true
    (c.in_ok-push.ensures ∙ ap (λ (f : FoundOrders ℕ). c.self.inside.orders ++ (get_or f.orders c.args.before [] ++ c.args.unit ∷ []) ∷ []) c.self.view_is)

pub returns-else-is_new-clause-entered : goal.returns-else-is_new-clause-entered
returns-else-is_new-clause-entered c =
    number_entered_before c.self.inside.keys.keys c.insert_full.new.self.keys c.args.number c.in_ok-place.is_new c.in_ok-place.ensures.added c.in_ok-place.ensures.keys c.self.inside.orders c.args.self.now c.self.view_is _ c.if-is_new.false

pub returns-in_ok-push-clause-place : goal.returns-in_ok-push-clause-place
returns-in_ok-push-clause-place c = number_stored c.insert_full.new.self.keys c.in_ok-place.place c.args.number c.in_ok-place.ensures.stored

pub returns-else-is_new-clause-place : goal.returns-else-is_new-clause-place
returns-else-is_new-clause-place c = number_stored c.insert_full.new.self.keys c.in_ok-place.place c.args.number c.in_ok-place.ensures.stored
