use Rattle.std.proofs.Common.{refl}
use Rattle.dbtg_page.specs.declared.changes.Kind.TheVariants.{Word}
use Rattle.dbtg_page.specs.Changes.{spaced}
use Rattle.dbtg_page.specs.Inside.Telling.{words_left}
use Rattle.dbtg_page.specs.Changes.Edit.{Stays}
use Rattle.dbtg_page.proofs.Telling.{comes, met_moved, stays_on}
use Rattle.dbtg_page.proofs.changes.push_word.Goals as goal

pub returns-in_ok-push_word_op-in-None-clause-text :
    goal.returns-in_ok-push_word_op-in-None-clause-text
unfolding words_left
returns-in_ok-push_word_op-in-None-clause-text c =
    comes Word (λ o n. Stays) spaced
    (λ x. absurd x) c.args.both.now.before.now c.args.both.now.after.now c.args.i _ c.requires.new c.args.told c.args.out.now.items c.push_word_op.new.out.items
    (met_moved Word c.behind.result.now _ c.behind-2.result.now _ _ c.met.result _ c.met.ensures.met c.in-None.is c.behind.ensures c.behind-2.ensures) c.in_ok-push_word_op-in-None.ensures

pub returns-in_ok-push_words_gone-in-Some-clause-text :
    goal.returns-in_ok-push_words_gone-in-Some-clause-text
unfolding words_left
returns-in_ok-push_words_gone-in-Some-clause-text c =
    rw c.behind_met.ensures (stays_on Word (λ o n. Stays) spaced
    (λ x. absurd x) c.args.both.now.before.now c.args.both.now.after.now c.args.i _ c.requires.new c.args.told c.in-Some.count c.args.out.now.items c.push_words_gone.new.out.items
    (met_moved Word c.behind.result.now _ c.behind-2.result.now _ _ c.met.result _ c.met.ensures.met c.in-Some.is c.behind.ensures c.behind-2.ensures) refl c.in_ok-push_words_gone-in-Some.ensures)
