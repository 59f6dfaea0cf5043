use Rattle.std.proofs.Common.{◌≡◌, ◌++◌, ◌∙◌, ℕ, List, ap, subst}
use Rattle.std.specs.Prelude.{OnOk}
use Rattle.dbtg_page.specs.declared.changes.Kind.TheVariants.{Word}
use Rattle.dbtg_page.specs.Changes.{spaced}
use Rattle.dbtg_page.specs.Inside.Telling.{words_left}
use Rattle.dbtg_page.specs.Changes.Edit.{Stays}
use Rattle.dbtg_page.proofs.Telling.{at_end}
use Rattle.dbtg_page.proofs.changes.push_words.Goals as goal

pub returns : goal.returns
unfolding words_left
returns c =
    let end = at_end Word (λ o n. Stays) spaced
    (λ x. absurd x) c.args.both.now.before.now c.args.both.now.after.now c.loop-i.i c.loop-i.told c.loop-i-test.false in
    subst (λ (t : List ℕ). OnOk c.push_words_gone.result (c.push_words_gone.new.out.items ≡ t)) (ap (λ t. c.loop-i.out.items ++ t) end
    ∙ c.loop-i.invariant.text) c.push_words_gone.ensures
