use Rattle.std.proofs.Common.{◌≡◌, ◌++◌, ◌∙◌, ℕ, List, ap, subst}
use Rattle.std.specs.Prelude.{OnOk}
use Rattle.dbtg_page.specs.declared.changes.Kind.TheVariants.{Line}
use Rattle.dbtg_page.specs.Json.{field}
use Rattle.dbtg_page.specs.Changes.{turned, word_ops}
use Rattle.dbtg_page.specs.Inside.Telling.{lines_left}
use Rattle.dbtg_page.proofs.Telling.{at_end}
use Rattle.dbtg_page.proofs.changes.push_lines.Goals as goal

pub returns : goal.returns
unfolding lines_left
returns c =
    let end = at_end Line turned field (word_ops 0) c.args.both.now.before.now c.args.both.now.after.now c.loop-i.i c.loop-i.told c.loop-i-test.false in
    subst (λ (t : List ℕ). OnOk c.push_lines_gone.result (c.push_lines_gone.new.out.items ≡ t)) (ap (λ t. c.loop-i.out.items ++ t) end
    ∙ c.loop-i.invariant.text) c.push_lines_gone.ensures
