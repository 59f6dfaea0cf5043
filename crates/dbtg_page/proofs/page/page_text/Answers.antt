use Rattle.std.proofs.Common.{ℕ, List, ◌++◌, ap, drop, take, ◌∙◌}
use Rattle.dbtg_page.specs.Rows.{front_rows, page_text, run_rows}
use Rattle.dbtg_page.specs.declared.script.TheConstants.{SCRIPT}
use Rattle.dbtg_timeline.specs.Watching.{opening_core}
use Rattle.dbtg_page.proofs.page.page_text.Goals as goal

pub returns : goal.returns
unfolding page_text
returns c =
    let schema = c.args.schema.now in
    let told = c.args.told.now in
    let steps = c.args.steps.now in
    let front = front_rows schema (record { files = told.files.now; scripts = told.scripts.now; causes = told.causes.now }) in
    let run = run_rows steps.events (opening_core schema c.args.capacity c.args.statements) (take steps.before steps.moves.now)
    (drop steps.before steps.moves.now) in
    c.in_ok-extend_from_slice.ensures.items
    ∙ ap (λ (t : List ℕ). c.push_whole_run.new.out.items ++ t) c.as_bytes-2.ensures.value
    ∙ ap (λ (t : List ℕ). t ++ SCRIPT.now) (c.in_ok-push_whole_run.ensures ∙ ap (λ (t : List ℕ). t ++ run) (c.in_ok-push_front.ensures ∙ ap (λ (t : List ℕ). t ++ front) (c.in_ok-out.ensures.items ∙ c.as_bytes.ensures.value)))
