use Rattle.std.proofs.Common.{◌≡◌, ℕ, List, [], ◌∷◌, ◌++◌, ap, ◌∙◌, subst}
use Rattle.std.specs.Prelude.{OnOk, codes}
use Rattle.std.proofs.lemmas.List.{append_assoc}
use Rattle.dbtg_step.specs.Core.Parts.{machine}
use Rattle.dbtg_page.specs.Json.{row}
use Rattle.dbtg_page.specs.Rows.{rows_of_moves}
use Rattle.dbtg_page.proofs.page.push_run.Goals as goal

pub returns : goal.returns
returns c =
    let core = machine c.args.core.now in
    let out = c.args.out.now.items in
    let shown = c.in_ok-shown.shown.items in
    let events = c.args.setting.now.events in
    let rest : List ℕ → List ℕ = λ t. rows_of_moves events t core c.args.moves.now in
    subst (λ (xs : List ℕ). OnOk c.push_each_move.result (c.push_each_move.new.out.items ≡ xs))
    (ap (λ (t : List ℕ). t ++ rest shown) (c.in_ok-push_row_of_one.ensures ∙ ap (λ (t : List ℕ). out ++ row (codes "STATE") (t ∷ [])) c.as_slice.ensures.value)
    ∙ append_assoc out (row (codes "STATE") (shown ∷ [])) (rest shown)
    ∙ ap (λ (t : List ℕ). out ++ (row (codes "STATE") (t ∷ []) ++ rest t)) c.in_ok-shown.ensures)
    c.push_each_move.ensures
