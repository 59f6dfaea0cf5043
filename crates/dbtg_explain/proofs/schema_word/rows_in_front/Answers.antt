use Rattle.std.proofs.Common.{◌∙◌, ◌-◌, ℕ, List, ap, length, map, min, sym, take}
use Rattle.std.specs.Borrow.{Bor}
use Rattle.std.proofs.lemmas.List.{take-map, take_min}
use Rattle.dbtg_explain.proofs.schema_word.rows_in_front.Goals as goal

pub returns : goal.returns
returns c =
    let rows = c.args.rows.now in
    let text = λ (row : Bor (List ℕ)). row.now in
    let count = c.min-count.ensures ∙ ap (λ (n : ℕ). min n (length rows)) c.saturating_sub.ensures in
    ap (λ (n : ℕ). map text (take n rows)) count ∙ ap (map text) (take_min (c.args.line - 1) rows) ∙ sym (take-map text (c.args.line - 1) rows)
