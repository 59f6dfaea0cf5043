use Rattle.std.proofs.Common.{◌∙◌, ◌<◌, ◌≤◌, inl, inr, drop, length, map, sym, take, ap, arith}
use Rattle.std.proofs.lemmas.List.{length-map}
use Rattle.std.specs.Prelude.{reverse}
use Rattle.std.specs.Vec.{vec_items, vec_len}
use Rattle.dbtg_step.specs.Machine.SequentialDatabase.{with_unit_at}
use Rattle.dbtg_step.proofs.MadeWhole.TurnsWhole.{last_taken, left_there, left_written, nothing_beyond, set_nothing}
use Rattle.dbtg_step.proofs.running.next_statement.Goals as goal
use Rattle.dbtg_step.proofs.running.next_statement.Goals.{then-unit-eq0-via-then-unit-eq0, then-unit-eq0-via-else-unit-eq0+then-len-unit}

pub returns-then-unit-eq0-clause-given : goal.returns-then-unit-eq0-clause-given
returns-then-unit-eq0-clause-given c =
    let left = map (λ v. reverse (vec_items v)) c.args.left.now.items in
    let many = length-map c.args.left.now.items (λ v. reverse (vec_items v)) in
    let none = nothing_beyond left c.args.unit (elim c.then-unit-eq0.branch [
      | then-unit-eq0-via-then-unit-eq0 w ↦ inl (omega arith)
      | then-unit-eq0-via-else-unit-eq0+then-len-unit w ↦ inr (omega (arith, w.if-len-unit.true, w.len.ensures, many))
    ]) in
    ap (take 1) (sym none)

pub returns-then-unit-eq0-clause-left : goal.returns-then-unit-eq0-clause-left
returns-then-unit-eq0-clause-left c =
    let left = map (λ v. reverse (vec_items v)) c.args.left.now.items in
    let many = length-map c.args.left.now.items (λ v. reverse (vec_items v)) in
    let none = nothing_beyond left c.args.unit (elim c.then-unit-eq0.branch [
      | then-unit-eq0-via-then-unit-eq0 w ↦ inl (omega arith)
      | then-unit-eq0-via-else-unit-eq0+then-len-unit w ↦ inr (omega (arith, w.if-len-unit.true, w.len.ensures, many))
    ]) in
    sym (set_nothing left c.args.unit none) ∙ ap (λ xs. with_unit_at left c.args.unit (drop 1 xs)) (sym none)

pub returns-clause-given : goal.returns-clause-given
returns-clause-given c =
    let left = c.args.left.now.items in
    let script = c.index_mut.result.now in
    let numbered : 0 < c.args.unit = omega (arith, c.if-unit-eq0.false) in
    let within : c.args.unit ≤ length left = omega (arith, c.if-len-unit.false, c.len.ensures) in
    let there = left_there (λ v. reverse (vec_items v)) left c.args.unit script numbered within c.index_mut.ensures.value in
    let rest = c.pop.new.self in
    (last_taken script.items rest.items c.pop.result (vec_len script) (vec_len rest) c.pop.ensures.items script.ok.0 c.pop.ensures.cases).0
    ∙ ap (take 1) (sym there)

pub returns-clause-left : goal.returns-clause-left
returns-clause-left c =
    let left = c.args.left.now.items in
    let script = c.index_mut.result.now in
    let numbered : 0 < c.args.unit = omega (arith, c.if-unit-eq0.false) in
    let within : c.args.unit ≤ length left = omega (arith, c.if-len-unit.false, c.len.ensures) in
    let there = left_there (λ v. reverse (vec_items v)) left c.args.unit script numbered within c.index_mut.ensures.value in
    let after = c.pop.new.self in
    let rest = (last_taken script.items after.items c.pop.result (vec_len script) (vec_len after) c.pop.ensures.items script.ok.0 c.pop.ensures.cases).1 in
    left_written (λ v. reverse (vec_items v)) left c.args.unit c.pop.new.self numbered
    ∙ ap (with_unit_at (map (λ v. reverse (vec_items v)) left) c.args.unit) (rest ∙ ap (drop 1) (sym there))
