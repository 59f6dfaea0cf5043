use Rattle.std.proofs.Common.{◌≡◌, ◌∙◌, ◌++◌, ◌+◌, length-set, ℕ, [], List, length, map, take, sym, ap, arith}
use Rattle.std.proofs.lemmas.Grind.{common_steps}
use Rattle.std.specs.Prelude.{slice_get, unwrap_or}
use Rattle.dbtg_unit.specs.Database.Laws.Replay.{entries_of}
use Rattle.dbtg_unit.specs.declared.unit.Entry.{Entry}
use Rattle.dbtg_script.specs.Printing.Echo.{lines_beside, lines_for}
use Rattle.dbtg_script.proofs.Printing.Beside.{counted, few_more, next_beside, pushed, taken_more}
use Rattle.dbtg_script.proofs.echo.lines_beside.Goals as goal

pub loop-entry-init : goal.loop-entry-init
loop-entry-init c = record {
  counts = λ u small. c.nothing_made-made.ensures.none u small;
  long = c.nothing_made-made.ensures.len;
  few = λ u small. omega (arith, c.nothing_made-made.ensures.none u small);
  beside = ap (λ lines. map (λ s. s.now) lines ++ lines_beside (map (map (λ s. s.now)) c.args.scripts.now) [] c.args.history.now) c.new-lines.ensures.items;
}

pub loop-entry-preserved : goal.loop-entry-preserved
loop-entry-preserved c =
    let history = c.args.history.now in
    let i = c.loop-entry.entry-index in
    let e = c.entry-item.result in
    let made = c.loop-entry.made in
    let scripts = map (map (λ s. s.now)) c.args.scripts.now in
    let more = taken_more history i e c.loop-entry-test.true c.entry-item.is in
    let line = c.line_at.ensures ∙ ap (λ (n : ℕ). unwrap_or (slice_get (lines_for scripts e.unit) n) []) (c.loop-entry.invariant.counts e.unit (omega arith)) in
    record {
      counts = λ u small. counted made (take i history) e u c.loop-entry.invariant.long (omega arith) (c.loop-entry.invariant.counts u small) ∙ ap (λ (es : List Entry). length (entries_of u es)) (sym more);
      long = length-set made e.unit _ ∙ c.loop-entry.invariant.long;
      few = λ u small. few_more made e.unit u i c.loop-entry.invariant.long (omega arith) (c.loop-entry.invariant.few u small) (c.loop-entry.invariant.few e.unit (omega arith));
      beside = pushed (λ s. s.now) c.loop-entry.lines.items c.push.new.self.items c.line_at.result _ _ _ c.in_ok-push.ensures.items line
          (ap (λ (ls : List (List ℕ)). map (λ s. s.now) c.loop-entry.lines.items ++ ls) (sym (next_beside scripts history i e c.loop-entry-test.true c.entry-item.is)) ∙ c.loop-entry.invariant.beside);
    }

pub returns : goal.returns
returns c = grind (arith, common_steps)

pub returns-in_err-push : goal.returns-in_err-push
returns-in_err-push c = grind (arith, common_steps)
