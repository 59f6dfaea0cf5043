use Rattle.std.proofs.Common.{◌≡◌, ◌++◌, ℕ, ◌+◌, List, [], inl, inr, refl, sym, subst, arith}
use Rattle.std.proofs.lemmas.List.{append-nil}
use Rattle.std.proofs.lemmas.Result.{err_from_is_err_and}
use Rattle.dbtg_command.specs.declared.place.TextPlace.TheVariants.{Script}
use Rattle.dbtg_command.specs.Checking.{script_lines}
use Rattle.dbtg_command.specs.Sources.{ReadScripts}
use Rattle.dbtg_command.proofs.TextsRead.{line_behind, told_here}
use Rattle.dbtg_command.proofs.check.push_each_script.Goals as goal

pub loop-i-init : goal.loop-i-init
loop-i-init g c = (record { texts = []; many = refl; held = tt; accepted = tt }, sym (append-nil _))

pub loop-i-preserved : goal.loop-i-preserved
loop-i-preserved g c =
    let holds = g.S.Source.holds c.args.source.now in
    let held = subst (λ (t : List ℕ). holds (Script (c.loop-i.i + 1)) t) (sym c.as_slice.ensures.value) c.in_ok-text.ensures.held in
    line_behind holds c.args.schema.now c.loop-i.i c.as_slice.result.now c.args.out.now.items c.loop-i.out.items _ c.loop-i.invariant held
    c.in_ok-push_script.ensures.accepted c.in_ok-push_script.ensures.line

pub returns-in_err-text-clause-refused : goal.returns-in_err-text-clause-refused
returns-in_err-text-clause-refused g c =
    let told = err_from_is_err_and c.from_residual.result c.from_residual.ensures.1 in
    rw (told.1, told.2) (told_here _ _ _ c.args.schema.now c.loop-i.i _ c.loop-i.invariant.0 (omega (arith, c.count-i-end.ensures)) (inl c.in_err-text.ensures.failed))

pub returns-in_err-push_script-clause-refused : goal.returns-in_err-push_script-clause-refused
returns-in_err-push_script-clause-refused g c =
    let holds = g.S.Source.holds c.args.source.now in
    let held = subst (λ (t : List ℕ). holds (Script (c.loop-i.i + 1)) t) (sym c.as_slice.ensures.value) c.in_ok-text.ensures.held in
    let told = err_from_is_err_and c.from_residual-in_err-push_script.result c.from_residual-in_err-push_script.ensures.1 in
    rw (told.1, told.2) (told_here holds _ _ c.args.schema.now c.loop-i.i _ c.loop-i.invariant.0 (omega (arith, c.count-i-end.ensures))
    (inr (c.as_slice.result.now, held, c.in_err-push_script.ensures.refused)))

pub returns-clause-read : goal.returns-clause-read
returns-clause-read g c =
    let all : c.loop-i.i ≡ g.S.Source.count c.args.source.now = omega (arith, c.count-i-end.ensures) in
    subst (λ (n : ℕ). (read : ReadScripts (g.S.Source.holds c.args.source.now) c.args.schema.now n) × (c.loop-i.out.items ≡ c.args.out.now.items ++ script_lines c.args.schema.now 1 read.texts)) all c.loop-i.invariant
