use Rattle.std.proofs.Common.{◌≡◌, ◌∙◌, sym, ap, ◌&&◌, ℕ, not, Some, eqb, length, arith}
use Rattle.std.specs.List.{list_any}
use Rattle.dbtg_unit.specs.Database.Statements.Checks.{areas_of}
use Rattle.dbtg_unit.proofs.Lists.NoAnswer.{find_here, find_skipped}
use Rattle.dbtg_unit.proofs.order.next_area.Goals as goal

pub returns-then-has_area-has : goal.returns-then-has_area-has
returns-then-has_area-has c =
    let is_wanted = λ (a : ℕ). list_any (λ b. eqb b a) (areas_of c.args.schema.now c.args.unit.now c.args.statement.now) in
    let is_held = λ (a : ℕ). list_any (λ b. eqb b a) c.args.held.now.areas in
    let wanted : c.has_area.result ≡ is_wanted c.loop-a.a = c.has_area.ensures ∙ ap is_wanted c.new-area.ensures in
    let held : c.has.result ≡ is_held c.loop-a.a = c.has.ensures ∙ ap is_held c.new-area.ensures in
    let both : (c.has_area.result && not c.has.result) ≡ (is_wanted c.loop-a.a && not (is_held c.loop-a.a)) = λ i. wanted i && not (held i) in
    ap Some c.new-area.ensures
    ∙ sym (find_here (λ a. not (is_held a)) is_wanted (length c.args.schema.now.areas) c.loop-a.a (omega (arith, c.area_count-a-end.ensures)) (sym both ∙ c.if-has_area-has.true))
    ∙ c.loop-a.invariant

pub loop-a-preserved : goal.loop-a-preserved
loop-a-preserved c =
    let is_wanted = λ (a : ℕ). list_any (λ b. eqb b a) (areas_of c.args.schema.now c.args.unit.now c.args.statement.now) in
    let is_held = λ (a : ℕ). list_any (λ b. eqb b a) c.args.held.now.areas in
    let wanted : c.has_area.result ≡ is_wanted c.loop-a.a = c.has_area.ensures ∙ ap is_wanted c.new-area.ensures in
    let held : c.has.result ≡ is_held c.loop-a.a = c.has.ensures ∙ ap is_held c.new-area.ensures in
    let both : (c.has_area.result && not c.has.result) ≡ (is_wanted c.loop-a.a && not (is_held c.loop-a.a)) = λ i. wanted i && not (held i) in
    find_skipped (λ a. not (is_held a)) is_wanted (length c.args.schema.now.areas) c.loop-a.a (omega (arith, c.area_count-a-end.ensures)) (sym both ∙ c.if-has_area-has.false)
    ∙ c.loop-a.invariant
