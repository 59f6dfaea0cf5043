use Rattle.std.proofs.Common.{◌≡◌, ◌∙◌, sym, ap, ◌&&◌, ℕ, Some, eqb, length, arith}
use Rattle.std.specs.List.{list_any}
use Rattle.dbtg_schema.specs.Lookups.{at}
use Rattle.dbtg_unit.specs.Database.Statements.Checks.{areas_of}
use Rattle.dbtg_unit.proofs.Public.{find_here, find_skipped}
use Rattle.dbtg_refusal.specs.Inside.Areas.{passes}
use Rattle.dbtg_refusal.proofs.areas.area_with.Goals as goal

pub returns-then-is_opened_so : goal.returns-then-is_opened_so
returns-then-is_opened_so c =
    let is_wanted = λ (a : ℕ). list_any (λ b. eqb b a) (areas_of c.args.schema.now c.args.unit.now c.args.statement.now) in
    let is_so = λ (a : ℕ). passes c.args.opening (at c.args.unit.now.modes a) in
    let both : c.is_opened_so.result ≡ (is_wanted c.loop-a.a && is_so c.loop-a.a) = c.is_opened_so.ensures ∙ ap (λ a. is_wanted a && is_so a) c.new-area.ensures in
    ap Some c.new-area.ensures
    ∙ sym (find_here is_so is_wanted (length c.args.schema.now.areas) c.loop-a.a (omega (arith, c.area_count-a-end.ensures)) (sym both ∙ c.if-is_opened_so.true))
    ∙ c.loop-a.invariant

pub loop-a-preserved : goal.loop-a-preserved
loop-a-preserved c =
    let is_wanted = λ (a : ℕ). list_any (λ b. eqb b a) (areas_of c.args.schema.now c.args.unit.now c.args.statement.now) in
    let is_so = λ (a : ℕ). passes c.args.opening (at c.args.unit.now.modes a) in
    let both : c.is_opened_so.result ≡ (is_wanted c.loop-a.a && is_so c.loop-a.a) = c.is_opened_so.ensures ∙ ap (λ a. is_wanted a && is_so a) c.new-area.ensures in
    find_skipped is_so is_wanted (length c.args.schema.now.areas) c.loop-a.a (omega (arith, c.area_count-a-end.ensures)) (sym both ∙ c.if-is_opened_so.false)
    ∙ c.loop-a.invariant
