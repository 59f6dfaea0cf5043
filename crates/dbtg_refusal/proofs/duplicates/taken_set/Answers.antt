use Rattle.std.proofs.Common.{◌≡◌, ◌∙◌, sym, ap, ◌&&◌, ℕ, Some, eqb, length, arith}
use Rattle.std.specs.Prelude.{map}
use Rattle.std.specs.List.{list_any}
use Rattle.dbtg_schema.specs.Lookups.{some_and}
use Rattle.dbtg_schema.specs.Structure.{member_clause, order_of}
use Rattle.dbtg_unit.specs.Database.Statements.Conditions.{refuses_equal, sort_key_taken}
use Rattle.dbtg_unit.proofs.Public.{find_here, find_skipped}
use Rattle.dbtg_refusal.specs.Inside.Imaged.{imaged}
use Rattle.dbtg_refusal.proofs.duplicates.taken_set.Goals as goal

pub returns-then-is_taken_anew : goal.returns-then-is_taken_anew
returns-then-is_taken_anew c =
    let schema = c.args.schema.now in
    let is_wanted = λ (s : ℕ). some_and (λ m. some_and (λ i. list_any (λ j. eqb j i) (map (λ c. c.item) c.args.changes.now)) m.key) (member_clause schema s c.args.key.now.rtype) in
    let is_so = λ (s : ℕ). refuses_equal (order_of schema s) && sort_key_taken schema (imaged schema c.args.image.now) c.args.key.now c.args.items.now s in
    let both : c.is_taken_anew.result ≡ (is_wanted c.loop-s.s && is_so c.loop-s.s) = c.is_taken_anew.ensures ∙ ap (λ s. is_wanted s && is_so s) c.new-set.ensures in
    ap Some c.new-set.ensures
    ∙ sym (find_here is_so is_wanted (length schema.sets) c.loop-s.s (omega (arith, c.set_count-s-end.ensures)) (sym both ∙ c.if-is_taken_anew.true))
    ∙ c.loop-s.invariant

pub loop-s-preserved : goal.loop-s-preserved
loop-s-preserved c =
    let schema = c.args.schema.now in
    let is_wanted = λ (s : ℕ). some_and (λ m. some_and (λ i. list_any (λ j. eqb j i) (map (λ c. c.item) c.args.changes.now)) m.key) (member_clause schema s c.args.key.now.rtype) in
    let is_so = λ (s : ℕ). refuses_equal (order_of schema s) && sort_key_taken schema (imaged schema c.args.image.now) c.args.key.now c.args.items.now s in
    let both : c.is_taken_anew.result ≡ (is_wanted c.loop-s.s && is_so c.loop-s.s) = c.is_taken_anew.ensures ∙ ap (λ s. is_wanted s && is_so s) c.new-set.ensures in
    find_skipped is_so is_wanted (length schema.sets) c.loop-s.s (omega (arith, c.set_count-s-end.ensures)) (sym both ∙ c.if-is_taken_anew.false)
    ∙ c.loop-s.invariant
