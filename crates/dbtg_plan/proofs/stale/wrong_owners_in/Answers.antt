use Rattle.std.proofs.Common.{◌≡◌, sym, ◌∙◌, ap, ℕ, ◌+◌, ◌<◌, Option, None, List, length, map, replicate, slice_set, get_or, arith}
use Rattle.std.specs.List.{enumerate_from}
use Rattle.std.proofs.lemmas.List.{length-replicate, length-set}
use Rattle.std.proofs.lemmas.Option.{slice_get-get_or}
use Rattle.dbtg_cells.specs.declared.key.Owner.{Owner}
use Rattle.dbtg_unit.specs.Hands.Needs.{guessed_sets}
use Rattle.dbtg_unit.proofs.Public.{rewritten, rewritten_all, rewritten_next}
use Rattle.dbtg_plan.specs.Inside.Stale.{wrong_owner_in}
use Rattle.dbtg_plan.proofs.Store.StoreSteps.{owners_before}
use Rattle.dbtg_plan.proofs.stale.wrong_owners_in.Goals as goal

pub loop-s-init : goal.loop-s-init
loop-s-init c =
    let g = wrong_owner_in c.args.held.now (guessed_sets c.args.schema.now c.args.unit.now c.args.statement.now) c.args.key.now in
    let none : c.none-owners.result ≡ replicate (length c.args.schema.now.sets) None = c.none-owners.ensures ∙ ap (λ n. replicate n None) c.set_count.ensures in
    record {
      finishes = ap (λ (owners : List (Option Owner)). map (λ (e : ℕ × Option Owner). g e.0) (enumerate_from 0 owners)) none ∙ owners_before g (length c.args.schema.now.sets) 0;
      as_long = ap length none ∙ length-replicate (length c.args.schema.now.sets) None;
    }

pub loop-s-preserved : goal.loop-s-preserved
loop-s-preserved c =
    let g = wrong_owner_in c.args.held.now (guessed_sets c.args.schema.now c.args.unit.now c.args.statement.now) c.args.key.now in
    let f = λ (e : ℕ × Option Owner). g e.0 in
    let below : c.loop-s.s < length c.loop-s.owners = omega (arith, c.loop-s-test.true, c.loop-s.auto.s-end, c.set_count-s-end.ensures, c.loop-s.invariant.as_long) in
    let written = c.set.ensures ∙ ap (slice_set c.loop-s.owners c.loop-s.s) (c.wrong_owner_in-owner.ensures ∙ ap g c.new.ensures) in
    record {
      finishes =
          ap (rewritten f 0 (c.loop-s.s + 1)) written
          ∙ rewritten_next f c.loop-s.s c.loop-s.owners (get_or c.loop-s.owners c.loop-s.s None) (slice_get-get_or c.loop-s.owners c.loop-s.s None below) ∙ c.loop-s.invariant.finishes;
      as_long = ap length c.set.ensures ∙ length-set c.loop-s.owners c.loop-s.s c.wrong_owner_in-owner.result ∙ c.loop-s.invariant.as_long;
    }

pub returns : goal.returns
returns c =
    let f = λ (e : ℕ × Option Owner). wrong_owner_in c.args.held.now (guessed_sets c.args.schema.now c.args.unit.now c.args.statement.now) c.args.key.now e.0 in
    let end : length c.loop-s.owners ≡ c.loop-s.s = omega (arith, c.loop-s-test.false, c.loop-s.auto.s-end, c.set_count-s-end.ensures, c.loop-s.invariant.as_long) in
    sym (rewritten_all f 0 c.loop-s.owners) ∙ ap (λ i. rewritten f 0 i c.loop-s.owners) end ∙ c.loop-s.invariant.finishes
