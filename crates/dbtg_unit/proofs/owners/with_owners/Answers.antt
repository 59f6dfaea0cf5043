use Rattle.std.proofs.Common.{◌≡◌, ◌++◌, ◌<◌, ◌+◌, suc, Some, slice_get, slice_set, length, take, drop, arith, refl, sym, ap, ◌∙◌}
use Rattle.std.specs.Option.{option_or}
use Rattle.std.proofs.lemmas.Option.{slice_get_read}
use Rattle.std.proofs.lemmas.List.{length-set}
use Rattle.dbtg_unit.specs.Hands.Guesses.{with_owners}
use Rattle.dbtg_unit.proofs.Hands.Holding.TrueOwners.{owners_put_further}
use Rattle.dbtg_unit.proofs.owners.with_owners.Goals as goal

pub loop-set-preserved : goal.loop-set-preserved
loop-set-preserved c =
    let i = c.loop-set.set in
    let gs = c.args.guesses.now in
    let os = c.args.owners in
    let within : i < length gs = c.loop-set-test.true in
    let count = c.loop-set.invariant.count in
    let g : slice_get gs i ≡ Some c.index-guesses-set.result = slice_get_read gs (length gs) i c.index-guesses-set.result refl within c.index-guesses-set.is in
    let now : slice_get c.as_slice.result.now i ≡ Some c.index-as_slice-set.result = slice_get_read c.as_slice.result.now (length c.as_slice.result.now) i c.index-as_slice-set.result refl (let e = ap length c.as_slice.ensures.value in omega (arith, within, count, e)) c.index-as_slice-set.is in
    let o : slice_get (with_owners (take i gs) (take i os) ++ drop i os) i ≡ Some c.index-as_slice-set.result = ap (λ xs. slice_get xs i) (sym c.loop-set.invariant.is ∙ sym c.as_slice.ensures.value) ∙ now in
    let next : suc i ≡ i + 1 = omega arith in
    let owner = c.or-owner.ensures ∙ (λ k. option_or (c.get.ensures k) (c.get-in-loop-set.ensures k)) in
    record {
      count = ap length c.set.ensures ∙ length-set c.loop-set.owners i c.or-owner.result ∙ count;
      is = c.set.ensures ∙ (λ k. slice_set (c.loop-set.invariant.is k) i (owner k)) ∙ owners_put_further i gs os c.index-guesses-set.result c.index-as_slice-set.result c.requires g o
          ∙ ap (λ n. with_owners (take n gs) (take n os) ++ drop n os) next;
    }
