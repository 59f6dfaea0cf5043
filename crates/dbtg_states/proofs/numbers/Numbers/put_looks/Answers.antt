use Rattle.std.proofs.Common.{◌∙◌, ◌++◌, ◌∷◌, [], ℕ, List, ap, sym, take, get_or, map, arith}
use Rattle.std.proofs.lemmas.List.{map-append, take_all, take_more}
use Rattle.std.proofs.lemmas.Result.{IfOk-weaker}
use Rattle.dbtg_interned.specs.Arrays.{elements, with_each}
use Rattle.dbtg_states.specs.declared.transitions.Look.{Look}
use Rattle.dbtg_states.proofs.States.Looks.{change_of, changes_written}
use Rattle.dbtg_states.proofs.numbers.Numbers.put_looks.Goals as goal

pub loop-look-preserved : goal.loop-look-preserved
loop-look-preserved c =
    let looks = c.args.looks.now in
    let i = c.loop-look.look-index in
    let last : Look = get_or looks i (record { place = 0; before = 0; after = 0 }) in
    c.in_ok-push.ensures.items
    ∙ ap (λ (cs : List (ℕ × ℕ)). cs ++ change_of last ∷ []) c.loop-look.invariant
    ∙ sym (map-append {B = ℕ × ℕ} change_of (take i looks) (last ∷ []))
    ∙ ap (λ (ls : List Look). map {B = ℕ × ℕ} change_of ls) (sym (take_more looks i _ (omega (arith, c.loop-look-test.true))))

pub returns-clause-elements : goal.returns-clause-elements
returns-clause-elements c =
    let looks = c.args.looks.now in
    let old = elements c.args.self.now.arrays c.args.array in
    let all = c.as_slice.ensures.value ∙ c.loop-look.invariant ∙ ap (λ (ls : List Look). map {B = ℕ × ℕ} change_of ls) (take_all c.loop-look.look-index looks (omega (arith, c.loop-look-test.false))) in
    IfOk-weaker c.put_changes.result _ _ (λ n h. h ∙ ap (λ (cs : List (ℕ × ℕ)). with_each cs old) all ∙ changes_written looks old) c.put_changes.ensures.elements
