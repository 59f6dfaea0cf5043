use Rattle.std.proofs.Common.{rules, ◌≡◌, ◌≢◌, ◌+◌, ◌∙◌, true, false, ap, sym, inl, inr, ⊎_elim, arith}
use Rattle.std.specs.Prelude.{replicate}
use Rattle.dbtg_going.specs.Turns.{others}
use Rattle.dbtg_threading.proofs.Found.{all_found}
use Rattle.dbtg_threading.proofs.Around.{cut_in_three}
use Rattle.dbtg_threading.proofs.between.turns_between.Goals as goal

pub returns-then-back-eq0-clause-found : goal.returns-then-back-eq0-clause-found
returns-then-back-eq0-clause-found c =
    let front = c.leading_if-front in
    let back = c.leading_if-back in
    cut_in_three c.args.around c.args.units c.args.turns.now c.cut.result.1.now c.cut-2.result.0.now c.cut-2.result.1.now front.result c.leading_between-count.result back.result
    c.cut.ensures.behind c.cut-2.ensures.front c.cut-2.ensures.behind (omega (arith, c.if-back-rest.false, back.ensures.within))
    (front.ensures.are ∙ ap (λ n. replicate front.result (n + 1)) c.others-first.ensures) c.leading_between-count.ensures.are back.ensures.are front.ensures.few back.ensures.few front.ensures.none back.ensures.none
    (λ first. inl (omega (arith, c.if-back-eq0.true)))

pub returns-clause-found : goal.returns-clause-found
returns-clause-found c =
    let front = c.leading_if-front in
    let back = c.leading_if-back in
    let apart : c.are_apart.result ≡ true = search (rules, c.if-not-are_apart.false) in
    cut_in_three c.args.around c.args.units c.args.turns.now c.cut.result.1.now c.cut-2.result.0.now c.cut-2.result.1.now front.result c.leading_between-count.result back.result
    c.cut.ensures.behind c.cut-2.ensures.front c.cut-2.ensures.behind (omega (arith, c.if-back-rest.false, back.ensures.within))
    (front.ensures.are ∙ ap (λ n. replicate front.result (n + 1)) c.others-first.ensures) c.leading_between-count.ensures.are back.ensures.are front.ensures.few back.ensures.few front.ensures.none back.ensures.none
    (λ first. inr (λ same. c.are_apart.ensures.apart apart first (ap (λ n. n + 1) c.others-first.ensures ∙ same)))

pub returns-then-back-rest-clause-none : goal.returns-then-back-rest-clause-none
returns-then-back-rest-clause-none c between is =
    let front = c.leading_if-front in
    let count = c.leading_between-count in
    let back = c.leading_if-back in
    let first = ap (λ n. n + 1) c.others-first.ensures in
    let found = all_found c.args.around c.args.units c.args.turns.now between is c.cut.result.1.now c.cut-2.result.1.now front.result count.result back.result
    c.cut.ensures.behind c.cut-2.ensures.behind
    front.ensures.within (front.ensures.are ∙ ap (replicate front.result) first) front.ensures.none (λ there below fewer same. front.ensures.all there below fewer (same ∙ sym first))
    count.ensures.within count.ensures.are count.ensures.all back.ensures.within back.ensures.are back.ensures.none back.ensures.all in
    let less = c.if-back-rest.true in
    omega (arith, found.0, less)

pub returns-then-not-are_apart-clause-none : goal.returns-then-not-are_apart-clause-none
returns-then-not-are_apart-clause-none c between is =
    let front = c.leading_if-front in
    let count = c.leading_between-count in
    let back = c.leading_if-back in
    let first = ap (λ n. n + 1) c.others-first.ensures in
    let found = all_found c.args.around c.args.units c.args.turns.now between is c.cut.result.1.now c.cut-2.result.1.now front.result count.result back.result
    c.cut.ensures.behind c.cut-2.ensures.behind
    front.ensures.within (front.ensures.are ∙ ap (replicate front.result) first) front.ensures.none (λ there below fewer same. front.ensures.all there below fewer (same ∙ sym first))
    count.ensures.within count.ensures.are count.ensures.all back.ensures.within back.ensures.are back.ensures.none back.ensures.all in
    let some = c.if-back-eq0.false in
    let together : c.are_apart.result ≡ false = search (rules, c.if-not-are_apart.true) in
    let one = c.are_apart.ensures.one together in
    ⊎_elim (λ (none : is.back ≡ 0). some (found.1 ∙ none)) (λ (other : others c.args.around c.args.units + 1 ≢ c.args.units). other (sym first ∙ one.1)) (is.apart one.0)
