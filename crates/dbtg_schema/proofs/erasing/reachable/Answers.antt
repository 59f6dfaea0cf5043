use Rattle.std.proofs.Common.{◌≡◌, ℕ, ◌<◌, Bool, false, List, [], ◌∷◌, ◌||◌, ◌==◌, ◌∙◌, refl, sym, ap, length, arith, add-one}
use Rattle.std.specs.Cmp.{booleans_Decides}
use Rattle.std.proofs.lemmas.Slice.Eq.{slice_eq-Decides}
use Rattle.dbtg_schema.specs.Erasing.{marked}
use Rattle.dbtg_schema.specs.Inside.Erasing.{is_given}
use Rattle.dbtg_schema.proofs.Indexes.Erasings.{next_round, none_marked, off, all_rounds, given_is_next, settled}
use Rattle.dbtg_schema.proofs.erasing.reachable.Goals as goal

pub loop-round-init : goal.loop-round-init
loop-round-init c =
    let none = false ∷ false ∷ false ∷ false ∷ false ∷ false ∷ false ∷ false ∷ false ∷ false ∷ false ∷ false ∷ false ∷ false ∷ false ∷ false ∷ [] in
    none_marked c.args.schema.now c.args.start none (λ y. off none y refl)

pub loop-round-preserved : goal.loop-round-preserved
loop-round-preserved c =
    let schema = c.args.schema.now in
    let ways = c.args.ways.now in
    let marks = c.loop-round.marks in
    let many = c.requires.types in
    let made = λ (y : ℕ) (h : y < length schema.types).
    c.one_step-next.ensures y (omega (arith, many, h))
    ∙ ap (λ b. y == c.args.start || b) (ap (λ n. is_given ways.leads n marks y) many ∙ given_is_next schema ways.leads ways.touched marks y c.requires.ways h) in
    rw (add-one c.loop-round.round) (next_round schema c.args.start c.loop-round.round marks c.one_step-next.result c.loop-round.invariant made)

pub returns-then-eq : goal.returns-then-eq
returns-then-eq c =
    let schema = c.args.schema.now in
    let ways = c.args.ways.now in
    let marks = c.loop-round.marks in
    let many = c.requires.types in
    let same : c.one_step-next.result ≡ marks = (slice_eq-Decides booleans_Decides c.one_step-next.result marks c.eq.result c.eq.ensures).0 c.if-eq.true in
    let made = λ (y : ℕ) (h : y < length schema.types).
    ap (λ (m : List Bool). marked m y) (sym same)
    ∙ c.one_step-next.ensures y (omega (arith, many, h))
    ∙ ap (λ b. y == c.args.start || b) (ap (λ n. is_given ways.leads n marks y) many ∙ given_is_next schema ways.leads ways.touched marks y c.requires.ways h) in
    let next = next_round schema c.args.start c.loop-round.round marks marks c.loop-round.invariant made in
    settled schema c.args.start c.loop-round.round marks c.loop-round.invariant next (let below = c.loop-round-test.true in omega (arith, many, below))

pub returns : goal.returns
returns c =
    all_rounds c.args.schema.now c.args.start c.loop-round.round c.loop-round.marks c.loop-round.invariant
    (let e = c.requires.types in let a = c.loop-round-test.false in let b = c.loop-round.auto.round-end in omega (arith, e, a, b))
