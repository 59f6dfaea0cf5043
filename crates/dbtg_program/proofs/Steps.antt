-- One more sentence.
use Rattle.std.proofs.Common.{◌≡◌, ℕ, zero, suc, ◌+◌, ◌-◌, ◌<◌, List, [], ◌∷◌, ◌++◌, length, refl, ap, subst, sym, ◌∙◌, arith}
use Rattle.std.specs.Prelude.{IfOk, Ok, Err, Result, Some, slice_get, slice_set}
use Rattle.dbtg_schema.specs.Lists.{Lists}
use Rattle.dbtg_cells.specs.declared.key.Value.{Value}
use Rattle.dbtg_unit.specs.declared.statement.Statement.{Statement}
use Rattle.dbtg_program.specs.declared.program.End.{End}
use Rattle.dbtg_program.specs.declared.program.End.TheVariants as ending
use Rattle.dbtg_program.specs.declared.program.Program.{Program}
use Rattle.dbtg_program.specs.States.{ProgramState}
use Rattle.dbtg_program.specs.declared.going.Progress.{Progress}
use Rattle.dbtg_program.specs.declared.going.Progress.TheVariants as progress
use Rattle.dbtg_program.specs.Inside.Views.{Stays, Stood, view_step}
use Rattle.dbtg_program.specs.Going.{Due, at_line, due, ended, ends, goes, line_at, line_number, makes, placed, within}

pub within_goes : (schema : Lists) (program : Program) (n line : ℕ) (state behind : ProgramState) → 0 < n → at_line schema program state (line_at program state) ≡ goes behind
    → within schema program n line state ≡ within schema program (n - 1) (line_number program state) behind
unfolding within
within_goes schema program zero line state behind some e = absurd (omega arith)
within_goes schema program (suc n) line state behind some e = let k : suc n - 1 ≡ n = omega arith in rw (e, k) refl

pub within_makes : (schema : Lists) (program : Program) (n line : ℕ) (state : ProgramState) (s : Statement) → 0 < n → at_line schema program state (line_at program state) ≡ makes s
    → within schema program n line state ≡ due state s
unfolding within
within_makes schema program zero line state s some e = absurd (omega arith)
within_makes schema program (suc n) line state s some e = rw e refl

pub within_ends : (schema : Lists) (program : Program) (n line : ℕ) (state : ProgramState) (how : End) → 0 < n → at_line schema program state (line_at program state) ≡ ends how
    → within schema program n line state ≡ ended state how
unfolding within
within_ends schema program zero line state how some e = absurd (omega arith)
within_ends schema program (suc n) line state how some e = rw e refl

pub within_none : (schema : Lists) (program : Program) (n line : ℕ) (state : ProgramState) → n ≡ 0 → within schema program n line state ≡ ended state (ending.Astray line)
unfolding within
within_none schema program zero line state e = refl
within_none schema program (suc n) line state e = absurd (omega arith)

-- the last of the values is placed first
pub last_placed : (fields : List Value) (k : ℕ) (vs : List Value) (v : Value) → placed fields k (vs ++ v ∷ []) ≡ placed (slice_set fields (k + length vs) v) k vs
last_placed fields k [] v = let e : k + 0 ≡ k = omega arith in rw e refl
last_placed fields k (w ∷ vs) v =
    let e : k + length (w ∷ vs) ≡ (k + 1) + length vs = omega arith in
    ap (λ (fs : List Value). slice_set fs k w) (last_placed fields (k + 1) vs v) ∙ ap (λ (n : ℕ). slice_set (placed (slice_set fields n v) (k + 1) vs) k w) (sym e)

-- then the others are left to place
pub placed_on : (fields new : List Value) (k n : ℕ) (all vs : List Value) (v : Value) (end : List Value) → n ≡ length vs → all ≡ vs ++ v ∷ [] → new ≡ slice_set fields (k + n) v → placed fields k all ≡ end
    → placed new k vs ≡ end
placed_on fields new k n all vs v end count are is inv =
    ap (λ (fs : List Value). placed fs k vs) is ∙ ap (λ (m : ℕ). placed (slice_set fields (k + m) v) k vs) count ∙ sym (last_placed fields k vs v)
    ∙ ap (λ (ws : List Value). placed fields k ws) (sym are) ∙ inv

-- WHERE A PROGRAM STANDS

there : {X : Type 0} (xs : List X) (k : ℕ) (x : X) → Some x ≡ slice_get xs k → k < length xs
there [] k x e = absurd cc
there (y ∷ ys) zero x e = omega arith
there (y ∷ ys) (suc k) x e = let h = there ys k x e in omega arith

-- an element that is found is within the list
pub is_there : {X : Type 0} (xs : List X) (k at : ℕ) (x : X) → k ≡ at → Some x ≡ slice_get xs k → at < length xs
is_there xs k at x same e = subst (λ (n : ℕ). n < length xs) same (there xs k x e)

pub stood : {E : Type 0} (program : Program) (state : ProgramState) (r : Result Progress E) → state.at < length program.lines → IfOk r (λ p. Stood program state p)
stood program state (Ok progress.Goes) h = tt
stood program state (Ok (progress.Makes s)) h = h
stood program state (Ok (progress.Ends e)) h = tt
stood program state (Err e) h = tt

-- WHAT A STEP OF THE CODE IS

pub is_gone : (schema : Lists) (program : Program) (n line number : ℕ) (state new : ProgramState) (p : Progress) (v : Due) → 0 < n → view_step new p ≡ at_line schema program state (line_at program state)
    → number ≡ line_number program state → p ≡ progress.Goes → within schema program n line state ≡ v → within schema program (n - 1) number new ≡ v
is_gone schema program n line number state new p v some comes named is inv =
    let e : goes new ≡ at_line schema program state (line_at program state) = subst (λ (q : Progress). view_step new q ≡ at_line schema program state (line_at program state)) is comes in
    ap (λ (m : ℕ). within schema program (n - 1) m new) named ∙ sym (within_goes schema program n line state new some (sym e)) ∙ inv

pub is_made : (schema : Lists) (program : Program) (n line : ℕ) (state new : ProgramState) (p : Progress) (s : Statement) (v : Due) → 0 < n → view_step new p ≡ at_line schema program state (line_at program state)
    → Stays state new p → p ≡ progress.Makes s → within schema program n line state ≡ v → due new s ≡ v
is_made schema program n line state new p s v some comes stays is inv =
    let e : makes s ≡ at_line schema program state (line_at program state) = subst (λ (q : Progress). view_step new q ≡ at_line schema program state (line_at program state)) is comes in
    let same : new ≡ state = subst (λ (q : Progress). Stays state new q) is stays in
    ap (λ (x : ProgramState). due x s) same ∙ sym (within_makes schema program n line state s some (sym e)) ∙ inv

pub is_ended : (schema : Lists) (program : Program) (n line : ℕ) (state new : ProgramState) (p : Progress) (how : End) (v : Due) → 0 < n → view_step new p ≡ at_line schema program state (line_at program state)
    → Stays state new p → p ≡ progress.Ends how → within schema program n line state ≡ v → ended new how ≡ v
is_ended schema program n line state new p how v some comes stays is inv =
    let e : ends how ≡ at_line schema program state (line_at program state) = subst (λ (q : Progress). view_step new q ≡ at_line schema program state (line_at program state)) is comes in
    let same : new ≡ state = subst (λ (q : Progress). Stays state new q) is stays in
    ap (λ (x : ProgramState). ended x how) same ∙ sym (within_ends schema program n line state how some (sym e)) ∙ inv

pub is_astray : (schema : Lists) (program : Program) (n line : ℕ) (state : ProgramState) (v : Due) → n ≡ 0 → within schema program n line state ≡ v → ended state (ending.Astray line) ≡ v
is_astray schema program n line state v none inv = sym (within_none schema program n line state none) ∙ inv
