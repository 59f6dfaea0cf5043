-- One more event: it joins the line that is not at its end, or begins the next.
use Rattle.std.proofs.Common.{◌≡◌, ℕ, suc, ◌+◌, true, false, List, [], ◌∷◌, ◌++◌, length, refl, sym, ap, ◌∙◌, arith}
use Rattle.std.proofs.lemmas.List.{append_assoc, length-append}
use Rattle.dbtg_timeline.specs.declared.event.Event.{Event}
use Rattle.dbtg_timeline.specs.declared.lines.Line.{Line}
use Rattle.dbtg_timeline.specs.Lines.{begun, goes_on, lines_from, longer}

joined : (l : Line) (e : Event) (es : List Event) → goes_on l e ≡ true → lines_from l (e ∷ es) ≡ lines_from (longer l e) es
joined l e es holds = rw holds refl

parted : (l : Line) (e : Event) (es : List Event) → goes_on l e ≡ false → lines_from l (e ∷ es) ≡ l ∷ lines_from (begun (l.first + suc (length l.more)) e) es
parted l e es fails = rw fails refl

module _ (all whole : List Line) (l next : Line) (e : Event) (es rest : List Event) (split : es ≡ e ∷ rest) (before : all ++ lines_from l es ≡ whole) where
  pub line_grows : goes_on l e ≡ true → next ≡ longer l e → all ++ lines_from next rest ≡ whole
  line_grows holds is =
      ap (λ (k : Line). all ++ lines_from k rest) is
      ∙ ap (λ (ls : List Line). all ++ ls) (sym (joined l e rest holds))
      ∙ ap (λ (xs : List Event). all ++ lines_from l xs) (sym split) ∙ before

  pub line_ends : (more : List Line) (number : ℕ) → goes_on l e ≡ false → more ≡ all ++ l ∷ [] → number ≡ l.first + suc (length l.more) → next ≡ begun number e → more ++ lines_from next rest ≡ whole
  line_ends more number fails pushed same is =
      ap (λ (ls : List Line). ls ++ lines_from next rest) pushed
      ∙ append_assoc all (l ∷ []) (lines_from next rest)
      ∙ ap (λ (k : Line). all ++ l ∷ lines_from k rest) (is ∙ ap (λ (n : ℕ). begun n e) same)
      ∙ ap (λ (ls : List Line). all ++ ls) (sym (parted l e rest fails))
      ∙ ap (λ (xs : List Event). all ++ lines_from l xs) (sym split) ∙ before

-- how far the moves are counted
pub counts_on : (l next : Line) (e : Event) → next ≡ longer l e → next.first + length next.more ≡ l.first + length l.more + 1
counts_on l next e is =
    let grown : next.first + length next.more ≡ l.first + length (l.more ++ e ∷ []) = ap (λ (k : Line). k.first + length k.more) is in
    omega (arith, grown, length-append l.more (e ∷ []))

pub counts_next : (l next : Line) (e : Event) (number : ℕ) → number ≡ l.first + suc (length l.more) → next ≡ begun number e → next.first + length next.more ≡ l.first + length l.more + 1
counts_next l next e number same is =
    let begins : next.first + length next.more ≡ number + 0 = ap (λ (k : Line). k.first + length k.more) is in
    omega (arith, begins, same)
