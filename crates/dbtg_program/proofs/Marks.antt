-- The words of a statement with their marks, by how it begins.
use Rattle.std.proofs.Common.{◌≡◌, Bool, true, false, cond, ◌&&◌, List, [], ◌∷◌, length, map, refl, ap, sym, ◌∙◌, arith}
use Rattle.std.specs.List.{list_any}
use Rattle.std.specs.Prelude.{codes, nat_lt}
use Rattle.std.proofs.lemmas.Bool.Decides.{nat_tests}
use Rattle.dbtg_script.specs.declared.token.Token as code
use Rattle.dbtg_script.specs.Tokens.{view}
use Rattle.dbtg_program.specs.Sentences.{is_spelled, marked, marked_from, word_at}

-- it begins in another way
pub other_marks : (ws : List code.Token) → (nat_lt 1 (length ws) && is_spelled (codes "FIND") (word_at 0 (map view ws)) && is_spelled (codes "SORTED") (word_at 1 (map view ws))) ≡ false
    → marked (map view ws) ≡ marked_from false (map view ws)
other_marks [] h = refl
other_marks (v ∷ []) h = refl
other_marks (v ∷ w ∷ ws) h =
    let long : nat_lt 1 (length (v ∷ w ∷ ws)) ≡ true = grind (arith, nat_tests) in
    ap (λ (b : Bool). cond b ((view v, false) ∷ (view w, false) ∷ marked_from true (map view ws)) (marked_from false (map view (v ∷ w ∷ ws))))
    (ap (λ (t : Bool). t && is_spelled (codes "FIND") (view v) && is_spelled (codes "SORTED") (view w)) (sym long) ∙ h)

pub other_has : (ws : List code.Token) → (nat_lt 1 (length ws) && is_spelled (codes "FIND") (word_at 0 (map view ws)) && is_spelled (codes "SORTED") (word_at 1 (map view ws))) ≡ false
    → list_any (λ m. m.1) (marked (map view ws)) ≡ list_any (λ m. m.1) (marked_from false (map view ws))
other_has ws h = ap (list_any (λ m. m.1)) (other_marks ws h)
