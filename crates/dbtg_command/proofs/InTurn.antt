-- Scripts that are read one after another: what holds of the first ones and of the rest holds of all.
use Rattle.std.proofs.Common.{◌≡◌, ℕ, suc, ◌+◌, List, [], ◌∷◌, ◌++◌, length, inl, inr, refl, sym, ap, ◌∙◌, subst, arith}
use Rattle.std.proofs.lemmas.List.{append_assoc}
use Rattle.dbtg_schema.specs.Lists.{Lists}
use Rattle.dbtg_command.specs.declared.fault.Fault.{Fault}
use Rattle.dbtg_command.specs.declared.fault.Fault.TheVariants.{Memory}
use Rattle.dbtg_command.specs.Checking.{script_lines}
use Rattle.dbtg_command.specs.Refusals.{AllAccepted, RefusesOneScript}
use Rattle.dbtg_script.specs.Statements.{script}
use Rattle.dbtg_script.specs.Printing.Texts.{script_line}

pub accepted_behind : (lists : Lists) (front rest : List (List ℕ)) → AllAccepted lists front → AllAccepted lists rest → AllAccepted lists (front ++ rest)
accepted_behind lists [] rest a b = b
accepted_behind lists (text ∷ front) rest a b = (a.0, accepted_behind lists front rest a.1 b)

pub refused_behind : (fault : Fault) (lists : Lists) (n : ℕ) (front rest : List (List ℕ)) → AllAccepted lists front → RefusesOneScript fault lists (n + length front) rest → RefusesOneScript fault lists n (front ++ rest)
refused_behind fault lists n [] rest a r =
    let same : n + 0 ≡ n = omega arith in
    subst (λ k. RefusesOneScript fault lists k rest) same r
refused_behind fault lists n (text ∷ front) rest a r =
    let same : n + suc (length front) ≡ n + 1 + length front = omega arith in
    inr (a.0, refused_behind fault lists (n + 1) front rest a.1 (subst (λ k. RefusesOneScript fault lists k rest) same r))

pub lines_behind : (lists : Lists) (n : ℕ) (front rest : List (List ℕ)) → script_lines lists n (front ++ rest) ≡ script_lines lists n front ++ script_lines lists (n + length front) rest
lines_behind lists n [] rest =
    let same : n ≡ n + 0 = omega arith in
    ap (λ (k : ℕ). script_lines lists k rest) same
lines_behind lists n (text ∷ front) rest =
    let line = script_line n (length (script lists text)) in
    let front_lines = script_lines lists (n + 1) front in
    let same : n + 1 + length front ≡ n + suc (length front) = omega arith in
    ap (λ (ys : List ℕ). line ++ ys) (lines_behind lists (n + 1) front rest)
    ∙ sym (append_assoc line front_lines (script_lines lists (n + 1 + length front) rest))
    ∙ ap (λ (k : ℕ). line ++ front_lines ++ script_lines lists k rest) same

-- a refusal of memory is a fault of any scripts
pub memory_refuses : (lists : Lists) (n : ℕ) (texts : List (List ℕ)) → RefusesOneScript Memory lists n texts
memory_refuses lists n [] = refl
memory_refuses lists n (text ∷ texts) = inl tt
