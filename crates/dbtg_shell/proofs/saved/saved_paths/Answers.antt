use Rattle.std.proofs.Common.{◌≡◌, ◌∙◌, ℕ, ◌+◌, List, [], ◌∷◌, ◌++◌, Global, map, add-one, ap, arith, sym}
use Rattle.std.specs.Prelude.{codes, decimal, string_bytes}
use Rattle.std.proofs.lemmas.List.{append_assoc, map_push}
use Rattle.dbtg_shell.specs.Inside.Saved.{script_paths}
use Rattle.dbtg_shell.proofs.saved.saved_paths.Goals as goal

-- one path more
path_more : (directory : List ℕ) (paths : List (List ℕ)) (path : List ℕ) (n i : ℕ) → n ≡ i + 1 → paths ≡ script_paths directory i
    → path ≡ directory ++ (codes "/script." ++ decimal n) → paths ++ path ∷ [] ≡ script_paths directory (i + 1)
path_more directory paths path n i next are is =
    let it : path ≡ directory ++ codes "/script." ++ decimal (i + 1) =
    is ∙ ap (λ (m : ℕ). directory ++ (codes "/script." ++ decimal m)) next ∙ sym (append_assoc directory (codes "/script.") (decimal (i + 1))) in
    let at = rw add-one at it in
    rw add-one (λ j. are j ++ (at j) ∷ [])

pub loop-i-preserved : goal.loop-i-preserved
loop-i-preserved c =
    let before = c.loop-i.paths.items in
    let path = c.in_ok-format.field-0 in
    let number : c.saturating_add-number.result ≡ c.loop-i.i + 1 = omega arith in
    ap (map (string_bytes {Z = Global})) c.in_ok-push.ensures.items ∙ map_push (string_bytes {Z = Global}) before path
    ∙ path_more c.args.directory.now (map (string_bytes {Z = Global}) before) (string_bytes {Z = Global} path)
    c.saturating_add-number.result c.loop-i.i number c.loop-i.invariant c.in_ok-format.ensures.ok
