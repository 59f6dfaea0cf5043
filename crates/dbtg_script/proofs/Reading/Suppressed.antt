-- Without a word that suppresses a set no bit is set.
use Rattle.std.proofs.Common.{◌≡◌, false, ◌||◌, List, [], ◌∷◌, refl}
use Rattle.std.proofs.lemmas.Bool.{or_parts}
use Rattle.dbtg_schema.specs.declared.shape.SetType.{SetType}
use Rattle.dbtg_script.specs.declared.role.Role.{Role}
use Rattle.dbtg_script.specs.declared.role.Role.TheVariants as role
use Rattle.dbtg_script.specs.Labels.{has, is, texts}
use Rattle.dbtg_script.specs.StatementGrammar.{Labelled}
use Rattle.dbtg_script.specs.Statements.{set_bits}

no_texts : (r : Role) (ws : List Labelled) → has r ws ≡ false → texts r ws ≡ []
no_texts r [] h = refl
no_texts r (w ∷ ws) h = let p = or_parts (is r w) (has r ws) h in rw p.0 (no_texts r ws p.1)

quiet : (ws : List Labelled) (sets : List SetType) → has role.SuppressAll ws ≡ false → texts role.SuppressSet ws ≡ [] → set_bits ws sets ≡ 0
quiet ws [] h e = refl
quiet ws (set ∷ sets) h e = rw (h, e, quiet ws sets h e) refl

pub none_suppressed : (ws : List Labelled) (sets : List SetType) → (has role.SuppressAll ws || has role.SuppressSet ws) ≡ false → set_bits ws sets ≡ 0
none_suppressed ws sets h = let p = or_parts (has role.SuppressAll ws) (has role.SuppressSet ws) h in quiet ws sets p.0 (no_texts role.SuppressSet ws p.1)
