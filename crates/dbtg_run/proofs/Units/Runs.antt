-- A unit makes the statements of a script, one after the other.
use Rattle.std.proofs.Common.{◌≡◌, ◌≢◌, ℕ, ◌+◌, ◌<◌, List, [], ◌∷◌, ◌++◌, drop, map, length, Some, refl, sym, ap, ◌∙◌, subst, inl, inr, arith, get_or, length-append, append_assoc}
use Rattle.std.proofs.lemmas.List.{drop_more, length-map, map-append}
use Rattle.dbtg_unit.specs.declared.statement.Statement.{Statement}
use Rattle.dbtg_unit.specs.declared.unit.Answer.{Answer}
use Rattle.dbtg_unit.specs.declared.unit.Entry.{Entry}
use Rattle.dbtg_unit.specs.Database.Laws.Replay.{IsHistoryOf, opening_state, replay as replay_entries, unit_of}
use Rattle.dbtg_run.specs.declared.database.Database.{Database}
use Rattle.dbtg_run.specs.declared.view.About.{About}
use Rattle.dbtg_run.specs.Drawn.{IsDone}
use Rattle.dbtg_run.specs.Entries.{entry}
use Rattle.dbtg_run.specs.Running.{IsRecorded, IsWhole, Ran}
use Rattle.dbtg_run.specs.UnitView.{BelongsTo, UnitView}

-- the first statements are made, and these are left
abbrev pub RanTo : List Statement → UnitView → UnitView → List Statement → Type 0
RanTo script before after left = (r : Ran script before after) × (r.left ≡ left)

pub ran_none : (script : List Statement) (u : UnitView) → RanTo script u u script
ran_none script u = (
  record {
    made = [];
    left = script;
    script_is = refl;
    journal = append_none u.journal;
    own = refl;
    about = refl;
    table = refl;
    number = refl;
    unmade = λ _. refl;
    recorded = inl refl;
  },
  refl,
)
  where
    append_none : (xs : List Entry) → xs ≡ xs ++ []
    append_none [] = refl
    append_none (x ∷ xs) = ap (λ l. x ∷ l) (append_none xs)

pub recorded : (about : About) (v w : UnitView) (x : Statement) (a : Answer) → w.about ≡ about → IsDone about v.journal w.journal w.unit x a → IsRecorded w
recorded about v w x a same D = record {
  log = D.before ++ entry (length D.before) w.unit.number x a ∷ [];
  history = subst (λ (y : About). IsHistoryOf y.schema.value y.capacity y.units (D.before ++ entry (length D.before) w.unit.number x a ∷ [])) (sym same) D.history;
  unit_is = subst (λ (y : About). unit_of (replay_entries y.schema.value y.capacity (opening_state y.schema.value y.units) (D.before ++ entry (length D.before) w.unit.number x a ∷ [])) w.unit.number ≡ Some w.unit) (sym same) D.unit_is;
  entries = D.entries;
}

-- one statement more
pub ran_more : (db : Database) (script : List Statement) (u v w : UnitView) (x : Statement) (left : List Statement) (a : Answer) → BelongsTo db v → BelongsTo db w → w.unit.number ≡ v.unit.number
    → RanTo script u v (x ∷ left) → IsDone db.about v.journal w.journal w.unit x a → RanTo script u w left
ran_more db script u v w x left a bv bw number R D =
    let r = R.0 in let e = entry (length D.before) w.unit.number x a in let same = number ∙ r.number in (
      record {
        made = r.made ++ e ∷ [];
        left = left;
        script_is = r.script_is ∙ (ap (λ l. map (λ (y : Entry). y.statement) r.made ++ l) R.1 ∙ (sym (append_assoc (map (λ (y : Entry). y.statement) r.made) (x ∷ []) left) ∙ ap (λ l. l ++ left) (sym (map-append (λ (y : Entry). y.statement) r.made (e ∷ [])))));
        journal = D.journal ∙ (ap (λ l. l ++ e ∷ []) r.journal ∙ append_assoc u.journal r.made (e ∷ []));
        own = map-append (λ (y : Entry). y.unit) r.made (e ∷ []) ∙ ((λ j. r.own j ++ same j ∷ []) ∙ sym (map-append (λ (y : Entry). u.unit.number) r.made (e ∷ [])));
        about = bw.about ∙ (sym bv.about ∙ r.about);
        table = bw.table ∙ (sym bv.table ∙ r.table);
        number = same;
        unmade = λ none. absurd (more_than_none r.made e none);
        recorded = inr (recorded db.about v w x a bw.about D);
      },
      refl,
    )
  where
    more_than_none : (es : List Entry) (e : Entry) → (es ++ e ∷ []) ≢ []
    more_than_none [] e is = absurd (cc)
    more_than_none (x ∷ xs) e is = absurd (cc)

-- the next statement of those that are left
pub ran_next : (script : List Statement) (u v : UnitView) (i : ℕ) (x : Statement) → i < length script → x ≡ get_or script i x → RanTo script u v (drop i script) → RanTo script u v (x ∷ drop (i + 1) script)
ran_next script u v i x below is R = (R.0, R.1 ∙ (drop_more script i x below ∙ ap (λ (y : Statement). y ∷ drop (i + 1) script) (sym is)))

pub whole : (script : List Statement) (u v : UnitView) → RanTo script u v [] → IsWhole script u v
whole script u v R =
    let r = R.0 in
    let s : length script ≡ length (map (λ (y : Entry). y.statement) r.made) + length r.left = ap length r.script_is ∙ length-append (map (λ (y : Entry). y.statement) r.made) r.left in
    let l : length r.left ≡ 0 = ap length R.1 in
    let m = length-map r.made (λ (y : Entry). y.statement) in
    let j : length v.journal ≡ length u.journal + length r.made = ap length r.journal ∙ length-append u.journal r.made in
    inl (omega arith)
