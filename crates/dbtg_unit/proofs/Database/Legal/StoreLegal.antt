-- Who is a member of a list after a record was stored or placed.
use Rattle.std.proofs.Common.{◌≡◌, refl, sym, ◌∙◌, ap, subst, ℕ, Bool, true, false, cond, ◌&&◌, ◌||◌, List, [], Option, Some, None, eqb, inl, inr}
use Rattle.std.specs.Prelude.{is_some, option_map, unwrap_or}
use Rattle.std.specs.List.{list_any}
use Rattle.std.proofs.lemmas.Bool.{and_parts, false≢true, cases_Bool}
use Rattle.dbtg_schema.specs.Lists.{Lists}
use Rattle.dbtg_cells.specs.declared.key.DbKey.{DbKey}
use Rattle.dbtg_cells.specs.declared.key.Owner.{Owner}
use Rattle.dbtg_cells.specs.declared.key.Owner.TheVariants.{Rec}
use Rattle.dbtg_cells.specs.declared.key.Value.{Value}
use Rattle.dbtg_cells.specs.Keys.{key_eq, owner_eq}
use Rattle.dbtg_unit.specs.declared.unit.Unit.{Unit}
use Rattle.dbtg_unit.specs.Database.State.Base.{Database, is_live, members_of, is_member}
use Rattle.dbtg_unit.specs.Database.Statements.Effect.{connected_in, with_new, is_current_owner, joined}
use Rattle.dbtg_unit.specs.Database.State.Legal.{Legal}
use Rattle.dbtg_unit.proofs.Lists.Listing.{any_placed}
use Rattle.dbtg_schema.specs.Structure.{owns}
use Rattle.dbtg_cells.proofs.Public.{same_owner}

-- the statement connects m in this list
abbrev pub joins : Lists → Unit → List ℕ → ℕ → Owner → Bool
joins schema unit sets s o = list_any (λ s'. eqb s' s) sets && is_current_owner schema unit s o

-- a list after m was placed has m, where it joins, and its old members
pub member_connected : (schema : Lists) (db : Database) (unit : Unit) (sets : List ℕ) (m : DbKey) (s : ℕ) (o : Owner) (x : DbKey)
    → is_member x (members_of (connected_in schema db unit sets m) s o) ≡ ((joins schema unit sets s o && is_some (db.lists s o) && key_eq x m) || is_member x (members_of db s o))
member_connected schema db unit sets m s o x =
    elim (joins schema unit sets s o) as (λ b. is_member x (unwrap_or (cond b (option_map (joined schema db unit s m) (db.lists s o)) (db.lists s o)) []) ≡ ((b && is_some (db.lists s o) && key_eq x m) || is_member x (members_of db s o))) [
      | true ↦ elim (db.lists s o) as (λ l. is_member x (unwrap_or (option_map (joined schema db unit s m) l) []) ≡ ((is_some l && key_eq x m) || is_member x (unwrap_or l []))) [
        | None ↦ refl
        | Some list ↦ any_placed (key_eq x) _ m list
      ]
      | false ↦ refl
    ]

no_list : (o : Option (List DbKey)) → is_some o ≡ false → (x : DbKey) → is_member x (unwrap_or o []) ≡ false
no_list None h x = refl
no_list (Some list) h x = absurd (false≢true (sym h))

-- a new record leaves all memberships as they were
pub member_new : (schema : Lists) (capacity : ℕ) (db : Database) (k : DbKey) (items : List Value) → Legal schema capacity db → is_live db k ≡ false → (s : ℕ) (o : Owner) (x : DbKey)
    → is_member x (members_of (with_new schema db k items) s o) ≡ is_member x (members_of db s o)
member_new schema capacity db k items legal fresh s o x =
    elim (cases_Bool (owns schema s k.rtype && owner_eq (Rec k) o)) [
      | inl h ↦
          let hs = and_parts _ _ h in
          let same = same_owner (Rec k) o hs.1 in
          let none : is_some (db.lists s o) ≡ false = subst (λ (p : Owner). is_some (db.lists s p) ≡ false) same (legal.pairs s (Rec k) ∙ ap (λ b. owns schema s k.rtype && b) fresh ∙ and_false (owns schema s k.rtype)) in
          ap (λ b. is_member x (unwrap_or (cond b (Some []) (db.lists s o)) [])) h ∙ sym (no_list (db.lists s o) none x)
      | inr h ↦ ap (λ b. is_member x (unwrap_or (cond b (Some []) (db.lists s o)) [])) h
    ] where
      and_false : (b : Bool) → (b && false) ≡ false
      and_false true = refl
      and_false false = refl

-- a record that is not live is in no list
pub not_member : (schema : Lists) (capacity : ℕ) (db : Database) (k : DbKey) → Legal schema capacity db → is_live db k ≡ false → (s : ℕ) (o : Owner) → is_member k (members_of db s o) ≡ true → ⊥
not_member schema capacity db k legal fresh s o h = false≢true (sym fresh ∙ (legal.members s o k h).0)
