-- A text without faults keeps to the limits.
use Rattle.std.proofs.Common.{◌≡◌, ℕ, suc, ◌<◌, ◌≤◌, Bool, true, false, cond, List, [], ◌∷◌, ◌++◌, length, refl, sym, ap, subst, ◌∙◌, arith, inl, inr}
use Rattle.std.specs.Prelude.{filter}
use Rattle.std.specs.List.{AllByRecursion}
use Rattle.std.proofs.lemmas.Bool.{cases_Bool, leb-false}
use Rattle.dbtg_schema.specs.declared.fault.Fault.{Fault}
use Rattle.dbtg_schema.specs.declared.fault.Cause.TheVariants.{OverLimit}
use Rattle.dbtg_schema.specs.declared.role.Role.{Role}
use Rattle.dbtg_schema.specs.declared.role.Role.TheVariants as role
use Rattle.dbtg_schema.specs.Texts.SchemaGrammar.{Labelled}
use Rattle.dbtg_schema.specs.Texts.Labels.{is, count_of, since, until, entries}
use Rattle.dbtg_schema.specs.Inside.Reading.{WithinLimits}
use Rattle.dbtg_schema.specs.Texts.SchemaFaults.{at_word, ended, said, when, fault, is_surplus}
use Rattle.dbtg_schema.proofs.Forms.Roles.{role_is}
use Rattle.dbtg_schema.proofs.Forms.Walks.{EachClean, keeps, each_entry}

-- two lists are empty where both together are
pub both_nil : {X : Type 0} (xs ys : List X) → xs ++ ys ≡ [] → (xs ≡ []) × (ys ≡ [])
both_nil [] ys h = (refl, h)
both_nil (x ∷ xs) ys h = absurd cc

pub not_when : (b : Bool) (f : Fault) → when b f ≡ [] → b ≡ false
not_when true f h = absurd cc
not_when false f h = refl

-- the three lists of faults at a word
pub at_word_parts : (ws : List Labelled) (l : Labelled) → at_word ws l ≡ [] → (ended ws l.role ≡ []) × (is_surplus ws l.role ≡ false) × (said ws l l.role ≡ [])
at_word_parts ws l h =
    let a = both_nil (ended ws l.role ++ when (is_surplus ws l.role) (fault OverLimit l.word.line)) (said ws l l.role) h in
    let b = both_nil (ended ws l.role) (when (is_surplus ws l.role) (fault OverLimit l.word.line)) a.0 in
    (b.0, not_when (is_surplus ws l.role) (fault OverLimit l.word.line) b.1, a.1)

-- a word of this role is not one too many
pub within : (r : Role) (ws : List Labelled) (l : Labelled) → at_word ws l ≡ [] → is r l ≡ true → is_surplus ws r ≡ false
within r ws l c t = subst (λ (q : Role). is_surplus ws q ≡ false) (role_is r l t) (at_word_parts ws l c).1

pub count_snoc : (r : Role) (ws : List Labelled) (l : Labelled) → count_of r (ws ++ l ∷ []) ≡ cond (is r l) (suc (count_of r ws)) (count_of r ws)
count_snoc r [] l = elim (is r l) as (λ b. length (cond b (l ∷ []) []) ≡ cond b 1 0) [ true ↦ refl | false ↦ refl ]
count_snoc r (w ∷ ws) l = step (is r w) (is r l) (filter (is r) (ws ++ l ∷ [])) (filter (is r) ws) (count_snoc r ws l)
  where
    step : (a b : Bool) (xs ys : List Labelled) → length xs ≡ cond b (suc (length ys)) (length ys) → length (cond a (w ∷ xs) xs) ≡ cond b (suc (length (cond a (w ∷ ys) ys))) (length (cond a (w ∷ ys) ys))
    step true true xs ys h = ap suc h
    step true false xs ys h = ap suc h
    step false true xs ys h = h
    step false false xs ys h = h

count_step : (r : Role) (n : ℕ) (ws : List Labelled) (l : Labelled) → count_of r ws ≤ n → (is r l ≡ true → count_of r ws < n) → count_of r (ws ++ l ∷ []) ≤ n
count_step r n ws l le lt = elim (cases_Bool (is r l)) [
  | inl t ↦ subst (λ (m : ℕ). m ≤ n) (sym (count_snoc r ws l ∙ ap (λ b. cond b (suc (count_of r ws)) (count_of r ws)) t)) (let k = lt t in omega arith)
  | inr f ↦ subst (λ (m : ℕ). m ≤ n) (sym (count_snoc r ws l ∙ ap (λ b. cond b (suc (count_of r ws)) (count_of r ws)) f)) le
]

-- a limit over the whole text
total : (r : Role) (n : ℕ) → ((ws : List Labelled) → is_surplus ws r ≡ false → count_of r ws < n) → (ls : List Labelled) → EachClean [] ls → count_of r ls ≤ n
total r n few ls c = keeps (λ ws. count_of r ws ≤ n) (λ ws l clean le. count_step r n ws l le (λ t. few ws (within r ws l clean t))) [] ls c (omega arith)

count_one : (s : Role) (l : Labelled) (n : ℕ) → count_of s (l ∷ []) ≤ suc n
count_one s l n = elim (is s l) as (λ b. length (cond b (l ∷ []) []) ≤ suc n) [ true ↦ omega arith | false ↦ omega arith ]

-- a limit over each entry
for_each : (r s : Role) (n : ℕ) → ((ws : List Labelled) → is_surplus ws s ≡ false → count_of s (since r ws) < suc n) → (before ls : List Labelled) → EachClean before ls → AllByRecursion (λ e. count_of s e ≤ suc n) (entries r ls)
for_each r s n few before ls c =
    each_entry r (λ e. count_of s e ≤ suc n) (λ l t. count_one s l n)
    (λ ws e l same clean not_r le. count_step s (suc n) e l le (λ t. subst (λ (z : List Labelled). count_of s z < suc n) same (few ws (within s ws l clean t))))
    before ls c

pub areas_limit : (ls : List Labelled) → EachClean [] ls → count_of role.AreaEntry ls ≤ 8
areas_limit ls c = total role.AreaEntry 8 (λ ws h. leb-false 8 (count_of role.AreaEntry ws) h) ls c

pub types_limit : (ls : List Labelled) → EachClean [] ls → count_of role.RecordEntry ls ≤ 16
types_limit ls c = total role.RecordEntry 16 (λ ws h. leb-false 16 (count_of role.RecordEntry ws) h) ls c

pub sets_limit : (ls : List Labelled) → EachClean [] ls → count_of role.SetEntry ls ≤ 16
sets_limit ls c = total role.SetEntry 16 (λ ws h. leb-false 16 (count_of role.SetEntry ws) h) ls c

pub items_limit : (ls : List Labelled) → EachClean [] ls → AllByRecursion (λ e. count_of role.ItemEntry e ≤ 16) (entries role.RecordEntry ls)
items_limit ls c = for_each role.RecordEntry role.ItemEntry 15 (λ ws h. leb-false 16 (count_of role.ItemEntry (since role.RecordEntry ws)) h) [] ls c

pub calc_limit : (ls : List Labelled) → EachClean [] ls → AllByRecursion (λ e. count_of role.CalcItem e ≤ 4) (entries role.RecordEntry ls)
calc_limit ls c = for_each role.RecordEntry role.CalcItem 3 (λ ws h. leb-false 4 (count_of role.CalcItem (since role.RecordEntry ws)) h) [] ls c

pub members_limit : (ls : List Labelled) → EachClean [] ls → AllByRecursion (λ e. count_of role.MemberEntry e ≤ 4) (entries role.SetEntry ls)
members_limit ls c = for_each role.SetEntry role.MemberEntry 3 (λ ws h. leb-false 4 (count_of role.MemberEntry (since role.SetEntry ws)) h) [] ls c

pub clean_until : (r : Role) (ws ls : List Labelled) → EachClean ws ls → EachClean ws (until r ls)
clean_until r ws [] c = tt
clean_until r ws (l ∷ ls) c = elim (is r l) as (λ b. EachClean ws (cond b [] (l ∷ until r ls))) [ true ↦ tt | false ↦ (c.0, clean_until r (ws ++ l ∷ []) ls c.1) ]

pub within_limits : (ls : List Labelled) → EachClean [] ls → WithinLimits ls
within_limits ls c =
    let front = clean_until role.SetEntry [] ls c in
    record {
      areas = areas_limit ls c;
      types = types_limit (until role.SetEntry ls) front;
      sets = sets_limit ls c;
      items = items_limit (until role.SetEntry ls) front;
      calc = calc_limit (until role.SetEntry ls) front;
      members = members_limit ls c;
    }
