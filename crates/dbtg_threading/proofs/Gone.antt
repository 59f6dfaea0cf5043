-- A unit that follows a program, and what the units of a new database have made when they come back.
use Rattle.std.proofs.Common.{◌≡◌, ◌⊎◌, ℕ, zero, suc, ◌+◌, ◌<◌, Result, Ok, Err, IfOk, is_err, false, List, [], ◌∷◌, ◌++◌, length, None, Some, refl, sym, ap, ◌∙◌, subst, inl, inr, arith, get_or}
use Rattle.std.specs.List.{range_with_len}
use Rattle.std.proofs.lemmas.Bool.Decides.{leb_tells}
use Rattle.std.proofs.lemmas.List.{get_or-map, get_or_append_left, get_or_push, length-append, length-map}
use Rattle.std.proofs.lemmas.List.FromFn.{get_or-range_with_len, length-range_with_len}
use Rattle.std.proofs.lemmas.Option.{get_or_from_slice_get, slice_get_within}
use Rattle.dbtg_schema.specs.Lists.{Lists}
use Rattle.dbtg_unit.specs.declared.unit.Entry.{Entry}
use Rattle.dbtg_unit.specs.Database.Laws.Replay.{entries_of}
use Rattle.dbtg_program.specs.declared.program.Program.{Program}
use Rattle.dbtg_step.specs.Core.Audit.{LeadsTo}
use Rattle.dbtg_step.specs.Machine.SequentialDatabase.{unit_at}
use Rattle.dbtg_going.specs.declared.member.Member.{Member}
use Rattle.dbtg_going.specs.Goings.{IsAt, comes_of}
use Rattle.dbtg_going.specs.Turns.{due_after}
use Rattle.dbtg_going.proofs.Turning.{paired_at}
use Rattle.dbtg_run.specs.declared.database.Database.{Database}
use Rattle.dbtg_run.specs.declared.settled.Settled.{Settled}
use Rattle.dbtg_run.specs.Settling.{IsSettled}
use Rattle.dbtg_run.specs.UnitView.{UnitView, opening_view, opening_views}
use Rattle.dbtg_run.specs.Views.{Has}
use Rattle.dbtg_run.proofs.Units.Abreast.{last_place}
use Rattle.dbtg_threading.specs.Inside.Gone.{AreFresh, AreInTurn, HasGone, HaveGone, IsHistoryOfAll, WentBy, statement_after}

-- ONE MORE ENTRY

never_empty : {X : Type 0} (xs : List X) (y : X) (zs : List X) → [] ≡ xs ++ y ∷ zs → ⊥
never_empty [] y zs e = absurd (cc)
never_empty (x ∷ xs) y zs e = absurd (cc)

-- an element of a list with one more is the new one, or was in the list before
last_or_in : {X : Type 0} (xs before behind : List X) (x y : X) → xs ++ x ∷ [] ≡ before ++ y ∷ behind → ((xs ≡ before) × (x ≡ y)) ⊎ ((rest : List X) × (xs ≡ before ++ y ∷ rest))
last_or_in [] [] behind x y e = inl (refl, cc)
last_or_in [] (b ∷ bs) behind x y e = let rest : [] ≡ bs ++ y ∷ behind = cc in absurd (never_empty bs y behind rest)
last_or_in (a ∷ xs) [] behind x y e = let same : a ≡ y = cc in inr (xs, ap (λ z. z ∷ xs) same)
last_or_in (a ∷ xs) (b ∷ bs) behind x y e =
    let same : a ≡ b = cc in
    let rest : xs ++ x ∷ [] ≡ bs ++ y ∷ behind = cc in
    elim (last_or_in xs bs behind x y rest) [
      | inl p ↦ inl (λ i. same i ∷ p.0 i, p.1)
      | inr p ↦ inr (p.0, λ i. same i ∷ p.1 i)
    ]

pub none_in_turn : (schema : Lists) (program : Program) → AreInTurn schema program []
none_in_turn schema program before e behind is = absurd (never_empty before e behind is)

pub one_more_in_turn : (schema : Lists) (program : Program) (es : List Entry) (e : Entry) → AreInTurn schema program es → statement_after schema program es ≡ Some e.statement → AreInTurn schema program (es ++ e ∷ [])
one_more_in_turn schema program es e so_far now before f behind is = elim (last_or_in es before behind e f is) [
  | inl p ↦ subst (λ bs. statement_after schema program bs ≡ Some f.statement) p.0 (now ∙ ap (λ (x : Entry). Some x.statement) p.1)
  | inr p ↦ so_far before f p.0 p.1
]

-- what a member's unit makes next
pub said_after : (schema : Lists) (program : Program) (es : List Entry) (m : Member) → IsAt schema program es m → statement_after schema program es ≡ due_after schema m.made (comes_of m.going)
said_after schema program es m at = λ i. due_after schema (sym at.made i) (sym at.going.comes i)

-- if one is taken from the end and one is added there, there are as many as before
pub same_many : {A : Type 0} (units left came back : List A) (u v : A) → units ≡ left ++ u ∷ [] → back ≡ came ++ v ∷ [] → length came ≡ length left → length back ≡ length units
same_many units left came back u v units_are back_is many = last_place came back v back_is ∙ ap (λ n. n + 1) many ∙ sym (last_place left units u units_are)

-- WHERE THE PROGRAMS ARE

-- if memory was refused to nobody, both the others and the last came back with what is known of them
pub both_back : {V M E : Type 0} (all others : Result V E) (last : Result M E) (P : V → Type 0) (Q : M → Type 0) (R : V → Type 0) (More : V → V → M → Type 0) → ((a b : V) (m : M) → More a b m → P b → Q m → R a)
    → IfOk all (λ _. (is_err others ≡ false) × (is_err last ≡ false)) → IfOk all (λ a. IfOk others (λ b. IfOk last (λ m. More a b m))) → IfOk others P → IfOk last Q → IfOk all R
both_back (Err e) others last P Q R More follows fine more p q = tt
both_back (Ok a) (Ok b) (Ok m) P Q R More follows fine more p q = follows a b m more p q
both_back (Ok a) (Ok b) (Err e) P Q R More follows fine more p q = absurd (cc (fine.1))
both_back (Ok a) (Err e) last P Q R More follows fine more p q = absurd (cc (fine.0))

module _ (schema : Lists) (programs : List Program) (left came : List UnitView) (members : List Member) (p : Program) (u v : UnitView) (m : Member) (at : (d : Program) → get_or programs (length left) d ≡ p)
    (others : HaveGone schema programs left came members) (last : WentBy schema p u v m) where
  before : (k : ℕ) (d : Program) (e f : UnitView) (g : Member) → k < length left
      → WentBy schema (get_or programs k d) (get_or (left ++ u ∷ []) k e) (get_or (came ++ v ∷ []) k f) (get_or (members ++ m ∷ []) k g)
  before k d e f g below =
      let c = others.units in
      let n = others.count in
      rw (get_or_append_left left (u ∷ []) e k below, get_or_append_left came (v ∷ []) f k (omega (arith, c, below)), get_or_append_left members (m ∷ []) g k (omega (arith, n, below))) (others.each k d e f g below)

  behind : (k : ℕ) (d : Program) (e f : UnitView) (g : Member) → k ≡ length left
      → WentBy schema (get_or programs k d) (get_or (left ++ u ∷ []) k e) (get_or (came ++ v ∷ []) k f) (get_or (members ++ m ∷ []) k g)
  behind k d e f g is =
      let program : get_or programs k d ≡ p = ap (λ n. get_or programs n d) is ∙ at d in
      rw (program, get_or_push left u e k (sym is), get_or_push came v f k (others.units ∙ sym is), get_or_push members m g k (others.count ∙ sym is)) last

  each_more : (k : ℕ) (d : Program) (e f : UnitView) (g : Member) → k < length (left ++ u ∷ [])
      → WentBy schema (get_or programs k d) (get_or (left ++ u ∷ []) k e) (get_or (came ++ v ∷ []) k f) (get_or (members ++ m ∷ []) k g)
  each_more k d e f g below = elim (leb_tells (length left) k) [
    | inl h ↦ behind k d e f g (let n = length-append left (u ∷ []) in omega (arith, h.1, below, n))
    | inr h ↦ before k d e f g h.1
  ]

  -- the units that are left came back, and behind them the last
  pub one_more_gone : (units back : List UnitView) (all : List Member) → units ≡ left ++ u ∷ [] → back ≡ came ++ v ∷ [] → all ≡ members ++ m ∷ [] → HaveGone schema programs units back all
  one_more_gone units back all units_are back_are all_are = rw (units_are, back_are, all_are) record {
    units = length-append came (v ∷ []) ∙ ap (λ n. n + 1) others.units ∙ sym (length-append left (u ∷ []));
    count = length-append members (m ∷ []) ∙ ap (λ n. n + 1) others.count ∙ sym (length-append left (u ∷ []));
    each = each_more;
  }

-- THE UNITS OF A NEW DATABASE

has_at : {A : Type 0} (xs : List A) (k : ℕ) (d : A) → k < length xs → Has (get_or xs k d) xs
has_at [] k d below = absurd (omega arith)
has_at (x ∷ xs) zero d below = inl refl
has_at (x ∷ xs) (suc k) d below = inr (has_at xs k d (omega arith))

module _ (db : Database) where
  -- as many units as it was made with, and the one with this number
  abbrev opened : ℕ → List UnitView
  opened count = opening_views db.board.shared.table_id db.about count

  abbrev opened_unit : ℕ → UnitView
  opened_unit number = opening_view db.board.shared.table_id db.about number

  opened_many : (count : ℕ) → length (opened count) ≡ count
  opened_many count = length-map (range_with_len 1 count) opened_unit ∙ length-range_with_len 1 count

  opened_at : (count k : ℕ) (d : UnitView) → k < count → get_or (opened count) k d ≡ opened_unit (1 + k)
  opened_at count k d below =
      let l = length-range_with_len 1 count in
      get_or-map opened_unit (range_with_len 1 count) k 0 d (omega arith) ∙ ap opened_unit (get_or-range_with_len 1 count k 0 below)

  -- they have made nothing
  pub all_fresh : (count : ℕ) → AreFresh (opened count)
  all_fresh count k d below = ap (λ (u : UnitView). u.journal) (opened_at count k d (subst (λ n. k < n) (opened_many count) below))

module _ (db : Database) (programs : List Program) (after : List UnitView) (members : List Member) (settled : Settled) (count : db.about.units ≡ length programs)
    (gone : HaveGone db.schema programs (opening_views db.board.shared.table_id db.about (length programs)) after members) (ends : IsSettled db after settled) where
  many_members : length members ≡ length programs
  many_members = gone.count ∙ opened_many db (length programs)

  own : (u : ℕ) (program : Program) → unit_at programs u ≡ Some program → (m : Member) × (unit_at members u ≡ Some m) × HasGone db.schema program (entries_of u settled.history) m
  unfolding unit_at
  own zero program at = absurd (cc (at))
  own (suc k) program at =
      let d = opened_unit db 1 in
      let m = paired_at members programs (suc k) program (sym many_members) at in
      let below = slice_get_within programs k program at in
      let many = opened_many db (length programs) in
      let came = gone.units in
      let v = get_or after k d in
      let went = gone.each k program d d m.0 (omega (arith, below, many)) in
      let number : v.unit.number ≡ 1 + k = went.number ∙ ap (λ (u : UnitView). u.unit.number) (opened_at db (length programs) k d below) in
      let next : 1 + k ≡ suc k = omega arith in
      let journal = ends.journal v (has_at after k d (omega (arith, below, many, came))) in
      let by_journal = subst (λ p. HasGone db.schema p v.journal m.0) (get_or_from_slice_get programs k program program at)
      (subst (λ (n : Member). HasGone db.schema (get_or programs k program) v.journal n) (get_or_from_slice_get members k m.0 m.0 m.1) went.gone) in
      (m.0, m.1, subst (λ es. HasGone db.schema program es m.0) (sym journal ∙ ap (λ n. entries_of n settled.history) (number ∙ next)) by_journal)

  pub all_made : IsHistoryOfAll db.schema db.about.capacity programs settled members
  all_made = record {
    leads = subst (λ n. LeadsTo db.schema db.about.capacity n settled.history settled.image settled.units) count ends.leads;
    made = record { count = many_members; each = own };
  }
