-- What a settlement says of the journals of two units.
use Rattle.std.proofs.Common.{◌≡◌, ◌≢◌, ℕ, ◌+◌, ◌==◌, List, [], ◌∷◌, count_by, cond, eqb, inl, inr, Option, refl, sym, ap, ◌∙◌, subst, arith}
use Rattle.std.specs.Prelude.{Result, Ok, Err, IfOk, OnOk, ok_or}
use Rattle.std.specs.Result.{result_ok}
use Rattle.dbtg_unit.specs.declared.unit.Entry.{Entry}
use Rattle.dbtg_run.specs.declared.database.Database.{Database}
use Rattle.dbtg_run.specs.declared.settled.Settled.{Settled}
use Rattle.dbtg_run.specs.Settling.{IsSettled}
use Rattle.dbtg_run.specs.UnitView.{UnitView}
use Rattle.inventory_clerks.specs.declared.order.Order.{Order}
use Rattle.inventory_clerks.specs.declared.order.Stop.{Stop}
use Rattle.inventory_clerks.specs.Orders.{AreFilled}
use Rattle.inventory_clerks.specs.Inside.Staff.{HaveFilled}
use Rattle.inventory_clerks.proofs.Filling.{filled_in_all}

one_of_two : (a b : ℕ) → (0 + cond (eqb a 1) 1 0) + cond (eqb b 1) 1 0 ≡ 1 → a ≢ b
one_of_two a b e same =
    let g : (0 + cond (eqb b 1) 1 0) + cond (eqb b 1) 1 0 ≡ 1 = subst (λ (n : ℕ). (0 + cond (eqb n 1) 1 0) + cond (eqb b 1) 1 0 ≡ 1) same e in
    absurd (omega arith)

-- only one of two units has number 1
apart : (u v : UnitView) → count_by (λ (w : UnitView). w.unit.number == 1) (u ∷ v ∷ []) ≡ 1 → u.unit.number ≢ v.unit.number
apart u v once = one_of_two u.unit.number v.unit.number once

pub have_filled : (db : Database) (u v : UnitView) (firsts seconds : List Order) (settled : Settled) → IsSettled db (u ∷ v ∷ []) settled
    → (a b : List Entry) → AreFilled a u.journal firsts → AreFilled b v.journal seconds → HaveFilled firsts seconds settled
have_filled db u v firsts seconds settled s a b p q = let two = s.count in record {
  one = u.unit.number;
  other = v.unit.number;
  apart = apart u v (s.once 1 (omega arith) (omega arith));
  by_one = subst (λ (j : List Entry). AreFilled [] j firsts) (sym (s.journal u (inl refl))) (filled_in_all a u.journal firsts p);
  by_other = subst (λ (j : List Entry). AreFilled [] j seconds) (sym (s.journal v (inr (inl refl)))) (filled_in_all b v.journal seconds q);
}

-- if a property holds of a result that is there, and it is there, the property holds
pub of_ok : {T E P : Type 0} (r : Result T E) (v : T) → r ≡ Ok v → OnOk r P → P
of_ok (Ok w) v is p = p
of_ok (Err e) v is p = absurd cc

-- the same for a settlement that may not come
pub if_settled : (db : Database) (u v : UnitView) (firsts seconds : List Order) (r : Result Settled Stop) → IfOk r (IsSettled db (u ∷ v ∷ []))
    → (a b : List Entry) → AreFilled a u.journal firsts → AreFilled b v.journal seconds → IfOk r (HaveFilled firsts seconds)
if_settled db u v firsts seconds (Ok settled) s a b p q = have_filled db u v firsts seconds settled s a b p q
if_settled db u v firsts seconds (Err stop) s a b p q = tt

-- a property of a result still holds if its error is replaced by another
pub ok_or_stop : {T E S : Type 0} (P : T → Type 0) (r : Result T E) (stop : S) (found : Option T) (q : Result T S)
    → IfOk r P → found ≡ result_ok r → q ≡ ok_or found stop → IfOk q P
ok_or_stop P (Ok v) stop found q p found_is q_is = subst (λ k. IfOk k P) (sym (q_is ∙ ap (λ o. ok_or o stop) found_is)) p
ok_or_stop P (Err e) stop found q p found_is q_is = subst (λ k. IfOk k P) (sym (q_is ∙ ap (λ o. ok_or o stop) found_is)) tt
