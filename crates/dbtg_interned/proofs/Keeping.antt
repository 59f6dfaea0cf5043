-- Lists that stay where they stood when others are appended.
use Rattle.std.proofs.Common.{◌≡◌, ◌∙◌, zero, suc, sym, subst, ap, ℕ, List, [], ◌∷◌, ◌++◌, Some, slice_get, append-nil, append_assoc}
use Rattle.dbtg_interned.specs.Kept.{Keeps}

-- what stands in front of others stays
pub got_before : {X : Type 0} (old rest : List X) (i : ℕ) (x : X) → slice_get old i ≡ Some x → slice_get (old ++ rest) i ≡ Some x
got_before [] rest i x h = absurd (cc)
got_before (y ∷ ys) rest zero x h = h
got_before (y ∷ ys) rest (suc i) x h = got_before ys rest i x h

pub stays_list : (old new : List (List ℕ)) (i : ℕ) (list : List ℕ) → Keeps old new → slice_get old i ≡ Some list → slice_get new i ≡ Some list
stays_list old new i list k h =
    subst (λ (l : List (List ℕ)). slice_get l i ≡ Some list) (sym k.new_is) (got_before old k.rest i list h)

pub keeps_refl : (lists : List (List ℕ)) → Keeps lists lists
keeps_refl lists = record { rest = []; new_is = sym (append-nil lists) }

pub keeps_trans : (a b c : List (List ℕ)) → Keeps a b → Keeps b c → Keeps a c
keeps_trans a b c k m =
    record { rest = k.rest ++ m.rest; new_is = m.new_is ∙ ap (λ (l : List (List ℕ)). l ++ m.rest) k.new_is ∙ append_assoc a k.rest m.rest }
