-- A word has the role whose number it has.
use Rattle.std.proofs.Common.{◌≡◌, ℕ, true, [], ◌∷◌, get_or, refl, sym, ap, ◌∙◌}
use Rattle.std.proofs.lemmas.Bool.{eqb-true}
use Rattle.dbtg_script.specs.declared.role.Role.{Role}
use Rattle.dbtg_script.specs.declared.role.Role.TheVariants as role
use Rattle.dbtg_script.specs.Labels.{number, is}
use Rattle.dbtg_script.specs.StatementGrammar.{Labelled}

abbrev role_at : ℕ → Role
role_at n = get_or (role.Plain ∷ role.Open ∷ role.AreaName ∷ role.Protected ∷ role.Exclusive ∷ role.Retrieval ∷ role.Update ∷ role.Close ∷ role.Find ∷ role.FindKey ∷ role.Key ∷ role.FindCurrent ∷ role.RunUnit ∷ role.Name ∷ role.KindRecord ∷ role.KindSet ∷ role.KindArea ∷ role.FindOwner ∷ role.FindCalc ∷ role.RecordName ∷ role.RecordWord ∷ role.FindSorted ∷ role.SortedValue ∷ role.FindDuplicate ∷ role.WhichFirst ∷ role.WhichLast ∷ role.WhichNext ∷ role.WhichPrior ∷ role.WhichNumber ∷ role.ItemName ∷ role.Value ∷ role.SuppressAll ∷ role.SuppressTypes ∷ role.SuppressAreas ∷ role.SuppressSet ∷ role.Get ∷ role.TypeName ∷ role.Store ∷ role.Insert ∷ role.SetName ∷ role.Remove ∷ role.Modify ∷ role.Delete ∷ role.Only ∷ role.Selective ∷ role.All ∷ role.Keep ∷ role.Free ∷ role.FreeAll ∷ []) n role.Plain

back : (r : Role) → role_at (number r) ≡ r
back role.Plain = refl
back role.Open = refl
back role.AreaName = refl
back role.Protected = refl
back role.Exclusive = refl
back role.Retrieval = refl
back role.Update = refl
back role.Close = refl
back role.Find = refl
back role.FindKey = refl
back role.Key = refl
back role.FindCurrent = refl
back role.RunUnit = refl
back role.Name = refl
back role.KindRecord = refl
back role.KindSet = refl
back role.KindArea = refl
back role.FindOwner = refl
back role.FindCalc = refl
back role.RecordName = refl
back role.RecordWord = refl
back role.FindSorted = refl
back role.SortedValue = refl
back role.FindDuplicate = refl
back role.WhichFirst = refl
back role.WhichLast = refl
back role.WhichNext = refl
back role.WhichPrior = refl
back role.WhichNumber = refl
back role.ItemName = refl
back role.Value = refl
back role.SuppressAll = refl
back role.SuppressTypes = refl
back role.SuppressAreas = refl
back role.SuppressSet = refl
back role.Get = refl
back role.TypeName = refl
back role.Store = refl
back role.Insert = refl
back role.SetName = refl
back role.Remove = refl
back role.Modify = refl
back role.Delete = refl
back role.Only = refl
back role.Selective = refl
back role.All = refl
back role.Keep = refl
back role.Free = refl
back role.FreeAll = refl

pub role_is : (r : Role) (l : Labelled) → is r l ≡ true → l.role ≡ r
role_is r l h = sym (back l.role) ∙ ap role_at (eqb-true (number l.role) (number r) h) ∙ back r
