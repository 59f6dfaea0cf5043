-- A word has the role whose number it has.
use Rattle.std.proofs.Common.{◌≡◌, ℕ, true, [], ◌∷◌, get_or, refl, sym, ap, ◌∙◌}
use Rattle.std.proofs.lemmas.Bool.{eqb-true}
use Rattle.dbtg_schema.specs.declared.role.Role.{Role}
use Rattle.dbtg_schema.specs.declared.role.Role.TheVariants as role
use Rattle.dbtg_schema.specs.Texts.SchemaGrammar.{Labelled}
use Rattle.dbtg_schema.specs.Texts.Labels.{number, is}

abbrev role_at : ℕ → Role
role_at n = get_or (role.Plain ∷ role.SchemaName ∷ role.AreaEntry ∷ role.AreaName ∷ role.RecordEntry ∷ role.RecordName ∷ role.CalcItem ∷ role.Unique ∷ role.ViaSet ∷ role.WithinArea ∷ role.ItemEntry ∷ role.ItemName ∷ role.Picture ∷ role.SetEntry ∷ role.SetName ∷ role.OrderFirst ∷ role.OrderLast ∷ role.OrderNext ∷ role.OrderPrior ∷ role.Sorted ∷ role.Ascending ∷ role.Descending ∷ role.DuplicatesFirst ∷ role.DuplicatesLast ∷ role.DuplicatesNot ∷ role.OwnerName ∷ role.OwnerSystem ∷ role.MemberEntry ∷ role.MemberName ∷ role.Mandatory ∷ role.Optional ∷ role.Automatic ∷ role.Manual ∷ role.KeyItem ∷ role.MemberEnd ∷ []) n role.Plain

back : (r : Role) → role_at (number r) ≡ r
back role.Plain = refl
back role.SchemaName = refl
back role.AreaEntry = refl
back role.AreaName = refl
back role.RecordEntry = refl
back role.RecordName = refl
back role.CalcItem = refl
back role.Unique = refl
back role.ViaSet = refl
back role.WithinArea = refl
back role.ItemEntry = refl
back role.ItemName = refl
back role.Picture = refl
back role.SetEntry = refl
back role.SetName = refl
back role.OrderFirst = refl
back role.OrderLast = refl
back role.OrderNext = refl
back role.OrderPrior = refl
back role.Sorted = refl
back role.Ascending = refl
back role.Descending = refl
back role.DuplicatesFirst = refl
back role.DuplicatesLast = refl
back role.DuplicatesNot = refl
back role.OwnerName = refl
back role.OwnerSystem = refl
back role.MemberEntry = refl
back role.MemberName = refl
back role.Mandatory = refl
back role.Optional = refl
back role.Automatic = refl
back role.Manual = refl
back role.KeyItem = refl
back role.MemberEnd = refl

pub role_is : (r : Role) (l : Labelled) → is r l ≡ true → l.role ≡ r
role_is r l h = sym (back l.role) ∙ ap role_at (eqb-true (number l.role) (number r) h) ∙ back r
