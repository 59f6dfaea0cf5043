-- An owner or none in eight bytes.
use Rattle.std.specs.Prelude.{◌≡◌, Option, None, Some}
use Rattle.dbtg_cells.specs.declared.key.DbKey.{DbKey}
use Rattle.dbtg_cells.specs.declared.key.Owner.{Owner}
use Rattle.dbtg_cells.specs.declared.key.Owner.TheVariants.{System, Rec}
use Rattle.dbtg_cells.specs.declared.maybe_owner.Kind.{Kind}
use Rattle.dbtg_cells.specs.declared.maybe_owner.Kind.TheVariants.{None as NoOwner, System as OfSystem, Rec as OfRecord}

-- the owner of this kind, which has this key if it is a record
abbrev pub owner_of : Kind → DbKey → Option Owner
owner_of NoOwner k = None
owner_of OfSystem k = Some System
owner_of OfRecord k = Some (Rec k)

abbrev pub kind_of : Option Owner → Kind
kind_of None = NoOwner
kind_of (Some System) = OfSystem
kind_of (Some (Rec k)) = OfRecord

-- the key of a record, and numbers 0 where there is none
abbrev pub key_in : Option Owner → DbKey
key_in None = record { number = 0; rtype = 0; generation = 0 }
key_in (Some System) = record { number = 0; rtype = 0; generation = 0 }
key_in (Some (Rec k)) = k

-- the fields are those that the owner gives
pub record IsPlain (kind : Kind) (key : DbKey) : Type 0 where
  pub same_kind : kind_of (owner_of kind key) ≡ kind
  pub same_key : key_in (owner_of kind key) ≡ key
