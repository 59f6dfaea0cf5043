-- What an audit says of a history, as it is printed.
use Rattle.std.specs.Prelude.{ℕ, ◌≡◌, List, ◌++◌}
use Rattle.dbtg_schema.specs.Lists.{Lists}
use Rattle.dbtg_unit.specs.declared.unit.Entry.{Entry}
use Rattle.dbtg_unit.specs.declared.unit.Unit.{Unit}
use Rattle.dbtg_unit.specs.Database.State.Image.{Image}
use Rattle.dbtg_step.specs.Core.Audit.{LeadsTo}
use Rattle.dbtg_script.specs.Printing.Texts.{image_text, units_text}

-- records, lists and usage, and after them the units
abbrev pub text_of : Lists → Image → List Unit → List ℕ
text_of schema image units = image_text schema image.records image.lists image.next image.usage ++ units_text schema units

-- the text is that of the image and the units to which the history leads
pub record IsTextOf (schema : Lists) (capacity units : ℕ) (history : List Entry) (text : List ℕ) : Type 0 where
  pub image : Image
  pub after : List Unit
  pub leads : LeadsTo schema capacity units history image after
  pub text_is : text ≡ text_of schema image after
