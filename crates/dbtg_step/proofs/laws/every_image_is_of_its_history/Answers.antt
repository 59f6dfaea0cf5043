use Rattle.dbtg_step.specs.Machine.Network.{network}
use Rattle.dbtg_step.proofs.EachEvent.Images.{image_is, database_shown}
use Rattle.dbtg_step.proofs.laws.every_image_is_of_its_history.Goals as goal

pub returns : goal.returns
returns c schema capacity opening s lawful = record { has = database_shown (network schema capacity) opening s lawful; only = image_is (network schema capacity) opening s lawful }
