use Rattle.dbtg_refusal.proofs.EachRefusal.{each_refusal}
use Rattle.dbtg_refusal.proofs.laws.each_refusal_has_an_obstacle.Goals as goal

pub returns : goal.returns
returns c = λ schema capacity db unit statement why sound fit h. each_refusal schema capacity db unit statement why sound fit h
