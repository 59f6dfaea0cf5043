use Rattle.dbtg_plan.proofs.laws.each_statement_is_determined.Goals as goal
use Rattle.dbtg_plan.proofs.EachDetermined.{each_is_determined}

pub returns : goal.returns
returns c schema capacity db eb hands unit statement sound of_schema within fit other agrees agrees_too ready =
    each_is_determined schema capacity db eb hands unit statement sound of_schema within fit other agrees agrees_too ready
