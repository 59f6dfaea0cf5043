use Rattle.dbtg_going.proofs.text.push_end.Goals as goal

pub returns-in-Assert : goal.returns-in-Assert
returns-in-Assert c = rw c.in-Assert.is c.push_with_line.ensures

pub returns-in-Astray : goal.returns-in-Astray
returns-in-Astray c = rw c.in-Astray.is c.push_with_line-in-Astray.ensures
