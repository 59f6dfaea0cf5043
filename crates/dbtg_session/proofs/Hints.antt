-- Worked rows: the hint for a line that the shell cannot read.
use Rattle.std.proofs.Common.{◌≡◌, [], refl}
use Rattle.std.specs.Prelude.{codes}
use Rattle.dbtg_session.specs.Replies.{hint_for}

to_quit : hint_for (codes "exit") ≡ codes "; .quit ends the shell"
to_quit = refl

for_help : hint_for (codes "help me") ≡ codes "; .help shows what can be typed"
for_help = refl

none : hint_for (codes "STORE CUSTOMER CNO = 7") ≡ []
none = refl
