-- It calls itself on all digits but the last, and the number falls.
use Rattle.text.proofs.print.decimal.+width.Given as goal

abbrev pub decreases-width : goal.decreases-width
decreases-width l = l.n
