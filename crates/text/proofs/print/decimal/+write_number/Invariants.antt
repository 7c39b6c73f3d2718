-- It calls itself on all digits but the last, and the number falls.
use Rattle.text.proofs.print.decimal.+write_number.Given as goal

abbrev pub decreases-write_number : goal.decreases-write_number
decreases-write_number l = l.n
