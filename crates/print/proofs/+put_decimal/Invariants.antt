-- `put_decimal` meets its contract: it calls itself with a lesser number. Assumes nothing.
use Rattle.print.proofs.+put_decimal.Given as goal

abbrev pub decreases-put_decimal : goal.decreases-put_decimal
decreases-put_decimal l = l.x
