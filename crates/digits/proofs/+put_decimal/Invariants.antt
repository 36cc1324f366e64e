-- A number below 10 is one digit; any other has the digits of its tenth, then the last. The measure is the number.
use Rattle.digits.proofs.+put_decimal.Given as goal

abbrev pub decreases-put_decimal : goal.decreases-put_decimal
decreases-put_decimal l = l.n
