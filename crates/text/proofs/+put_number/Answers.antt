-- `text::put_number` meets its contract.
use Rattle.std.proofs.Common.{arith}
use Rattle.text.proofs.PutNumber.{last_digit, one_digit, one_less, fits_behind, digit_behind}
use Rattle.text.proofs.+put_number.Goals as goal

pub bounds-out-at : goal.bounds-out-at
bounds-out-at t c = omega (arith, last_digit c.args.out.now c.args.at c.args.n c.requires c.if-n-lt10.true)

pub put_number-end-requires : goal.put_number-end-requires
put_number-end-requires t c = (
  omega arith,
  omega (arith, one_less c.args.out.now c.args.at c.args.n c.requires c.if-n-lt10.false),
)

pub bounds-out-end : goal.bounds-out-end
bounds-out-end t c =
    fits_behind c.args.out.now c.args.at c.args.n c.requires c.if-n-lt10.false c.put_number-end.new.out c.put_number-end.result c.put_number-end.ensures

pub returns-then-n-lt10 : goal.returns-then-n-lt10
returns-then-n-lt10 t c = one_digit c.args.out.now c.args.at c.args.n c.requires c.if-n-lt10.true

pub returns-else-n-lt10 : goal.returns-else-n-lt10
returns-else-n-lt10 t c =
    digit_behind c.args.out.now c.args.at c.args.n c.requires c.if-n-lt10.false c.put_number-end.new.out c.put_number-end.result c.put_number-end.ensures
