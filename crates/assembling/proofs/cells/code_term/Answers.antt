-- `assembling::cells::code_term` meets its contract: a field's codes are numbered from its first on.
use native.Mathlib.Omega.{arith}
use Rattle.assembling.proofs.cells.code_term.Goals as goal

pub bounds-starts-s : goal.bounds-starts-s
bounds-starts-s c = omega (arith, c.requires)

pub overflow_add-number : goal.overflow_add-number
overflow_add-number c = omega (arith, c.requires, c.wide-start.ensures)

pub overflow_cast-result : goal.overflow_cast-result
overflow_cast-result c = omega (arith, c.requires, c.wide-start.ensures)

pub returns : goal.returns
returns c = omega (arith, c.wide-start.ensures)
