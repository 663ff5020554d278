-- `text::put_hex` meets its contract.
use native.Mathlib.Omega.{arith}
use mathlib.Core.Path.{refl}
use Rattle.text.specs.Text.{hex}
use Rattle.text.proofs.Hex.{hex_append}
use Rattle.text.proofs.Entries.{none_written, next_fits, next_written, kept_length, all_written}
use Rattle.text.proofs.put_hex.Goals as goal

pub loop-b-init : goal.loop-b-init
loop-b-init c = none_written hex 2 refl c.args.out.now c.args.from c.args.s.now (omega (arith, c.requires))

pub put_byte-at-requires : goal.put_byte-at-requires
put_byte-at-requires c = let l = c.loop-b in next_fits hex 2 c.args.out.now c.args.from c.args.s.now l.out l.at l.b-index l.invariant hex_append c.requires c.loop-b-test.true (omega arith)

pub loop-b-preserved : goal.loop-b-preserved
loop-b-preserved c = let l = c.loop-b in next_written hex 2 c.args.out.now c.args.from c.args.s.now l.out l.at l.b-index l.invariant hex_append c.requires c.loop-b-test.true (omega arith) c.put_byte-at.ensures

pub shape_of-out : goal.shape_of-out
shape_of-out c = let l = c.loop-b in kept_length hex 2 c.args.out.now c.args.from c.args.s.now l.out l.at l.b-index l.invariant c.requires

pub returns : goal.returns
returns c = let l = c.loop-b in all_written hex 2 c.args.out.now c.args.from c.args.s.now l.out l.at l.b-index l.invariant c.loop-b-test.false
