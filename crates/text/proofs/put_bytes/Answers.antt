-- `text::put_bytes` meets its contract.
use Prim.Native.Nat.{ℕ}
use mathlib.Core.Path.{ap, sym, ◌∙◌}
use mathlib.Core.List.{List, ◌∷◌}
use lib.ListN.{length}
use borrow.Author.Tests.{eqb-true, eqb-false}
use Rattle.prelude.proofs.Pasted.{wrote_both}
use Rattle.text.proofs.Lines.{renamed}
use Rattle.text.proofs.Hex.{shown_none, shown_some}
use Rattle.text.proofs.put_bytes.Goals as goal

pub returns-then-is_empty : goal.returns-then-is_empty
returns-then-is_empty c = renamed (ap (λ (l : List ℕ). 32 ∷ l) (sym (shown_none c.args.s.now (eqb-true (length c.args.s.now) 0 (sym c.is_empty.ensures ∙ c.if-is_empty.true))))) c.put.ensures

pub returns : goal.returns
returns c = renamed (ap (λ (l : List ℕ). 32 ∷ l) (sym (shown_some c.args.s.now (eqb-false (length c.args.s.now) 0 (sym c.is_empty.ensures ∙ c.if-is_empty.false))))) (wrote_both c.put-next.ensures c.put_hex.ensures)
