-- `words::numeral` meets its contract.
use Prim.Native.Nat.{◌<◌}
use native.Mathlib.Omega.{arith}
use mathlib.Core.Path.{◌≡◌, sym, ◌∙◌}
use lib.Dec.{ltb}
use lib.ListN.{length}
use borrow.Author.Tests.{lt-ltb, le-ltb, eqb-true, eqb-false}
use Rattle.std.proofs.Common.{rules, tests}
use Rattle.std.proofs.lemmas.Iterator.{YieldsList-from_slice}
use Rattle.std.proofs.lemmas.Iterator.Search.{all_from_yields_List}
use Rattle.std.specs.List.{list_all}
use Rattle.words.specs.Words.{digit_of, is_numeral}
use Rattle.words.proofs.Values.{digits_all}
use Rattle.words.proofs.numeral.Goals as goal

pub returns-then-not-is_empty : goal.returns-then-not-is_empty
unfolding is_numeral
returns-then-not-is_empty c =
    let w = c.args.word.now in
    let all : c.all.result ≡ list_all (λ x. ltb (digit_of x) c.args.base) w =
    all_from_yields_List (λ x. ltb (digit_of x) c.args.base) _ _ c.all.result c.all.ensures.ran (YieldsList-from_slice w cc) (λ x b q k. search (rules, tests)) in
    let some : 0 < length w = omega (arith, eqb-false (length w) 0 (sym c.is_empty.ensures ∙ c.if-not-is_empty.true)) in
    rw (digits_all c.args.base w, lt-ltb 0 (length w) some) all

pub returns-else-not-is_empty : goal.returns-else-not-is_empty
unfolding is_numeral
returns-else-not-is_empty c =
    let w = c.args.word.now in
    rw (c.if-not-is_empty.false, le-ltb 0 (length w) (omega (arith, eqb-true (length w) 0 (sym c.is_empty.ensures ∙ c.if-not-is_empty.false))))
