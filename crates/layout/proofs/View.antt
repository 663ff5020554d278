-- The arrays of a packed sheet hold, entry by entry, what the sheet's lists say.
use Prim.Native.Nat.{ℕ, ◌-◌, ◌<◌}
use mathlib.Core.Path.{◌≡◌, refl, ◌∙◌}
use mathlib.Core.List.{List, map}
use lib.ListN.{length, get_or, replicate, length-map, get_or-append}
use Rattle.logic.specs.Sheet.{Sheet, Bound, Term, Literal, symbol_at}
use Rattle.prelude.specs.Lists.{at}
use Rattle.prelude.proofs.Lists.{at_map}
use Rattle.layout.specs.Packed.{pad, first, second, bit, packed, view}
use Rattle.layout.specs.Views.{Views}

-- an entry of a padded list of values is the value of that entry
pub at_pad_map : {A : Type 0} (n : ℕ) (f : A → ℕ) (l : List A) (d : A) (i : ℕ) → i < length l → at (pad n (map f l)) i ≡ f (get_or l i d)
at_pad_map n f l d i h =
    get_or-append (map f l) (replicate (n - length (map f l)) 0) 0 i (rw length-map h) ∙ at_map f l d i h

pub packed_views : (sh : Sheet) → Views sh (view (packed sh))
unfolding packed
packed_views sh =
    record {
      sorts = refl;
      floor = at_pad_map 8 (λ (b : Bound). b.floor) sh.bounds _;
      ceiling = at_pad_map 8 (λ (b : Bound). b.ceiling) sh.bounds _;
      total = refl;
      terms = refl;
      sort = at_pad_map 128 (λ (t : Term). (symbol_at sh t.symbol).result) sh.terms _;
      symbol = at_pad_map 128 (λ (t : Term). t.symbol) sh.terms _;
      arg0 = at_pad_map 128 (λ (t : Term). first t.args) sh.terms _;
      arg1 = at_pad_map 128 (λ (t : Term). second t.args) sh.terms _;
      literals = refl;
      equal = at_pad_map 128 (λ (l : Literal). bit l.equal) sh.literals _;
      left = at_pad_map 128 (λ (l : Literal). l.left) sh.literals _;
      right = at_pad_map 128 (λ (l : Literal). l.right) sh.literals _;
    }
