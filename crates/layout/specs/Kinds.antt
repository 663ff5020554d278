-- The interface: the kinds of src/kinds.rt and their numbers (docs/FORMAT.md, "The sheet").
use Rattle.std.specs.Prelude.{ℕ, ◌≡◌, Result, Ok, Err}
use Rattle.layout.specs.declared.kinds.Kind.{Kind}
use Rattle.layout.specs.declared.kinds.Kind.TheVariants.{Sort, Symbol, Term, Same, Differ, Total, Fill}
use Rattle.layout.specs.declared.kinds.NoKind.{NoKind}

abbrev pub kind_number : Kind → ℕ
kind_number Sort = 1
kind_number Symbol = 2
kind_number Term = 3
kind_number Same = 4
kind_number Differ = 5
kind_number Total = 6
kind_number Fill = 7

-- a number has this kind, or has none
abbrev pub Names : ℕ → Result Kind NoKind → Type 0
Names n (Ok k) = n ≡ kind_number k
Names n (Err e) = (k : Kind) → n ≡ kind_number k → ⊥
